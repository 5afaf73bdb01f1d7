-- The laws of writes.
use Rattle.std.proofs.Common.{◌≡◌, ◌≢◌, ℕ, ◌≤◌, ◌<◌, ◌^◌, Bool, true, false, if◌then◌else◌, List, [], ◌∷◌, map, length, Option, Some, None, is_some, MatchBool, Ok, refl, sym, ap, ◌∙◌, subst, arith}
use Rattle.std.specs.List.{AllByRecursion}
use Rattle.std.specs.Option.{IsSomeAnd}
use Rattle.ct_types.specs.declared.bound.BoundExpr.{BoundExpr}
use Rattle.ct_types.specs.declared.bound.BoundSet.{BoundSet}
use Rattle.ct_types.specs.declared.bound.RowChange.{RowChange}
use Rattle.ct_types.specs.declared.bound.RowChange.TheVariants as change
use Rattle.ct_types.specs.declared.entry.Op.{Op}
use Rattle.ct_types.specs.declared.entry.Op.TheVariants.{Insert, Update, Delete}
use Rattle.ct_types.specs.declared.entry.Write.{Write}
use Rattle.ct_types.specs.declared.schema.Column.{Column}
use Rattle.ct_types.specs.declared.schema.Schema.{Schema}
use Rattle.ct_types.specs.declared.value.Key.{Key}
use Rattle.ct_types.specs.declared.value.Row.{Row}
use Rattle.ct_model.specs.declared.db.Table.{Table}
use Rattle.ct_model.specs.Applies.{is_present_before, RowIsOf, ContextIsOf, WriteFits, WritesApply}
use Rattle.ct_model.specs.Lists.{EachToLater}
use Rattle.ct_model.specs.Schemas.{IsSchema, IsKey, RowFits}
use Rattle.ct_model.specs.Tables.{catalogued, key_of, has_row, has_masks, table_of}
use Rattle.ct_model.specs.Valid.{AreRising, MaskFits, ContextFits}
use Rattle.ct_types.proofs.Lists.{all_everywhere, all_join}
use Rattle.ct_model.proofs.Members.{all_weaken, all_map, each_map}
use Rattle.ct_expr.specs.Meaning.{World, on, value}
use Rattle.ct_write.specs.declared.changes.Changed.{Changed}
use Rattle.ct_write.specs.Duplicates.{duplicate}
use Rattle.ct_write.specs.Fitting.{IsFit}
use Rattle.ct_write.specs.Laws.{SetsColumns, IsOfTable, Suits, EachSuits, IsOfKinds, AreAccepted, UpdatesKeepKeys, DeletesAll}
use Rattle.ct_write.specs.Rows.{no_row, set_columns, assigned, nulls, with_its_key, with_key_of, inserted, updated, deleted, targets, changes_of}
use Rattle.ct_types.specs.Answers.{each}
use Rattle.ct_write.specs.Writes.{Context, op_of, mask_of_ids, mask_of, kept_context, write_of, writes_of}
use Rattle.ct_write.proofs.Accepting.{Takes, all_apply, rows_are_put}
use Rattle.ct_write.proofs.Keys.{rows_put, less_differs, all_present, Replaces, keys_kept, all_gone}
use Rattle.ct_write.proofs.Bits.{mask_below, mask_positive}
use Rattle.ct_write.proofs.Parts.{came, same_ok, parts_of, each_all, each_pairs, targets_all, targets_pairs, targets_are_all, context_fits}
use Rattle.ct_write.proofs.Repeats.{are_new}
use Rattle.ct_write.proofs.Typed.{AreOfKinds, all_hold, held_kinds, null_kinds, kinds_assigned, tuple_takes, sets_take, key_kept}

-- ---- the row of a write has its key

abbrev HasKey : Schema → Op → Key → Option Row → Type 0
HasKey schema Delete key None = Unit {0}
HasKey schema Delete key (Some row) = ⊥
HasKey schema Insert key None = ⊥
HasKey schema Insert key (Some row) = key_of schema row ≡ key
HasKey schema Update key None = ⊥
HasKey schema Update key (Some row) = key_of schema row ≡ key

-- each value of the row is of its column's kind
abbrev HasKinds : Schema → Option Row → Type 0
HasKinds schema None = Unit {0}
HasKinds schema (Some row) = AreOfKinds schema.columns row.0

row_is_of : (schema : Schema) (op : Op) (key : Key) (row : Option Row) → HasKey schema op key row → HasKinds schema row → IsFit schema.columns row
    → RowIsOf schema op key row
row_is_of schema Delete key None has kinds fit = tt
row_is_of schema Delete key (Some row) has kinds fit = absurd has
row_is_of schema Insert key None has kinds fit = absurd has
row_is_of schema Insert key (Some row) has kinds fit = (all_hold schema.columns row.0 kinds fit, has)
row_is_of schema Update key None has kinds fit = absurd has
row_is_of schema Update key (Some row) has kinds fit = (all_hold schema.columns row.0 kinds fit, has)

insert_has_key : (w : World) (schema : Schema) (columns : List ℕ) (tuple : List BoundExpr) (c : Changed) → inserted w schema columns tuple ≡ Ok c
    → HasKey schema Insert c.key c.row
insert_has_key w schema columns tuple c e =
    let d = came (each (value (on w no_row)) tuple) _ c e in
    let are : with_its_key schema (assigned columns d.first (nulls schema.columns)) ≡ c = same_ok _ _ d.next in
    subst (λ (c : Changed). HasKey schema Insert c.key c.row) are refl

insert_has_kinds : (w : World) (schema : Schema) (columns : List ℕ) (tuple : List BoundExpr) (c : Changed) → EachSuits w schema.columns no_row columns tuple
    → inserted w schema columns tuple ≡ Ok c → HasKinds schema c.row
insert_has_kinds w schema columns tuple c suit e =
    let d = came (each (value (on w no_row)) tuple) _ c e in
    let are : with_its_key schema (assigned columns d.first (nulls schema.columns)) ≡ c = same_ok _ _ d.next in
    subst (λ (c : Changed). HasKinds schema c.row) are
    (kinds_assigned schema.columns columns d.first (nulls schema.columns) (null_kinds schema.columns) (tuple_takes w schema.columns no_row columns tuple d.first suit d.was))

update_has_kinds : (w : World) (schema : Schema) (sets : List BoundSet) (row : Row) (c : Changed) → RowFits schema row
    → AllByRecursion (λ set. Suits w schema.columns row set.column set.value) sets → updated w schema sets row ≡ Ok c → HasKinds schema c.row
update_has_kinds w schema sets row c fits suit e =
    let d = came (each (λ set. value (on w row) set.value) sets) _ c e in
    let are : with_key_of schema row (assigned (set_columns sets) d.first row.0) ≡ c = same_ok _ _ d.next in
    subst (λ (c : Changed). HasKinds schema c.row) are
    (kinds_assigned schema.columns (set_columns sets) d.first row.0 (held_kinds schema.columns row.0 fits) (sets_take w schema.columns row sets d.first suit d.was))

-- an update is of the key of the row before it, which the row after it has too
record Keeps (schema : Schema) (row : Row) (c : Changed) : Type 0 where
  of : c.key ≡ key_of schema row
  has : HasKey schema Update c.key c.row

from_one : (columns : List Column) (key : List ℕ) → IsKey columns key → AllByRecursion (λ id. 1 ≤ id) key
from_one columns [] h = absurd h
from_one columns (id ∷ []) h = (h.0, tt)
from_one columns (id ∷ other ∷ more) h = absurd h

key_ids : (schema : Schema) → IsSchema schema → AllByRecursion (λ id. 1 ≤ id) schema.key
key_ids schema is = from_one schema.columns schema.key is.key

update_keeps : (w : World) (schema : Schema) (sets : List BoundSet) (row : Row) (c : Changed) → IsSchema schema → SetsColumns schema sets → updated w schema sets row ≡ Ok c
    → Keeps schema row c
update_keeps w schema sets row c is names e =
    let d = came (each (λ set. value (on w row) set.value) sets) _ c e in
    let are : with_key_of schema row (assigned (set_columns sets) d.first row.0) ≡ c = same_ok _ _ d.next in
    let kept : key_of schema (record { 0 = assigned (set_columns sets) d.first row.0 }) ≡ key_of schema row =
    key_kept schema (set_columns sets) d.first row.0 (key_ids schema is) (all_weaken _ _ (λ id within. within.0) (set_columns sets) names.columns) names.no_key in
    subst (Keeps schema row) are (record { of = refl; has = kept })

-- ---- what holds of each row that is changed

-- targets, with the keys of their rows
record AreOf (schema : Schema) (rows : List Row) (op : Op) (changes : List Changed) : Type 0 where
  keys : AllByRecursion (λ c. HasKey schema op c.key c.row) changes
  there : AllByRecursion (λ c. has_row schema rows c.key ≡ true) changes
  apart : EachToLater (λ a b. a.key ≢ b.key) changes

updates_are_of : (w : World) (schema : Schema) (sets : List BoundSet) (filter : Option BoundExpr) (rows : List Row) (changes : List Changed) → IsSchema schema
    → AreRising schema rows → SetsColumns schema sets → changes_of w schema (change.Update sets filter) rows ≡ Ok changes → AreOf schema rows Update changes
updates_are_of w schema sets filter rows changes is rising names e =
    let c = came (targets w filter rows) _ changes e in
    let there : AllByRecursion (λ row. has_row schema rows (key_of schema row) ≡ true) c.first = targets_all w filter _ rows c.first (all_present schema rows) c.was in
    let rises : AreRising schema c.first = targets_pairs w filter _ rows c.first rising c.was in
    record {
      keys = each_all (updated w schema sets) (λ row. Unit {0}) _ (λ row x u was. (update_keeps w schema sets row x is names was).has) c.first changes (all_everywhere _ (λ row. tt) c.first) c.next;
      there =
          each_all (updated w schema sets) _ _
          (λ row x here was. subst (λ (k : Key). has_row schema rows k ≡ true) (sym (update_keeps w schema sets row x is names was).of) here) c.first changes there c.next;
      apart =
          each_pairs (updated w schema sets) _ _
          (λ row later x y less was were same. less_differs (key_of schema row) (key_of schema later) less
          (sym (update_keeps w schema sets row x is names was).of ∙ (same ∙ (update_keeps w schema sets later y is names were).of))) c.first changes rises c.next;
    }

deletes_are_of : (w : World) (schema : Schema) (filter : Option BoundExpr) (rows : List Row) (changes : List Changed)
    → AreRising schema rows → changes_of w schema (change.Delete filter) rows ≡ Ok changes → AreOf schema rows Delete changes
deletes_are_of w schema filter rows changes rising e =
    let c = came (targets w filter rows) _ changes e in
    let are : map (deleted schema) c.first ≡ changes = same_ok _ _ c.next in
    let there : AllByRecursion (λ row. has_row schema rows (key_of schema row) ≡ true) c.first = targets_all w filter _ rows c.first (all_present schema rows) c.was in
    let rises : AreRising schema c.first = targets_pairs w filter _ rows c.first rising c.was in
    subst (AreOf schema rows Delete) are (record {
      keys = all_map (λ row. Unit {0}) _ (deleted schema) (λ row u. tt) c.first (all_everywhere _ (λ row. tt) c.first);
      there = all_map _ _ (deleted schema) (λ row here. here) c.first there;
      apart = each_map _ _ (deleted schema) (λ row later less. less_differs (key_of schema row) (key_of schema later) less) c.first rises;
    })

kinds_are : (w : World) (schema : Schema) (c : RowChange) (rows : List Row) (changes : List Changed) → AllByRecursion (RowFits schema) rows
    → IsOfKinds w schema rows c → changes_of w schema c rows ≡ Ok changes → AllByRecursion (λ x. HasKinds schema x.row) changes
kinds_are w schema (change.Insert columns tuples) rows changes fit suit e =
    each_all (inserted w schema columns) (EachSuits w schema.columns no_row columns) _ (λ tuple x s was. insert_has_kinds w schema columns tuple x s was) tuples changes suit e
kinds_are w schema (change.Update sets filter) rows changes fit suit e =
    let c = came (targets w filter rows) _ changes e in
    let both : AllByRecursion (λ row. RowFits schema row × AllByRecursion (λ set. Suits w schema.columns row set.column set.value) sets) rows =
    all_join _ _ _ (λ row f s. (f, s)) rows fit suit in
    each_all (updated w schema sets) _ _ (λ row x h was. update_has_kinds w schema sets row x h.0 h.1 was) c.first changes (targets_all w filter _ rows c.first both c.was) c.next
kinds_are w schema (change.Delete filter) rows changes fit suit e =
    let c = came (targets w filter rows) _ changes e in
    let are : map (deleted schema) c.first ≡ changes = same_ok _ _ c.next in
    subst (AllByRecursion (λ x. HasKinds schema x.row)) are (all_map (λ row. Unit {0}) _ (deleted schema) (λ row u. tt) c.first (all_everywhere _ (λ row. tt) c.first))

-- ---- what a write records

-- what holds of a write besides its presence, and that its values fit
record Records (table : Table) (x : Write) : Type 0 where
  of : x.table ≡ table.schema.id
  key : HasKey table.schema x.op x.key x.row
  kinds : HasKinds table.schema x.row
  tracked : x.tracked ≡ is_some table.tracked
  context : ContextIsOf x.tracked x.context
  mask : MaskFits table x.op x.mask

context_is_of : (tracked : Bool) (context : Context) → ContextFits context → ContextIsOf tracked (kept_context tracked context)
context_is_of true context fits = fits
context_is_of false context fits = refl

some_named : (sets : List BoundSet) → 0 < length sets → 0 < length (set_columns sets)
some_named [] h = h
some_named (set ∷ sets) h = omega arith

mask_fits : (table : Table) (c : RowChange) → IsSchema table.schema → IsOfTable table.schema c → MaskFits table (op_of c) (mask_of table.tracked c)
mask_fits table (change.Insert columns tuples) is of = refl
mask_fits table (change.Delete filter) is of = refl
mask_fits table (change.Update sets filter) is of =
    let m = mask_of_ids (set_columns sets) in
    let n = length table.schema.columns in
    let some : 0 < length (set_columns sets) = some_named sets of.some in
    elim (has_masks table.tracked) as (λ b. MatchBool b ((0 < (if b then m else 0)) × ((if b then m else 0) < 2 ^ n)) ((if b then m else 0) ≡ 0)) [
      | true ↦ (mask_positive (set_columns sets) n is.few some of.columns, mask_below (set_columns sets) n is.few of.columns)
      | false ↦ refl
    ]

records : (table : Table) (c : RowChange) (context : Context) (changes : List Changed) → IsSchema table.schema → IsOfTable table.schema c → ContextFits context
    → AllByRecursion (λ x. HasKey table.schema (op_of c) x.key x.row) changes → AllByRecursion (λ x. HasKinds table.schema x.row) changes
    → AllByRecursion (Records table) (map (write_of (catalogued table) c context) changes)
records table c context changes is of short keys kinds =
    all_map _ (Records table) (write_of (catalogued table) c context)
    (λ x h. record { of = refl; key = h.0; kinds = h.1; tracked = refl; context = context_is_of (is_some table.tracked) context short; mask = mask_fits table c is of })
    changes (all_join _ _ (λ x. HasKey table.schema (op_of c) x.key x.row × HasKinds table.schema x.row) (λ x k h. (k, h)) changes keys kinds)

-- ---- the writes apply

write_fits : (table : Table) (x : Write) → Records table x → IsFit table.schema.columns x.row → has_row table.schema table.rows x.key ≡ is_present_before x.op → WriteFits x table
write_fits table x r fit present = record {
  present = present;
  row = row_is_of table.schema x.op x.key x.row r.key r.kinds fit;
  tracked = r.tracked;
  context = r.context;
  mask = r.mask;
}

apply_all : (tables : List Table) (table : Table) (writes : List Write) → table_of tables table.schema.id ≡ Some table
    → AllByRecursion (Records table) writes → AllByRecursion (λ x. IsFit table.schema.columns x.row) writes
    → AllByRecursion (λ x. has_row table.schema table.rows x.key ≡ is_present_before x.op) writes → EachToLater (λ a b. a.key ≢ b.key) writes
    → WritesApply tables writes
apply_all tables table writes found recorded fitting present apart =
    let fit : AllByRecursion (λ x. WriteFits x table) writes =
    all_join (λ x. Records table x × IsFit table.schema.columns x.row) _ _ (λ x h p. write_fits table x h.0 h.1 p) writes (all_join _ _ _ (λ x r f. (r, f)) writes recorded fitting) present in
    all_apply table.schema.id writes tables (all_weaken _ _ (λ x r. r.of) writes recorded) apart
    (subst (λ (o : Option Table). IsSomeAnd o (Takes table.schema.id writes)) (sym found) (record { is = refl; fit = fit }))

accepted : (w : World) (tables : List Table) (table : Table) (id : ℕ) (given : Option BoundExpr) (c : RowChange) (writes : List Write)
    → table_of tables table.schema.id ≡ Some table → IsSchema table.schema → AllByRecursion (RowFits table.schema) table.rows → AreRising table.schema table.rows
    → IsOfTable table.schema c → IsOfKinds w table.schema table.rows c
    → writes_of w (catalogued table) (record { table = id; context = given; change = c }) table.rows ≡ Ok writes
    → AllByRecursion (λ x. IsFit table.schema.columns x.row) writes → duplicate table.schema table.rows writes ≡ None → WritesApply tables writes
accepted w tables table id given (change.Insert columns tuples) writes found is held rising of suit e fitting none =
    let c = change.Insert columns tuples in
    let p = parts_of w (catalogued table) (record { table = id; context = given; change = c }) table.rows writes e in
    let make : Changed → Write = write_of (catalogued table) c p.context in
    let keys : AllByRecursion (λ x. HasKey table.schema Insert x.key x.row) p.changes =
    each_all (inserted w table.schema columns) (λ tuple. Unit {0}) _ (λ tuple x u was. insert_has_key w table.schema columns tuple x was) tuples p.changes (all_everywhere _ (λ tuple. tt) tuples) p.changes_were in
    let recorded : AllByRecursion (Records table) writes =
    subst (AllByRecursion (Records table)) p.writes_are (records table c p.context p.changes is of (context_fits w given p.context p.context_was) keys (kinds_are w table.schema c table.rows p.changes held suit p.changes_were)) in
    let inserts : AllByRecursion (λ x. x.op ≡ Insert) writes =
    subst (AllByRecursion (λ x. x.op ≡ Insert)) p.writes_are (all_map (λ x. Unit {0}) (λ x. x.op ≡ Insert) make (λ x u. refl) p.changes (all_everywhere _ (λ x. tt) p.changes)) in
    let news = are_new table.schema table.rows [] writes inserts none in
    apply_all tables table writes found recorded fitting (all_join _ _ _ (λ x op new. new.absent ∙ ap is_present_before (sym op)) writes inserts news.each) news.apart
accepted w tables table id given (change.Update sets filter) writes found is held rising of suit e fitting none =
    let c = change.Update sets filter in
    let p = parts_of w (catalogued table) (record { table = id; context = given; change = c }) table.rows writes e in
    let make : Changed → Write = write_of (catalogued table) c p.context in
    let a = updates_are_of w table.schema sets filter table.rows p.changes is rising of p.changes_were in
    let recorded = records table c p.context p.changes is of (context_fits w given p.context p.context_was) a.keys (kinds_are w table.schema c table.rows p.changes held suit p.changes_were) in
    let fit : AllByRecursion (λ x. IsFit table.schema.columns x.row) (map make p.changes) = subst (AllByRecursion (λ x. IsFit table.schema.columns x.row)) (sym p.writes_are) fitting in
    subst (WritesApply tables) p.writes_are
    (apply_all tables table (map make p.changes) found recorded fit (all_map _ _ make (λ x here. here) p.changes a.there) (each_map _ _ make (λ x y other. other) p.changes a.apart))
accepted w tables table id given (change.Delete filter) writes found is held rising of suit e fitting none =
    let c = change.Delete filter in
    let p = parts_of w (catalogued table) (record { table = id; context = given; change = c }) table.rows writes e in
    let make : Changed → Write = write_of (catalogued table) c p.context in
    let a = deletes_are_of w table.schema filter table.rows p.changes rising p.changes_were in
    let recorded = records table c p.context p.changes is of (context_fits w given p.context p.context_was) a.keys (kinds_are w table.schema c table.rows p.changes held suit p.changes_were) in
    let fit : AllByRecursion (λ x. IsFit table.schema.columns x.row) (map make p.changes) = subst (AllByRecursion (λ x. IsFit table.schema.columns x.row)) (sym p.writes_are) fitting in
    subst (WritesApply tables) p.writes_are
    (apply_all tables table (map make p.changes) found recorded fit (all_map _ _ make (λ x here. here) p.changes a.there) (each_map _ _ make (λ x y other. other) p.changes a.apart))

pub are_accepted : AreAccepted
are_accepted w tables table bound writes found is held rising of suit e fitting none = accepted w tables table bound.table bound.context bound.change writes found is held rising of suit e fitting none

-- ---- what becomes of the keys and the rows

writes_of_table : (w : World) (table : Table) (id : ℕ) (given : Option BoundExpr) (c : RowChange) (writes : List Write)
    → writes_of w (catalogued table) (record { table = id; context = given; change = c }) table.rows ≡ Ok writes
    → AllByRecursion (λ x. x.table ≡ table.schema.id) writes
writes_of_table w table id given c writes e =
    let p = parts_of w (catalogued table) (record { table = id; context = given; change = c }) table.rows writes e in
    subst (AllByRecursion (λ x. x.table ≡ table.schema.id)) p.writes_are
    (all_map (λ x. Unit {0}) _ (write_of (catalogued table) c p.context) (λ x u. refl) p.changes (all_everywhere _ (λ x. tt) p.changes))

replaces : (schema : Schema) (rows : List Row) (key : Key) (row : Option Row) (x : Write) → x.key ≡ key → x.row ≡ row → HasKey schema Update key row → has_row schema rows key ≡ true
    → Replaces schema rows x
replaces schema rows key None x k r has there = absurd has
replaces schema rows key (Some row) x k r has there = record { row = row; is = r; at = has ∙ sym k; there = ap (has_row schema rows) k ∙ there }

pub updates_keep_keys : UpdatesKeepKeys
updates_keep_keys w table id given sets filter writes is rising names e =
    let c = change.Update sets filter in
    let p = parts_of w (catalogued table) (record { table = id; context = given; change = c }) table.rows writes e in
    let make : Changed → Write = write_of (catalogued table) c p.context in
    let a = updates_are_of w table.schema sets filter table.rows p.changes is rising names p.changes_were in
    let all : AllByRecursion (Replaces table.schema table.rows) writes =
    subst (AllByRecursion (Replaces table.schema table.rows)) p.writes_are
    (all_map _ _ make (λ x h. replaces table.schema table.rows x.key x.row (make x) refl refl h.0 h.1) p.changes
    (all_join _ _ (λ x. HasKey table.schema Update x.key x.row × (has_row table.schema table.rows x.key ≡ true)) (λ x k t. (k, t)) p.changes a.keys a.there)) in
    ap (map (key_of table.schema)) (rows_are_put table writes (writes_of_table w table id given c writes e)) ∙ keys_kept table.schema table.rows writes rising all

map_twice : {X Y Z : Type 0} (f : Y → Z) (g : X → Y) (xs : List X) → map f (map g xs) ≡ map (λ x. f (g x)) xs
map_twice f g [] = refl
map_twice f g (x ∷ xs) = ap (λ zs. f (g x) ∷ zs) (map_twice f g xs)

pub deletes_all : DeletesAll
deletes_all w table id given writes rising e =
    let c = change.Delete None in
    let p = parts_of w (catalogued table) (record { table = id; context = given; change = c }) table.rows writes e in
    let make : Changed → Write = write_of (catalogued table) c p.context in
    let d = came (targets w None table.rows) _ p.changes p.changes_were in
    let chosen : d.first ≡ table.rows = same_ok _ _ (sym d.was ∙ targets_are_all w table.rows) in
    let changed : map (deleted table.schema) table.rows ≡ p.changes = ap (map (deleted table.schema)) (sym chosen) ∙ same_ok _ _ d.next in
    let are : map (λ row. make (deleted table.schema row)) table.rows ≡ writes =
    sym (map_twice make (deleted table.schema) table.rows) ∙ (ap (map make) changed ∙ p.writes_are) in
    rows_are_put table writes (writes_of_table w table id given c writes e)
    ∙ subst (λ (ws : List Write). rows_put table.schema table.rows ws ≡ []) are
    (all_gone table.schema (λ row. make (deleted table.schema row)) (λ row. refl) (λ row. refl) table.rows rising)
