-- The rows that a statement writes stand at their keys, each with a value for each column.
use Rattle.std.proofs.Common.{◌≡◌, ◌≢◌, ◌≤◌, ℕ, zero, suc, ◌-◌, List, [], ◌∷◌, map, length, slice_set, IfSome, Ok, refl, ap, subst, sym, ◌∙◌}
use Rattle.std.specs.List.{AllByRecursion}
use Rattle.ct_types.specs.Answers.{each}
use Rattle.ct_types.specs.declared.bound.BoundExpr.{BoundExpr}
use Rattle.ct_types.specs.declared.bound.BoundSet.{BoundSet}
use Rattle.ct_types.specs.declared.bound.RowChange.{RowChange}
use Rattle.ct_types.specs.declared.bound.RowChange.TheVariants.{Insert, Update, Delete}
use Rattle.ct_types.specs.declared.catalogue.Catalogued.{Catalogued}
use Rattle.ct_types.specs.declared.entry.Write.{Write}
use Rattle.ct_types.specs.declared.schema.Column.{Column}
use Rattle.ct_types.specs.declared.schema.Schema.{Schema}
use Rattle.ct_types.specs.declared.value.Row.{Row}
use Rattle.ct_types.specs.declared.value.Value.{Value}
use Rattle.ct_types.proofs.Lists.{all_everywhere}
use Rattle.ct_model.specs.Tables.{key_of}
use Rattle.ct_model.proofs.Members.{all_map, all_weaken}
use Rattle.ct_expr.specs.Meaning.{World, on, value}
use Rattle.ct_source.specs.Rows.{HasKeyColumns, IsRowOf, IsWhole}
use Rattle.ct_write.specs.declared.changes.Changed.{Changed}
use Rattle.ct_write.specs.Rows.{no_row, set_columns, assigned, nulls, with_its_key, with_key_of, inserted, updated, deleted, targets, changes_of}
use Rattle.ct_write.specs.Writes.{Context, SparesKey, write_of}
use Rattle.ct_write.proofs.Parts.{came, same_ok, each_all, targets_all}
use Rattle.ct_write.proofs.Typed.{key_kept}

-- ---- lengths

length_set : (row : List Value) (place : ℕ) (v : Value) → length (slice_set row place v) ≡ length row
length_set [] place v = refl
length_set (x ∷ row) zero v = refl
length_set (x ∷ row) (suc place) v = ap suc (length_set row place v)

length_assigned : (ids : List ℕ) (values row : List Value) → length (assigned ids values row) ≡ length row
length_assigned [] values row = refl
length_assigned (id ∷ ids) [] row = refl
length_assigned (id ∷ ids) (v ∷ values) row = length_assigned ids values (slice_set row (id - 1) v) ∙ length_set row (id - 1) v

length_nulls : (columns : List Column) → length (nulls columns) ≡ length columns
length_nulls [] = refl
length_nulls (column ∷ columns) = ap suc (length_nulls columns)

-- ---- rows

-- a changed row, where there is one, stands at its key
abbrev Stands : Schema → Changed → Type 0
Stands schema c = IfSome c.row (IsRowOf schema c.key)

insert_stands : (w : World) (schema : Schema) (columns : List ℕ) (tuple : List BoundExpr) (c : Changed) → inserted w schema columns tuple ≡ Ok c → Stands schema c
insert_stands w schema columns tuple c e =
    let d = came (each (value (on w no_row)) tuple) _ c e in
    let are : with_its_key schema (assigned columns d.first (nulls schema.columns)) ≡ c = same_ok _ _ d.next in
    subst (Stands schema) are (refl, length_assigned columns d.first (nulls schema.columns) ∙ length_nulls schema.columns)

update_stands : (w : World) (schema : Schema) (sets : List BoundSet) (row : Row) (c : Changed) → HasKeyColumns schema
    → AllByRecursion (λ id. (1 ≤ id) × AllByRecursion (λ key. key ≢ id) schema.key) (set_columns sets) → IsWhole schema row → updated w schema sets row ≡ Ok c → Stands schema c
update_stands w schema sets row c keys spares whole e =
    let d = came (each (λ set. value (on w row) set.value) sets) _ c e in
    let are : with_key_of schema row (assigned (set_columns sets) d.first row.0) ≡ c = same_ok _ _ d.next in
    let kept : key_of schema (record { 0 = assigned (set_columns sets) d.first row.0 }) ≡ key_of schema row =
    key_kept schema (set_columns sets) d.first row.0 (all_weaken _ _ (λ id own. own.0) schema.key keys) (all_weaken _ _ (λ id spared. spared.0) (set_columns sets) spares) (all_weaken _ _ (λ id spared. spared.1) (set_columns sets) spares) in
    subst (Stands schema) are (kept, length_assigned (set_columns sets) d.first row.0 ∙ whole)

deletes_stand : (schema : Schema) (rows : List Row) → AllByRecursion (Stands schema) (map (deleted schema) rows)
deletes_stand schema [] = tt
deletes_stand schema (row ∷ rows) = (tt, deletes_stand schema rows)

changes_stand : (w : World) (schema : Schema) (change : RowChange) (rows : List Row) (changes : List Changed) → HasKeyColumns schema → SparesKey schema change
    → AllByRecursion (IsWhole schema) rows → changes_of w schema change rows ≡ Ok changes → AllByRecursion (Stands schema) changes
changes_stand w schema (Insert columns tuples) rows changes keys spares whole e =
    each_all (inserted w schema columns) (λ tuple. Unit {0}) (Stands schema) (λ tuple c one was. insert_stands w schema columns tuple c was) tuples changes (all_everywhere (λ tuple. Unit {0}) (λ tuple. tt) tuples) e
changes_stand w schema (Update sets filter) rows changes keys spares whole e =
    let c = came (targets w filter rows) _ changes e in
    each_all (updated w schema sets) (IsWhole schema) (Stands schema) (λ row d full was. update_stands w schema sets row d keys spares full was) c.first changes
    (targets_all w filter (IsWhole schema) rows c.first whole c.was) c.next
changes_stand w schema (Delete filter) rows changes keys spares whole e =
    let c = came (targets w filter rows) _ changes e in
    let are : map (deleted schema) c.first ≡ changes = same_ok _ _ c.next in
    subst (AllByRecursion (Stands schema)) are (deletes_stand schema c.first)

-- the rows of the writes do
pub writes_stand : (w : World) (table : Catalogued) (change : RowChange) (context : Context) (rows : List Row) (changes : List Changed) (made : List Write) → HasKeyColumns table.schema
    → SparesKey table.schema change → AllByRecursion (IsWhole table.schema) rows → changes_of w table.schema change rows ≡ Ok changes → made ≡ map (write_of table change context) changes
    → AllByRecursion (λ write. IfSome write.row (IsRowOf table.schema write.key)) made
writes_stand w table change context rows changes made keys spares whole came made_are =
    subst (AllByRecursion (λ write. IfSome write.row (IsRowOf table.schema write.key))) (sym made_are)
    (all_map _ _ (write_of table change context) (λ c stands. stands) changes (changes_stand w table.schema change rows changes keys spares whole came))
