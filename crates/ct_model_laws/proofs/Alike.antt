-- Tables that are alike at a key: what a write of that key asks of the one it asks of the other. They stay so where the same writes are
-- put into both, so that writes which apply to the one list of tables apply to the other.
use Rattle.std.proofs.Common.{◌≡◌, ℕ, Bool, true, false, cond, eqb, ◌&&◌, ◌||◌, List, [], ◌∷◌, ◌++◌, map, filter, Option, None, Some, IfSome, is_some, option_map, option_to_list, refl, sym, ap, ap₂, ◌∙◌, subst}
use Rattle.std.specs.List.{AllByRecursion, list_any}
use Rattle.std.specs.Option.{IsSomeAnd}
use Rattle.std.specs.Ordering.{is_lt, is_gt}
use Rattle.std.proofs.lemmas.List.Folds.{list_any-append}
use Rattle.std.proofs.lemmas.Map.Views.{any-filter_same}
use Rattle.ct_types.specs.Order.{key_cmp}
use Rattle.ct_types.proofs.Orders.{key_cmp_exact}
use Rattle.ct_types.specs.declared.entry.Write.{Write}
use Rattle.ct_types.specs.declared.schema.Schema.{Schema}
use Rattle.ct_types.specs.declared.value.Key.{Key}
use Rattle.ct_types.specs.declared.value.Row.{Row}
use Rattle.ct_model.specs.declared.db.Table.{Table}
use Rattle.ct_model.specs.Applies.{RowIsOf, WriteFits, WritesApply}
use Rattle.ct_model.specs.Apply.{written}
use Rattle.ct_model.specs.Tables.{has_masks, has_row, has_that_key, key_of, rows_with, table_of}
use Rattle.ct_model.proofs.Found.{some_and_weaken}
use Rattle.ct_model.proofs.Members.{all_weaken}
use Rattle.ct_model.proofs.Rising.{equal_of}
use Rattle.ct_model_laws.proofs.Fitting.{mask_fits_on}
use Rattle.ct_model_laws.proofs.Following.{after_writes, written_schema}

-- ---- a key once a row, or none, is put at a key

-- whether it has a row then is told by whether it had one
abbrev told : Schema → Key → Key → Option Row → Bool → Bool
told schema k key row has = ((is_lt (key_cmp key k) && has) || list_any (has_that_key schema key) (option_to_list row)) || (is_gt (key_cmp key k) && has)

presence_told : (schema : Schema) (rows : List Row) (k key : Key) (row : Option Row) → has_row schema (rows_with schema rows k row) key ≡ told schema k key row (has_row schema rows key)
presence_told schema rows k key row =
    let here : Row → Bool = has_that_key schema key in
    let is_low : Row → Bool = (λ r. is_lt (key_cmp (key_of schema r) k)) in
    let is_high : Row → Bool = (λ r. is_gt (key_cmp (key_of schema r) k)) in
    let low : list_any here (filter is_low rows) ≡ (is_lt (key_cmp key k) && list_any here rows) =
    any-filter_same here is_low (is_lt (key_cmp key k)) (λ r e. ap (λ (x : Key). is_lt (key_cmp x k)) (key_cmp_exact (key_of schema r) key (equal_of _ e))) rows in
    let high : list_any here (filter is_high rows) ≡ (is_gt (key_cmp key k) && list_any here rows) =
    any-filter_same here is_high (is_gt (key_cmp key k)) (λ r e. ap (λ (x : Key). is_gt (key_cmp x k)) (key_cmp_exact (key_of schema r) key (equal_of _ e))) rows in
    list_any-append here (filter is_low rows ++ option_to_list row) (filter is_high rows)
    ∙ ap₂ (λ (a b : Bool). a || b) (list_any-append here (filter is_low rows) (option_to_list row) ∙ ap (λ (b : Bool). b || list_any here (option_to_list row)) low) high

-- ---- two tables

-- both have one schema, are tracked alike, and have a row at the key or not
pub record Alike (key : Key) (old new : Table) : Type 0 where
  pub schema : new.schema ≡ old.schema
  pub tracked : is_some new.tracked ≡ is_some old.tracked
  pub masks : has_masks new.tracked ≡ has_masks old.tracked
  pub present : has_row old.schema new.rows key ≡ has_row old.schema old.rows key

pub alike_itself : (key : Key) (t : Table) → Alike key t t
alike_itself key t = record { schema = refl; tracked = refl; masks = refl; present = refl }

pub alike_trans : (key : Key) (a b c : Table) → Alike key a b → Alike key b c → Alike key a c
alike_trans key a b c first later = record {
  schema = later.schema ∙ first.schema;
  tracked = later.tracked ∙ first.tracked;
  masks = later.masks ∙ first.masks;
  present = subst (λ (s : Schema). has_row s c.rows key ≡ has_row s b.rows key) first.schema later.present ∙ first.present;
}

-- a write is put into both

abbrev pub rewritten : Write → Table → Table
rewritten w t = record t { rows = rows_with t.schema t.rows w.key w.row }

rewritten_alike : (w : Write) (key : Key) (t u : Table) → Alike key t u → Alike key (rewritten w t) (rewritten w u)
rewritten_alike w key t u alike = record {
  schema = alike.schema;
  tracked = alike.tracked;
  masks = alike.masks;
  present =
      ap (λ (s : Schema). has_row t.schema (rows_with s u.rows w.key w.row) key) alike.schema
      ∙ (presence_told t.schema u.rows w.key key w.row
      ∙ (ap (told t.schema w.key key w.row) alike.present ∙ sym (presence_told t.schema t.rows w.key key w.row)));
}

written_alike : (w : Write) (key : Key) (t u : Table) → Alike key t u → Alike key (written w t) (written w u)
written_alike w key t u alike =
    let step : (b : Bool) → Alike key (cond b (rewritten w t) t) (cond b (rewritten w u) u) = elim [ true ↦ rewritten_alike w key t u alike | false ↦ alike ] in
    let same : eqb u.schema.id w.table ≡ eqb t.schema.id w.table = ap (λ (s : Schema). eqb s.id w.table) alike.schema in
    subst (λ (b : Bool). Alike key (written w t) (cond b (rewritten w u) u)) (sym same) (step (eqb t.schema.id w.table))

pub after_alike : (writes : List Write) (key : Key) (t u : Table) → Alike key t u → Alike key (after_writes writes t) (after_writes writes u)
after_alike [] key t u alike = alike
after_alike (w ∷ writes) key t u alike = after_alike writes key (written w t) (written w u) (written_alike w key t u alike)

-- ---- two lists of tables

pub found_mapped : (f : Table → Table) → ((t : Table) → (f t).schema ≡ t.schema) → (tables : List Table) (id : ℕ) → table_of (map f tables) id ≡ option_map f (table_of tables id)
found_mapped f same [] id = refl
found_mapped f same (t ∷ ts) id =
    let step : (b : Bool) → cond b (Some (f t)) (table_of (map f ts) id) ≡ option_map f (cond b (Some t) (table_of ts id)) =
    elim [ true ↦ refl | false ↦ found_mapped f same ts id ] in
    subst (λ (s : Schema). cond (eqb s.id id) (Some (f t)) (table_of (map f ts) id) ≡ option_map f (cond (eqb t.schema.id id) (Some t) (table_of ts id))) (sym (same t)) (step (eqb t.schema.id id))

-- the second table is there and alike, where the first one is there
abbrev pub FoundAlike : Key → Option Table → Option Table → Type 0
FoundAlike key old new = IfSome old (λ t. IsSomeAnd new (Alike key t))

-- so are the tables of an id
abbrev pub AlikeAt : List Table → List Table → ℕ → Key → Type 0
AlikeAt old new id key = FoundAlike key (table_of old id) (table_of new id)

found_through : (key : Key) (o p q : Option Table) → FoundAlike key o p → FoundAlike key p q → FoundAlike key o q
found_through key None p q first later = tt
found_through key (Some t) None q first later = absurd first
found_through key (Some t) (Some u) q first later = some_and_weaken (Alike key u) (Alike key t) (λ v same. alike_trans key t u v first same) q later

pub alike_through : (a b c : List Table) (id : ℕ) (key : Key) → AlikeAt a b id key → AlikeAt b c id key → AlikeAt a c id key
alike_through a b c id key first later = found_through key (table_of a id) (table_of b id) (table_of c id) first later

-- a change of each table, of both lists, which keeps tables alike
both_found : (key : Key) (f : Table → Table) → ((t u : Table) → Alike key t u → Alike key (f t) (f u)) → (o p : Option Table) → FoundAlike key o p
    → FoundAlike key (option_map f o) (option_map f p)
both_found key f keeps None p alike = tt
both_found key f keeps (Some t) None alike = absurd alike
both_found key f keeps (Some t) (Some u) alike = keeps t u alike

pub both_mapped : (f : Table → Table) → ((t : Table) → (f t).schema ≡ t.schema) → (key : Key) → ((t u : Table) → Alike key t u → Alike key (f t) (f u))
    → (old new : List Table) (id : ℕ) → AlikeAt old new id key → AlikeAt (map f old) (map f new) id key
both_mapped f same key keeps old new id alike =
    subst (λ (o : Option Table). FoundAlike key o (table_of (map f new) id)) (sym (found_mapped f same old id))
    (subst (λ (p : Option Table). FoundAlike key (option_map f (table_of old id)) p) (sym (found_mapped f same new id))
    (both_found key f keeps (table_of old id) (table_of new id) alike))

-- a change of each table of a list, which leaves the one of an id alike
pub left_alike : (f : Table → Table) → ((t : Table) → (f t).schema ≡ t.schema) → (key : Key) (tables : List Table) (id : ℕ)
    → ((t : Table) → table_of tables id ≡ Some t → Alike key t (f t)) → AlikeAt tables (map f tables) id key
left_alike f same key tables id leaves =
    subst (λ (o : Option Table). FoundAlike key (table_of tables id) o) (sym (found_mapped f same tables id)) (by (table_of tables id) leaves)
  where
    by : (o : Option Table) → ((t : Table) → o ≡ Some t → Alike key t (f t)) → FoundAlike key o (option_map f o)
    by None leaves = tt
    by (Some t) leaves = leaves t refl

pub same_alike : (key : Key) (o : Option Table) → FoundAlike key o o
same_alike key None = tt
same_alike key (Some t) = alike_itself key t

-- ---- writes that apply to the one list apply to the other

fits_alike : (write : Write) (t u : Table) → Alike write.key t u → WriteFits write t → WriteFits write u
fits_alike write t u alike fits = record {
  present = ap (λ (s : Schema). has_row s u.rows write.key) alike.schema ∙ (alike.present ∙ fits.present);
  row = subst (λ (s : Schema). RowIsOf s write.op write.key write.row) (sym alike.schema) fits.row;
  tracked = fits.tracked ∙ sym alike.tracked;
  context = fits.context;
  mask = mask_fits_on t u write.op write.mask alike.schema alike.masks fits.mask;
}

found_fits : (write : Write) (o p : Option Table) → FoundAlike write.key o p → IsSomeAnd o (WriteFits write) → IsSomeAnd p (WriteFits write)
found_fits write None p alike fits = absurd fits
found_fits write (Some t) p alike fits = some_and_weaken (Alike write.key t) (WriteFits write) (λ u same. fits_alike write t u same fits) p alike

pub still_apply : (writes : List Write) (old new : List Table) → AllByRecursion (λ w. AlikeAt old new w.table w.key) writes → WritesApply old writes → WritesApply new writes
still_apply [] old new alike apply = tt
still_apply (w ∷ writes) old new alike apply = (
  found_fits w (table_of old w.table) (table_of new w.table) alike.0 apply.0,
  still_apply writes (map (written w) old) (map (written w) new)
      (all_weaken _ _ (λ (later : Write) same. both_mapped (written w) (written_schema w) later.key (written_alike w later.key) old new later.table same) writes alike.1) apply.1,
)
