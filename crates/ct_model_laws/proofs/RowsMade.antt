-- Each net row is made of the changes of its key, of which there is a last.
use Rattle.std.proofs.Common.{◌≡◌, ℕ, ℤ, Bool, List, Option, None, Some, IfSome, IsSomeAnd, option_map, refl, sym, subst}
use Rattle.std.specs.List.{AllByRecursion}
use Rattle.ct_types.proofs.Orders.{key_cmp_exact}
use Rattle.ct_types.specs.declared.value.Key.{Key}
use Rattle.ct_types.specs.declared.schema.Schema.{Schema}
use Rattle.ct_types.specs.declared.tracked.Tracked.{Tracked}
use Rattle.ct_types.specs.declared.tracked.NetRow.{NetRow}
use Rattle.ct_model.specs.declared.db.Dated.{Dated}
use Rattle.ct_model.specs.declared.db.Db.{Db}
use Rattle.ct_model.specs.declared.db.Table.{Table}
use Rattle.ct_model.specs.Net.{changes_above, floor_of, keys_of, last_of, net, net_rows, row_of, window}
use Rattle.ct_model.specs.Tables.{table_of}
use Rattle.ct_types.proofs.Lists.{all_everywhere}
use Rattle.ct_model.proofs.Found.{found_id}
use Rattle.ct_model.proofs.Members.{all_weaken, all_filter}
use Rattle.ct_model.proofs.Rising.{equal_of}
use Rattle.ct_model_laws.specs.Rows.{EachOfChanges}
use Rattle.ct_model_laws.proofs.NetKeys.{HasKey}
use Rattle.ct_model_laws.proofs.NetTelling.{all_made, last_has}

-- a row is that of these changes, of which there is a last
abbrev pub IsRowOf : Schema → Bool → List Dated → NetRow → Type 0
IsRowOf schema masks changes row = IsSomeAnd (last_of changes) (λ last. row ≡ row_of schema masks changes last)

abbrev pub IsMade : Schema → Bool → List Dated → NetRow → Type 0
IsMade schema masks changes row = IsRowOf schema masks (window changes row.key) row

pub window_has : (changes : List Dated) (key : Key) → AllByRecursion (HasKey key) (window changes key)
window_has changes key =
    all_filter (λ dated. Unit {0}) (HasKey key) _ (λ dated e u. key_cmp_exact dated.change.key key (equal_of _ e)) changes (all_everywhere _ (λ dated. tt) changes)

made_row : (schema : Schema) (masks : Bool) (changes : List Dated) (key : Key)
    → IfSome (option_map (row_of schema masks (window changes key)) (last_of (window changes key))) (IsMade schema masks changes)
made_row schema masks changes key =
    step (last_of (window changes key)) refl (last_has (HasKey key) (window changes key) (window_has changes key))
  where
    step : (o : Option Dated) → o ≡ last_of (window changes key) → IfSome o (HasKey key)
        → IfSome (option_map (row_of schema masks (window changes key)) o) (IsMade schema masks changes)
    step None is has = tt
    step (Some last) is has =
        let row : NetRow = row_of schema masks (window changes key) last in
        subst (λ k. IsRowOf schema masks (window changes k) row) (sym has)
        (subst (λ o. IsSomeAnd o (λ last. row ≡ row_of schema masks (window changes key) last)) is refl)

rows_made : (schema : Schema) (masks : Bool) (changes : List Dated) → AllByRecursion (IsMade schema masks changes) (net_rows schema masks changes)
rows_made schema masks changes =
    all_made (λ key. Unit {0}) (IsMade schema masks changes) (λ key. option_map (row_of schema masks (window changes key)) (last_of (window changes key)))
    (λ key u. made_row schema masks changes key) (keys_of changes) (all_everywhere _ (λ key. tt) (keys_of changes))

pub net_made : (db : Db) (id : ℕ) (last : Option ℤ) (table : Table) (tracked : Tracked) → table_of db.tables id ≡ Some table → table.tracked ≡ Some tracked
    → AllByRecursion (IsMade table.schema tracked.masks (changes_above id (floor_of tracked.min last) db.kept)) (net db id last)
unfolding net
net_made db id last table tracked is on =
    subst (λ n. AllByRecursion (IsMade table.schema tracked.masks (changes_above n (floor_of tracked.min last) db.kept)) (net db id last)) (found_id db.tables id table is)
    (rw (is, on) (rows_made table.schema tracked.masks (changes_above table.schema.id (floor_of tracked.min last) db.kept)))

-- what the row of changes has to them, each net row has to the changes of its key

row_has : (Of : Schema → Bool → List Dated → NetRow → Type 0)
    → ((schema : Schema) (masks : Bool) (changes : List Dated) (last : Dated) → Of schema masks changes (row_of schema masks changes last))
    → (schema : Schema) (masks : Bool) (changes : List Dated) (row : NetRow) → IsRowOf schema masks changes row → Of schema masks changes row
row_has Of each schema masks changes row is = step (last_of changes) is
  where
    step : (o : Option Dated) → IsSomeAnd o (λ last. row ≡ row_of schema masks changes last) → Of schema masks changes row
    step None is = elim is [ ]
    step (Some last) is = subst (Of schema masks changes) (sym is) (each schema masks changes last)

pub each_of_changes : (Of : Schema → Bool → List Dated → NetRow → Type 0)
    → ((schema : Schema) (masks : Bool) (changes : List Dated) (last : Dated) → Of schema masks changes (row_of schema masks changes last)) → EachOfChanges Of
each_of_changes Of each = λ db id last table tracked is on.
    all_weaken (IsMade table.schema tracked.masks (changes_above id (floor_of tracked.min last) db.kept)) _
    (λ row made. row_has Of each table.schema tracked.masks (window (changes_above id (floor_of tracked.min last) db.kept) row.key) row made)
    (net db id last) (net_made db id last table tracked is on)
