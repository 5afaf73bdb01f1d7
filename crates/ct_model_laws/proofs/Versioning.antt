-- The version of a key is that of its net row since NULL.
use Rattle.std.proofs.Common.{◌≡◌, ◌<◌, ℕ, Bool, true, false, cond, eqb-true, List, [], ◌∷◌, ◌++◌, map, filter, Option, None, Some, IsSomeAnd, refl, sym, ap, ◌∙◌, subst, arith, lt-ltb, ltb-true, nat_lt, ◌==◌}
use Rattle.std.specs.List.{AllByRecursion}
use Rattle.ct_types.proofs.Orders.{key_cmp_exact}
use Rattle.ct_types.specs.declared.value.Key.{Key}
use Rattle.ct_types.specs.declared.schema.Schema.{Schema}
use Rattle.ct_types.specs.declared.tracked.Tracked.{Tracked}
use Rattle.ct_types.specs.declared.tracked.NetRow.{NetRow}
use Rattle.ct_types.specs.declared.entry.Change.{Change}
use Rattle.ct_types.specs.declared.entry.Kept.{Kept}
use Rattle.ct_model.specs.declared.db.Dated.{Dated}
use Rattle.ct_model.specs.declared.db.Db.{Db}
use Rattle.ct_model.specs.declared.db.Table.{Table}
use Rattle.ct_model.specs.Net.{changes_above, dated_in, last_of, net, net_rows, row_of, window}
use Rattle.ct_model.specs.Tables.{table_of, is_above}
use Rattle.ct_model.specs.Valid.{ChangeFits, IsChangeValid, IsKeptValid, IsValid}
use Rattle.ct_model.specs.Versions.{row_version, version_row_of}
use Rattle.ct_model.proofs.Found.{found_id}
use Rattle.ct_model.proofs.Members.{all_weaken}
use Rattle.ct_model.proofs.Rising.{equal_of}
use Rattle.ct_model_laws.specs.RowVersions.{IsNetRow, IsVersionOf}
use Rattle.ct_model_laws.proofs.NetKeys.{HasKey, last_in, rows_have}
use Rattle.ct_model_laws.proofs.NetTelling.{any_from_some, some_from_any}
use Rattle.ct_model_laws.proofs.RowsMade.{IsMade, IsRowOf, net_made}
use Rattle.ct_model_laws.proofs.Somewhere.{Somewhere, some_constant, some_from_filter, some_join, some_weaken}

-- ---- all kept changes of a table are above its minimum

none_left : {X : Type 0} (p : X → Bool) (xs : List X) → AllByRecursion (λ x. p x ≡ true → ⊥) xs → filter p xs ≡ []
none_left p [] none = refl
none_left p (x ∷ xs) none =
    let step : (b : Bool) → b ≡ p x → cond b (x ∷ filter p xs) (filter p xs) ≡ [] =
    elim [ true ↦ (λ e. absurd (none.0 (sym e))) | false ↦ (λ e. none_left p xs none.1) ] in
    step (p x) refl

change_above : (tables : List Table) (id version : ℕ) (table : Table) (tracked : Tracked) (change : Change) → table_of tables id ≡ Some table → table.tracked ≡ Some tracked
    → IsChangeValid tables version change → (change.table == id) ≡ true → nat_lt tracked.min version ≡ true
change_above tables id version table tracked change is on valid same =
    let here : IsSomeAnd (table_of tables id) (ChangeFits version change) = subst (λ n. IsSomeAnd (table_of tables n) (ChangeFits version change)) (eqb-true change.table id same) valid in
    let fits : ChangeFits version change table = subst (λ o. IsSomeAnd o (ChangeFits version change)) is here in
    subst (λ t. is_above version t ≡ true) on fits.above

dated_same : (tables : List Table) (id : ℕ) (table : Table) (tracked : Tracked) (kept : Kept) → table_of tables id ≡ Some table → table.tracked ≡ Some tracked
    → AllByRecursion (IsChangeValid tables kept.version) kept.changes → dated_in id 0 kept ≡ dated_in id tracked.min kept
dated_same tables id table tracked kept is on all = step (nat_lt tracked.min kept.version) refl
  where
    step : (b : Bool) → b ≡ nat_lt tracked.min kept.version → dated_in id 0 kept ≡ cond b (map (λ change. record { version = kept.version; change = change }) (filter (λ change. change.table == id) kept.changes)) []
    step true e = let lt : tracked.min < kept.version = ltb-true tracked.min kept.version (sym e) in rw (lt-ltb 0 kept.version (omega (arith, lt))) refl
    step false e =
        let none : filter (λ change. change.table == id) kept.changes ≡ [] =
        none_left (λ change. change.table == id) kept.changes
        (all_weaken (IsChangeValid tables kept.version) _ (λ change valid same. cc (e, change_above tables id kept.version table tracked change is on valid same)) kept.changes all) in
        rw none (elim (nat_lt 0 kept.version) as (λ b. cond {A = List Dated} b [] [] ≡ []) [ true ↦ refl | false ↦ refl ])

changes_same : (db : Db) (id : ℕ) (table : Table) (tracked : Tracked) (kept : List Kept) → table_of db.tables id ≡ Some table → table.tracked ≡ Some tracked
    → AllByRecursion (IsKeptValid db) kept → changes_above id 0 kept ≡ changes_above id tracked.min kept
changes_same db id table tracked [] is on all = refl
changes_same db id table tracked (one ∷ more) is on all =
    ap (λ dated. dated ++ changes_above id 0 more) (dated_same db.tables id table tracked one is on all.0.changes)
    ∙ ap (λ rest. dated_in id tracked.min one ++ rest) (changes_same db id table tracked more is on all.1)

-- ---- the net rows of a key

-- the last change has the version and the context of a row
abbrev IsLast : NetRow → Dated → Type 0
IsLast row last = (row.version ≡ last.version) × (row.context ≡ last.change.context)

row_last : (schema : Schema) (masks : Bool) (changes : List Dated) (key : Key) (row : NetRow) → IsMade schema masks changes row → row.key ≡ key
    → IsSomeAnd (last_of (window changes key)) (IsLast row)
row_last schema masks changes key row made same = step (last_of (window changes key)) (subst (λ k. IsRowOf schema masks (window changes k) row) same made)
  where
    step : (o : Option Dated) → IsSomeAnd o (λ last. row ≡ row_of schema masks (window changes key) last) → IsSomeAnd o (IsLast row)
    step None is = is
    step (Some last) is = (ap (λ r. r.version) is, ap (λ r. r.context) is)

some_tells : (rows : List NetRow) (key : Key) (o : Option Dated) → AllByRecursion (λ row. row.key ≡ key → IsSomeAnd o (IsLast row)) rows
    → (C : Type 0) → ((row : NetRow) → IsSomeAnd o (IsLast row) → C) → Somewhere (λ row. row.key ≡ key) rows → C
some_tells rows key o tell C then some =
    some_constant C rows (some_join (λ row. row.key ≡ key) _ (λ row. C) (λ row same tells. then row (tells same)) rows some tell)

version_told : (rows : List NetRow) (key : Key) (o : Option Dated) → AllByRecursion (λ row. row.key ≡ key → IsSomeAnd o (IsLast row)) rows
    → ((last : Dated) → o ≡ Some last → Somewhere (λ row. row.key ≡ key) rows) → IsVersionOf rows key (version_row_of o)
version_told rows key None tell have = record {
  some = λ version context. (
    λ both. let wrong : None ≡ Some version = both.0 in cc,
    λ any. absurd (some_tells rows key None tell ⊥ (λ row is. is) (some_weaken (IsNetRow key version context) (λ row. row.key ≡ key) (λ row is. is.0) rows (some_from_any (IsNetRow key version context) rows any))),
  );
  none = (λ both any. some_tells rows key None tell ⊥ (λ row is. is) (some_from_any (λ row. row.key ≡ key) rows any), λ none. (refl, refl));
}
version_told rows key (Some last) tell have = record {
  some = λ version context. (
    λ both. any_from_some (IsNetRow key version context) rows
        (some_join (λ row. row.key ≡ key) _ (IsNetRow key version context)
        (λ row same tells. let is = tells same in let v : last.version ≡ version = cc (both.0) in (same, is.0 ∙ v, is.1 ∙ both.1)) rows (have last refl) tell),
    λ any. some_constant _ rows
        (some_join (IsNetRow key version context) _ (λ row. (Some last.version ≡ Some version) × (last.change.context ≡ context))
        (λ row net tells. let is = tells net.0 in (ap (λ v. Some v) (sym is.0 ∙ net.1), sym is.1 ∙ net.2)) rows (some_from_any (IsNetRow key version context) rows any) tell),
  );
  none = (λ both. let wrong : Some last.version ≡ None = both.0 in cc, λ none. absurd (none (any_from_some (λ row. row.key ≡ key) rows (have last refl))));
}

-- ---- the net changes since NULL

net_is : (db : Db) (id : ℕ) (table : Table) (tracked : Tracked) → table_of db.tables id ≡ Some table → table.tracked ≡ Some tracked
    → net db id None ≡ net_rows table.schema tracked.masks (changes_above id tracked.min db.kept)
unfolding net
net_is db id table tracked is on =
    subst (λ n. net db id None ≡ net_rows table.schema tracked.masks (changes_above n tracked.min db.kept)) (found_id db.tables id table is) (rw (is, on) refl)

pub has_some : (changes : List Dated) (key : Key) (last : Dated) → last_of (window changes key) ≡ Some last
    → Somewhere (HasKey key) changes
has_some changes key last is =
    some_from_filter (λ dated. Unit {0}) (HasKey key) _ (λ dated e u. key_cmp_exact dated.change.key key (equal_of _ e)) changes
    (last_in (λ dated. Unit {0}) (window changes key) (subst (λ o. IsSomeAnd o (λ dated. Unit {0})) (sym is) tt))

pub versions_tell : (db : Db) (id : ℕ) (key : Key) (table : Table) (tracked : Tracked) → IsValid db → table_of db.tables id ≡ Some table → table.tracked ≡ Some tracked
    → IsVersionOf (net db id None) key (row_version db id key)
versions_tell db id key table tracked valid is on =
    let changes : List Dated = changes_above id tracked.min db.kept in
    let same : changes_above id 0 db.kept ≡ changes = changes_same db id table tracked db.kept is on valid.kept in
    let made : AllByRecursion (IsMade table.schema tracked.masks changes) (net db id None) = net_made db id None table tracked is on in
    subst (λ c. IsVersionOf (net db id None) key (version_row_of (last_of (window c key)))) (sym same)
    (version_told (net db id None) key (last_of (window changes key))
    (all_weaken (IsMade table.schema tracked.masks changes) _ (λ row made same. row_last table.schema tracked.masks changes key row made same) (net db id None) made)
    (λ last found. subst (Somewhere (λ row. row.key ≡ key)) (sym (net_is db id table tracked is on))
    (rows_have table.schema tracked.masks changes key (has_some changes key last found))))
