-- What cleanup raises applies.
use Rattle.std.proofs.Common.{◌≡◌, inl, inr, ◌≤◌, ◌<◌, ◌+◌, ◌^◌, ℕ, Bool, true, false, cond, eqb, eqb-true, eq-eqb, List, [], ◌∷◌, length, filter_map, Option, None, Some, IfSome, IsSomeAnd, option_and_then, refl, sym, subst, arith, nat_lt, ltb-true, if◌then◌else◌}
use Rattle.std.specs.List.{AllByRecursion}
use Rattle.ct_types.specs.declared.tracked.Tracked.{Tracked}
use Rattle.ct_types.specs.declared.entry.Keep.{Keep}
use Rattle.ct_types.specs.declared.entry.Min.{Min}
use Rattle.ct_types.specs.declared.entry.Act.TheVariants.{Raise}
use Rattle.ct_model.specs.declared.db.Db.{Db}
use Rattle.ct_model.specs.declared.db.Table.{Table}
use Rattle.ct_model.specs.Applies.{Applies, ActApplies, IsRaise, MinRises}
use Rattle.ct_model.specs.Lists.{EachToLater}
use Rattle.ct_model.specs.Tables.{table_of}
use Rattle.ct_model.specs.Valid.{AreNumbered, IsKeptValid, IsValid}
use Rattle.ct_model.specs.Versions.{cutoff, cutoff_of, raise_to, raises, raises_to}
use Rattle.ct_types.proofs.Lists.{all_join}
use Rattle.ct_model.proofs.Members.{all_weaken}
use Rattle.ct_model_laws.specs.Cleanup.{IsPast, IsGreatestPast}
use Rattle.ct_model_laws.proofs.Cutting.{cutoff_greatest}
use Rattle.ct_model_laws.proofs.NetTelling.{all_made, both_made, each_made, some_from_any}
use Rattle.ct_model_laws.proofs.Somewhere.{some_constant, some_join}

-- ---- the ids of numbered tables rise, and each is found by its own

ids_from : (first : ℕ) (tables : List Table) → AreNumbered first tables → AllByRecursion (λ t. first ≤ t.schema.id) tables
ids_from first [] numbered = tt
ids_from first (t ∷ ts) numbered = (omega (arith, numbered.0), all_weaken _ _ (λ t le. omega (arith, le)) ts (ids_from (first + 1) ts numbered.1))

ids_rise : (first : ℕ) (tables : List Table) → AreNumbered first tables → EachToLater (λ t later. t.schema.id < later.schema.id) tables
ids_rise first [] numbered = tt
ids_rise first (t ∷ ts) numbered = (all_weaken _ _ (λ later le. omega (arith, le, numbered.0)) ts (ids_from (first + 1) ts numbered.1), ids_rise (first + 1) ts numbered.1)

each_is_found : (first : ℕ) (tables : List Table) → AreNumbered first tables → AllByRecursion (λ t. table_of tables t.schema.id ≡ Some t) tables
each_is_found first [] numbered = tt
each_is_found first (t ∷ ts) numbered = (
  rw (eq-eqb t.schema.id t.schema.id refl) refl,
  all_join _ _ _ (λ later le found. step later le found (eqb t.schema.id later.schema.id) refl) ts (ids_from (first + 1) ts numbered.1) (each_is_found (first + 1) ts numbered.1),
)
  where
    step : (later : Table) → first + 1 ≤ later.schema.id → table_of ts later.schema.id ≡ Some later → (b : Bool) → b ≡ eqb t.schema.id later.schema.id
        → cond b (Some t) (table_of ts later.schema.id) ≡ Some later
    step later le found true e = absurd (let same : t.schema.id ≡ later.schema.id = eqb-true _ _ (sym e) in omega (arith, same, le, numbered.0))
    step later le found false e = found

-- ---- what a table's raise is

record RaiseIs (version id : ℕ) (tracked : Option Tracked) (listed : Min) : Type 0 where
  table : listed.table ≡ id
  min : listed.min ≡ version
  rises : MinRises version tracked

raise_is : (version id : ℕ) (tracked : Option Tracked)
    → IfSome (option_and_then (λ tracked. if nat_lt tracked.min version then Some (record { table = id; min = version }) else None) tracked) (RaiseIs version id tracked)
raise_is version id None = tt
raise_is version id (Some tracked) = step (nat_lt tracked.min version) refl
  where
    step : (b : Bool) → b ≡ nat_lt tracked.min version → IfSome (cond b (Some (record { table = id; min = version })) None) (RaiseIs version id (Some tracked))
    step true e = record { table = refl; min = refl; rises = ltb-true tracked.min version (sym e) }
    step false e = tt

raise_may : (tables : List Table) (version most : ℕ) (t : Table) (listed : Min) → version ≤ most → table_of tables t.schema.id ≡ Some t
    → RaiseIs version t.schema.id t.tracked listed → IsRaise tables most listed
raise_may tables version most t listed le found is =
    rw (is.table, is.min) (subst (λ o. IsSomeAnd o (λ table. MinRises version table.tracked)) (sym found) is.rises, le)

raises_rise : (version : ℕ) (tables : List Table) → AreNumbered 1 tables → EachToLater (λ a b. a.table < b.table) (filter_map (raise_to version) tables)
raises_rise version tables numbered =
    each_made (λ t later. t.schema.id < later.schema.id) (λ a b. a.table < b.table) (λ t listed. RaiseIs version t.schema.id t.tracked listed) (raise_to version)
    (λ t. raise_is version t.schema.id t.tracked) (λ t later a b here there lt. omega (arith, here.table, there.table, lt)) tables (ids_rise 1 tables numbered)

raises_may : (version most : ℕ) (tables : List Table) → AreNumbered 1 tables → version ≤ most → AllByRecursion (IsRaise tables most) (filter_map (raise_to version) tables)
raises_may version most tables numbered le =
    all_made (λ t. table_of tables t.schema.id ≡ Some t) (IsRaise tables most) (raise_to version)
    (λ t found. both_made (RaiseIs version t.schema.id t.tracked) (IsRaise tables most) (λ listed is. raise_may tables version most t listed le found is) (raise_to version t) (raise_is version t.schema.id t.tracked))
    tables (each_is_found 1 tables numbered)

-- ---- the cutoff is at most the version

reached_within : (db : Db) (retention now version : ℕ) → AllByRecursion (IsKeptValid db) db.kept → IsGreatestPast retention now db.kept version → version ≤ db.version
reached_within db retention now version valid is =
    elim is.reached [
      | inl any ↦ some_constant (version ≤ db.version) db.kept
          (some_join (λ one. IsPast retention now one × (one.version ≡ version)) (IsKeptValid db) (λ one. version ≤ db.version)
          (λ one is kept. omega (arith, is.1, kept.version)) db.kept (some_from_any (λ one. IsPast retention now one × (one.version ≡ version)) db.kept any) valid)
      | inr none ↦ omega (arith, none.0)
    ]

cutoff_within : (db : Db) (now : ℕ) → AllByRecursion (IsKeptValid db) db.kept → IfSome (cutoff db now) (λ version. version ≤ db.version)
cutoff_within db now valid = step db.keep
  where
    auto : (keep : Keep) (b : Bool) → IfSome (cond b (Some (cutoff_of keep.retention db.kept now)) None) (λ version. version ≤ db.version)
    auto keep true = reached_within db keep.retention now _ valid (cutoff_greatest keep.retention now db.kept)
    auto keep false = tt

    step : (keep : Option Keep) → IfSome (option_and_then (λ keep. if keep.auto then Some (cutoff_of keep.retention db.kept now) else None) keep) (λ version. version ≤ db.version)
    step None = tt
    step (Some keep) = auto keep keep.auto

act_applies : (db : Db) (cutoff : Option ℕ) → AreNumbered 1 db.tables → IfSome cutoff (λ version. version ≤ db.version) → 0 < length (raises_to cutoff db.tables)
    → ActApplies db db.version false (Raise (raises_to cutoff db.tables))
act_applies db None numbered within some = absurd (omega (arith, some))
act_applies db (Some version) numbered within some = (some, raises_rise version db.tables numbered, raises_may version db.version db.tables numbered within, refl)

pub raises_apply : (db : Db) (now : ℕ) → IsValid db → db.time ≤ now → now ≤ 2 ^ 62 → 0 < length (raises db now)
    → Applies db (record { version = db.version; draws = false; xdes = 0; time = now; act = Raise (raises db now) })
raises_apply db now valid after within some = record {
  version = refl;
  version_within = valid.version;
  time = after;
  time_within = within;
  xdes = refl;
  act = act_applies db (cutoff db now) valid.numbered (cutoff_within db now valid.kept) some;
}
