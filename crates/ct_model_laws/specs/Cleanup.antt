-- What cleanup raises minima to, and that it may. This project's own.
use Rattle.std.specs.Prelude.{◌≡◌, ◌⊎◌, ℕ, ◌+◌, ◌^◌, ◌≤◌, ◌<◌, true, false, List, length, Some, Any}
use Rattle.std.specs.List.{AllByRecursion}
use Rattle.std.specs.Option.{IsSomeAnd}
use Rattle.ct_types.specs.declared.entry.Keep.{Keep}
use Rattle.ct_types.specs.declared.entry.Kept.{Kept}
use Rattle.ct_types.specs.declared.entry.Act.TheVariants.{Raise}
use Rattle.ct_model.specs.declared.db.Db.{Db}
use Rattle.ct_model.specs.Applies.{Applies}
use Rattle.ct_model.specs.Valid.{IsValid}
use Rattle.ct_model.specs.Versions.{cutoff, raises}

-- a kept commit is older than the retention, or as old
abbrev pub IsPast : ℕ → ℕ → Kept → Type 0
IsPast retention now one = one.time + retention ≤ now

-- a version is at or above that of each past commit, and is that of one, or 0 where there is none
pub record IsGreatestPast (retention now : ℕ) (kept : List Kept) (version : ℕ) : Type 0 where
  pub above : AllByRecursion (λ one. IsPast retention now one → one.version ≤ version) kept
  pub reached : Any (λ one. IsPast retention now one × (one.version ≡ version)) kept ⊎ ((version ≡ 0) × (¬ Any (IsPast retention now) kept))

-- where the database is on and cleans up by itself, the cutoff is the greatest version of a past commit
abbrev pub CutoffIsGreatest : Type 0
CutoffIsGreatest =
    (db : Db) (now : ℕ) (keep : Keep) → db.keep ≡ Some keep → keep.auto ≡ true → IsSomeAnd (cutoff db now) (IsGreatestPast keep.retention now db.kept)

-- in a valid database, at a time that is not before its own, the raises make an entry that applies, unless there are none
abbrev pub RaisesApply : Type 0
RaisesApply =
    (db : Db) (now : ℕ) → IsValid db → db.time ≤ now → now ≤ 2 ^ 62 → 0 < length (raises db now)
    → Applies db (record { version = db.version; draws = false; xdes = 0; time = now; act = Raise (raises db now) })
