-- Where the changes above a version begin.
use Rattle.std.specs.Prelude.{◌≡◌, ℕ, ◌≤◌, List, ◌++◌}
use Rattle.std.specs.List.{AllByRecursion}
use Rattle.ct_types.specs.declared.entry.Kept.{Kept}
use Rattle.ct_model.specs.Net.{changes_above}

-- the changes of a table above a version are those of the commits behind the ones at or below it
abbrev pub ChangesFromFloor : Type 0
ChangesFromFloor =
    (table floor : ℕ) (early late : List Kept) → AllByRecursion (λ one. one.version ≤ floor) early → changes_above table floor (early ++ late) ≡ changes_above table floor late
