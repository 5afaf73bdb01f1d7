-- The transaction numbers of kept commits. This project's own.
use Rattle.std.specs.Prelude.{◌≤◌}
use Rattle.std.specs.List.{AllByRecursion}
use Rattle.ct_model.specs.declared.db.Db.{Db}

-- no kept commit has a transaction number above the last one
abbrev pub AreNumbersWithin : Db → Type 0
AreNumbersWithin db = AllByRecursion (λ one. one.xdes ≤ db.last_xdes) db.kept
