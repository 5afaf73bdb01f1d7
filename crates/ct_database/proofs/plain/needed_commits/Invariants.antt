use Rattle.std.proofs.Common.{◌≡◌, take}
use Rattle.ct_model.specs.Apply.{trim}
use Rattle.ct_source.specs.Rows.{lent}
use Rattle.ct_database.proofs.plain.needed_commits.Given as goal

abbrev pub invariant-loop-one : goal.invariant-loop-one
invariant-loop-one l = l.made ≡ trim l.tables (lent (take l.one-index l.kept))
