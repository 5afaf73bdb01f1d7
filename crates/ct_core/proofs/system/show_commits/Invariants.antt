use Rattle.std.proofs.Common.{◌≡◌, map, take}
use Rattle.ct_core.specs.Rows.{shown_committed}
use Rattle.ct_core.proofs.system.show_commits.Given as goal

abbrev pub invariant-loop-one : goal.invariant-loop-one
invariant-loop-one l = l.made ≡ map shown_committed (take l.one-index l.kept)
