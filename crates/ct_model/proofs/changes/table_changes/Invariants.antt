use Rattle.std.proofs.Common.{◌≡◌, take}
use Rattle.ct_model.specs.Net.{changes_above}
use Rattle.ct_model.proofs.changes.table_changes.Given as goal

abbrev pub invariant-loop-one : goal.invariant-loop-one
invariant-loop-one l = l.all ≡ changes_above l.table l.floor (take l.one-index l.kept)
