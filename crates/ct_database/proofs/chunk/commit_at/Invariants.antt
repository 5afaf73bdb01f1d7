use Rattle.std.proofs.Common.{◌≡◌, find, drop}
use Rattle.ct_database.specs.Steps.{is_version, pointed}
use Rattle.ct_database.proofs.chunk.commit_at.Given as goal

-- no commit in front has the version
abbrev pub invariant-loop-one : goal.invariant-loop-one
invariant-loop-one l = find (is_version l.version) (pointed (drop l.one-index l.commits)) ≡ find (is_version l.version) (pointed l.commits)
