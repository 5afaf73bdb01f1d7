use Rattle.std.proofs.Common.{◌≡◌, ◌≤◌, length, take}
use Rattle.ct_source.specs.Rows.{lent}
use Rattle.ct_database.specs.Steps.{last_in}
use Rattle.ct_database.proofs.last.walked_last.Given as goal

-- no commit behind the place changes the key
abbrev pub invariant-loop-at : goal.invariant-loop-at
invariant-loop-at l = record {
  within : l.at ≤ length l.commits;
  same : last_in l.table l.key (lent l.commits) ≡ last_in l.table l.key (lent (take l.at l.commits));
}

abbrev pub decreases-loop-at : goal.decreases-loop-at
decreases-loop-at l = l.at
