use Rattle.std.proofs.Common.{◌≡◌, ℕ, ◌≤◌, length, take}
use Rattle.ct_database.specs.Steps.{last_here}
use Rattle.ct_database.proofs.last.last_change.Given as goal

-- no change behind the place is one of the table and key
abbrev pub invariant-loop-at : goal.invariant-loop-at
invariant-loop-at l = record {
  within : l.at ≤ length l.changes;
  same : (version : ℕ) → last_here l.table version l.key l.changes ≡ last_here l.table version l.key (take l.at l.changes);
}

abbrev pub decreases-loop-at : goal.decreases-loop-at
decreases-loop-at l = l.at
