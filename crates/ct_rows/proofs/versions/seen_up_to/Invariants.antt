use Rattle.std.proofs.Common.{◌≡◌, ◌≤◌, false, length, drop}
use Rattle.std.specs.List.{list_any}
use Rattle.ct_rows.specs.Versions.{versions_of, is_seen}
use Rattle.ct_rows.proofs.versions.seen_up_to.Given as goal

abbrev pub invariant-loop-end : goal.invariant-loop-end
invariant-loop-end l = record {
  within : l.end ≤ length l.versions;
  unseen : list_any (is_seen l.view) (versions_of (drop l.end l.versions)) ≡ false;
}

abbrev pub decreases-loop-end : goal.decreases-loop-end
decreases-loop-end l = l.end
