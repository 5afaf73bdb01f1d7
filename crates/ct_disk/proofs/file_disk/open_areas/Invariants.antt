use Rattle.std.proofs.Common.{◌≡◌, length}
use Rattle.ct_disk.proofs.file_disk.open_areas.Given as goal

abbrev pub invariant-loop-number : goal.invariant-loop-number
invariant-loop-number g l = record {
  count : length l.areas.items ≡ l.number;
}
