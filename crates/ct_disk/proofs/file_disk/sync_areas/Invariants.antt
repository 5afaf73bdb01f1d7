use Rattle.std.proofs.Common.{◌≡◌, length}
use Rattle.ct_disk.proofs.file_disk.sync_areas.Given as goal

abbrev pub invariant-loop-i : goal.invariant-loop-i
invariant-loop-i l = record {
  count : length l.areas.items ≡ length l.fn.areas.items;
}
