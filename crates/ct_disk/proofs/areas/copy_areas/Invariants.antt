use Rattle.std.proofs.Common.{◌≡◌, take}
use Rattle.ct_disk.specs.Areas.{contents_of}
use Rattle.ct_disk.proofs.areas.copy_areas.Given as goal

abbrev pub invariant-loop-i : goal.invariant-loop-i
invariant-loop-i l = record {
  copied : contents_of l.made.items ≡ take l.i (contents_of l.areas);
}
