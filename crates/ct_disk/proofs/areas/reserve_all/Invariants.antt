use Rattle.std.proofs.Common.{◌≡◌, ℕ, length, take}
use Rattle.ct_disk.specs.Areas.{contents_of, HaveRoom}
use Rattle.ct_disk.proofs.areas.reserve_all.Given as goal

abbrev pub invariant-loop-i : goal.invariant-loop-i
invariant-loop-i l = record {
  items : contents_of l.areas.items ≡ contents_of l.fn.areas.items;
  keeps : (n : ℕ) → HaveRoom n l.fn.areas.items → HaveRoom n l.areas.items;
  first : HaveRoom l.room (take l.i l.areas.items);
  count : length l.areas.items ≡ length l.fn.areas.items;
}
