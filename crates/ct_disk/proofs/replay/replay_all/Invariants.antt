use Rattle.std.proofs.Common.{◌≡◌, ◌<◌, length, drop}
use Rattle.ct_disk.specs.Areas.{area_at}
use Rattle.ct_disk.specs.Crash.{torn_at, tear_all}
use Rattle.ct_disk.specs.Mem.{steps_of, CallsWithin}
use Rattle.ct_disk.proofs.replay.replay_all.Given as goal

abbrev pub invariant-loop-i : goal.invariant-loop-i
invariant-loop-i l = record {
  rest : tear_all l.torn (torn_at (area_at l.fn.areas.items) l.fn.next) (steps_of l.written l.calls) ≡ tear_all l.torn (torn_at (area_at l.areas.items) l.next) (steps_of l.written (drop l.i l.calls));
  within : CallsWithin (length l.written) (drop l.i l.calls);
  place : 0 < length l.torn → l.next < length l.torn;
  count : length l.areas.items ≡ 6;
}
