use Rattle.std.proofs.Common.{◌≡◌, ◌<◌, ◌++◌, length, take, drop}
use Rattle.ct_disk.specs.Crash.{torn_bytes, torn_place}
use Rattle.ct_disk.proofs.replay.tear_bytes.Given as goal

abbrev pub invariant-loop-i : goal.invariant-loop-i
invariant-loop-i l = record {
  torn : torn_bytes l.torn l.fn.next l.fn.bytes ≡ take l.i l.bytes ++ torn_bytes l.torn l.next (drop l.i l.fn.bytes);
  next : torn_place l.torn l.fn.next l.fn.bytes ≡ torn_place l.torn l.next (drop l.i l.fn.bytes);
  within : l.next < length l.torn;
  long : length l.bytes ≡ length l.fn.bytes;
}
