use Rattle.std.proofs.Common.{◌≡◌, ◌≤◌, ◌-◌, ◌↔◌, length, take}
use Rattle.ct_faults.specs.Disk.{Runs, Same, TakesRoom}
use Rattle.ct_log.proofs.area.read_front.Given as goal

abbrev pub invariant-loop-filled : goal.invariant-loop-filled
invariant-loop-filled g l =
    let D = g.D.Disk in
    record {
      within : l.filled ≤ length l.buf;
      within_area : D.honest l.fn.disk → l.filled ≤ length (D.content l.fn.disk l.area);
      bytes : D.honest l.fn.disk → take l.filled l.buf ≡ take l.filled (D.content l.fn.disk l.area);
      honest : D.honest l.fn.disk ↔ D.honest l.disk;
      content : D.honest l.fn.disk → D.content l.disk ≡ D.content l.fn.disk;
      images : D.honest l.fn.disk → Runs (D.clock l.fn.disk) (D.clock l.disk) (D.images l.fn.disk) (D.images l.disk) Same;
      room : TakesRoom 0 0 (D.room_calls l.fn.disk) (D.room_bytes l.fn.disk) (D.room_calls l.disk) (D.room_bytes l.disk);
      later : D.faults l.fn.disk ≤ D.faults l.disk;
    }

abbrev pub decreases-loop-filled : goal.decreases-loop-filled
decreases-loop-filled g l = length l.buf - l.filled
