use Rattle.std.proofs.Common.{◌≡◌, nat_eq, map}
use Rattle.std.specs.List.{IsDistinct}
use Rattle.ct_script.specs.Schedule.{named}
use Rattle.ct_script.specs.Placing.{lane_from, Counted}
use Rattle.ct_script.proofs.schedule.lanes_of.Given as goal

-- the lanes so far are those of the statements so far
abbrev pub invariant-loop-said : goal.invariant-loop-said
invariant-loop-said l = record {
  sessions : l.sessions.keys ≡ named l.yielded;
  distinct : IsDistinct nat_eq l.sessions.keys;
  lanes : l.lanes.items ≡ map (lane_from l.fn.counts l.yielded) (named l.yielded);
  counted : Counted l.fn.counts l.yielded l.counts;
}
