use Rattle.std.proofs.Common.{◌≡◌, ◌≤◌, length}
use Rattle.std.specs.Vec.Iter.{into_iter_items}
use Rattle.ct_session.specs.Sessions.{pended}
use Rattle.ct_sessions.proofs.waits.pend_all.Given as goal

abbrev pub invariant-loop-write : goal.invariant-loop-write
invariant-loop-write l = record {
  done : l.session ≡ record { number = l.fn.session.number; state = pended l.fn.session.state l.yielded; room = l.session.room };
  room : length (into_iter_items l.write-iterator) ≤ l.session.room;
}
