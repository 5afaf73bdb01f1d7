use Rattle.ct_locks.proofs.Taking.{more_taken, first_taken}
use Rattle.ct_locks.proofs.sessions.take_keys.Goals as goal

pub returns-then-is_at-clause-rises : goal.returns-then-is_at-clause-rises
returns-then-is_at-clause-rises c =
    (more_taken c.args.sessions.now.items c.take_more.new.sessions.items c.place_of-place.result c.args.session c.args.added.items c.is_at.result c.requires c.if-is_at.true
    (rw c.as_slice-2.ensures.value at c.is_at.ensures.within) (rw c.as_slice-2.ensures.value at c.is_at.ensures.same) c.in_ok-take_more.ensures.ok c.in_ok-take_more.ensures.few).rises

pub returns-then-is_at-clause-ok : goal.returns-then-is_at-clause-ok
returns-then-is_at-clause-ok c =
    (more_taken c.args.sessions.now.items c.take_more.new.sessions.items c.place_of-place.result c.args.session c.args.added.items c.is_at.result c.requires c.if-is_at.true
    (rw c.as_slice-2.ensures.value at c.is_at.ensures.within) (rw c.as_slice-2.ensures.value at c.is_at.ensures.same) c.in_ok-take_more.ensures.ok c.in_ok-take_more.ensures.few).all

pub returns-then-is_at-clause-few : goal.returns-then-is_at-clause-few
returns-then-is_at-clause-few c =
    (more_taken c.args.sessions.now.items c.take_more.new.sessions.items c.place_of-place.result c.args.session c.args.added.items c.is_at.result c.requires c.if-is_at.true
    (rw c.as_slice-2.ensures.value at c.is_at.ensures.within) (rw c.as_slice-2.ensures.value at c.is_at.ensures.same) c.in_ok-take_more.ensures.ok c.in_ok-take_more.ensures.few).few

pub returns-clause-rises : goal.returns-clause-rises
returns-clause-rises c =
    (first_taken c.args.sessions.now.items c.take_first.new.sessions.items c.place_of-place.result c.args.session c.args.added.items c.is_at.result c.requires c.if-is_at.false
    (rw c.as_slice.ensures.value at c.place_of-place.ensures.within) (rw c.as_slice.ensures.value at c.place_of-place.ensures.before) (rw c.as_slice.ensures.value at c.place_of-place.ensures.at)
    (rw c.as_slice-2.ensures.value at c.is_at.ensures.same) c.in_ok-take_first.ensures.ok c.in_ok-take_first.ensures.few).rises

pub returns-clause-ok : goal.returns-clause-ok
returns-clause-ok c =
    (first_taken c.args.sessions.now.items c.take_first.new.sessions.items c.place_of-place.result c.args.session c.args.added.items c.is_at.result c.requires c.if-is_at.false
    (rw c.as_slice.ensures.value at c.place_of-place.ensures.within) (rw c.as_slice.ensures.value at c.place_of-place.ensures.before) (rw c.as_slice.ensures.value at c.place_of-place.ensures.at)
    (rw c.as_slice-2.ensures.value at c.is_at.ensures.same) c.in_ok-take_first.ensures.ok c.in_ok-take_first.ensures.few).all

pub returns-clause-few : goal.returns-clause-few
returns-clause-few c =
    (first_taken c.args.sessions.now.items c.take_first.new.sessions.items c.place_of-place.result c.args.session c.args.added.items c.is_at.result c.requires c.if-is_at.false
    (rw c.as_slice.ensures.value at c.place_of-place.ensures.within) (rw c.as_slice.ensures.value at c.place_of-place.ensures.before) (rw c.as_slice.ensures.value at c.place_of-place.ensures.at)
    (rw c.as_slice-2.ensures.value at c.is_at.ensures.same) c.in_ok-take_first.ensures.ok c.in_ok-take_first.ensures.few).few
