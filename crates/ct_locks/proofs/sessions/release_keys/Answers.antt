use Rattle.ct_locks.proofs.Taking.{gone, never_there}
use Rattle.ct_locks.proofs.sessions.release_keys.Goals as goal

pub returns-then-is_at-clause-rises : goal.returns-then-is_at-clause-rises
returns-then-is_at-clause-rises c =
    (gone c.args.sessions.now.items c.remove.new.self.items c.place_of-place.result c.args.session c.is_at.result c.requires c.if-is_at.true
    (rw c.as_slice-2.ensures.value at c.is_at.ensures.within) (rw c.as_slice-2.ensures.value at c.is_at.ensures.same) c.remove.ensures.items).0

pub returns-then-is_at-clause-all : goal.returns-then-is_at-clause-all
returns-then-is_at-clause-all c =
    (gone c.args.sessions.now.items c.remove.new.self.items c.place_of-place.result c.args.session c.is_at.result c.requires c.if-is_at.true
    (rw c.as_slice-2.ensures.value at c.is_at.ensures.within) (rw c.as_slice-2.ensures.value at c.is_at.ensures.same) c.remove.ensures.items).1

pub returns-else-is_at-clause-all : goal.returns-else-is_at-clause-all
returns-else-is_at-clause-all c =
    never_there c.args.sessions.now.items c.place_of-place.result c.args.session c.is_at.result c.requires c.if-is_at.false
    (rw c.as_slice.ensures.value at c.place_of-place.ensures.before) (rw c.as_slice.ensures.value at c.place_of-place.ensures.at) (rw c.as_slice-2.ensures.value at c.is_at.ensures.same)
