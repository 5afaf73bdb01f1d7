use Rattle.std.proofs.Common.{◌+◌, ◌<◌, ◌^◌, length, arith}
use Rattle.ct_locks.proofs.Sets.{kept_more}
use Rattle.ct_locks.proofs.held.Held.take.Goals as goal

pub invariant_of-self-2 : goal.invariant_of-self-2
invariant_of-self-2 c =
    let few : length c.self.inside.taken.items + length c.args.added.items < 2 ^ 32 = omega (arith, c.self.inside.taken.ok.0) in
    kept_more c.self.inside.taken.items c.args.added.items c.append.new.self.items c.self.inside.sets.items c.in_ok-sets.sets.items c.self.invariant
    (rw (c.as_slice.ensures.value, c.as_slice-2.ensures.value) at c.in_ok-sets.ensures) c.in_ok-append.ensures.items few
