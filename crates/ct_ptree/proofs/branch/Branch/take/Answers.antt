use Rattle.std.proofs.Common.{◌≡◌, true, false, drop}
use Rattle.std.specs.Ordering.{is_eq}
use Rattle.ct_types.specs.Order.{key_cmp}
use Rattle.ct_ptree.specs.Pairs.{joined, without, BeginsAt}
use Rattle.ct_ptree.proofs.Firsts.{second_begins, take_begins, changed_begins}
use Rattle.ct_ptree.proofs.branch.Branch.take.Goals as goal

pub invariant_of-self-then-is_eq : goal.invariant_of-self-then-is_eq
invariant_of-self-then-is_eq g c =
    let old = joined c.self.inside.leaves.value.items in
    let first = c.self.inside.first in
    let key = c.args.key.now in
    let at : is_eq (key_cmp first.key key) ≡ true = rw (← c.compare.ensures, ← c.is_eq.ensures) c.if-is_eq.true in
    let after : BeginsAt c.in_ok-first.first.key (drop 1 (joined c.self.inside.leaves.value.items)) = rw (c.as_slice.ensures.value, c.deref.ensures) at c.in_ok-first.ensures in
    (c.take_shared.ensures.filled, rw c.in_ok-take_shared.ensures.ok (second_begins first.key c.in_ok-first.first.key key old c.self.invariant.1 (rw c.self.view_is c.requires.rising) at after))

pub invariant_of-self-else-is_eq : goal.invariant_of-self-else-is_eq
invariant_of-self-else-is_eq g c =
    let old = joined c.self.inside.leaves.value.items in
    let first = c.self.inside.first in
    let key = c.args.key.now in
    let other : is_eq (key_cmp first.key key) ≡ false = rw (← c.compare.ensures, ← c.is_eq.ensures) c.if-is_eq.false in
    (c.take_shared-else-is_eq.ensures.filled, changed_begins c.take_shared-else-is_eq.result first.key old (without old key) (joined c.take_shared-else-is_eq.new.leaves.value.items) c.self.invariant.1 (take_begins first.key key old c.self.invariant.1 (rw c.self.view_is c.requires.rising) other) c.take_shared-else-is_eq.ensures.ok c.take_shared-else-is_eq.ensures.err)
