use Rattle.std.proofs.Common.{◌≡◌, true, false, drop}
use Rattle.std.specs.Ordering.{is_eq}
use Rattle.ct_types.specs.Order.{key_cmp}
use Rattle.ct_ptree.specs.Pairs.{without, BeginsAt}
use Rattle.ct_ptree.proofs.Firsts.{second_begins, take_begins, changed_begins}
use Rattle.ct_ptree.proofs.leaf.Leaf.take.Goals as goal

pub invariant_of-self-then-is_eq : goal.invariant_of-self-then-is_eq
invariant_of-self-then-is_eq g c =
    let old = c.self.inside.pairs.value.items in
    let first = c.self.inside.first in
    let key = c.args.key.now in
    let at : is_eq (key_cmp first.key key) ≡ true = rw (← c.compare.ensures, ← c.is_eq.ensures) c.if-is_eq.true in
    let after : BeginsAt c.in_ok-first.first.key (drop 1 c.self.inside.pairs.value.items) = rw c.self.view_is c.in_ok-first.ensures in
    rw c.in_ok-take_shared.ensures.ok (second_begins first.key c.in_ok-first.first.key key old c.self.invariant (rw c.self.view_is c.requires) at after)

pub invariant_of-self-else-is_eq : goal.invariant_of-self-else-is_eq
invariant_of-self-else-is_eq g c =
    let old = c.self.inside.pairs.value.items in
    let first = c.self.inside.first in
    let key = c.args.key.now in
    let other : is_eq (key_cmp first.key key) ≡ false = rw (← c.compare.ensures, ← c.is_eq.ensures) c.if-is_eq.false in
    changed_begins c.take_shared-else-is_eq.result first.key old (without old key) c.take_shared-else-is_eq.new.pairs.value.items c.self.invariant (take_begins first.key key old c.self.invariant (rw c.self.view_is c.requires) other) c.take_shared-else-is_eq.ensures.ok c.take_shared-else-is_eq.ensures.err
