use Rattle.std.proofs.Common.{◌≡◌, true, false}
use Rattle.std.specs.Ordering.{is_lt}
use Rattle.ct_types.specs.Order.{key_cmp}
use Rattle.ct_ptree.specs.Pairs.{joined, with_pair}
use Rattle.ct_ptree.proofs.Firsts.{sooner_begins, put_begins, changed_begins}
use Rattle.ct_ptree.proofs.branch.Branch.put.Goals as goal

pub invariant_of-self-then-is_lt : goal.invariant_of-self-then-is_lt
invariant_of-self-then-is_lt g c =
    let old = joined c.self.inside.leaves.value.items in
    let first = c.self.inside.first in
    let pair = c.args.pair in
    let sooner : is_lt (key_cmp pair.key first.key) ≡ true = rw (← c.sought.ensures, ← c.compare.ensures, ← c.is_lt.ensures) c.if-is_lt.true in
    (c.put_shared.ensures.filled, rw (c.in_ok-put_shared.ensures.ok, c.in_ok-first.ensures) (sooner_begins first.key old pair c.self.invariant.1 (rw c.self.view_is c.requires.rising) sooner))

pub invariant_of-self-else-is_lt : goal.invariant_of-self-else-is_lt
invariant_of-self-else-is_lt g c =
    let old = joined c.self.inside.leaves.value.items in
    let first = c.self.inside.first in
    let pair = c.args.pair in
    let late : is_lt (key_cmp pair.key first.key) ≡ false = rw (← c.sought.ensures, ← c.compare.ensures, ← c.is_lt.ensures) c.if-is_lt.false in
    (c.put_shared-else-is_lt.ensures.filled, changed_begins c.put_shared-else-is_lt.result first.key old (with_pair old pair) (joined c.put_shared-else-is_lt.new.leaves.value.items) c.self.invariant.1 (put_begins first.key old pair c.self.invariant.1 (rw c.self.view_is c.requires.rising) (rw c.self.view_is c.requires.some) late) c.put_shared-else-is_lt.ensures.ok c.put_shared-else-is_lt.ensures.err)
