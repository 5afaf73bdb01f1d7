use Rattle.std.proofs.Common.{◌≡◌, ◌-◌, ◌/◌, length, take, drop, ◌∙◌, arith}
use Rattle.std.proofs.lemmas.Grind.{common_steps}
use Rattle.ct_ptree.proofs.Gaps.{halves}
use Rattle.ct_ptree.proofs.leaf.Leaf.halves.Goals as goal

pub returns : goal.returns
returns g c =
    let s = c.as_slice-pairs.result.now in
    let whole : c.as_slice-pairs.result.now ≡ c.args.self.now = rw (c.as_slice-pairs.ensures.value, c.deref.ensures) c.self.view_is in
    let tail : take (length c.as_slice-pairs.result.now - length c.as_slice-pairs.result.now / 2) (drop (length c.as_slice-pairs.result.now / 2) c.as_slice-pairs.result.now) ≡ drop (length c.as_slice-pairs.result.now / 2) c.as_slice-pairs.result.now = grind (arith, common_steps) in
    let front : c.in_ok-front.front ≡ take (length s / 2) s = c.in_ok-front.ensures ∙ c.in_ok-shares.ensures in
    let back : c.in_ok-back.back ≡ drop (length s / 2) s = c.in_ok-back.ensures ∙ c.in_ok-shares-2.ensures ∙ tail in
    rw (← whole) (halves s (length s / 2) c.in_ok-front.front c.in_ok-back.back front back (omega arith) (omega arith))
