use Rattle.std.proofs.Common.{◌≡◌, ◌-◌, ◌/◌, length, take, drop, ◌∙◌, ap, arith}
use Rattle.std.proofs.lemmas.Grind.{common_steps}
use Rattle.ct_ptree.specs.Pairs.{joined, AreFilled}
use Rattle.ct_ptree.proofs.Levels.{halved_level}
use Rattle.ct_ptree.proofs.branch.Branch.halves.Goals as goal

pub returns : goal.returns
returns g c =
    let s = c.as_slice-leaves.result.now in
    let whole : joined c.as_slice-leaves.result.now ≡ c.args.self.now = rw (c.as_slice-leaves.ensures.value, c.deref.ensures) c.self.view_is in
    let filled : AreFilled c.as_slice-leaves.result.now = rw (c.as_slice-leaves.ensures.value, c.deref.ensures) c.self.invariant.0 in
    let tail : take (length c.as_slice-leaves.result.now - length c.as_slice-leaves.result.now / 2) (drop (length c.as_slice-leaves.result.now / 2) c.as_slice-leaves.result.now) ≡ drop (length c.as_slice-leaves.result.now / 2) c.as_slice-leaves.result.now = grind (arith, common_steps) in
    let front : c.in_ok-front.front ≡ joined (take (length s / 2) s) = c.in_ok-front.ensures ∙ ap joined c.in_ok-shares.ensures in
    let back : c.in_ok-back.back ≡ joined (drop (length s / 2) s) = c.in_ok-back.ensures ∙ ap joined (c.in_ok-shares-2.ensures ∙ tail) in
    rw (← whole) (halved_level s (length s / 2) c.in_ok-front.front c.in_ok-back.back filled front back (omega arith) (omega arith))
