use Rattle.ct_applies.proofs.Dots.{two_of_cut, no_two}
use Rattle.std.proofs.Common.{◌<◌, refl, arith}
use Rattle.std.proofs.lemmas.Bool.{false≢true}
use Rattle.ct_applies.proofs.names.is_two_names.Goals as goal

pub returns-then-is_cut : goal.returns-then-is_cut
returns-then-is_cut c = (λ e. two_of_cut c.args.name.now c.loop-at.at (c.is_cut.ensures.0 c.if-is_cut.true), λ two. refl)

pub returns : goal.returns
returns c = (
  (λ e. absurd (false≢true e)),
  (λ two. absurd (no_two c.args.name.now (λ at within cut. let below : at < c.loop-at.at = omega arith in c.loop-at.invariant at below cut) two)),
)
