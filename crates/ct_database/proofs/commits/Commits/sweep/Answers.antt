use Rattle.std.proofs.Common.{◌∙◌}
use Rattle.ct_database.proofs.commits.Commits.sweep.Goals as goal

pub returns-in_err-sweep_one-clause-within : goal.returns-in_err-sweep_one-clause-within
returns-in_err-sweep_one-clause-within c = λ version within. c.sweep_one.ensures.within version (c.loop.invariant.within version within)

pub returns-then-not-branch-clause-within : goal.returns-then-not-branch-clause-within
returns-then-not-branch-clause-within c = λ version within. c.sweep_one.ensures.within version (c.loop.invariant.within version within)

pub loop-preserved : goal.loop-preserved
loop-preserved c = record {
  counted = c.sweep_one.ensures.counted ∙ c.loop.invariant.counted;
  within = λ version within. c.sweep_one.ensures.within version (c.loop.invariant.within version within);
}
