use Rattle.std.specs.Prelude.{◌==◌}
use Rattle.std.proofs.Common.{length, ap, ◌∙◌}
use Rattle.ct_ptree.proofs.Levels.{level_empty}
use Rattle.ct_ptree.proofs.branch.Branch.is_empty.Goals as goal

pub returns : goal.returns
returns g c =
    rw (c.as_slice.ensures.value, c.deref.ensures) at c.is_empty.ensures ∙ level_empty c.self.inside.leaves.value.items c.self.invariant.0 ∙ ap (λ ys. length ys == 0) c.self.view_is
