use Rattle.std.proofs.Common.{ap, ◌∙◌}
use Rattle.ct_types.specs.Answers.{Answer, ◌>>=◌}
use Rattle.ct_types.specs.declared.bound.BoundExpr.{BoundExpr}
use Rattle.ct_bind_expr.specs.declared.place.Typed.{Typed}
use Rattle.ct_bind_expr.specs.Places.{of_kind}
use Rattle.ct_bind_expr.specs.Walk.{both_of_kind}
use Rattle.ct_bind_expr.specs.Walked.{both}
use Rattle.ct_bind_expr.proofs.chains.two_operands.Goals as goal

pub returns : goal.returns
unfolding both_of_kind
returns c =
    c.joined-2.ensures ∙ ap (λ (a : Answer BoundExpr). both a c.of_kind-2.result) c.of_kind.ensures ∙ ap (λ (b : Answer BoundExpr). both (of_kind c.args.wanted c.in_ok-left.left) b) c.of_kind-2.ensures
    ∙ ap (λ (it : Answer (Typed × Typed)). it >>= (λ it. both_of_kind c.args.wanted it.0 it.1)) c.in_ok-left.ensures
