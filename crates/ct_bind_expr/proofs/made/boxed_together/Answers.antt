use Rattle.std.proofs.Common.{sym}
use Rattle.ct_bind_expr.proofs.Gives.{gives_together}
use Rattle.ct_bind_expr.proofs.made.boxed_together.Goals as goal

pub returns : goal.returns
returns g c =
    gives_together c.args.is_meant c.args.left c.args.right c.in_ok-left.left c.in_ok-left.right c.boxed.result c.boxed-2.result c.joined.result
    (sym c.in_ok-left.ensures) c.boxed.ensures c.boxed-2.ensures c.joined.ensures
