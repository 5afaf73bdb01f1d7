use Rattle.ct_expr.specs.Meaning.{scene}
use Rattle.ct_expr.proofs.RowVersions.{found}
use Rattle.ct_expr.proofs.evaluator.Scene.+values.Goals as goal

pub row_version-returns : goal.row_version-returns
row_version-returns g t c =
    found (scene c.args.self.now.row.now c.args.self.now.env.now (g.L.Versions.row_of c.args.self.now.versions.now)) c.args.version.now c.as_slice.result.now
    c.in_ok-key.key c.in_ok-row.row c.as_slice.ensures c.in_ok-key.ensures c.in_ok-row.ensures
