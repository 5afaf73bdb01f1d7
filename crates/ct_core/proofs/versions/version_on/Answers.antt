use Rattle.std.proofs.lemmas.Result.{err_from_is_err_and}
use Rattle.ct_core.specs.Seeing.{seen_with}
use Rattle.ct_core.proofs.Worlds.{version_refused, version_made}
use Rattle.ct_core.proofs.versions.version_on.Goals as goal

pub returns-in_err-key : goal.returns-in_err-key
returns-in_err-key c =
    let p = err_from_is_err_and c.from_residual.result c.from_residual.ensures.1 in
    rw (p.1, p.2) (version_refused (seen_with c.args.db.now c.args.env.now) c.args.env.now c.args.row.now c.args.version.now c.in_err-key.field-0.0 c.requires c.in_err-key.ensures)

pub returns : goal.returns
returns c =
    version_made (seen_with c.args.db.now c.args.env.now) c.args.env.now c.args.row.now c.args.version.now (c.in_ok-key.key, c.in_ok-key.found) _ c.requires c.in_ok-key.ensures c.in_ok-show_version.ensures
