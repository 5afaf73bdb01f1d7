use Rattle.std.proofs.lemmas.Result.{err_from_is_err_and}
use Rattle.ct_core.specs.Seeing.{seen_with}
use Rattle.ct_core.proofs.Worlds.{changes_refused, changes_made}
use Rattle.ct_core.proofs.reads.changes_rows.Goals as goal

pub returns-in_err-last : goal.returns-in_err-last
returns-in_err-last c =
    let p = err_from_is_err_and c.from_residual.result c.from_residual.ensures.1 in
    rw (p.1, p.2) (changes_refused (seen_with c.args.db.now c.args.env.now) c.args.table c.args.last.now c.in_err-last.field-0.0 c.in_err-last.ensures)

pub returns : goal.returns
returns c =
    changes_made (seen_with c.args.db.now c.args.env.now) c.args.table c.args.last.now c.in_ok-last.last _ c.in_ok-last.ensures c.in_ok-changes_since.ensures
