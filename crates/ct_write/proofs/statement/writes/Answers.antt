use Rattle.std.proofs.Common.{ap, ◌∙◌}
use Rattle.std.proofs.lemmas.Result.{err_from_is_err_and}
use Rattle.ct_types.specs.declared.schema.Schema.{Schema}
use Rattle.ct_model.specs.Tables.{catalogued}
use Rattle.ct_write.proofs.Giving.{refused_fit, writes_fit}
use Rattle.ct_write.proofs.Keyed.{writes_stand}
use Rattle.ct_write.proofs.statement.writes.Goals as goal

pub returns-in_err-fit_all : goal.returns-in_err-fit_all
returns-in_err-fit_all g c =
    let p = err_from_is_err_and c.from_residual-in_err-fit_all.result c.from_residual-in_err-fit_all.ensures.1 in
    rw (p.1, p.2)
    (record {
      gives = refused_fit _ _ _ _ c.in_ok-context.context c.in_ok-changes.changes _ _ _ c.in_ok-context.ensures c.in_ok-changes.ensures (c.as_slice.ensures ∙ ap (λ (schema : Schema). schema.columns) c.schema.ensures) c.as_slice-2.ensures c.in_err-fit_all.ensures.gives;
      fit = tt;
      keyed = λ spares. tt;
    })

pub returns-clause-fit : goal.returns-clause-fit
returns-clause-fit g c =
    writes_fit (catalogued c.args.table.now) c.args.bound.now.change _ c.in_ok-changes.changes _ _ _ (c.as_slice.ensures ∙ ap (λ (schema : Schema). schema.columns) c.schema.ensures) c.as_slice-2.ensures c.in_ok-fit_all.ensures.fits c.in_ok-writes_with.ensures

pub returns-clause-keyed : goal.returns-clause-keyed
returns-clause-keyed g c = λ spares.
    writes_stand (record { env = c.args.env.now; versions = g.L.Versions.row_of c.args.versions.now }) (catalogued c.args.table.now) c.args.bound.now.change _ c.args.table.now.rows c.in_ok-changes.changes _
    c.rows_rise.ensures.columns spares c.rows_rise.ensures.whole c.in_ok-changes.ensures c.in_ok-writes_with.ensures
