use Rattle.std.proofs.Common.{List, Option, sym, subst}
use Rattle.ct_types.specs.Answers.{Gives}
use Rattle.ct_types.specs.declared.catalogue.Catalogued.{Catalogued}
use Rattle.ct_types.specs.declared.entry.Keep.{Keep}
use Rattle.ct_bind.specs.Binding.{binding}
use Rattle.ct_bind.specs.Limits.{HaveFewColumns}
use Rattle.ct_expr.specs.Environment.{Environment}
use Rattle.ct_machine.specs.Reads.{catalogue}
use Rattle.ct_core.proofs.decide.bound_among.Goals as goal

pub bind-requires : goal.bind-requires
bind-requires c = subst HaveFewColumns (sym c.catalogue.ensures) c.requires.narrow

pub returns-clause-value : goal.returns-clause-value
returns-clause-value c =
    subst (λ (env : Environment). Gives (binding (catalogue c.args.db.now) c.args.db.now.keep env.variables.0 c.args.statement.now) c.bind.result) c.env.view_is
    (subst (λ (keep : Option Keep). Gives (binding (catalogue c.args.db.now) keep c.env.inside.variables.now.0 c.args.statement.now) c.bind.result) c.keep.ensures
    (subst (λ (tables : List Catalogued). Gives (binding tables c.keep.result c.env.inside.variables.now.0 c.args.statement.now) c.bind.result) c.catalogue.ensures c.bind.ensures.value))
