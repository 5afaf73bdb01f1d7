use Rattle.std.proofs.Common.{◌≡◌, [], List, ap, subst}
use Rattle.ct_types.specs.Answers.{Answer, Gives}
use Rattle.ct_types.specs.declared.value.Row.{Row}
use Rattle.ct_types.specs.declared.value.Value.{Value}
use Rattle.ct_core.specs.Seeing.{seen_with}
use Rattle.ct_core.proofs.Worlds.{value_of_none}
use Rattle.ct_core.proofs.reads.value_of.Goals as goal

pub returns : goal.returns
returns c =
    let row : Row = record { 0 = c.new.result } in
    let none : row ≡ record { 0 = [] } = ap (λ (values : List Value). record { 0 = values }) c.new.ensures in
    subst (λ (answer : Answer Value). Gives answer c.eval.result) (value_of_none (seen_with c.args.db.now c.args.env.now) c.args.env.now row c.args.expr.now c.requires none) c.eval.ensures
