use Rattle.std.proofs.Common.{List, Option, ◌∙◌, sym, ap, ap₂, subst}
use Rattle.std.specs.Option.{IfSome}
use Rattle.ct_types.specs.declared.entry.Write.{Write}
use Rattle.ct_types.specs.declared.schema.Schema.{Schema}
use Rattle.ct_machine.specs.declared.decision.Decision.{Decision}
use Rattle.ct_machine.specs.Decide.{without_duplicates}
use Rattle.ct_sessions.specs.Seats.{state_in}
use Rattle.ct_write.specs.Duplicates.{duplicate}
use Rattle.ct_core.specs.Range.{DecisionIsKept}
use Rattle.ct_core.specs.Steps.{decided_or, kept_out}
use Rattle.ct_core.proofs.Deciding.{fitted_so}
use Rattle.ct_core.proofs.writing.fitted.Goals as goal

pub returns-in-Some-clause-is : goal.returns-in-Some-clause-is
returns-in-Some-clause-is c =
    λ m holds.
    let table = c.args.table.now in
    let next : Decision = without_duplicates (m.sessions c.args.number).tran table c.args.writes (duplicate table.schema table.rows c.args.writes) in
    let same = ap₂ (λ (schema : Schema) (writes : List Write). kept_out m c.args.number schema writes) c.schema.ensures c.as_slice.ensures in
    sym (fitted_so m c.args.number table c.args.writes ∙ ap (λ (out : Option Decision). decided_or out next) (sym same ∙ sym (c.in_ok-decision.ensures.is m holds) ∙ c.in-Some.is))

pub returns-in-Some-clause-kept : goal.returns-in-Some-clause-kept
returns-in-Some-clause-kept c =
    λ newest db reaches.
    let state = state_in c.args.sessions.now.seats c.args.number in
    subst (λ (out : Option Decision). IfSome out (DecisionIsKept newest db state)) c.in-Some.is (c.in_ok-decision.ensures.kept newest db state)

pub returns-in-None-clause-kept : goal.returns-in-None-clause-kept
returns-in-None-clause-kept c = λ newest db reaches. c.without_duplicates.ensures.kept newest db (state_in c.args.sessions.now.seats c.args.number) c.tran.ensures.tran reaches
