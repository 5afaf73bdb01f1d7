use Rattle.std.proofs.Common.{◌≡◌, true, false, refl, sym, ap, subst, ◌∙◌}
use Rattle.ct_types.specs.declared.command.Command.TheVariants.{Sql}
use Rattle.ct_types.specs.declared.refusal.Refusal.TheVariants.{NoRollback}
use Rattle.ct_types.specs.declared.reply.Reply.TheVariants.{Done, Refused}
use Rattle.ct_types.specs.declared.stmt.Stmt.TheVariants as stmt
use Rattle.ct_model.specs.Apply.{no_db}
use Rattle.ct_session.specs.Sessions.{SessionState, fresh, is_open}
use Rattle.ct_machine.specs.declared.decision.Decision.TheVariants.{Ends, Refuses}
use Rattle.ct_core.specs.Stands.{CoreState, Stands}
use Rattle.ct_core.proofs.Ending.{rollback_closed, rollback_open}
use Rattle.ct_core.proofs.Standing.{taken}
use Rattle.ct_core.proofs.core_state.Core.roll_back.Goals as goal

pub returns-then-not-is_open-clause-taken : goal.returns-then-not-is_open-clause-taken
returns-then-not-is_open-clause-taken g c =
    λ m stands.
    let n = c.args.session in
    let was = subst (λ (core : CoreState g.row.D.Denot). Stands core m) (sym c.self.view_is) stands in
    let none : is_open (m.sessions n).tran ≡ false = sym (c.is_open.ensures ∙ ap is_open (c.tran.ensures.tran ∙ ap (λ (state : SessionState). state.tran) (was.sessions.seats n).state)) ∙ (cc c.if-not-is_open.ensures) in
    taken no_db no_db fresh c.args.self.now m n (Sql stmt.Rollback) (Refuses NoRollback) (Refused NoRollback) (sym (rollback_closed m n none)) tt (record { reply = refl; stands = stands })

pub returns-clause-taken : goal.returns-clause-taken
returns-clause-taken g c =
    λ m stands.
    let n = c.args.session in
    let was = subst (λ (core : CoreState g.row.D.Denot). Stands core m) (sym c.self.view_is) stands in
    let waits : is_open (m.sessions n).tran ≡ true = sym (c.is_open.ensures ∙ ap is_open (c.tran.ensures.tran ∙ ap (λ (state : SessionState). state.tran) (was.sessions.seats n).state)) ∙ (cc c.if-not-is_open.ensures) in
    taken no_db no_db fresh c.end.new.self m n (Sql stmt.Rollback) Ends Done (sym (rollback_open m n waits)) tt (record { reply = refl; stands = c.end.ensures.ends m (Sql stmt.Rollback) stands })
