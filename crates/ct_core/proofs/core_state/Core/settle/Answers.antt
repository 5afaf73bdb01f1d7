use Rattle.std.proofs.Common.{refl, sym, subst}
use Rattle.ct_types.specs.declared.reply.Reply.TheVariants.{Done, Refused}
use Rattle.ct_machine.specs.declared.decision.Decision.{Decision}
use Rattle.ct_machine.specs.declared.decision.Decision.TheVariants.{Commits}
use Rattle.ct_core.specs.Settling.{IsSettled}
use Rattle.ct_core.proofs.Standing.{settled_if}
use Rattle.ct_core.proofs.core_state.Core.settle.Goals as goal

pub returns-in-Aborts-clause-ok : goal.returns-in-Aborts-clause-ok
returns-in-Aborts-clause-ok g c =
    λ m stands.
    subst (λ (d : Decision). IsSettled m c.args.session c.args.what.now d (Refused c.in-Aborts.refusal) c.end.new.self) (sym c.in-Aborts.is) (record { reply = refl; stands = c.end.ensures.ends m c.args.what.now stands })

pub returns-in-Commits-clause-ok : goal.returns-in-Commits-clause-ok
returns-in-Commits-clause-ok g c = settled_if c.args.self.now c.commit.new.self c.args.session c.args.what.now c.args.decision (Commits c.in-Commits.act c.in-Commits.reply) c.commit.result c.in-Commits.is c.commit.ensures.ok

pub returns-in-Ends-clause-ok : goal.returns-in-Ends-clause-ok
returns-in-Ends-clause-ok g c =
    λ m stands.
    subst (λ (d : Decision). IsSettled m c.args.session c.args.what.now d Done c.end-in-Ends.new.self) (sym c.in-Ends.is) (record { reply = refl; stands = c.end-in-Ends.ensures.ends m c.args.what.now stands })
