use Rattle.std.proofs.Common.{subst}
use Rattle.ct_sessions.specs.Owns.{own_or}
use Rattle.ct_sessions.specs.Seats.{own_in, state_in}
use Rattle.ct_core.specs.Settling.{StaysFor}
use Rattle.ct_core.specs.Stands.{CoreState}
use Rattle.ct_core.proofs.Standing.{taken_if}
use Rattle.ct_core.proofs.core_state.Core.step.Goals as goal

pub returns-clause-ok : goal.returns-clause-ok
returns-clause-ok g c =
    let before = c.prepare.new.self in
    let n = c.args.session in
    let stays : StaysFor c.args.self.now before = subst (λ (core : CoreState g.row.D.Denot). StaysFor core before) c.note.ensures c.in_ok-prepare.ensures.stays in
    taken_if c.args.self.now before c.settle.new.self before.db (own_or before.db (own_in before.sessions.seats n)) (state_in before.sessions.seats n) n c.args.what.now c.in_ok-decision.decision c.settle.result
    stays c.in_ok-decision.ensures.is c.in_ok-decision.ensures.kept c.settle.ensures.ok
