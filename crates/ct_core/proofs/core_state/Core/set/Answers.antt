use Rattle.std.proofs.Common.{refl, sym, subst}
use Rattle.ct_session.specs.Sessions.{SessionState}
use Rattle.ct_session.specs.SetDeclare.{with_value}
use Rattle.ct_state.specs.Machine.{Machine, with_session}
use Rattle.ct_core.specs.Stands.{CoreState, Stands}
use Rattle.ct_core.proofs.Turning.{turned_stands}
use Rattle.ct_core.proofs.core_state.Core.set.Goals as goal

pub returns-clause-ok : goal.returns-clause-ok
returns-clause-ok g c =
    λ m stands.
    let n = c.args.session in
    let make : SessionState → SessionState = λ state. record state { variables = with_value state.variables c.args.name.now c.args.value } in
    let was = subst (λ (core : CoreState g.row.D.Denot). Stands core m) (sym c.self.view_is) stands in
    let one : Machine = with_session m n (make (m.sessions n)) in
    record {
      reply = refl;
      stands =
          turned_stands c.view.new.self m n c.args.what.now make (λ machine state. refl)
          (c.view.ensures.views one (record { db = was.db; now = was.now; next = was.next; sessions = c.in_ok-set.ensures.ok.holds m was.sessions }));
    }
