use Rattle.std.proofs.Common.{◌≡◌, ◌∙◌, sym, ap}
use Rattle.ct_session.specs.Sessions.{Seated}
use Rattle.ct_session.proofs.Places.{refused, accepted}
use Rattle.ct_session.proofs.session.Session.set.Goals as goal

pub returns-in_ok-copy-in-None-clause-answers : goal.returns-in_ok-copy-in-None-clause-answers
returns-in_ok-copy-in-None-clause-answers c = λ other.
    let there : c.as_slice.result.now ≡ c.args.self.now.state.variables = c.as_slice.ensures ∙ ap (λ (s : Seated). s.state.variables) c.self.view_is in
    rw (c.in_ok-copy-in-None.ensures, ← there) (refused c.as_slice.result.now c.args.name.now (sym c.in-None.ensures))

pub returns-in-Some-clause-answers : goal.returns-in-Some-clause-answers
returns-in-Some-clause-answers c =
    let there : c.as_slice.result.now ≡ c.args.self.now.state.variables = c.as_slice.ensures ∙ ap (λ (s : Seated). s.state.variables) c.self.view_is in
    rw (← there) (accepted c.as_slice.result.now c.args.name.now c.in-Some.place (sym c.in-Some.ensures))
