use Rattle.std.proofs.Common.{◌≡◌, ◌∙◌, true, ap}
use Rattle.ct_sessions.specs.Seats.{any_view}
use Rattle.ct_sessions.proofs.Soundness.{sound_ends}
use Rattle.ct_sessions.proofs.Standing.{known_within}
use Rattle.ct_sessions.proofs.sessions.Sessions.end.Goals as goal

pub invariant_of-self : goal.invariant_of-self
invariant_of-self c =
    let inside = c.self.inside in
    let now : any_view c.as_slice.result.now ≡ any_view c.end.new.seats.items = ap any_view c.as_slice.ensures.value in
    let kept : any_view c.end.new.seats.items ≡ true → c.forget-self-inside.result ≡ c.self.inside.since = (λ some. (c.forget-self-inside.ensures.kept (now ∙ some)).0) in
    sound_ends inside.seats.items c.end.new.seats.items inside.locks c.release.new.self inside.since c.forget-self-inside.result inside.entries c.args.number c.self.invariant c.end.ensures c.release.ensures kept
    (known_within c.end.new.seats.items inside.since c.forget-self-inside.result inside.entries kept (λ none. c.forget-self-inside.ensures.since (now ∙ none)) c.self.invariant.known)
