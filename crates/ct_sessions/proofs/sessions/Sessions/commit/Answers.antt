use Rattle.std.proofs.Common.{◌≡◌, ◌≤◌, ◌+◌, ◌++◌, ◌∷◌, [], ◌∙◌, length, true, ap, sym, subst, length-append, arith}
use Rattle.ct_sessions.specs.Holds.{Holds, IsNoted}
use Rattle.ct_sessions.specs.Seats.{SessionsState, any_view}
use Rattle.ct_sessions.proofs.Soundness.{sound_counts}
use Rattle.ct_sessions.proofs.Standing.{known_since, known_within, stands_later}
use Rattle.ct_sessions.proofs.sessions.Sessions.commit.Goals as goal

pub invariant_of-self : goal.invariant_of-self
invariant_of-self c =
    let inside = c.self.inside in
    let seats = c.self.inside.seats.items in
    let now : any_view c.as_slice.result.now ≡ any_view c.self.inside.seats.items = ap any_view c.as_slice.ensures.value in
    let kept : any_view c.self.inside.seats.items ≡ true → c.forget-self-inside.result ≡ c.self.inside.since = (λ some. (c.forget-self-inside.ensures.kept (now ∙ some)).0) in
    let before : c.self.inside.since ≤ c.self.inside.entries + 1 = let known = c.self.invariant.known in omega arith in
    sound_counts seats inside.locks inside.since c.forget-self-inside.result inside.entries c.self.invariant kept
    (known_within seats inside.since c.forget-self-inside.result (inside.entries + 1) kept (λ none. c.forget-self-inside.ensures.since (now ∙ none)) before)

pub returns-clause-holds : goal.returns-clause-holds
returns-clause-holds c = λ m entry noted holds.
    let inside = c.self.inside in
    let seats = c.self.inside.seats.items in
    let now : any_view c.as_slice.result.now ≡ any_view c.self.inside.seats.items = ap any_view c.as_slice.ensures.value in
    let noted_in = subst (λ (it : SessionsState). IsNoted it entry c.args.noted.later) (sym c.self.view_is) noted in
    let holds_in = subst (λ (it : SessionsState). Holds it m) (sym c.self.view_is) holds in
    let counted : c.self.inside.entries ≡ length m.past = holds_in.entries in
    let more : c.self.inside.entries + 1 ≡ length (m.past ++ entry ∷ []) = rw (length-append m.past (entry ∷ [])) (omega arith) in
    stands_later m entry seats inside.locks inside.locks inside.later c.forget-self-inside.new.later inside.since c.forget-self-inside.result inside.entries
    (known_since seats (m.past ++ entry ∷ []) c.args.noted.later c.forget-self-inside.new.later inside.since c.forget-self-inside.result (inside.entries + 1)
    (λ some. c.forget-self-inside.ensures.kept (now ∙ some)) (λ none. c.forget-self-inside.ensures.later (now ∙ none)) more
    (λ some. noted_in.later some m.past counted holds_in.later))
    holds_in
