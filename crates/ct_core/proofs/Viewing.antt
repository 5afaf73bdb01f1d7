-- Where a session may take its view.
use Rattle.std.proofs.Common.{◌≡◌, ℕ, Bool, cond, Option, sym, ap, subst, ◌∙◌}
use Rattle.std.specs.Option.{IsSomeAnd}
use Rattle.ct_session.specs.Sessions.{SessionState}
use Rattle.ct_session.specs.declared.tran.Tran.TheVariants as tran
use Rattle.ct_sessions.specs.Changes.{Turns}
use Rattle.ct_sessions.specs.declared.own.Own.{Own}
use Rattle.ct_sessions.specs.Owns.{MayView}
use Rattle.ct_sessions.specs.Seats.{SessionsState, own_in, state_in}
use Rattle.ct_core.proofs.Turning.{itself}

-- a session that turned without another transaction may still take its view
pub turned_may : (old new : SessionsState) (n : ℕ) (make : SessionState → SessionState) → ((state : SessionState) → (make state).tran ≡ state.tran) → Turns old new n make → MayView old n → MayView new n
turned_may old new n make keeps turns may snapshot =
    let now : state_in new.seats n ≡ make (state_in old.seats n) = turns.states n ∙ ap (λ (test : Bool). cond test (make (state_in old.seats n)) (state_in old.seats n)) (itself n) in
    let was : (state_in old.seats n).tran ≡ tran.Snapshot = sym (keeps (state_in old.seats n)) ∙ ap (λ (state : SessionState). state.tran) (sym now) ∙ snapshot in
    subst (λ (own : Option Own). IsSomeAnd own (λ it. it.at ≡ new.entries)) (sym (turns.owns n)) (subst (λ (entries : ℕ). IsSomeAnd (own_in old.seats n) (λ it. it.at ≡ entries)) (sym turns.entries) (may was))
