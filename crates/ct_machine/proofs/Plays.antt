-- How plays go on, and that whole plays of the same statements are one.
use Rattle.std.proofs.Common.{◌≡◌, ℕ, Bool, true, false, ◌||◌, cond, List, [], ◌∷◌, ◌++◌, inl, inr, map, refl, sym, ap, subst, ◌∙◌}
use Rattle.ct_types.specs.declared.reply.Reply.{Reply}
use Rattle.ct_types.specs.declared.command.Command.{Command}
use Rattle.ct_types.specs.declared.command.Journaled.{Journaled}
use Rattle.ct_state.specs.Machine.{Machine}
use Rattle.ct_machine.specs.Play.{IsPlay, IsWhole, Follows, Call, after, call_of, end_of}
use Rattle.ct_state.specs.Replies.{is_memory}
use Rattle.ct_machine.specs.Step.{step}

pub IsPlay-push : (m : Machine) (journal : List Journaled) (one : Journaled) → IsPlay m journal → Follows (end_of m journal) one.session one.what one.reply → IsPlay m (journal ++ one ∷ [])
IsPlay-push m [] one play next = (next, tt)
IsPlay-push m (first ∷ journal) one play next = (play.0, IsPlay-push (after m first.session first.what first.reply) journal one play.1 next)

pub end_of-push : (m : Machine) (journal : List Journaled) (one : Journaled) → end_of m (journal ++ one ∷ []) ≡ after (end_of m journal) one.session one.what one.reply
end_of-push m [] one = refl
end_of-push m (first ∷ journal) one = end_of-push (after m first.session first.what first.reply) journal one

both_false : (a b : Bool) → a || b ≡ false → (a ≡ false) × (b ≡ false)
both_false true b e = cc
both_false false b e = (refl, e)

-- a reply that does not say so is the machine's own
own : (m : Machine) (s : ℕ) (what : Command) (reply : Reply) → Follows m s what reply → is_memory reply ≡ false → reply ≡ (step m s what).1
own m s what reply follows whole = elim follows [ inl wanting ↦ absurd (different wanting whole) | inr e ↦ e ]
  where
    different : is_memory reply ≡ true → is_memory reply ≡ false → ⊥
    different a b = cc

same_entry : (a b : Journaled) → a.session ≡ b.session → a.number ≡ b.number → a.what ≡ b.what → a.reply ≡ b.reply → a ≡ b
same_entry a b s n w r =
    ap (λ x. record a { session = x }) s
    ∙ ap (λ x. record a { session = b.session; number = x }) n
    ∙ ap (λ x. record a { session = b.session; number = b.number; what = x }) w
    ∙ ap (λ x. record b { reply = x }) r

next_machine : (m : Machine) (s : ℕ) (what : Command) (reply : Reply) → is_memory reply ≡ false → after m s what reply ≡ (step m s what).0
next_machine m s what reply whole = ap (λ b. cond b m (step m s what).0) whole

nil_is_not_cons : {x : Call} {xs : List Call} → [] ≡ x ∷ xs → ⊥
nil_is_not_cons e = cc

heads : {x y : Call} {xs ys : List Call} → x ∷ xs ≡ y ∷ ys → x ≡ y
heads e = cc

tails : {x y : Call} {xs ys : List Call} → x ∷ xs ≡ y ∷ ys → xs ≡ ys
tails e = cc

pub whole_plays : (m : Machine) (journal other : List Journaled) → map call_of journal ≡ map call_of other
    → IsPlay m journal → IsPlay m other → IsWhole journal → IsWhole other → journal ≡ other
whole_plays m [] [] e f g w v = refl
whole_plays m [] (b ∷ ks) e f g w v = absurd (nil_is_not_cons e)
whole_plays m (a ∷ js) [] e f g w v = absurd (nil_is_not_cons (sym e))
whole_plays m (a ∷ js) (b ∷ ks) e f g w v =
    let same : call_of a ≡ call_of b = heads e in
    let session : a.session ≡ b.session = ap (λ x. x.session) same in
    let what : a.what ≡ b.what = ap (λ x. x.what) same in
    let wa = both_false (is_memory a.reply) _ w in
    let wb = both_false (is_memory b.reply) _ v in
    let steps : step m a.session a.what ≡ step m b.session b.what = ap (λ s. step m s a.what) session ∙ ap (λ x. step m b.session x) what in
    let ra : a.reply ≡ (step m b.session b.what).1 = own m a.session a.what a.reply f.0 wa.0 ∙ ap (λ x. x.1) steps in
    let rb : b.reply ≡ (step m b.session b.what).1 = own m b.session b.what b.reply g.0 wb.0 in
    let na : after m a.session a.what a.reply ≡ (step m b.session b.what).0 = next_machine m a.session a.what a.reply wa.0 ∙ ap (λ x. x.0) steps in
    let nb : after m b.session b.what b.reply ≡ (step m b.session b.what).0 = next_machine m b.session b.what b.reply wb.0 in
    let rest : js ≡ ks = whole_plays (step m b.session b.what).0 js ks (tails e) (subst (λ x. IsPlay x js) na f.1) (subst (λ x. IsPlay x ks) nb g.1) wa.1 wb.1 in
    let head : a ≡ b = same_entry a b session (ap (λ x. x.number) same) what (ra ∙ sym rb) in
    ap (λ x. x ∷ js) head ∙ ap (λ xs. b ∷ xs) rest
