use Rattle.std.proofs.Common.{◌≡◌, ◌∷◌, [], ◌++◌, sym, ◌∙◌, append_assoc, append-nil, refl, length, List, ℕ}
use Rattle.std.specs.Str.{chars}
use Rattle.std.proofs.lemmas.Str.{IsUtf8-past_char, chars_past_char, chars-nil}
use Rattle.ct_grammar.specs.declared.words.Place.{Place}
use Rattle.ct_grammar.specs.Words.{text_from, step, added}
use Rattle.ct_grammar.proofs.words.text_in.Goals as goal

next_from : (place : Place) (bs rest : List ℕ) (c : ℕ) → chars bs ≡ c ∷ chars rest → text_from place (chars bs) ≡ added (step place c).1 c ++ text_from (step place c).0 (chars rest)
unfolding text_from
next_from place bs rest c e = rw e refl

none_from : (place : Place) (bs : List ℕ) → length bs ≡ 0 → text_from place (chars bs) ≡ []
unfolding text_from
none_from place [] e = rw chars-nil refl
none_from place (b ∷ bs) e = cc

pub loop-c-preserved : goal.loop-c-preserved
loop-c-preserved c =
    let held = c.loop-c.invariant in
    let parts = c.in-Some.ensures.steps.0 in
    let next = next_from c.loop-c.place _ _ c.in-Some.c (chars_past_char _ _ c.in-Some.c held.0 parts) in
    (IsUtf8-past_char _ _ c.in-Some.c held.0 parts, rw (c.in_ok-push_if.ensures, c.step-next.ensures, append_assoc) (rw next at held.1))

pub returns : goal.returns
returns c = c.from_string.ensures ∙ sym (append-nil _) ∙ rw (none_from _ _ c.in-None.ensures.steps.0.0) at c.loop-c.invariant.1
