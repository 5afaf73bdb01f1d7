-- Bytes with a length, and lists with a count.
use Rattle.std.proofs.Common.{◌≡◌, ℕ, zero, suc, ◌^◌, ◌<◌, ◌≤◌, Bool, true, false, cond, List, [], ◌∷◌, ◌++◌, length, take, drop, Option, Some, None, refl, sym, ◌∙◌, ap, subst, arith, append_assoc, length-append, take-append-drop}
use Rattle.std.specs.Prelude.{nat_le}
use Rattle.std.specs.List.{AllByRecursion, flat_map}
use Rattle.std.specs.Str.{IsUtf8, is_utf8}
use Rattle.std.proofs.lemmas.Str.{IsUtf8-from_is_utf8, is_utf8-from_IsUtf8}
use Rattle.std.proofs.lemmas.Bool.Decides.{nat_tests}
use Rattle.std.proofs.lemmas.List.{take_at, drop_at, length-take-le}
use Rattle.ct_codec.specs.Readers.{Outcome, Reader, and_then, pure, making, taken, repeated, counted, measured, if_utf8, text}
use Rattle.ct_codec.specs.Spellings.{IsIn, spell_counted, CountedFit, spell_measured, TextFits}
use Rattle.ct_codec.specs.Codes.{IsCode}
use Rattle.ct_codec.proofs.Combined.{steps_of, some_same, found_same, law_then, law_choosing, law_as}
use Rattle.ct_codec.proofs.Numbers.{law_number}

was_taken : (n : ℕ) (bytes l rest : List ℕ) (t : Bool) → (t ≡ true → n ≤ length bytes) → cond {A = Outcome (List ℕ)} t (Some (take n bytes, drop n bytes)) None ≡ Some (l, rest) → (bytes ≡ l ++ rest) × (length l ≡ n)
was_taken n bytes l rest true enough e =
    let same = found_same (take n bytes) l (drop n bytes) rest e in
    (sym (take-append-drop n bytes) ∙ (λ i. same.0 i ++ same.1 i), ap length (sym same.0) ∙ length-take-le n bytes (enough refl))
was_taken n bytes l rest false enough e = absurd (cc e)

pub law_taken : (n : ℕ) → IsCode (taken n) (λ l. l) (λ l. length l ≡ n)
unfolding taken
law_taken n = record {
  sound = λ bytes rest l e. was_taken n bytes l rest (nat_le n (length bytes)) (λ t. grind (arith, nat_tests)) e;
  complete = λ l rest f.
      let enough : nat_le n (length (l ++ rest)) ≡ true = grind (arith, nat_tests, f, length-append l rest) in
      ap (λ t. cond {A = Outcome (List ℕ)} t (Some (take n (l ++ rest), drop n (l ++ rest))) None) enough
      ∙ (λ i. Some (take_at l rest n f i, drop_at l rest n f i));
}

pub law_measured : (size : ℕ) → IsCode (measured size) (spell_measured size) (λ l. IsIn size (length l))
law_measured size = law_then length (λ l f. f) (law_number size) (λ n small. law_as (λ l f. (refl, (f, subst (λ m. m < 256 ^ size) (sym f) small))) (λ l f. f.0) (law_taken n))

pub law_text : (size : ℕ) → IsCode (text size) (spell_measured size) (TextFits size)
law_text size = law_choosing if_utf8 (λ t. t) (λ a b f e. let h = was_utf8 a b (is_utf8 a) refl e in (sym h.0, subst (TextFits size) h.0 (f, h.1))) (λ t f. (is_chosen t f.1, f.0)) (law_measured size)
  where
    was_utf8 : (a b : List ℕ) (t : Bool) → is_utf8 a ≡ t → cond {A = Option (List ℕ)} t (Some a) None ≡ Some b → (a ≡ b) × IsUtf8 a
    was_utf8 a b true is e = (some_same a b e, IsUtf8-from_is_utf8 a is)
    was_utf8 a b false is e = absurd (cc e)

    is_chosen : (t : List ℕ) → IsUtf8 t → if_utf8 t ≡ Some t
    is_chosen t f = ap (λ b. cond {A = Option (List ℕ)} b (Some t) None) (is_utf8-from_IsUtf8 t f)

repeated_sound : {A : Type 0} {reader : Reader A} {s : A → List ℕ} {F : A → Type 0} → IsCode reader s F → (n : ℕ) (bytes rest : List ℕ) (l : List A) → repeated reader n bytes ≡ Some (l, rest)
    → (bytes ≡ flat_map s l ++ rest) × ((length l ≡ n) × AllByRecursion F l)
unfolding repeated
repeated_sound {s = s} {F = F} law zero bytes rest l e =
    let same = found_same [] l bytes rest e in
    subst (λ l. (bytes ≡ flat_map s l ++ rest) × ((length l ≡ 0) × AllByRecursion F l)) same.0 (same.1, (refl, tt))
repeated_sound {reader = reader} {s = s} {F = F} law (suc n) bytes rest l e =
    let steps = steps_of (reader bytes) (λ a. making (λ more. a ∷ more) (repeated reader n)) l rest e in
    let inner = steps_of (repeated reader n steps.between) (λ more. pure (steps.first ∷ more)) l rest steps.second in
    let same = found_same (steps.first ∷ inner.first) l inner.between rest inner.second in
    let one = law.sound bytes steps.between steps.first steps.is in
    let two = repeated_sound law n steps.between inner.between inner.first inner.is in
    subst (λ l. (bytes ≡ flat_map s l ++ rest) × ((length l ≡ suc n) × AllByRecursion F l)) same.0 (
      one.0 ∙ ap (λ r. s steps.first ++ r) (two.0 ∙ ap (λ r. flat_map s inner.first ++ r) same.1) ∙ sym (append_assoc (s steps.first) (flat_map s inner.first) rest),
      (omega (arith, two.1.0), (one.1, two.1.1)),
    )

repeated_complete : {A : Type 0} {reader : Reader A} {s : A → List ℕ} {F : A → Type 0} → IsCode reader s F → (n : ℕ) (l : List A) (rest : List ℕ) → (length l ≡ n) × AllByRecursion F l
    → repeated reader n (flat_map s l ++ rest) ≡ Some (l, rest)
unfolding repeated
repeated_complete law zero [] rest f = refl
repeated_complete law zero (a ∷ more) rest f = absurd (omega (arith, f.0))
repeated_complete law (suc n) [] rest f = absurd (omega (arith, f.0))
repeated_complete {reader = reader} {s = s} law (suc n) (a ∷ more) rest f =
    ap (λ l. and_then (reader l) (λ a. making (λ l. a ∷ l) (repeated reader n))) (append_assoc (s a) (flat_map s more) rest)
    ∙ ap (λ o. and_then o (λ a. making (λ l. a ∷ l) (repeated reader n))) (law.complete a (flat_map s more ++ rest) f.1.0)
    ∙ ap (λ o. and_then o (λ more. pure (a ∷ more))) (repeated_complete law n more rest (omega (arith, f.0), f.1.1))

pub law_counted : {A : Type 0} {reader : Reader A} {s : A → List ℕ} {F : A → Type 0} (size : ℕ) → IsCode reader s F → IsCode (counted size reader) (spell_counted size s) (CountedFit size F)
law_counted {s = s} size law = law_then length (λ l f. f.0) (law_number size) (λ n small.
    law_as (λ l f. (refl, (f.0, (subst (λ m. m < 256 ^ size) (sym f.0) small, f.1)))) (λ l f. (f.0, f.1.1)) (record { sound = repeated_sound law n; complete = repeated_complete law n }))

pub not_utf8 : (bytes : List ℕ) → ¬ IsUtf8 bytes → is_utf8 bytes ≡ false
not_utf8 bytes never = by (is_utf8 bytes) refl
  where
    by : (t : Bool) → is_utf8 bytes ≡ t → t ≡ false
    by true is = absurd (never (IsUtf8-from_is_utf8 bytes is))
    by false is = refl
