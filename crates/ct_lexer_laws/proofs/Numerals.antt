-- Digits, and the number that they spell.
use Rattle.std.proofs.Common.{◌≡◌, ℕ, zero, suc, ◌+◌, ◌-◌, ◌*◌, ◌^◌, ◌<◌, ◌≤◌, Bool, true, false, List, [], ◌∷◌, ◌++◌, length, replicate, pos, Some, None, Ok, nat_le, refl, sym, ap, ◌∙◌, subst, arith, if◌then◌else◌, eq-eqb}
use Rattle.std.specs.Prelude.{◌==◌}
use Rattle.std.specs.Int.{IsInRange}
use Rattle.std.proofs.lemmas.Bool.{and_parts, and_from, and_right, leb-true, eqb-true, both_ways}
use Rattle.std.proofs.lemmas.Bool.Decides.{nat_tests}
use Rattle.std.proofs.lemmas.Fmt.{decimal-digits_value}
use Rattle.std.proofs.lemmas.List.Elements.{All-nil, All-cons, All-head, All-tail}
use Rattle.std.proofs.lemmas.Str.Parse.{IsDigitsTest, IsNumeralModel, numerals_by_fold}
use Rattle.ct_types.specs.declared.refusal.Refusal.TheVariants.{Overflow}
use Rattle.ct_types.specs.Answers.{◌>>=◌, or_refuse}
use Rattle.ct_lexer.specs.declared.byte.ByteClass.TheVariants as byte
use Rattle.ct_lexer.specs.Bytes.{belongs, AllOf}
use Rattle.ct_bind_names.specs.Numbers.{number_from, number_of, in_range, within, literal}
use native.Mathlib.Nat.{pow-zero, pow-succ'}
use Rattle.ct_lexer_laws.specs.Laws.{with_zeros, DigitsCountByPlace, TooLargeOverflows}

abbrev pub IsDigit : ℕ → Type 0
IsDigit b = belongs byte.Digit b ≡ true

pub range_of : (b : ℕ) → IsDigit b → IsInRange 48 57 b
range_of b h = let p = and_parts _ _ h in (leb-true 48 b p.0, leb-true b 57 p.1)

digit_in : (b : ℕ) → IsInRange 48 57 b → IsDigit b
digit_in b range = let low : 48 ≤ b = range.0 in let high : b ≤ 57 = range.1 in grind (arith, nat_tests)

told : IsDigitsTest (AllOf byte.Digit)
told = record {
  empty = All-nil IsDigit;
  parts = λ b digits all. (range_of b (All-head IsDigit b digits all), All-tail IsDigit b digits all);
  more = λ b digits range all. All-cons IsDigit b digits (digit_in b range) all;
}

pub numerals : IsNumeralModel (AllOf byte.Digit) number_of
unfolding number_of
numerals = numerals_by_fold (AllOf byte.Digit) told number_from (record { empty = λ n. refl; more = λ n b digits range. refl })

-- ---- zeros in front

zero_first : (digits : List ℕ) → number_of (48 ∷ digits) ≡ number_of digits
unfolding number_of
zero_first digits = refl

pub zeros_first : (count : ℕ) (digits : List ℕ) → number_of (replicate count 48 ++ digits) ≡ number_of digits
zeros_first zero digits = refl
zeros_first (suc count) digits = zero_first (replicate count 48 ++ digits) ∙ zeros_first count digits

-- digits are zeros and a number in decimal
pub written_so : (digits : List ℕ) → AllOf byte.Digit digits → 0 < length digits → number_of digits < 2 ^ 63 → (count : ℕ) × (digits ≡ with_zeros count (number_of digits))
written_so [] all some small = absurd (omega arith)
written_so (d ∷ []) all some small =
    let small : number_of (d ∷ []) < 2 ^ 64 = omega arith in
    (0, sym (decimal-digits_value numerals (d ∷ []) all some (λ is. refl) small))
written_so (d ∷ e ∷ digits) all some small =
    let tail : AllOf byte.Digit (e ∷ digits) = All-tail IsDigit d (e ∷ digits) all in
    let rest : number_of (e ∷ digits) < 2 ^ 63 → (count : ℕ) × (e ∷ digits ≡ with_zeros count (number_of (e ∷ digits))) = written_so (e ∷ digits) tail (omega arith) in
    let step : (b : Bool) → (d == 48) ≡ b → (count : ℕ) × (d ∷ e ∷ digits ≡ with_zeros count (number_of (d ∷ e ∷ digits))) =
    elim [
      | true ↦
          (λ is. let zero : d ≡ 48 = eqb-true d 48 is in
          let same : number_of (d ∷ e ∷ digits) ≡ number_of (e ∷ digits) = ap (λ (n : ℕ). number_of (n ∷ e ∷ digits)) zero ∙ zero_first (e ∷ digits) in
          let it = rest (omega (arith, small, same)) in
          (suc it.0, ap (λ (n : ℕ). n ∷ e ∷ digits) zero ∙ (ap (λ (ds : List ℕ). 48 ∷ ds) it.1 ∙ ap (λ (n : ℕ). 48 ∷ with_zeros it.0 n) (sym same))))
      | false ↦
          (λ is. let within : number_of (d ∷ e ∷ digits) < 2 ^ 64 = omega arith in
          (0, sym (decimal-digits_value numerals (d ∷ e ∷ digits) all some (λ zero. absurd (both_ways (d == 48) is (eq-eqb d 48 zero))) within)))
    ] in
    step (d == 48) refl

-- ---- numbers of expressions

le_holds : (a b : ℕ) → a ≤ b → nat_le a b ≡ true
le_holds a b h = grind (arith, nat_tests)

le_fails : (a b : ℕ) → b < a → nat_le a b ≡ false
le_fails a b h = grind (arith, nat_tests)

pub literal_is : (digits : List ℕ) (n : ℕ) → number_of digits ≡ n → n < 2 ^ 63 → literal digits ≡ Ok (pos n)
unfolding literal within
literal_is digits n is small =
    ap (λ (m : ℕ). or_refuse (in_range 0 9223372036854775807 m) Overflow >>= (λ n. Ok (pos n))) is
    ∙ ap (λ (b : Bool). or_refuse (if b then Some n else None) Overflow >>= (λ n. Ok (pos n)))
    (and_from (nat_le 0 n) (nat_le n 9223372036854775807) (le_holds 0 n (omega arith)) (le_holds n 9223372036854775807 (omega arith)))

pub too_large_overflows : TooLargeOverflows
unfolding literal within
too_large_overflows digits large =
    ap (λ (b : Bool). or_refuse (if b then Some (number_of digits) else None) Overflow >>= (λ n. Ok (pos n)))
    (and_right (nat_le 0 (number_of digits)) (nat_le (number_of digits) 9223372036854775807) (le_fails (number_of digits) 9223372036854775807 (omega arith)))

-- ---- places

by_place : (n : ℕ) (digits : List ℕ) → number_from n digits ≡ n * 10 ^ length digits + number_from 0 digits
by_place n [] = omega (arith, ap (λ x. n * x) (pow-zero 10))
by_place n (d ∷ digits) =
    omega (arith, by_place (n * 10 + (d - 48)) digits, by_place (0 * 10 + (d - 48)) digits, ap (λ x. n * x) (pow-succ' 10 (length digits)))

pub digits_count_by_place : DigitsCountByPlace
unfolding number_of
digits_count_by_place = (
  refl,
  λ digit digits. let first : 0 * 10 + (digit - 48) ≡ digit - 48 = omega arith in
      subst (λ (n : ℕ). number_from n digits ≡ (digit - 48) * 10 ^ length digits + number_from 0 digits) (sym first) (by_place (digit - 48) digits),
)
