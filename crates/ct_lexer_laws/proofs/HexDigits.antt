-- The hexadecimal digits of both cases, each looked up once.
use Rattle.std.proofs.Common.{◌≡◌, ℕ, zero, suc, ◌+◌, ◌<◌, Bool, true, false, not, ◌&&◌, ◌||◌, List, [], ◌∷◌, Option, Some, None, slice_get, nat_lt, codes, inl, inr, refl, sym, ap, ◌∙◌, ◌≢◌, subst, arith, eq-eqb}
use Rattle.std.specs.Prelude.{◌==◌}
use Rattle.std.proofs.lemmas.Bool.{eqb-true, ltb-true, or_cases, both_ways}
use Rattle.std.proofs.lemmas.Bool.Decides.{nat_tests}
use Rattle.ct_types.proofs.Tests.{both}
use Rattle.ct_lexer.specs.declared.byte.ByteClass.TheVariants as byte
use Rattle.ct_lexer.specs.Bytes.{belongs}
use Rattle.ct_grammar.specs.Words.{hex_digit}
use Rattle.ct_lexer_laws.specs.Laws.{IsDigitOf}

-- what is known of the hexadecimal digit of a number
pub record IsHex (n digit : ℕ) : Type 0 where
  pub digit_of : belongs byte.HexDigit digit ≡ true
  pub means : hex_digit digit ≡ n

-- ---- the digits of each number

-- those of a list are of the numbers from `at` on
are_from : ℕ → List ℕ → Bool
are_from at [] = true
are_from at (digit ∷ digits) = (belongs byte.HexDigit digit && (hex_digit digit == at)) && are_from (suc at) digits

found_in : (at : ℕ) (digits : List ℕ) (n digit : ℕ) → are_from at digits ≡ true → slice_get digits n ≡ Some digit → IsHex (at + n) digit
unfolding are_from
found_in at [] n digit are e = absurd cc
found_in at (first ∷ digits) zero digit are e =
    let same : first ≡ digit = cc in
    let here = both (belongs byte.HexDigit first) (hex_digit first == at) (both (belongs byte.HexDigit first && (hex_digit first == at)) (are_from (suc at) digits) are).0 in
    let sum : at ≡ at + zero = omega arith in
    subst (λ (d : ℕ). IsHex (at + zero) d) same (record { digit_of = here.0; means = eqb-true (hex_digit first) at here.1 ∙ sum })
found_in at (first ∷ digits) (suc n) digit are e =
    let it = found_in (suc at) digits n digit (both (belongs byte.HexDigit first && (hex_digit first == at)) (are_from (suc at) digits) are).1 e in
    let sum : suc at + n ≡ at + suc n = omega arith in
    subst (λ (m : ℕ). IsHex m digit) sum it

lower_are : are_from 0 (codes "0123456789abcdef") ≡ true
unfolding are_from
lower_are = refl

upper_are : are_from 0 (codes "0123456789ABCDEF") ≡ true
unfolding are_from
upper_are = refl

pub hex_of : (n digit : ℕ) → IsDigitOf n digit → IsHex n digit
hex_of n digit (inl e) = let sum : 0 + n ≡ n = omega arith in subst (λ (m : ℕ). IsHex m digit) sum (found_in 0 (codes "0123456789abcdef") n digit lower_are e)
hex_of n digit (inr e) = let sum : 0 + n ≡ n = omega arith in subst (λ (m : ℕ). IsHex m digit) sum (found_in 0 (codes "0123456789ABCDEF") n digit upper_are e)

-- ---- the number of each digit

is_at : Option ℕ → ℕ → Bool
is_at None digit = false
is_at (Some other) digit = other == digit

stands : (o : Option ℕ) (digit : ℕ) → is_at o digit ≡ true → o ≡ Some digit
unfolding is_at
stands None digit e = absurd cc
stands (Some other) digit e = ap Some (eqb-true other digit e)

-- a digit is the one of its number, in lower or upper case
is_found : ℕ → Bool
is_found digit =
    not (belongs byte.HexDigit digit)
    || (nat_lt (hex_digit digit) 16 && (is_at (slice_get (codes "0123456789abcdef") (hex_digit digit)) digit || is_at (slice_get (codes "0123456789ABCDEF") (hex_digit digit)) digit))

-- so is each below this number
all_below : (ℕ → Bool) → ℕ → Bool
all_below test zero = true
all_below test (suc n) = test n && all_below test n

below_passes : (test : ℕ → Bool) (n k : ℕ) → all_below test n ≡ true → k < n → test k ≡ true
unfolding all_below
below_passes test zero k all below = absurd (omega arith)
below_passes test (suc n) k all below =
    let parts = both (test n) (all_below test n) all in
    let step : (b : Bool) → (k == n) ≡ b → test k ≡ true =
    elim [
      | true ↦ (λ e. subst (λ (m : ℕ). test m ≡ true) (sym (eqb-true k n e)) parts.0)
      | false ↦ (λ e. let other : k ≢ n = λ same. both_ways (k == n) e (eq-eqb k n same) in below_passes test n k parts.1 (omega arith))
    ] in
    step (k == n) refl

all_found : all_below is_found 103 ≡ true
unfolding all_below is_found is_at
all_found = refl

hex_low : (digit : ℕ) → belongs byte.HexDigit digit ≡ true → digit < 103
hex_low digit h = grind (arith, nat_tests)

pub record HasNumber (digit : ℕ) : Type 0 where
  pub small : hex_digit digit < 16
  pub is : IsDigitOf (hex_digit digit) digit

number_if : (digit : ℕ) (test : Bool) → test ≡ true
    → (not test || (nat_lt (hex_digit digit) 16 && (is_at (slice_get (codes "0123456789abcdef") (hex_digit digit)) digit || is_at (slice_get (codes "0123456789ABCDEF") (hex_digit digit)) digit))) ≡ true
    → HasNumber digit
number_if digit false e all = absurd cc
number_if digit true e all =
    let parts = both (nat_lt (hex_digit digit) 16) _ all in
    record {
      small = ltb-true (hex_digit digit) 16 parts.0;
      is = elim (or_cases (is_at (slice_get (codes "0123456789abcdef") (hex_digit digit)) digit) (is_at (slice_get (codes "0123456789ABCDEF") (hex_digit digit)) digit) parts.1) [
        | inl lower ↦ inl (stands (slice_get (codes "0123456789abcdef") (hex_digit digit)) digit lower)
        | inr upper ↦ inr (stands (slice_get (codes "0123456789ABCDEF") (hex_digit digit)) digit upper)
      ];
    }

pub number_of_hex : (digit : ℕ) → belongs byte.HexDigit digit ≡ true → HasNumber digit
unfolding is_found
number_of_hex digit h = number_if digit (belongs byte.HexDigit digit) h (below_passes is_found 103 digit all_found (hex_low digit h))
