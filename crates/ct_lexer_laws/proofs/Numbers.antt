-- Numbers are read back, and were written so.
use Rattle.std.proofs.Common.{◌≡◌, ℕ, ◌^◌, ◌<◌, true, false, List, [], ◌∷◌, ◌++◌, length, replicate, decimal, refl, ◌∙◌, subst, arith, length-append}
use Rattle.std.specs.Prelude.{◌==◌, ◌||◌}
use Rattle.std.specs.Int.{is_in_range}
use Rattle.std.proofs.lemmas.Bool.{and_right, or_from, or_parts, ne_eqb, both_ways}
use Rattle.std.proofs.lemmas.Fmt.{digits_decimal, digits_value-decimal, decimal_nonempty}
use Rattle.std.proofs.lemmas.List.Elements.{All-append, All-head, All-replicate, All-tail}
use Rattle.ct_lexer.specs.declared.byte.ByteClass.TheVariants as byte
use Rattle.ct_lexer.specs.declared.token.TokenKind.TheVariants as kind
use Rattle.ct_lexer.specs.Bytes.{belongs, starts, AllOf, Stops}
use Rattle.ct_lexer.specs.Tokens.{IsToken, begins_bytes}
use Rattle.ct_bind_names.specs.Numbers.{number_of}
use Rattle.ct_lexer_laws.specs.Laws.{with_zeros, NumbersAreReadBack, NumbersWereWritten}
use Rattle.ct_lexer_laws.proofs.Lone.{read_as}
use Rattle.ct_lexer_laws.proofs.Numerals.{IsDigit, range_of, numerals, zeros_first, written_so, literal_is}

-- ---- what follows a number

digit_marks_not : (b : ℕ) → IsDigit b → belongs byte.BytesMark b ≡ false
digit_marks_not b h =
    let range = range_of b h in
    or_from (b == 120) (b == 88) (ne_eqb b 120 (λ e. omega (arith, range.0, range.1))) (ne_eqb b 88 (λ e. omega (arith, range.0, range.1)))

-- what is no byte of a name is no mark of bytes, and no digit
other_marks_not : (b : ℕ) → belongs byte.Name b ≡ false → belongs byte.BytesMark b ≡ false
other_marks_not b h =
    let not : (n : ℕ) → belongs byte.Name n ≡ true → (b == n) ≡ false = λ n is. ne_eqb b n (λ e. both_ways (belongs byte.Name n) (subst (λ (m : ℕ). belongs byte.Name m ≡ false) e h) is) in
    or_from (b == 120) (b == 88) (not 120 refl) (not 88 refl)

other_is_no_digit : (b : ℕ) → belongs byte.Name b ≡ false → belongs byte.Digit b ≡ false
other_is_no_digit b h =
    let name = or_parts ((belongs byte.Digit b || is_in_range 65 90 b) || is_in_range 97 122 b) (b == 95) h in
    let lower = or_parts (belongs byte.Digit b || is_in_range 65 90 b) (is_in_range 97 122 b) name.0 in
    (or_parts (belongs byte.Digit b) (is_in_range 65 90 b) lower.0).0

no_digit_behind : (more : List ℕ) → Stops byte.Name more → Stops byte.Digit more
no_digit_behind [] stops = refl
no_digit_behind (b ∷ more) stops = other_is_no_digit b stops

no_mark_behind : (word more : List ℕ) → AllOf byte.Digit word → Stops byte.Name more → starts byte.BytesMark (word ++ more) ≡ false
no_mark_behind [] [] all stops = refl
no_mark_behind [] (b ∷ more) all stops = other_marks_not b stops
no_mark_behind (b ∷ word) more all stops = digit_marks_not b (All-head IsDigit b word all)

no_bytes : (word more : List ℕ) → AllOf byte.Digit word → 0 < length word → Stops byte.Name more → begins_bytes (word ++ more) ≡ false
no_bytes [] more all some stops = absurd (omega arith)
no_bytes (b ∷ word) more all some stops = and_right (b == 48) (starts byte.BytesMark (word ++ more)) (no_mark_behind word more (All-tail IsDigit b word all) stops)

is_number : (word more : List ℕ) → AllOf byte.Digit word → 0 < length word → Stops byte.Name more → IsToken kind.Number word more
is_number word more all some stops = (record { some = some; bytes = all; whole = no_digit_behind more stops }, no_bytes word more all some stops)

-- ---- a number that is written

all_digits : (count n : ℕ) → n < 2 ^ 64 → AllOf byte.Digit (with_zeros count n)
all_digits count n small = All-append IsDigit (replicate count 48) (decimal n) (All-replicate IsDigit count 48 refl) (digits_decimal numerals n small)

some_digit : (count n : ℕ) → n < 2 ^ 64 → 0 < length (with_zeros count n)
some_digit count n small = omega (arith, length-append (replicate count 48) (decimal n), decimal_nonempty n small)

pub numbers_are_read_back : NumbersAreReadBack
numbers_are_read_back count n small =
    let wide : n < 2 ^ 64 = omega arith in
    let is : number_of (with_zeros count n) ≡ n = zeros_first count (decimal n) ∙ digits_value-decimal numerals n wide in (
      read_as kind.Number byte.Name (with_zeros count n) (λ more stops. is_number (with_zeros count n) more (all_digits count n wide) (some_digit count n wide) stops),
      literal_is (with_zeros count n) n is small,
    )

pub numbers_were_written : NumbersWereWritten
numbers_were_written word more token small = written_so word token.0.bytes token.0.some small
