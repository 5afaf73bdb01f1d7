-- Numbers that do not fit 64 bits are refused, and nothing else is.
use Rattle.std.proofs.Common.{◌≡◌, ℕ, ◌^◌, ◌≤◌, ℤ, pos, negsuc, ◌-ℤ◌, Bool, true, false, nat_lt, if◌then◌else◌, Ok, Err, refl, arith}
use Rattle.std.proofs.lemmas.Bool.Decides.{nat_tests}
use Rattle.std.proofs.lemmas.Int.{ints}
use Rattle.ct_types.specs.ColumnFit.{IsBigInt}
use Rattle.ct_types.specs.declared.refusal.Refusal.{Refusal}
use Rattle.ct_types.specs.declared.refusal.Refusal.TheVariants.{Overflow}
use Rattle.ct_types.specs.declared.value.Value.{Value}
use Rattle.ct_types.specs.declared.value.Value.TheVariants.{Null, Int, Text, Bytes}
use Rattle.ct_types.proofs.AnswersCaused.{Caused, ok_caused, err_caused}
use Rattle.ct_expr.specs.Numbers.{fits_64, number, on_numbers, negative}

not_below : (a b : ℕ) → nat_lt a b ≡ false → b ≤ a
not_below a b e = grind (arith, nat_tests)

leaves : (n : ℤ) → fits_64 n ≡ false → ¬ IsBigInt n
leaves (pos n) e is = let far : 2 ^ 63 ≤ n = not_below n (2 ^ 63) e in absurd (omega (arith, ints, is.1, far))
leaves (negsuc n) e is = let far : 2 ^ 63 ≤ n = not_below n (2 ^ 63) e in absurd (omega (arith, ints, is.0, far))

pub number_caused : {Cause : Refusal → Type 0} (n : ℤ) → (¬ IsBigInt n → Cause Overflow) → Caused Cause (number n)
number_caused {Cause = Cause} n cause =
    let step : (b : Bool) → fits_64 n ≡ b → Caused Cause (if b then Ok (Int n) else Err Overflow) =
    elim [ true ↦ (λ e. ok_caused (Int n)) | false ↦ (λ e. err_caused Overflow (cause (leaves n e))) ] in
    step (fits_64 n) refl

-- two values, where two numbers that give none have the cause
pub on_numbers_caused : {Cause : Refusal → Type 0} (f : ℤ → ℤ → ℤ) (a b : Value) → ((m n : ℤ) → a ≡ Int m → b ≡ Int n → ¬ IsBigInt (f m n) → Cause Overflow) → Caused Cause (on_numbers f a b)
on_numbers_caused f (Int m) (Int n) cause = number_caused (f m n) (cause m n refl refl)
on_numbers_caused f (Int m) Null cause = ok_caused Null
on_numbers_caused f (Int m) (Text t) cause = ok_caused Null
on_numbers_caused f (Int m) (Bytes b) cause = ok_caused Null
on_numbers_caused f Null b cause = ok_caused Null
on_numbers_caused f (Text t) b cause = ok_caused Null
on_numbers_caused f (Bytes t) b cause = ok_caused Null

pub negative_caused : {Cause : Refusal → Type 0} (a : Value) → ((n : ℤ) → a ≡ Int n → ¬ IsBigInt (pos 0 -ℤ n) → Cause Overflow) → Caused Cause (negative a)
negative_caused (Int n) cause = number_caused (pos 0 -ℤ n) (cause n refl)
negative_caused Null cause = ok_caused Null
negative_caused (Text t) cause = ok_caused Null
negative_caused (Bytes b) cause = ok_caused Null
