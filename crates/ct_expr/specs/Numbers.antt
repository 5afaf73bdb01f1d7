-- Sums, differences, products, signs and comparisons of values, as in T-SQL: NULL in arithmetic gives NULL, in a
-- comparison unknown. That all numbers have 64 bits is this project's own.
use Rattle.std.specs.Prelude.{◌^◌, ℤ, pos, negsuc, ◌+ℤ◌, ◌-ℤ◌, ◌*ℤ◌, Bool, true, false, nat_lt, if◌then◌else◌, Option, Some, None, Ok, Err}
use Rattle.std.specs.declared.cmp.Ordering.{Ordering}
use Rattle.std.specs.declared.cmp.Ordering.TheVariants.{Less, Equal, Greater}
use Rattle.ct_types.specs.declared.expr.Comparison.{Comparison}
use Rattle.ct_types.specs.declared.expr.Comparison.TheVariants as comparison
use Rattle.ct_types.specs.declared.value.Value.{Value}
use Rattle.ct_types.specs.declared.value.Value.TheVariants.{Null, Int, Text, Bytes}
use Rattle.ct_types.specs.declared.refusal.Refusal.TheVariants.{Overflow}
use Rattle.ct_types.specs.Order.{value_cmp}
use Rattle.ct_types.specs.Answers.{Answer}
use Rattle.ct_expr.specs.Logic.{Truth}

-- from -2^63 to 2^63 - 1; `negsuc n` is -(n + 1)
abbrev pub fits_64 : ℤ → Bool
fits_64 (pos n) = nat_lt n (2 ^ 63)
fits_64 (negsuc n) = nat_lt n (2 ^ 63)

abbrev pub number : ℤ → Answer Value
number n = if fits_64 n then Ok (Int n) else Err Overflow

-- a number, if there is one that fits
abbrev pub checked : Option ℤ → Answer Value
checked None = Err Overflow
checked (Some n) = Ok (Int n)

-- Two numbers give one. All else gives NULL: one of the two is NULL in each expression that is well formed.
abbrev pub on_numbers : (ℤ → ℤ → ℤ) → Value → Value → Answer Value
on_numbers f (Int a) (Int b) = number (f a b)
on_numbers f a b = Ok Null

abbrev pub plus : Value → Value → Answer Value
plus = on_numbers (λ a b. a +ℤ b)

abbrev pub minus : Value → Value → Answer Value
minus = on_numbers (λ a b. a -ℤ b)

abbrev pub times : Value → Value → Answer Value
times = on_numbers (λ a b. a *ℤ b)

abbrev pub negative : Value → Answer Value
negative (Int a) = number (pos 0 -ℤ a)
negative v = Ok Null

-- whether a comparison holds of two values that stand so in the order of values
abbrev pub holds : Comparison → Ordering → Bool
holds comparison.Equal Less = false
holds comparison.Equal Equal = true
holds comparison.Equal Greater = false
holds comparison.NotEqual Less = true
holds comparison.NotEqual Equal = false
holds comparison.NotEqual Greater = true
holds comparison.Less Less = true
holds comparison.Less Equal = false
holds comparison.Less Greater = false
holds comparison.AtMost Less = true
holds comparison.AtMost Equal = true
holds comparison.AtMost Greater = false
holds comparison.More Less = false
holds comparison.More Equal = false
holds comparison.More Greater = true
holds comparison.AtLeast Less = false
holds comparison.AtLeast Equal = true
holds comparison.AtLeast Greater = true

abbrev pub is_null : Value → Bool
is_null Null = true
is_null (Int n) = false
is_null (Text t) = false
is_null (Bytes b) = false

-- unknown where either is NULL
abbrev pub compare : Comparison → Value → Value → Truth
compare operator a b = if is_null a then None else (if is_null b then None else Some (holds operator (value_cmp a b)))
