-- What functions, sums and lists come to is representable.
use Rattle.std.proofs.Common.{◌≡◌, ℕ, zero, suc, ◌^◌, ◌<◌, ℤ, pos, negsuc, ◌+ℤ◌, ◌-ℤ◌, ◌*ℤ◌, Bool, true, false, List, [], ◌∷◌, Option, Some, None, Ok, Err, refl, if◌then◌else◌, nat_lt, nat_le, ◌&&◌, arith}
use Rattle.std.proofs.lemmas.Bool.{and_parts, leb-true}
use Rattle.std.proofs.lemmas.Bool.Decides.{nat_tests}
use Rattle.std.proofs.lemmas.Int.{ints}
use Rattle.std.specs.List.{slice_get}
use Rattle.std.specs.Option.{option_map, option_and_then}
use Rattle.std.specs.Prelude.{codes}
use Rattle.ct_types.specs.ColumnFit.{IsBigInt}
use Rattle.ct_types.specs.declared.catalogue.Catalogued.{Catalogued}
use Rattle.ct_types.specs.declared.refusal.Refusal.TheVariants.{Overflow}
use Rattle.ct_types.specs.declared.value.Value.{Value}
use Rattle.ct_types.specs.declared.value.Value.TheVariants as v
use Rattle.ct_types.specs.Answers.{Answer, ◌>>=◌, or_refuse}
use Rattle.ct_mask.specs.Masks.{reads}
use Rattle.ct_bind_names.specs.Names.{same}
use Rattle.ct_bind_names.specs.Numbers.{literal, number_of, within}
use Rattle.ct_expr.specs.Numbers.{fits_64, number, on_numbers, negative, plus, minus}
use Rattle.ct_expr.specs.Functions.{or_null, counted_or_null, bytes_or_null, if_null, object_id, table_of, column_id, column_property, minimum_of, min_valid_version, is_column_in_mask, one_or_zero}
use Rattle.ct_expr.specs.Meaning.{Meaning, Operand, chain, multiplied, added}
use Rattle.ct_expr.specs.Tables.{table_named}
use Rattle.ct_types.proofs.AnswersKept.{Kept, ok_kept, err_kept, then_kept, after_kept}
use Rattle.ct_value_laws.specs.Values.{IsRepresentable, AreRepresentable}

abbrev pub Fine : Answer Value → Type 0
Fine answer = Kept IsRepresentable answer

pub fine : (x : Value) → IsRepresentable x → Fine (Ok x)
fine x is = ok_kept IsRepresentable x is

-- ---- numbers

lt_of : (a b : ℕ) → nat_lt a b ≡ true → a < b
lt_of a b e = grind (arith, nat_tests)

big_int : (n : ℤ) → fits_64 n ≡ true → IsBigInt n
big_int (pos n) e = let small : n < 2 ^ 63 = lt_of n (2 ^ 63) e in (omega (arith, ints, small), omega (arith, ints, small))
big_int (negsuc n) e = let small : n < 2 ^ 63 = lt_of n (2 ^ 63) e in (omega (arith, ints, small), omega (arith, ints, small))

if_it_fits : (test : Bool) (n : ℤ) → (test ≡ true → IsBigInt n) → Fine (if test then Ok (v.Int n) else Err Overflow)
if_it_fits true n is = fine (v.Int n) (is refl)
if_it_fits false n is = err_kept IsRepresentable Overflow

number_fine : (n : ℤ) → Fine (number n)
number_fine n = if_it_fits (fits_64 n) n (big_int n)

pub on_numbers_fine : (f : ℤ → ℤ → ℤ) (a b : Value) → Fine (on_numbers f a b)
on_numbers_fine f (v.Int a) (v.Int b) = number_fine (f a b)
on_numbers_fine f a b = fine v.Null tt

pub negative_fine : (a : Value) → Fine (negative a)
negative_fine (v.Int a) = number_fine (pos 0 -ℤ a)
negative_fine a = fine v.Null tt

-- ---- functions

number_or_null : (test : Bool) (n : ℤ) → (test ≡ true → IsBigInt n) → IsRepresentable (if test then v.Int n else v.Null)
number_or_null true n is = is refl
number_or_null false n is = tt

pub counted_fits : (o : Option ℕ) → IsRepresentable (counted_or_null o)
counted_fits None = tt
counted_fits (Some n) = number_or_null (nat_lt n (2 ^ 63)) (pos n) (big_int (pos n))

pub bytes_fit : (o : Option (List ℕ)) → IsRepresentable (bytes_or_null o)
bytes_fit None = tt
bytes_fit (Some bytes) = tt

one_or_zero_fits : (test : Bool) → IsRepresentable (one_or_zero test)
one_or_zero_fits true = big_int (pos 1) refl
one_or_zero_fits false = big_int (pos 0) refl

pub object_id_fits : (tables : List Catalogued) (x : Value) → IsRepresentable (object_id tables x)
object_id_fits tables v.Null = tt
object_id_fits tables (v.Int n) = tt
object_id_fits tables (v.Text name) = counted_fits (option_map (λ table. table.schema.id) (table_named tables name))
object_id_fits tables (v.Bytes b) = tt

pub min_valid_version_fits : (tables : List Catalogued) (x : Value) → IsRepresentable (min_valid_version tables x)
min_valid_version_fits tables v.Null = tt
min_valid_version_fits tables (v.Int id) = counted_fits (option_and_then minimum_of (table_of tables id))
min_valid_version_fits tables (v.Text t) = tt
min_valid_version_fits tables (v.Bytes b) = tt

pub in_mask_fits : (x y : Value) → IsRepresentable (is_column_in_mask x y)
in_mask_fits (v.Int id) v.Null = one_or_zero_fits (reads None id)
in_mask_fits (v.Int id) (v.Bytes mask) = one_or_zero_fits (reads (Some mask) id)
in_mask_fits x y = tt

counted_if : (test : Bool) (o : Option ℕ) → IsRepresentable (if test then counted_or_null o else v.Null)
counted_if true o = counted_fits o
counted_if false o = tt

pub property_fits : (tables : List Catalogued) (x y z : Value) → IsRepresentable (column_property tables x y z)
property_fits tables (v.Int table) (v.Text column) (v.Text property) =
    counted_if (same property (codes "ColumnId")) (option_and_then (column_id column) (table_of tables table))
property_fits tables x y z = tt

pub if_null_fits : (x y : Value) → IsRepresentable x → IsRepresentable y → IsRepresentable (if_null x y)
if_null_fits v.Null y fx fy = fy
if_null_fits (v.Int n) y fx fy = fx
if_null_fits (v.Text t) y fx fy = fx
if_null_fits (v.Bytes b) y fx fy = fx

-- ---- the value at a place

pub at_place : (values : List Value) (at : ℕ) → AreRepresentable values → IsRepresentable (or_null (slice_get values at))
at_place [] at are = tt
at_place (x ∷ values) zero are = are.0
at_place (x ∷ values) (suc at) are = at_place values at are.1

-- ---- chains

pub chain_fine : {X : Type 0} (step : Value → X → Answer Value) → ((so_far : Value) (x : X) → Fine (step so_far x))
    → (so_far : Value) → IsRepresentable so_far → (all : List X) → Fine (chain step so_far all)
chain_fine step steps so_far fits [] = fine so_far fits
chain_fine step steps so_far fits (x ∷ more) = then_kept IsRepresentable IsRepresentable (step so_far x) _ (steps so_far x) (λ made fit. chain_fine step steps made fit more)

pub multiplied_fine : (so_far : Value) (factor : Meaning) → Fine (multiplied so_far factor)
multiplied_fine so_far factor = after_kept IsRepresentable factor.value _ (λ x. on_numbers_fine (λ a b. a *ℤ b) so_far x)

one_of_two : (subtracts : Bool) (so_far x : Value) → Fine (if subtracts then minus so_far x else plus so_far x)
one_of_two true so_far x = on_numbers_fine (λ a b. a -ℤ b) so_far x
one_of_two false so_far x = on_numbers_fine (λ a b. a +ℤ b) so_far x

pub added_fine : (so_far : Value) (operand : Operand) → Fine (added so_far operand)
added_fine so_far operand = after_kept IsRepresentable operand.meaning.value _ (λ x. one_of_two operand.subtracts so_far x)

-- ---- literals

pub one_fits : IsRepresentable (v.Int (pos 1))
one_fits = big_int (pos 1) refl

-- a literal has 63 bits
most_fits : (n : ℕ) → (nat_le 0 n && nat_le n 9223372036854775807) ≡ true → IsBigInt (pos n)
most_fits n e =
    let small = leb-true n 9223372036854775807 (and_parts (nat_le 0 n) (nat_le n 9223372036854775807) e).1 in
    (omega (arith, ints, small), omega (arith, ints, small))

in_range_fits : (test : Bool) (n : ℕ) → (test ≡ true → IsBigInt (pos n)) → Kept IsBigInt (or_refuse (if test then Some n else None) Overflow >>= (λ n. Ok (pos n)))
in_range_fits true n is = ok_kept IsBigInt (pos n) (is refl)
in_range_fits false n is = err_kept IsBigInt Overflow

pub literal_fits : (digits : List ℕ) → Kept IsBigInt (literal digits)
unfolding literal within
literal_fits digits = in_range_fits (nat_le 0 (number_of digits) && nat_le (number_of digits) 9223372036854775807) (number_of digits) (most_fits (number_of digits))
