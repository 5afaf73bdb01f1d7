-- A representable value that passes the fit of a column is one that fits it.
use Rattle.std.proofs.Common.{◌≡◌, ℕ, ◌<◌, ◌≤◌, ◌^◌, ℤ, pos, negsuc, nat_lt, nat_le, Bool, true, false, List, [], ◌∷◌, length, Option, Some, None, Ok, Err, refl, arith}
use Rattle.std.proofs.lemmas.Bool.Decides.{nat_tests}
use Rattle.std.proofs.lemmas.Int.{ints}
use Rattle.ct_types.specs.ColumnFit.{code_points, IsInt, IsWithin, Fits}
use Rattle.ct_types.specs.declared.refusal.Refusal.{Refusal}
use Rattle.ct_types.specs.declared.refusal.Refusal.TheVariants.{NotNull, Overflow, TooLong}
use Rattle.ct_types.specs.declared.schema.ColType.{ColType}
use Rattle.ct_types.specs.declared.schema.ColType.TheVariants as kind
use Rattle.ct_types.specs.declared.schema.Column.{Column}
use Rattle.ct_types.specs.declared.value.Row.{Row}
use Rattle.ct_types.specs.declared.value.Value.{Value}
use Rattle.ct_types.specs.declared.value.Value.TheVariants.{Null, Int, Text, Bytes}
use Rattle.ct_write.specs.Fitting.{is_int, is_within, passes, fit, fit_values, fit_row, AreFit, IsFit}
use Rattle.ct_write.proofs.Parts.{came}
use Rattle.ct_value_laws.specs.Values.{IsRepresentable, AreRepresentable}

lt_of : (a b : ℕ) → nat_lt a b ≡ true → a < b
lt_of a b e = grind (arith, nat_tests)

le_of : (a b : ℕ) → nat_le a b ≡ true → a ≤ b
le_of a b e = grind (arith, nat_tests)

int_within : (n : ℤ) → is_int n ≡ true → IsInt n
int_within (pos n) e = let small : n < 2 ^ 31 = lt_of n (2 ^ 31) e in (omega (arith, ints, small), omega (arith, ints, small))
int_within (negsuc n) e = let small : n < 2 ^ 31 = lt_of n (2 ^ 31) e in (omega (arith, ints, small), omega (arith, ints, small))

is_within_column : (type : ColType) (v : Value) → IsRepresentable v → is_within type v ≡ true → IsWithin type v
is_within_column kind.Int (Int n) is e = int_within n e
is_within_column kind.BigInt (Int n) is e = is
is_within_column (kind.NVarChar most) (Text t) is e = (is, le_of (code_points t) most e)
is_within_column (kind.VarBinary most) (Bytes b) is e = le_of (length b) most e
is_within_column type v is e = tt

passed : (test : Bool) (refusal : Refusal) (done : Unit {0}) → passes test (Err refusal) ≡ Ok done → test ≡ true
passed true refusal done e = refl
passed false refusal done e = absurd cc

pub fits_column : (column : Column) (v : Value) (done : Unit {0}) → IsRepresentable v → fit column v ≡ Ok done → Fits column v
fits_column column Null done is e = passed column.nullable (NotNull column.name) done e
fits_column column (Int n) done is e = is_within_column column.kind (Int n) is (passed (is_within column.kind (Int n)) Overflow done e)
fits_column column (Text t) done is e = is_within_column column.kind (Text t) is (passed (is_within column.kind (Text t)) (TooLong column.name) done e)
fits_column column (Bytes b) done is e = is_within_column column.kind (Bytes b) is (passed (is_within column.kind (Bytes b)) (TooLong column.name) done e)

values_fit : (columns : List Column) (values : List Value) (done : Unit {0}) → AreRepresentable values → fit_values columns values ≡ Ok done → AreFit columns values
values_fit [] values done are e = tt
values_fit (column ∷ columns) [] done are e = tt
values_fit (column ∷ columns) (v ∷ values) done are e =
    let c = came (fit column v) (λ passed. fit_values columns values) done e in
    (fits_column column v c.first are.0 c.was, values_fit columns values done are.1 c.next)

-- the values of a row, where there is one
abbrev pub RowRepresentable : Option Row → Type 0
RowRepresentable None = Unit {0}
RowRepresentable (Some row) = AreRepresentable row.0

pub row_fits : (columns : List Column) (row : Option Row) (done : Unit {0}) → RowRepresentable row → fit_row columns row ≡ Ok done → IsFit columns row
row_fits columns None done are e = tt
row_fits columns (Some row) done are e = values_fit columns row.0 done are e
