-- Whether values fit their columns, and the refusal of one that does not: as SQL Server, 515 for NULL in a column that is
-- not nullable and 8115 for a number outside 32 bits in an INT column. That a text or bytes too long for a column answer
-- 8152 with the column's name, and that columns are fitted in the table's order, is this project's own.
use Rattle.std.specs.Prelude.{◌^◌, ℤ, pos, negsuc, Bool, true, nat_lt, nat_le, List, ◌∷◌, length, Option, Some, None, Ok, Err, if◌then◌else◌}
use Rattle.ct_types.specs.ColumnFit.{code_points, Fits}
use Rattle.ct_types.specs.declared.refusal.Refusal.TheVariants.{NotNull, Overflow, TooLong}
use Rattle.ct_types.specs.declared.schema.ColType.{ColType}
use Rattle.ct_types.specs.declared.schema.ColType.TheVariants as kind
use Rattle.ct_types.specs.declared.schema.Column.{Column}
use Rattle.ct_types.specs.declared.value.Row.{Row}
use Rattle.ct_types.specs.declared.value.Value.{Value}
use Rattle.ct_types.specs.declared.value.Value.TheVariants.{Null, Int, Text, Bytes}
use Rattle.ct_types.specs.Answers.{Answer, ◌>>=◌}

-- from -2^31 to 2^31 - 1; `negsuc n` is -(n + 1)
abbrev pub is_int : ℤ → Bool
is_int (pos n) = nat_lt n (2 ^ 31)
is_int (negsuc n) = nat_lt n (2 ^ 31)

-- a number is within 32 bits where the type is INT; a text has at most as many code points, and bytes are at most as many,
-- as the type allows
abbrev pub is_within : ColType → Value → Bool
is_within kind.Int (Int n) = is_int n
is_within (kind.NVarChar most) (Text t) = nat_le (code_points t) most
is_within (kind.VarBinary most) (Bytes b) = nat_le (length b) most
is_within type value = true

abbrev pub passes : Bool → Answer (Unit {0}) → Answer (Unit {0})
passes b otherwise = if b then Ok tt else otherwise

-- a value in a column
abbrev pub fit : Column → Value → Answer (Unit {0})
fit column Null = passes column.nullable (Err (NotNull column.name))
fit column (Int n) = passes (is_within column.kind (Int n)) (Err Overflow)
fit column (Text t) = passes (is_within column.kind (Text t)) (Err (TooLong column.name))
fit column (Bytes b) = passes (is_within column.kind (Bytes b)) (Err (TooLong column.name))

-- column by column
abbrev pub fit_values : List Column → List Value → Answer (Unit {0})
fit_values (column ∷ columns) (v ∷ values) = fit column v >>= (λ passed. fit_values columns values)
fit_values columns values = Ok tt

-- a row; where there is none, nothing is fitted
abbrev pub fit_row : List Column → Option Row → Answer (Unit {0})
fit_row columns None = Ok tt
fit_row columns (Some row) = fit_values columns row.0

-- ---- values that fit

abbrev pub AreFit : List Column → List Value → Type 0
AreFit (column ∷ columns) (v ∷ values) = Fits column v × AreFit columns values
AreFit columns values = Unit {0}

abbrev pub IsFit : List Column → Option Row → Type 0
IsFit columns None = Unit {0}
IsFit columns (Some row) = AreFit columns row.0
