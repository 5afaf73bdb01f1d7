-- When a value fits a column: by its kind, by NULL, and by the width of the column's type.
use Rattle.std.specs.Prelude.{◌≡◌, ℕ, ◌≤◌, ◌<◌, ℤ, pos, negsuc, ◌≤ℤ◌, Bool, true, false, nat_lt, nat_le, ◌||◌, List, length, count_by}
use Rattle.std.specs.Str.{IsUtf8}
use Rattle.ct_types.specs.declared.schema.ColType.{ColType}
use Rattle.ct_types.specs.declared.schema.ColType.TheVariants as kind
use Rattle.ct_types.specs.declared.schema.Column.{Column}
use Rattle.ct_types.specs.declared.value.Value.{Value}
use Rattle.ct_types.specs.declared.value.Value.TheVariants.{Null, Int, Text, Bytes}

-- the code points of a UTF-8 text are as many as its bytes that do not go on with one
abbrev pub starts_code_point : ℕ → Bool
starts_code_point byte = nat_lt byte 128 || nat_le 192 byte

abbrev pub code_points : List ℕ → ℕ
code_points text = count_by starts_code_point text

-- a number of 32 bits
abbrev pub IsInt : ℤ → Type 0
IsInt n = (negsuc 2147483647 ≤ℤ n) × (n ≤ℤ pos 2147483647)

-- a number of 64 bits
abbrev pub IsBigInt : ℤ → Type 0
IsBigInt n = (negsuc 9223372036854775807 ≤ℤ n) × (n ≤ℤ pos 9223372036854775807)

-- NULL has each kind
abbrev pub has_kind : ColType → Value → Bool
has_kind type Null = true
has_kind kind.Int (Int n) = true
has_kind kind.BigInt (Int n) = true
has_kind (kind.NVarChar most) (Int n) = false
has_kind (kind.VarBinary most) (Int n) = false
has_kind kind.Int (Text t) = false
has_kind kind.BigInt (Text t) = false
has_kind (kind.NVarChar most) (Text t) = true
has_kind (kind.VarBinary most) (Text t) = false
has_kind kind.Int (Bytes b) = false
has_kind kind.BigInt (Bytes b) = false
has_kind (kind.NVarChar most) (Bytes b) = false
has_kind (kind.VarBinary most) (Bytes b) = true

-- NULL where it may not stand
abbrev pub IsMissing : Column → Value → Type 0
IsMissing column Null = column.nullable ≡ false
IsMissing column (Int n) = ⊥
IsMissing column (Text t) = ⊥
IsMissing column (Bytes b) = ⊥

-- a number outside 32 bits, where the column has them
abbrev pub IsOutOfRange : ColType → Value → Type 0
IsOutOfRange kind.Int (Int n) = ¬ IsInt n
IsOutOfRange type value = ⊥

-- more code points or bytes than the type allows
abbrev pub IsTooLong : ColType → Value → Type 0
IsTooLong (kind.NVarChar most) (Text t) = most < code_points t
IsTooLong (kind.VarBinary most) (Bytes b) = most < length b
IsTooLong type value = ⊥

-- of the kind of its column: a number of the type's width, a text or bytes that are not too long; of a value of another kind, and of NULL, nothing is asked
abbrev pub IsWithin : ColType → Value → Type 0
IsWithin kind.Int (Int n) = IsInt n
IsWithin kind.BigInt (Int n) = IsBigInt n
IsWithin (kind.NVarChar most) (Text t) = IsUtf8 t × (code_points t ≤ most)
IsWithin (kind.VarBinary most) (Bytes b) = length b ≤ most
IsWithin type value = Unit {0}

abbrev pub Fits : Column → Value → Type 0
Fits column Null = column.nullable ≡ true
Fits column (Int n) = IsWithin column.kind (Int n)
Fits column (Text t) = IsWithin column.kind (Text t)
Fits column (Bytes b) = IsWithin column.kind (Bytes b)

-- what a column may hold: a value of its kind that fits it
abbrev pub Holds : Column → Value → Type 0
Holds column value = (has_kind column.kind value ≡ true) × Fits column value
