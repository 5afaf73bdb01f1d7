-- Numbers of any width, and where each may stand. NVARCHAR(n) and VARBINARY(n) are as in T-SQL's documentation, a
-- retention as in that of ALTER DATABASE SET options; which refusal answers is this project's own.
use Rattle.std.specs.Prelude.{ℕ, ◌+◌, ◌-◌, ◌*◌, ◌&&◌, nat_le, List, [], ◌∷◌, if◌then◌else◌, Option, Some, None, pos, ℤ, Ok}
use Rattle.ct_types.specs.declared.schema.ColType.{ColType}
use Rattle.ct_types.specs.declared.schema.ColType.TheVariants.{Int, BigInt, NVarChar, VarBinary}
use Rattle.ct_types.specs.declared.stmt.TypeName.{TypeName}
use Rattle.ct_types.specs.declared.stmt.TypeName.TheVariants as name
use Rattle.ct_types.specs.declared.stmt.TimeUnit.{TimeUnit}
use Rattle.ct_types.specs.declared.stmt.TimeUnit.TheVariants.{Days, Hours, Minutes}
use Rattle.ct_types.specs.declared.stmt.Retention.{Retention}
use Rattle.ct_types.specs.declared.refusal.Refusal.TheVariants.{Overflow, BadTable, BadRetention}
use Rattle.ct_types.specs.Answers.{Answer, ◌>>=◌, or_refuse}

abbrev pub number_from : ℕ → List ℕ → ℕ
number_from n [] = n
number_from n (digit ∷ digits) = number_from (n * 10 + (digit - 48)) digits

-- the number that digits spell, from left to right
unfoldable pub number_of : List ℕ → ℕ
number_of digits = number_from 0 digits

abbrev pub in_range : ℕ → ℕ → ℕ → Option ℕ
in_range least most n = if nat_le least n && nat_le n most then Some n else None

-- that number, if it is in the range
unfoldable pub within : ℕ → ℕ → List ℕ → Option ℕ
within least most digits = in_range least most (number_of digits)

-- a number of an expression has 63 bits
unfoldable pub literal : List ℕ → Answer ℤ
literal digits = or_refuse (within 0 9223372036854775807 digits) Overflow >>= (λ n. Ok (pos n))

-- NVARCHAR has 1 to 4,000 code points, VARBINARY 1 to 8,000 bytes
unfoldable pub column_type : TypeName → Answer ColType
column_type name.Int = Ok Int
column_type name.BigInt = Ok BigInt
column_type (name.NVarChar digits) = or_refuse (within 1 4000 digits) (BadTable 4) >>= (λ n. Ok (NVarChar n))
column_type (name.VarBinary digits) = or_refuse (within 1 8000 digits) (BadTable 4) >>= (λ n. Ok (VarBinary n))

abbrev pub seconds_in : TimeUnit → ℕ
seconds_in Days = 86400
seconds_in Hours = 3600
seconds_in Minutes = 60

-- a retention in seconds; its number goes from 1 to 2,147,483,647
unfoldable pub retention_of : Retention → Answer ℕ
retention_of retention = or_refuse (within 1 2147483647 retention.amount) BadRetention >>= (λ n. Ok (n * seconds_in retention.unit))
