-- What `fits` answers of a value in a column is what is to be answered.
use Rattle.std.proofs.Common.{◌≡◌, ℕ, ◌<◌, ◌≤◌, ◌^◌, ℤ, pos, negsuc, nat_lt, nat_le, List, length, true, false, Ok, Err, refl, ap, arith}
use Rattle.std.proofs.lemmas.Bool.Decides.{nat_tests}
use Rattle.std.proofs.lemmas.Int.{ints}
use Rattle.ct_types.specs.ColumnFit.{code_points, IsInt, IsMissing, IsOutOfRange, IsTooLong, IsWithin, Fits}
use Rattle.ct_types.specs.declared.refusal.Refusal.TheVariants.{NotNull, Overflow, TooLong}
use Rattle.ct_types.specs.declared.schema.ColType.{ColType}
use Rattle.ct_types.specs.declared.schema.ColType.TheVariants as kind
use Rattle.ct_types.specs.declared.schema.Column.{Column}
use Rattle.ct_types.specs.declared.value.Value.{Value}
use Rattle.ct_types.specs.declared.value.Value.TheVariants.{Null, Int, Text, Bytes}
use Rattle.ct_write.specs.Fitting.{is_int, is_within, passes, fit}

lt_holds : (a b : ℕ) → a < b → nat_lt a b ≡ true
lt_holds a b h = grind (arith, nat_tests)

lt_fails : (a b : ℕ) → b ≤ a → nat_lt a b ≡ false
lt_fails a b h = grind (arith, nat_tests)

le_holds : (a b : ℕ) → a ≤ b → nat_le a b ≡ true
le_holds a b h = grind (arith, nat_tests)

le_fails : (a b : ℕ) → b < a → nat_le a b ≡ false
le_fails a b h = grind (arith, nat_tests)

int_holds : (n : ℤ) → IsInt n → is_int n ≡ true
int_holds (pos n) h = lt_holds n (2 ^ 31) (omega (arith, ints, h.1))
int_holds (negsuc n) h = lt_holds n (2 ^ 31) (omega (arith, ints, h.0))

int_fails : (n : ℤ) → ¬ IsInt n → is_int n ≡ false
int_fails (pos n) h = grind (arith, nat_tests, ints, h)
int_fails (negsuc n) h = grind (arith, nat_tests, ints, h)

within_holds : (type : ColType) (v : Value) → IsWithin type v → is_within type v ≡ true
within_holds kind.Int (Int n) h = int_holds n h
within_holds (kind.NVarChar most) (Text t) h = le_holds (code_points t) most h.1
within_holds (kind.VarBinary most) (Bytes b) h = le_holds (length b) most h
within_holds type v h = refl

range_fails : (type : ColType) (n : ℤ) → IsOutOfRange type (Int n) → is_within type (Int n) ≡ false
range_fails kind.Int n h = int_fails n h
range_fails kind.BigInt n h = absurd h
range_fails (kind.NVarChar most) n h = absurd h
range_fails (kind.VarBinary most) n h = absurd h

text_fails : (type : ColType) (t : List ℕ) → IsTooLong type (Text t) → is_within type (Text t) ≡ false
text_fails kind.Int t h = absurd h
text_fails kind.BigInt t h = absurd h
text_fails (kind.NVarChar most) t h = le_fails (code_points t) most h
text_fails (kind.VarBinary most) t h = absurd h

bytes_fail : (type : ColType) (b : List ℕ) → IsTooLong type (Bytes b) → is_within type (Bytes b) ≡ false
bytes_fail kind.Int b h = absurd h
bytes_fail kind.BigInt b h = absurd h
bytes_fail (kind.NVarChar most) b h = absurd h
bytes_fail (kind.VarBinary most) b h = le_fails (length b) most h

pub fit_ok : (column : Column) (v : Value) → Fits column v → fit column v ≡ Ok tt
fit_ok column Null h = ap (λ b. passes b (Err (NotNull column.name))) h
fit_ok column (Int n) h = ap (λ b. passes b (Err Overflow)) (within_holds column.kind (Int n) h)
fit_ok column (Text t) h = ap (λ b. passes b (Err (TooLong column.name))) (within_holds column.kind (Text t) h)
fit_ok column (Bytes b) h = ap (λ o. passes o (Err (TooLong column.name))) (within_holds column.kind (Bytes b) h)

pub fit_missing : (column : Column) (v : Value) → IsMissing column v → fit column v ≡ Err (NotNull column.name)
fit_missing column Null h = ap (λ b. passes b (Err (NotNull column.name))) h
fit_missing column (Int n) h = absurd h
fit_missing column (Text t) h = absurd h
fit_missing column (Bytes b) h = absurd h

null_in_range : (type : ColType) → IsOutOfRange type Null → ⊥
null_in_range kind.Int h = h
null_in_range kind.BigInt h = h
null_in_range (kind.NVarChar most) h = h
null_in_range (kind.VarBinary most) h = h

text_in_range : (type : ColType) (t : List ℕ) → IsOutOfRange type (Text t) → ⊥
text_in_range kind.Int t h = h
text_in_range kind.BigInt t h = h
text_in_range (kind.NVarChar most) t h = h
text_in_range (kind.VarBinary most) t h = h

bytes_in_range : (type : ColType) (b : List ℕ) → IsOutOfRange type (Bytes b) → ⊥
bytes_in_range kind.Int b h = h
bytes_in_range kind.BigInt b h = h
bytes_in_range (kind.NVarChar most) b h = h
bytes_in_range (kind.VarBinary most) b h = h

pub fit_range : (column : Column) (v : Value) → IsOutOfRange column.kind v → fit column v ≡ Err Overflow
fit_range column Null h = absurd (null_in_range column.kind h)
fit_range column (Int n) h = ap (λ b. passes b (Err Overflow)) (range_fails column.kind n h)
fit_range column (Text t) h = absurd (text_in_range column.kind t h)
fit_range column (Bytes b) h = absurd (bytes_in_range column.kind b h)

null_short : (type : ColType) → IsTooLong type Null → ⊥
null_short kind.Int h = h
null_short kind.BigInt h = h
null_short (kind.NVarChar most) h = h
null_short (kind.VarBinary most) h = h

int_short : (type : ColType) (n : ℤ) → IsTooLong type (Int n) → ⊥
int_short kind.Int n h = h
int_short kind.BigInt n h = h
int_short (kind.NVarChar most) n h = h
int_short (kind.VarBinary most) n h = h

pub fit_long : (column : Column) (v : Value) → IsTooLong column.kind v → fit column v ≡ Err (TooLong column.name)
fit_long column Null h = absurd (null_short column.kind h)
fit_long column (Int n) h = absurd (int_short column.kind n h)
fit_long column (Text t) h = ap (λ b. passes b (Err (TooLong column.name))) (text_fails column.kind t h)
fit_long column (Bytes b) h = ap (λ o. passes o (Err (TooLong column.name))) (bytes_fail column.kind b h)

pub ruleset fit_steps = (fit_ok, fit_missing, fit_range, fit_long)
