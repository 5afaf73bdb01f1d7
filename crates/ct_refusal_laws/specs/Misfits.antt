-- The first value that does not fit its column: of the first row that has one, that in the first column.
use Rattle.std.specs.Prelude.{◌≡◌, ◌⊎◌, ℕ, ◌<◌, List, slice_get, Option, Some}
use Rattle.ct_types.specs.ColumnFit.{IsMissing, IsOutOfRange, IsTooLong}
use Rattle.ct_types.specs.declared.refusal.Refusal.{Refusal}
use Rattle.ct_types.specs.declared.refusal.Refusal.TheVariants.{NotNull, Overflow, TooLong}
use Rattle.ct_types.specs.declared.schema.Column.{Column}
use Rattle.ct_types.specs.declared.value.Row.{Row}
use Rattle.ct_types.specs.declared.value.Value.{Value}

-- A value does not fit its column, and what is refused then: NULL that is missing, a number that leaves 32 bits, a text or bytes that are
-- too long.
abbrev pub Misfits : Column → Value → Refusal → Type 0
Misfits column value refusal =
    (IsMissing column value × (refusal ≡ NotNull column.name))
    ⊎ ((IsOutOfRange column.kind value × (refusal ≡ Overflow)) ⊎ (IsTooLong column.kind value × (refusal ≡ TooLong column.name)))

-- no value below this place does so
abbrev pub FitBelow : ℕ → List Column → List Value → Type 0
FitBelow end columns values =
    (place : ℕ) (column : Column) (value : Value) (refusal : Refusal) → place < end → slice_get columns place ≡ Some column → slice_get values place ≡ Some value → ¬ Misfits column value refusal

-- none does at all
abbrev pub AllFit : List Column → List Value → Type 0
AllFit columns values = (end : ℕ) → FitBelow end columns values

-- the first value of a row that does
pub record FirstOfRow (columns : List Column) (values : List Value) (refusal : Refusal) : Type 0 where
  pub place : ℕ
  pub column : Column
  pub value : Value
  pub column_is : slice_get columns place ≡ Some column
  pub value_is : slice_get values place ≡ Some value
  pub misfits : Misfits column value refusal
  pub before : FitBelow place columns values

-- and the first row that has one; where there is no row, nothing is fitted
pub record FirstMisfit (columns : List Column) (rows : List (Option Row)) (refusal : Refusal) : Type 0 where
  pub place : ℕ
  pub row : Row
  pub is : slice_get rows place ≡ Some (Some row)
  pub misfit : FirstOfRow columns row.0 refusal
  pub before : (earlier : ℕ) (other : Row) → earlier < place → slice_get rows earlier ≡ Some (Some other) → AllFit columns other.0
