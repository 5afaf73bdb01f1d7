-- Rows and the place of one of their columns, by whose values they are found. This project's own.
use Rattle.std.specs.Prelude.{◌≡◌, ℕ, Bool, List, length, filter, Option, IfSome}
use Rattle.std.specs.List.{AllByRecursion}
use Rattle.std.specs.List.Sorted.{IsSortedBy}
use Rattle.std.specs.Ordering.{is_lt}
use denote.Ref.{Bor}
use Rattle.ct_types.specs.Order.{value_cmp}
use Rattle.ct_types.specs.declared.value.Row.{Row}
use Rattle.ct_types.specs.declared.value.Value.{Value}
use Rattle.ct_source.specs.Cells.{cell, has_value}
use Rattle.ct_source.specs.Rows.{lent}

-- the place of the column, the rows in their order, and how many values each has, where all have as many
pub record Indexed : Type 0 where
  pub at : ℕ
  pub rows : List Row
  pub width : Option ℕ

-- each row has so many values
abbrev pub AreAsWide : List Row → ℕ → Type 0
AreAsWide rows width = AllByRecursion (λ (row : Row). length row.0 ≡ width) rows

-- a row has a lower value in the column than another
abbrev pub comes_before : ℕ → Bor Row → Bor Row → Bool
comes_before at a b = is_lt (value_cmp (cell at a.now) (cell at b.now))

-- these are the rows, sorted by the column: those with a value stand as they did
pub record AreSorted (at : ℕ) (rows : List Row) (sorted : List (Bor Row)) : Type 0 where
  pub rising : IsSortedBy (comes_before at) sorted
  pub same : (value : Value) → filter (has_value at value) (lent sorted) ≡ filter (has_value at value) rows

-- what holds of each index
pub record IsIndex (at : ℕ) (rows : List Row) (width : Option ℕ) (sorted : List (Bor Row)) : Type 0 where
  pub order : AreSorted at rows sorted
  pub wide : IfSome width (AreAsWide rows)
