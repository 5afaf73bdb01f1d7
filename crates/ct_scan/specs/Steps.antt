-- The steps that the code takes. No promise speaks of them.
use Rattle.std.specs.Prelude.{◌≡◌, ℕ, List, [], ◌∷◌, filter, Option, Some, None, if◌then◌else◌}
use Rattle.std.specs.declared.cmp.Ordering.TheVariants.{Less}
use Rattle.ct_types.specs.Order.{value_cmp}
use Rattle.ct_types.specs.declared.bound.BoundExpr.{BoundExpr}
use Rattle.ct_types.specs.declared.value.Row.{Row}
use Rattle.ct_types.specs.declared.value.Value.{Value}
use Rattle.ct_expr.specs.Environment.{Environment}
use Rattle.ct_expr.specs.Numbers.{is_null}
use Rattle.ct_source.specs.Cells.{has_value}
use Rattle.ct_scan.specs.Readings.{pinned}

-- the value that ON pins the column at a place of the left rows to, where this right row stands behind so many columns
abbrev pub pin_of : Environment → BoundExpr → ℕ → ℕ → Row → Option Value
pin_of env on at columns right = pinned env (record { from = columns; values = right.0 }) at on

-- the rows with the value that a condition pins the column at a place to: all where it pins it to none, and no row where it pins it
-- to NULL, which equals nothing
abbrev pub with_pinned : ℕ → Option Value → List Row → List Row
with_pinned at None rows = rows
with_pinned at (Some v) rows = if is_null v then [] else filter (has_value at v) rows

-- there is a value, and it is above the last one
abbrev pub IsAbove : Option Value → Option Value → Type 0
IsAbove last None = ⊥
IsAbove None (Some value) = Unit {0}
IsAbove (Some last) (Some value) = value_cmp last value ≡ Less

-- each right row pins a value above that of the row before
abbrev pub PinsRise : Environment → BoundExpr → ℕ → ℕ → Option Value → List Row → Type 0
PinsRise env on at columns last [] = Unit {0}
PinsRise env on at columns last (right ∷ more) = IsAbove last (pin_of env on at columns right) × PinsRise env on at columns (pin_of env on at columns right) more
