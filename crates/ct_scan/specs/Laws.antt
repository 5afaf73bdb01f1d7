-- The laws of conditions that pin a column.
use Rattle.std.specs.Prelude.{◌≡◌, ℕ, List, Some}
use Rattle.std.specs.List.{AllByRecursion, filter}
use Rattle.ct_types.specs.declared.bound.BoundExpr.{BoundExpr}
use Rattle.ct_types.specs.declared.value.Row.{Row}
use Rattle.ct_types.specs.declared.value.Value.{Value}
use Rattle.ct_source.specs.Cells.{has_value}
use Rattle.ct_expr.specs.Conditions.{only}
use Rattle.ct_expr.specs.Meaning.{World, holds}
use Rattle.ct_scan.specs.Seen.{Seen, nothing, Agrees}
use Rattle.ct_scan.specs.Readings.{pinned}

-- WHERE over rows is WHERE over those with the value that it pins a column to: the same rows, and the same refusal
abbrev pub PinnedRows : Type 0
PinnedRows =
    (world : World) (at : ℕ) (condition : BoundExpr) (v : Value) (rows : List Row)
    → pinned world.env nothing at condition ≡ Some v
    → only (holds world (Some condition)) rows ≡ only (holds world (Some condition)) (filter (has_value at v) rows)

-- A condition over the joined rows that some rows make, where each has the values that are seen, is the condition over those of them
-- that have the value that it pins a column to: the same rows, and the same refusal.
abbrev pub PinnedOver : Type 0
PinnedOver =
    (world : World) (seen : Seen) (at : ℕ) (condition : BoundExpr) (v : Value) (joined : Row → Row) (rows : List Row)
    → AllByRecursion (λ row. Agrees seen (joined row)) rows → pinned world.env seen at condition ≡ Some v
    → only (λ row. holds world (Some condition) (joined row)) rows
    ≡ only (λ row. holds world (Some condition) (joined row)) (filter (λ row. has_value at v (joined row)) rows)
