-- Where a number of a SELECT leaves 64 bits: in ON on a pair of rows, in WHERE on a joined row, or in an item or a part of ORDER BY on
-- a row for which WHERE is true.
use Rattle.std.specs.Prelude.{◌≡◌, ◌⊎◌, List, Option, Some, None, Ok}
use Rattle.std.specs.List.{Contains}
use Rattle.ct_types.specs.declared.bound.BoundExpr.{BoundExpr}
use Rattle.ct_types.specs.declared.bound.OrderBy.{OrderBy}
use Rattle.ct_types.specs.declared.bound.Plan.{Plan}
use Rattle.ct_types.specs.declared.value.Row.{Row}
use Rattle.ct_types.specs.declared.value.Value.{Value}
use Rattle.ct_expr.specs.Conditions.{only}
use Rattle.ct_expr.specs.Meaning.{World, on, holds}
use Rattle.ct_query.specs.Answer.{joined_rows, values_on, with_items}
use Rattle.ct_query.specs.Joins.{row_of, pair}
use Rattle.ct_refusal_laws.specs.Overflows.{Overflows}

-- a condition, where one is written, on a row
abbrev pub ConditionOverflows : World → Option BoundExpr → Row → Type 0
ConditionOverflows world None row = ⊥
ConditionOverflows world (Some condition) row = Overflows (on world row) condition

-- the condition on one of these rows
abbrev pub FilterOverflows : World → Option BoundExpr → List Row → Type 0
FilterOverflows world filter rows = (row : Row) × Contains rows row × ConditionOverflows world filter row

-- one of these expressions on a row
abbrev pub SomeOverflows : World → Row → List BoundExpr → Type 0
SomeOverflows world row exprs = (expr : BoundExpr) × Contains exprs expr × Overflows (on world row) expr

-- ON on the row of a pair
abbrev pub OnOverflows : World → Plan → List Row → List Row → Type 0
OnOverflows world plan lefts rights =
    (left : Row) × Contains lefts left × ((right : Row) × Contains rights right × ConditionOverflows world plan.on (row_of plan.left plan.right (pair left right)))

-- a part of ORDER BY, on a row and behind it the values of its items
abbrev pub OrderOverflows : World → Plan → Row → Type 0
OrderOverflows world plan row =
    (values : List Value) × (values_on world row plan.items ≡ Ok values) × ((part : OrderBy) × Contains plan.order part × Overflows (on world (with_items row values)) part.expr)

-- what is shown of a row, and that by which it is ordered
abbrev pub ShownOverflows : World → Plan → Row → Type 0
ShownOverflows world plan row = SomeOverflows world row plan.items ⊎ OrderOverflows world plan row

-- of the joined rows: WHERE on one of them, or what is shown of one that it keeps
abbrev pub RowsOverflow : World → Plan → List Row → Type 0
RowsOverflow world plan rows =
    FilterOverflows world plan.filter rows ⊎ ((kept : List Row) × (only (holds world plan.filter) rows ≡ Ok kept) × ((row : Row) × Contains kept row × ShownOverflows world plan row))

-- the whole
abbrev pub AnswerOverflows : World → Plan → List Row → List Row → Type 0
AnswerOverflows world plan lefts rights =
    OnOverflows world plan lefts rights ⊎ ((rows : List Row) × (joined_rows world plan lefts rights ≡ Ok rows) × RowsOverflow world plan rows)
