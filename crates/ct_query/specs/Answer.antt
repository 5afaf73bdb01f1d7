-- What a SELECT answers, over the rows of its sources, as T-SQL documents the logical order of SELECT's clauses: FROM with ON,
-- WHERE, ORDER BY and the list of items. It comes to Overflow exactly where ON on a pair, WHERE on a joined row, or
-- an item or an expression of ORDER BY on a kept row does.
use Rattle.std.specs.Prelude.{Bool, List, ◌++◌, map, Ok}
use Rattle.std.specs.Ordering.{is_lt}
use Rattle.ct_types.specs.declared.bound.BoundExpr.{BoundExpr}
use Rattle.ct_types.specs.declared.bound.OrderBy.{OrderBy}
use Rattle.ct_types.specs.declared.bound.Plan.{Plan}
use Rattle.ct_types.specs.declared.reply.Grid.{Grid}
use Rattle.ct_types.specs.declared.value.Row.{Row}
use Rattle.ct_types.specs.declared.value.Value.{Value}
use Rattle.ct_types.specs.Answers.{Answer, ◌>>=◌, each}
use Rattle.ct_expr.specs.Meaning.{World, on, value, holds}
use Rattle.ct_query.specs.declared.shown.Shown.{Shown}
use Rattle.ct_expr.specs.Conditions.{only}
use Rattle.ct_query.specs.Joins.{row_of, joined}
use Rattle.ct_query.specs.Sorting.{keys_cmp, in_order}

-- ---- the rows

-- the joined rows
abbrev pub joined_rows : World → Plan → List Row → List Row → Answer (List Row)
joined_rows world plan lefts rights =
    joined plan.join plan.left (λ one. holds world plan.on (row_of plan.left plan.right one)) lefts rights >>= (λ made. Ok (map (row_of plan.left plan.right) made))

-- ---- what is shown of them

abbrev pub values_on : World → Row → List BoundExpr → Answer (List Value)
values_on world row exprs = each (value (on world row)) exprs

abbrev pub keys_on : World → Row → List OrderBy → Answer (List Value)
keys_on world row parts = each (λ part. value (on world row) part.expr) parts

-- the row on which the parts of ORDER BY are evaluated: a row, then the values of its items, so that the value of each item has a
-- place there as each column has
abbrev pub with_items : Row → List Value → Row
with_items row values = record { 0 = row.0 ++ values }

-- the values by which a row is ordered, and the row of its items
abbrev pub shown : World → Plan → Row → Answer Shown
shown world plan row =
    values_on world row plan.items >>= (λ values. keys_on world (with_items row values) plan.order >>= (λ keys. Ok (record { keys = keys; row = record { 0 = values } })))

abbrev pub comes_before : List OrderBy → Shown → Shown → Bool
comes_before parts a b = is_lt (keys_cmp parts a.keys b.keys)

-- the grid of rows, in order
abbrev pub grid_of : Plan → List Shown → Grid
grid_of plan all = record { names = plan.names; rows = map (λ one. one.row) (in_order (comes_before plan.order) all) }

-- the answer over joined rows: of those on which WHERE is true
abbrev pub answer_over : World → Plan → List Row → Answer Grid
answer_over world plan rows = only (holds world plan.filter) rows >>= (λ kept. each (shown world plan) kept >>= (λ all. Ok (grid_of plan all)))

-- the answer
unfoldable pub answer : World → Plan → List Row → List Row → Answer Grid
answer world plan lefts rights = joined_rows world plan lefts rights >>= answer_over world plan
