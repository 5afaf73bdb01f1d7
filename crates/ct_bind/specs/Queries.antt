-- SELECT: FROM, then the items, WHERE and ORDER BY. The forms are T-SQL's; which fault comes first, and the names of
-- outputs, are this project's own.
use Rattle.std.specs.Prelude.{ℕ, ◌+◌, Bool, true, false, not, codes, List, [], ◌∷◌, ◌++◌, length, map, if◌then◌else◌, Option, Some, None, Ok, Err}
use Rattle.ct_types.specs.declared.bound.BoundExpr.TheVariants.{Column as column_here}
use Rattle.ct_types.specs.declared.bound.BoundSelect.{BoundSelect}
use Rattle.ct_types.specs.declared.bound.OrderBy.{OrderBy}
use Rattle.ct_types.specs.declared.bound.Plan.{Plan}
use Rattle.ct_types.specs.declared.catalogue.Catalogued.{Catalogued}
use Rattle.ct_types.specs.declared.catalogue.Variable.{Variable}
use Rattle.ct_types.specs.declared.expr.Expr.{Expr, out-Expr}
use Rattle.ct_types.specs.declared.expr.Expr.TheOpen as e
use Rattle.ct_types.specs.declared.expr.Expr.TheOpen.{Expr-F}
use Rattle.ct_types.specs.declared.stmt.FromClause.{FromClause}
use Rattle.ct_types.specs.declared.stmt.OrderItem.{OrderItem}
use Rattle.ct_types.specs.declared.stmt.Select.{Select}
use Rattle.ct_types.specs.declared.stmt.SelectItem.{SelectItem}
use Rattle.ct_types.specs.declared.stmt.SelectItem.TheVariants as wanted
use Rattle.ct_types.specs.declared.refusal.Refusal.TheVariants.{NoColumn, TypeClash}
use Rattle.ct_types.specs.Answers.{Answer, ◌>>=◌, ◌>>◌, demand, optional, each}
use Rattle.ct_bind_names.specs.Names.{same}
use Rattle.ct_bind_expr.specs.declared.place.Typed.{Typed}
use Rattle.ct_bind_expr.specs.declared.place.Shown.{Shown}
use Rattle.ct_bind_expr.specs.declared.place.Shape.{Shape}
use Rattle.ct_bind_expr.specs.declared.place.Output.{Output}
use Rattle.ct_bind_expr.specs.declared.place.Place.{Place}
use Rattle.ct_bind_expr.specs.Places.{typed, spot, any_value, row_of, ordering}
use Rattle.ct_bind_expr.specs.Walk.{walk}
use Rattle.ct_bind.specs.declared.queries.Item.{Item}
use Rattle.ct_bind.specs.declared.queries.Parts.{Parts}
use Rattle.ct_bind.specs.declared.sources.Joined.{Joined}
use Rattle.ct_bind.specs.Sources.{condition, joined, no_source}

-- ---- items

abbrev pub item : Option (List ℕ) → Typed → Item
item name value = record { name = name; value = value }

-- the columns of a source, whose first one has this place in the row
unfoldable pub columns_from : ℕ → List Shown → List Item
columns_from at [] = []
columns_from at (column ∷ more) = item (Some column.name) (typed (column_here at) column.kind) ∷ columns_from (at + 1) more

-- `*`: the columns of all sources
unfoldable pub all_columns : ℕ → List Shape → List Item
all_columns at [] = []
all_columns at (source ∷ more) = columns_from at source.columns ++ all_columns (at + length source.columns) more

-- `name.*`: those of one source; 207 where there is no such source
unfoldable pub columns_of : List ℕ → ℕ → List Shape → Answer (List Item)
columns_of name at [] = Err (NoColumn name)
columns_of name at (source ∷ more) = if same source.name name then Ok (columns_from at source.columns) else columns_of name (at + length source.columns) more

abbrev pub is_empty : {A : Type 0} → List A → Bool
is_empty [] = true
is_empty (a ∷ more) = false

-- a column has its own name, as it is written
abbrev pub name_at : {A B C D : Type 0} → Expr-F A B C D → Option (List ℕ)
name_at (e.Column name) = Some name.column
name_at _ = None

abbrev pub alias_or : Option (List ℕ) → Expr → Option (List ℕ)
alias_or (Some alias) value = Some alias
alias_or None value = name_at (out-Expr value)

-- the name of an item: its alias, or that of a column
unfoldable pub item_name : Option (List ℕ) → Expr → Option (List ℕ)
item_name = alias_or

-- ORDER BY stands on the row that is followed by the values of the items, the first of which has this place. An output
-- of the answer is a column of it.
abbrev pub output : ℕ → Item → Output
output at it = record { name = it.name; spot = spot at it.value.kind }

unfoldable pub outputs_from : ℕ → List Item → List Output
outputs_from at [] = []
outputs_from at (it ∷ more) = output at it ∷ outputs_from (at + 1) more

-- ---- the plan

abbrev pub shown_name : Option (List ℕ) → List ℕ
shown_name (Some name) = name
shown_name None = codes "(no name)"

-- the widths of the sources that are there
abbrev pub left_width : List Shape → ℕ
left_width [] = 0
left_width (left ∷ more) = length left.columns

abbrev pub right_width : List Shape → ℕ
right_width [] = 0
right_width (left ∷ more) = left_width more

-- the place of ORDER BY: the row, and the outputs behind it
abbrev pub order_place : List Shape → List Item → Place
order_place sources items = ordering sources (outputs_from (left_width sources + right_width sources) items)

abbrev pub plan_of : Joined → Parts → Plan
plan_of from parts = record {
  left = left_width from.shapes;
  right = right_width from.shapes;
  names = map (λ it. shown_name it.name) parts.items;
  items = map (λ it. it.value.expr) parts.items;
  join = from.join;
  on = from.on;
  filter = parts.filter;
  order = parts.order;
}

module _ (tables : List Catalogued) (variables : List Variable) where
  -- an item is a value
  unfoldable pub one_item : List Shape → Expr → Option (List ℕ) → Answer (List Item)
  one_item sources value alias = do
    it ← walk tables variables value (row_of sources)
    any_value it
    Ok (item (item_name alias value) it ∷ [])

  abbrev pub item_by : List Shape → SelectItem → Answer (List Item)
  item_by sources wanted.All = demand (not (is_empty sources)) TypeClash >> Ok (all_columns 0 sources)
  item_by sources (wanted.AllOf name) = columns_of name 0 sources
  item_by sources (wanted.One value alias) = one_item sources value alias

  -- `*` without FROM is a clash
  unfoldable pub bound_item : List Shape → SelectItem → Answer (List Item)
  bound_item = item_by

  unfoldable pub items_of : List Shape → List SelectItem → Answer (List Item)
  items_of sources [] = Ok []
  items_of sources (it ∷ more) = do
    first ← bound_item sources it
    rest ← items_of sources more
    Ok (first ++ rest)

  -- ---- ORDER BY

  unfoldable pub order_by : Place → OrderItem → Answer OrderBy
  order_by place it = do
    bound ← walk tables variables it.value place
    value ← any_value bound
    Ok (record { expr = value; down = it.descending })

  -- ---- the whole

  abbrev pub from_of : Option FromClause → Answer Joined
  from_of None = Ok no_source
  from_of (Some from) = joined tables variables from

  -- what stands behind FROM: the items, WHERE, ORDER BY
  unfoldable pub parts_of : List Shape → Select → Answer Parts
  parts_of sources it = do
    items ← items_of sources it.items
    filter ← optional (condition tables variables (row_of sources)) it.condition
    order ← each (order_by (order_place sources items)) it.order
    Ok (record { items = items; filter = filter; order = order })

  -- what FROM comes to is there: what is left is what stands behind it
  abbrev pub select_from : Joined → Select → Answer BoundSelect
  select_from from it = do
    parts ← parts_of from.shapes it
    Ok (record { left = from.left; right = from.right; plan = plan_of from parts })

  unfoldable pub select : Select → Answer BoundSelect
  select it = do
    from ← from_of it.from
    parts ← parts_of from.shapes it
    Ok (record { left = from.left; right = from.right; plan = plan_of from parts })
