-- What a SELECT comes to is at most as deep as the statement.
use Rattle.std.proofs.Common.{◌≡◌, ℕ, ◌+◌, not, List, [], ◌∷◌, ◌++◌, map, length, Option, arith}
use Rattle.std.specs.List.{AllByRecursion, flat_map}
use Rattle.std.specs.Option.{option_to_list}
use Rattle.ct_types.specs.declared.bound.BoundExpr.TheVariants.{Column as column_here}
use Rattle.ct_types.specs.declared.bound.BoundSelect.{BoundSelect}
use Rattle.ct_types.specs.declared.bound.OrderBy.{OrderBy}
use Rattle.ct_types.specs.declared.catalogue.Catalogued.{Catalogued}
use Rattle.ct_types.specs.declared.catalogue.Variable.{Variable}
use Rattle.ct_types.specs.declared.expr.Expr.{Expr}
use Rattle.ct_types.specs.declared.refusal.Refusal.TheVariants.{NoColumn, TypeClash}
use Rattle.ct_types.specs.declared.stmt.OrderItem.{OrderItem}
use Rattle.ct_types.specs.declared.stmt.Select.{Select}
use Rattle.ct_types.specs.declared.stmt.SelectItem.{SelectItem}
use Rattle.ct_types.specs.declared.stmt.SelectItem.TheVariants as wanted
use Rattle.ct_types.specs.Answers.{optional, each}
use Rattle.ct_bind_names.specs.Names.{same}
use Rattle.ct_model.proofs.Members.{all_map}
use Rattle.ct_bind_expr.specs.declared.place.Typed.{Typed}
use Rattle.ct_bind_expr.specs.declared.place.Shown.{Shown}
use Rattle.ct_bind_expr.specs.declared.place.Shape.{Shape}
use Rattle.ct_bind_expr.specs.declared.place.Place.{Place}
use Rattle.ct_bind_expr.specs.Places.{any_value, row_of}
use Rattle.ct_bind_expr.specs.Walk.{walk}
use Rattle.ct_bind.specs.Sources.{condition}
use Rattle.ct_bind.specs.Queries.{item, columns_from, all_columns, columns_of, is_empty, item_name, order_place, plan_of, one_item, bound_item, item_by, items_of, order_by, from_of, parts_of, select}
use Rattle.ct_types.proofs.AnswersKept.{Kept, here_kept, ok_kept, err_kept, then_kept, after_kept, demand_kept}
use Rattle.ct_types.proofs.Lists.{all_append, all_front, all_back, all_mapped}
use Rattle.ct_bind_depth_laws.specs.Depth.{bound_depth_of}
use Rattle.ct_bind_depth_laws.specs.Statements.{if_given, from_expressions, item_expressions, select_expressions, bound_source_expressions, bound_select_expressions}
use Rattle.ct_bind_depth_laws.proofs.Given.{each_given}
use Rattle.ct_bind_depth_laws.proofs.Layers.{of_Column}
use Rattle.ct_bind_depth_laws.proofs.Operators.{NoDeeper, TypedNoDeeper, value_kept}
use Rattle.ct_bind_depth_laws.proofs.Chains.{NoneDeeper}
use Rattle.ct_bind_depth_laws.proofs.Operands.{Within, AllWithin, GivenNoDeeper, walked, condition_kept, given_kept}
use Rattle.ct_bind_depth_laws.proofs.Sourcing.{FromNoDeeper, from_kept}

module _ (n : ℕ) where
  -- ---- `*`

  column_below : (at : ℕ) → NoDeeper n (column_here at)
  column_below at = let flat : bound_depth_of (column_here at) ≡ 0 = of_Column at in omega arith

  columns_below : (at : ℕ) (columns : List Shown) → AllByRecursion (λ it. TypedNoDeeper n it.value) (columns_from at columns)
  unfolding columns_from
  columns_below at [] = tt
  columns_below at (column ∷ more) = (column_below at, columns_below (at + 1) more)

  all_columns_below : (at : ℕ) (sources : List Shape) → AllByRecursion (λ it. TypedNoDeeper n it.value) (all_columns at sources)
  unfolding all_columns
  all_columns_below at [] = tt
  all_columns_below at (source ∷ more) =
      all_append (λ it. TypedNoDeeper n it.value) (columns_from at source.columns) (all_columns (at + length source.columns) more) (columns_below at source.columns) (all_columns_below (at + length source.columns) more)

  columns_of_kept : (name : List ℕ) (at : ℕ) (sources : List Shape) → Kept (AllByRecursion (λ it. TypedNoDeeper n it.value)) (columns_of name at sources)
  unfolding columns_of
  columns_of_kept name at [] = err_kept (AllByRecursion (λ it. TypedNoDeeper n it.value)) (NoColumn name)
  columns_of_kept name at (source ∷ more) =
      here_kept (AllByRecursion (λ it. TypedNoDeeper n it.value)) (same source.name name) (columns_from at source.columns) (columns_of name (at + length source.columns) more)
      (columns_below at source.columns) (columns_of_kept name (at + length source.columns) more)

  -- the values of the items
  values_below : {X : Type 0} (value : X → Typed) (items : List X) → AllByRecursion (λ it. TypedNoDeeper n (value it)) items → NoneDeeper n (map (λ it. (value it).expr) items)
  values_below value items all = all_map (λ it. TypedNoDeeper n (value it)) (NoDeeper n) (λ it. (value it).expr) (λ _ below. below) items all

module _ (tables : List Catalogued) (variables : List Variable) (n : ℕ) where
  -- ---- items

  one_kept : (shapes : List Shape) (value : Expr) (alias : Option (List ℕ)) → Within n value → Kept (AllByRecursion (λ it. TypedNoDeeper n it.value)) (one_item tables variables shapes value alias)
  unfolding one_item
  one_kept shapes value alias within =
      then_kept (TypedNoDeeper n) (AllByRecursion (λ it. TypedNoDeeper n it.value)) (walk tables variables value (row_of shapes)) _ (walked tables variables n (row_of shapes) value within)
      (λ it below. after_kept (AllByRecursion (λ it. TypedNoDeeper n it.value)) (any_value it) _
      (λ _. ok_kept (AllByRecursion (λ it. TypedNoDeeper n it.value)) (item (item_name alias value) it ∷ []) (below, tt)))

  item_kept : (shapes : List Shape) (it : SelectItem) → AllWithin n (item_expressions it) → Kept (AllByRecursion (λ it. TypedNoDeeper n it.value)) (item_by tables variables shapes it)
  item_kept shapes wanted.All within =
      demand_kept (AllByRecursion (λ it. TypedNoDeeper n it.value)) (not (is_empty shapes)) TypeClash _
      (λ _. ok_kept (AllByRecursion (λ it. TypedNoDeeper n it.value)) (all_columns 0 shapes) (all_columns_below n 0 shapes))
  item_kept shapes (wanted.AllOf name) within = columns_of_kept n name 0 shapes
  item_kept shapes (wanted.One value alias) within = one_kept shapes value alias within.0

  items_kept : (shapes : List Shape) (all : List SelectItem) → AllWithin n (flat_map item_expressions all) → Kept (AllByRecursion (λ it. TypedNoDeeper n it.value)) (items_of tables variables shapes all)
  unfolding items_of bound_item
  items_kept shapes [] within = ok_kept (AllByRecursion (λ it. TypedNoDeeper n it.value)) [] tt
  items_kept shapes (it ∷ more) within =
      then_kept (AllByRecursion (λ it. TypedNoDeeper n it.value)) (AllByRecursion (λ it. TypedNoDeeper n it.value)) (item_by tables variables shapes it) _
      (item_kept shapes it (all_front (Within n) (item_expressions it) (flat_map item_expressions more) within))
      (λ first all. then_kept (AllByRecursion (λ it. TypedNoDeeper n it.value)) (AllByRecursion (λ it. TypedNoDeeper n it.value)) (items_of tables variables shapes more) _
      (items_kept shapes more (all_back (Within n) (item_expressions it) (flat_map item_expressions more) within))
      (λ rest all_rest. ok_kept (AllByRecursion (λ it. TypedNoDeeper n it.value)) (first ++ rest) (all_append (λ it. TypedNoDeeper n it.value) first rest all all_rest)))

  -- ---- ORDER BY

  abbrev OrderNoDeeper : OrderBy → Type 0
  OrderNoDeeper it = NoDeeper n it.expr

  order_kept : (place : Place) (it : OrderItem) → Within n it.value → Kept OrderNoDeeper (order_by tables variables place it)
  unfolding order_by
  order_kept place it within =
      then_kept (TypedNoDeeper n) OrderNoDeeper (walk tables variables it.value place) _ (walked tables variables n place it.value within)
      (λ bound below. then_kept (NoDeeper n) OrderNoDeeper (any_value bound) _ (value_kept n bound below)
      (λ value under. ok_kept OrderNoDeeper (record { expr = value; down = it.descending }) under))

  -- ---- what stands behind FROM

  abbrev order_of : Select → List Expr
  order_of it = map (λ (order : OrderItem). order.value) it.order

  parts_kept : (shapes : List Shape) (it : Select) → AllWithin n (flat_map item_expressions it.items) → AllWithin n (option_to_list it.condition) → AllWithin n (order_of it)
      → Kept (λ parts. AllByRecursion (λ it. TypedNoDeeper n it.value) parts.items × GivenNoDeeper n parts.filter × AllByRecursion OrderNoDeeper parts.order) (parts_of tables variables shapes it)
  unfolding parts_of
  parts_kept shapes it of_items of_condition of_order =
      then_kept (AllByRecursion (λ it. TypedNoDeeper n it.value)) _ (items_of tables variables shapes it.items) _ (items_kept shapes it.items of_items)
      (λ items all. then_kept (GivenNoDeeper n) _ (optional (condition tables variables (row_of shapes)) it.condition) _
      (given_kept tables variables n (condition tables variables (row_of shapes)) (condition_kept tables variables n (row_of shapes)) it.condition of_condition)
      (λ filter below. then_kept (AllByRecursion OrderNoDeeper) _ (each (order_by tables variables (order_place shapes items)) it.order) _
      (each_given (λ (order : OrderItem). Within n order.value) OrderNoDeeper (order_by tables variables (order_place shapes items)) (order_kept (order_place shapes items)) it.order
      (all_mapped (λ (order : OrderItem). order.value) (Within n) it.order of_order))
      (λ order sorted. ok_kept _ _ (all, below, sorted))))

  -- ---- the whole

  abbrev pub SelectNoDeeper : BoundSelect → Type 0
  SelectNoDeeper it = NoneDeeper n (bound_select_expressions it)

  abbrev sources_of : Select → List Expr
  sources_of it = if_given from_expressions it.from

  abbrev items_in : Select → List Expr
  items_in it = flat_map item_expressions it.items

  abbrev condition_in : Select → List Expr
  condition_in it = option_to_list it.condition

  selected : (it : Select) → AllWithin n (sources_of it) → AllWithin n (items_in it) → AllWithin n (condition_in it) → AllWithin n (order_of it) → Kept SelectNoDeeper (select tables variables it)
  unfolding select
  selected it of_from of_items of_condition of_order =
      then_kept (λ from. FromNoDeeper tables variables n from.left from.right from.on) SelectNoDeeper (from_of tables variables it.from) _ (from_kept tables variables n it.from of_from)
      (λ from fine. then_kept (λ parts. AllByRecursion (λ it. TypedNoDeeper n it.value) parts.items × GivenNoDeeper n parts.filter × AllByRecursion OrderNoDeeper parts.order) SelectNoDeeper
      (parts_of tables variables from.shapes it) _ (parts_kept from.shapes it of_items of_condition of_order)
      (λ parts are.
      let items = map (λ it. it.value.expr) parts.items in
      let order = map (λ (it : OrderBy). it.expr) parts.order in
      let on = option_to_list from.on in
      let filter = option_to_list parts.filter in
      let left = if_given bound_source_expressions from.left in
      let right = if_given bound_source_expressions from.right in
      let of_plan : NoneDeeper n (items ++ on ++ filter ++ order) =
      all_append (NoDeeper n) (items ++ on ++ filter) order
      (all_append (NoDeeper n) (items ++ on) filter (all_append (NoDeeper n) items on (values_below n (λ it. it.value) parts.items are.0) fine.of_on) are.1)
      (all_map OrderNoDeeper (NoDeeper n) (λ it. it.expr) (λ _ below. below) parts.order are.2) in
      ok_kept SelectNoDeeper (record { left = from.left; right = from.right; plan = plan_of from parts })
      (all_append (NoDeeper n) (left ++ right) (items ++ on ++ filter ++ order) (all_append (NoDeeper n) left right fine.of_left fine.of_right) of_plan)))

  pub select_kept : (it : Select) → AllWithin n (select_expressions it) → Kept SelectNoDeeper (select tables variables it)
  select_kept it within =
      let front : AllWithin n (sources_of it ++ items_in it ++ condition_in it) = all_front (Within n) (sources_of it ++ items_in it ++ condition_in it) (order_of it) within in
      let of_order : AllWithin n (order_of it) = all_back (Within n) (sources_of it ++ items_in it ++ condition_in it) (order_of it) within in
      let first : AllWithin n (sources_of it ++ items_in it) = all_front (Within n) (sources_of it ++ items_in it) (condition_in it) front in
      let of_condition : AllWithin n (condition_in it) = all_back (Within n) (sources_of it ++ items_in it) (condition_in it) front in
      selected it (all_front (Within n) (sources_of it) (items_in it) first) (all_back (Within n) (sources_of it) (items_in it) first) of_condition of_order
