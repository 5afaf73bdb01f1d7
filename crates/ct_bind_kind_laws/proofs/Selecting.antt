-- That what a SELECT comes to is well formed.
use Rattle.std.proofs.Common.{◌≡◌, ℕ, ◌+◌, true, not, List, [], ◌∷◌, ◌++◌, map, length, length-append, Option, Some, IfSome, Ok, refl, sym, ap, ◌∙◌}
use Rattle.std.specs.List.{AllByRecursion}
use Rattle.std.proofs.lemmas.List.{length-map, append-nil}
use Rattle.ct_types.specs.declared.bound.OrderBy.{OrderBy}
use Rattle.ct_types.specs.declared.catalogue.Catalogued.{Catalogued}
use Rattle.ct_types.specs.declared.catalogue.Variable.{Variable}
use Rattle.ct_types.specs.declared.expr.Expr.{Expr}
use Rattle.ct_types.specs.declared.refusal.Refusal.TheVariants.{NoColumn, TypeClash}
use Rattle.ct_types.specs.declared.stmt.OrderItem.{OrderItem}
use Rattle.ct_types.specs.declared.stmt.Select.{Select}
use Rattle.ct_types.specs.declared.stmt.SelectItem.{SelectItem}
use Rattle.ct_types.specs.declared.stmt.SelectItem.TheVariants as wanted
use Rattle.ct_bind_kinds.specs.declared.kind.Kind.{Kind}
use Rattle.ct_bind_kinds.specs.Kinds.{is_value}
use Rattle.ct_bind_kinds.specs.WellFormed.{Scope, kind_of, is_any_value}
use Rattle.ct_types.specs.Answers.{optional, each}
use Rattle.ct_bind_names.specs.Names.{same}
use Rattle.ct_bind_expr.specs.declared.place.Typed.{Typed}
use Rattle.ct_bind_expr.specs.declared.place.Shown.{Shown}
use Rattle.ct_bind_expr.specs.declared.place.Shape.{Shape}
use Rattle.ct_bind_expr.specs.declared.place.Place.{Place}
use Rattle.ct_bind_expr.specs.Places.{spot, any_value, row_of}
use Rattle.ct_bind_expr.specs.Walk.{walk}
use Rattle.ct_bind.specs.Sources.{condition}
use Rattle.ct_bind.specs.Queries.{item, columns_from, all_columns, columns_of, is_empty, item_name, outputs_from, shown_name, left_width, right_width, order_place, plan_of, one_item, bound_item, item_by, items_of, order_by, from_of, parts_of, select}
use Rattle.ct_bind_kind_laws.specs.Laws.{Sound, Shows, StandsIn, row_kinds}
use Rattle.ct_bind_kind_laws.specs.Statements.{IsCondition, scope_of}
use Rattle.ct_bind_kind_laws.specs.Queries.{JoinFits, AreValues, IsSelect}
use Rattle.ct_types.proofs.Lists.{all_append, all_front, all_back}
use Rattle.ct_bind_kind_laws.proofs.Operators.{Kinded, value_operand}
use Rattle.ct_bind_kind_laws.proofs.Columns.{stands_here, one_further, behind_one, next_source, this_source, source_further, spot_kinded}
use Rattle.ct_types.proofs.AnswersKept.{Kept, here_kept, ok_kept, err_kept, then_kept, demand_kept, optional_kept, each_kept, two_kept}
use Rattle.ct_bind_kind_laws.proofs.Writing.{walked, condition_kept}
use Rattle.ct_bind_kind_laws.proofs.Sourcing.{shape_row, left_row, right_row, AreValueKinds, row_shows, IsFrom, from_kept}
use Rattle.ct_bind_kind_laws.proofs.Joins.{from_fits}

-- ---- items

module _ (s : Scope) where
  -- a value that has the kind that it is said to have
  abbrev Valued : Typed → Type 0
  Valued it = Kinded s it × (is_value it.kind ≡ true)

  columns_valued : (before : List Kind) (shown : List Shown) (after : List Kind) (at : ℕ) → s.columns ≡ before ++ (map (λ (column : Shown). column.kind) shown ++ after) → at ≡ length before
      → AreValueKinds (map (λ (column : Shown). column.kind) shown) → AllByRecursion (λ it. Valued it.value) (columns_from at shown)
  unfolding columns_from
  columns_valued before [] after at is far values = tt
  columns_valued before (column ∷ more) after at is far values =
      let rest : List Kind = map (λ (column : Shown). column.kind) more ++ after in (
        (spot_kinded s (spot at column.kind) (stands_here s.columns before column.kind rest at is far), values.0),
        columns_valued (before ++ column.kind ∷ []) more after (at + 1) (behind_one s.columns before column.kind rest is) (one_further before column.kind at far) values.1,
      )

  all_columns_valued : (before : List Kind) (sources : List Shape) (after : List Kind) (at : ℕ) → s.columns ≡ before ++ (row_kinds sources ++ after) → at ≡ length before → AreValueKinds (row_kinds sources)
      → AllByRecursion (λ it. Valued it.value) (all_columns at sources)
  unfolding all_columns
  all_columns_valued before [] after at is far values = tt
  all_columns_valued before (source ∷ more) after at is far values =
      all_append (λ it. Valued it.value) (columns_from at source.columns) (all_columns (at + length source.columns) more)
      (columns_valued before source.columns (row_kinds more ++ after) at (this_source s.columns before source more after is) far (all_front (λ kind. is_value kind ≡ true) (shape_row source) (row_kinds more) values))
      (all_columns_valued (before ++ shape_row source) more after (at + length source.columns) (next_source s.columns before source more after is) (source_further s.columns before source at far)
      (all_back (λ kind. is_value kind ≡ true) (shape_row source) (row_kinds more) values))

  columns_of_kept : (name : List ℕ) (before : List Kind) (sources : List Shape) (after : List Kind) (at : ℕ) → s.columns ≡ before ++ (row_kinds sources ++ after) → at ≡ length before → AreValueKinds (row_kinds sources)
      → Kept (AllByRecursion (λ it. Valued it.value)) (columns_of name at sources)
  unfolding columns_of
  columns_of_kept name before [] after at is far values = err_kept (AllByRecursion (λ it. Valued it.value)) (NoColumn name)
  columns_of_kept name before (source ∷ more) after at is far values =
      here_kept (AllByRecursion (λ it. Valued it.value)) (same source.name name) (columns_from at source.columns) (columns_of name (at + length source.columns) more)
      (columns_valued before source.columns (row_kinds more ++ after) at (this_source s.columns before source more after is) far (all_front (λ kind. is_value kind ≡ true) (shape_row source) (row_kinds more) values))
      (columns_of_kept name (before ++ shape_row source) more after (at + length source.columns) (next_source s.columns before source more after is) (source_further s.columns before source at far)
      (all_back (λ kind. is_value kind ≡ true) (shape_row source) (row_kinds more) values))

  module _ {X : Type 0} (value : X → Typed) where
    item_kinds : (items : List X) → AllByRecursion (λ it. Valued (value it)) items → map (kind_of s) (map (λ it. (value it).expr) items) ≡ map (λ kind. Some kind) (map (λ it. (value it).kind) items)
    item_kinds [] all = refl
    item_kinds (it ∷ more) all =
        ap (λ kind. kind ∷ map (kind_of s) (map (λ it. (value it).expr) more)) all.0.0 ∙ ap (λ kinds. Some (value it).kind ∷ kinds) (item_kinds more all.1)

    item_values : (items : List X) → AllByRecursion (λ it. Valued (value it)) items → AreValues s (map (λ it. (value it).expr) items)
    item_values [] all = tt
    item_values (it ∷ more) all = (ap is_any_value all.0.0 ∙ all.0.1, item_values more all.1)

-- ---- outputs

-- the values of the items stand behind the row
outputs_stand : (whole before : List Kind) (at : ℕ) (items : _)
    → let outputs = outputs_from at items in whole ≡ before ++ map (λ it. it.value.kind) items → at ≡ length before → AllByRecursion (λ output. StandsIn whole output.spot) outputs
unfolding outputs_from
outputs_stand whole before at [] is far = tt
outputs_stand whole before at (it ∷ more) is far = (
  stands_here whole before it.value.kind (map (λ it. it.value.kind) more) at is far,
  outputs_stand whole (before ++ it.value.kind ∷ []) (at + 1) more (behind_one whole before it.value.kind (map (λ it. it.value.kind) more) is) (one_further before it.value.kind at far),
)

left_wide : (shapes : List Shape) → left_width shapes ≡ length (left_row shapes)
left_wide [] = refl
left_wide (left ∷ more) = sym (length-map left.columns (λ (column : Shown). column.kind))

right_wide : (shapes : List Shape) → right_width shapes ≡ length (right_row shapes)
right_wide [] = refl
right_wide (left ∷ more) = left_wide more

whole_wide : (shapes : List Shape) → left_width shapes + right_width shapes ≡ length (left_row shapes ++ right_row shapes)
whole_wide shapes = ap (λ n. n + right_width shapes) (left_wide shapes) ∙ ap (λ n. length (left_row shapes) + n) (right_wide shapes) ∙ sym (length-append (left_row shapes) (right_row shapes))

-- ---- the whole

module _ (tables : List Catalogued) (variables : List Variable) (sound : Sound tables) where
  -- ---- ORDER BY

  abbrev IsOrder : List Kind → OrderBy → Type 0
  IsOrder columns it = is_any_value (kind_of (scope_of tables variables columns) it.expr) ≡ true

  order_kept : (columns : List Kind) (place : Place) → Shows place columns → (it : OrderItem) → Kept (IsOrder columns) (order_by tables variables place it)
  unfolding order_by
  order_kept columns place shows it =
      then_kept (λ bound. Kinded (scope_of tables variables columns) bound) (IsOrder columns) (walk tables variables it.value place) _
      (record { holds = λ bound e. walked tables variables sound columns place shows it.value bound e })
      (λ bound kinded. then_kept (λ value. is_any_value (kind_of (scope_of tables variables columns) value) ≡ true) (IsOrder columns) (any_value bound) _
      (record { holds = λ value e. value_operand (scope_of tables variables columns) bound value kinded e })
      (λ value holds. ok_kept (IsOrder columns) (record { expr = value; down = it.descending }) holds))

  order_values : (columns : List Kind) (order : List OrderBy) → AllByRecursion (IsOrder columns) order → AreValues (scope_of tables variables columns) (map (λ it. it.expr) order)
  order_values columns [] all = tt
  order_values columns (it ∷ more) all = (all.0, order_values columns more all.1)

  -- ---- items

  module _ (shapes : List Shape) (row : List Kind) (are : row_kinds shapes ≡ row) (values : AreValueKinds (row_kinds shapes)) where
    abbrev here : Scope
    here = scope_of tables variables row

    whole : row ≡ row_kinds shapes ++ []
    whole = sym are ∙ sym (append-nil (row_kinds shapes))

    one_kept : (value : Expr) (alias : Option (List ℕ)) → Kept (AllByRecursion (λ it. Valued here it.value)) (one_item tables variables shapes value alias)
    unfolding one_item
    one_kept value alias =
        then_kept (Kinded here) (AllByRecursion (λ it. Valued here it.value)) (walk tables variables value (row_of shapes)) _
        (record { holds = λ it e. walked tables variables sound row (row_of shapes) (row_shows shapes row are) value it e })
        (λ it kinded. then_kept (λ _. is_value it.kind ≡ true) (AllByRecursion (λ it. Valued here it.value)) (any_value it) _
        (demand_kept (λ _. is_value it.kind ≡ true) (is_value it.kind) TypeClash (Ok it.expr) (λ holds. ok_kept (λ _. is_value it.kind ≡ true) it.expr holds))
        (λ _ holds. ok_kept (AllByRecursion (λ it. Valued here it.value)) (item (item_name alias value) it ∷ []) ((kinded, holds), tt)))

    item_kept : (it : SelectItem) → Kept (AllByRecursion (λ it. Valued here it.value)) (item_by tables variables shapes it)
    item_kept wanted.All =
        demand_kept (AllByRecursion (λ it. Valued here it.value)) (not (is_empty shapes)) TypeClash _
        (λ _. ok_kept (AllByRecursion (λ it. Valued here it.value)) (all_columns 0 shapes) (all_columns_valued here [] shapes [] 0 whole refl values))
    item_kept (wanted.AllOf name) = columns_of_kept here name [] shapes [] 0 whole refl values
    item_kept (wanted.One value alias) = one_kept value alias

    items_kept : (all : List SelectItem) → Kept (AllByRecursion (λ it. Valued here it.value)) (items_of tables variables shapes all)
    unfolding items_of bound_item
    items_kept [] = ok_kept (AllByRecursion (λ it. Valued here it.value)) [] tt
    items_kept (it ∷ more) =
        then_kept (AllByRecursion (λ it. Valued here it.value)) (AllByRecursion (λ it. Valued here it.value)) (item_by tables variables shapes it) _ (item_kept it)
        (λ first fine. then_kept (AllByRecursion (λ it. Valued here it.value)) (AllByRecursion (λ it. Valued here it.value)) (items_of tables variables shapes more) _ (items_kept more)
        (λ rest rest_fine. ok_kept (AllByRecursion (λ it. Valued here it.value)) (first ++ rest) (all_append (λ it. Valued here it.value) first rest fine rest_fine)))

  -- what stands behind FROM
  order_shows : (shapes : List Shape) (row : List Kind) → row_kinds shapes ≡ row → row ≡ left_row shapes ++ right_row shapes → (items : _) → Shows (order_place shapes items) (row ++ map (λ it. it.value.kind) items)
  order_shows shapes row are wide items = record {
    others = map (λ it. it.value.kind) items;
    sources = ap (λ kinds. kinds ++ map (λ it. it.value.kind) items) (sym are);
    outputs = outputs_stand (row ++ map (λ it. it.value.kind) items) row (left_width shapes + right_width shapes) items refl (whole_wide shapes ∙ ap length (sym wide));
  }

  parts_kept : (shapes : List Shape) (row : List Kind) → row_kinds shapes ≡ row → row ≡ left_row shapes ++ right_row shapes → AreValueKinds (row_kinds shapes) → (it : Select)
      → Kept (λ parts. AllByRecursion (λ it. Valued (scope_of tables variables row) it.value) parts.items × IfSome parts.filter (IsCondition (scope_of tables variables row))
      × AllByRecursion (IsOrder (row ++ map (λ it. it.value.kind) parts.items)) parts.order) (parts_of tables variables shapes it)
  unfolding parts_of
  parts_kept shapes row are wide values it =
      let scope : Scope = scope_of tables variables row in
      then_kept (AllByRecursion (λ it. Valued scope it.value)) _ (items_of tables variables shapes it.items) _ (items_kept shapes row are values it.items)
      (λ items valued. then_kept (λ found. IfSome found (IsCondition scope)) _ (optional (condition tables variables (row_of shapes)) it.condition) _
      (optional_kept (IsCondition scope) (condition tables variables (row_of shapes)) (condition_kept tables variables sound row (row_of shapes) (row_shows shapes row are)) it.condition)
      (λ filter holds. then_kept (AllByRecursion (IsOrder (row ++ map (λ it. it.value.kind) items))) _ (each (order_by tables variables (order_place shapes items)) it.order) _
      (each_kept (IsOrder (row ++ map (λ it. it.value.kind) items)) (order_by tables variables (order_place shapes items))
      (order_kept (row ++ map (λ it. it.value.kind) items) (order_place shapes items) (order_shows shapes row are wide items)) it.order)
      (λ order sorted. ok_kept _ _ (valued, holds, sorted))))

  pub select_kept : (it : Select) → Kept (IsSelect tables variables) (select tables variables it)
  unfolding select
  select_kept it =
      then_kept (λ from. IsFrom tables variables sound from.left from.right from.join from.on from.shapes × JoinFits from.join from.left from.right from.on) (IsSelect tables variables) (from_of tables variables it.from) _
      (two_kept _ _ (from_of tables variables it.from) (from_kept tables variables sound it.from) (from_fits tables variables it.from))
      (λ from both.
      let fine = both.0 in
      let row : List Kind = left_row from.shapes ++ right_row from.shapes in
      let scope : Scope = scope_of tables variables row in
      then_kept (λ parts. AllByRecursion (λ it. Valued scope it.value) parts.items × IfSome parts.filter (IsCondition scope) × AllByRecursion (IsOrder (row ++ map (λ it. it.value.kind) parts.items)) parts.order)
      (IsSelect tables variables) (parts_of tables variables from.shapes it) _ (parts_kept from.shapes row fine.row refl fine.values it)
      (λ parts are. ok_kept (IsSelect tables variables) (record { left = from.left; right = from.right; plan = plan_of from parts }) (record {
        shape = both.1;
        left = left_row from.shapes;
        right = right_row from.shapes;
        items = map (λ it. it.value.kind) parts.items;
        left_shows = fine.left_shows;
        right_shows = fine.right_shows;
        left_width = left_wide from.shapes;
        right_width = right_wide from.shapes;
        on = fine.condition;
        filter = are.1;
        names = length-map parts.items (λ it. shown_name it.name) ∙ sym (length-map parts.items (λ it. it.value.kind));
        kinds = item_kinds scope (λ it. it.value) parts.items are.0;
        values = item_values scope (λ it. it.value) parts.items are.0;
        order = order_values (row ++ map (λ it. it.value.kind) parts.items) parts.order are.2;
      })))
