-- What SELECT refuses of NoColumn, Ambiguous and TypeClash.
use Rattle.std.proofs.Common.{◌≡◌, ℕ, ◌+◌, Bool, false, not, cond, List, [], ◌∷◌, length, Some, None, is_some, Ok, inl, inr, refl, ap, ◌∙◌}
use Rattle.std.specs.List.{Contains}
use Rattle.ct_types.specs.declared.catalogue.Catalogued.{Catalogued}
use Rattle.ct_types.specs.declared.catalogue.Variable.{Variable}
use Rattle.ct_types.specs.declared.expr.Expr.{Expr}
use Rattle.ct_types.specs.declared.refusal.Refusal.{Refusal}
use Rattle.ct_types.specs.declared.refusal.Refusal.TheVariants.{NoColumn, TypeClash}
use Rattle.ct_types.specs.declared.stmt.OrderItem.{OrderItem}
use Rattle.ct_types.specs.declared.stmt.Select.{Select}
use Rattle.ct_types.specs.declared.stmt.SelectItem.{SelectItem}
use Rattle.ct_types.specs.declared.stmt.SelectItem.TheVariants as wanted
use Rattle.ct_types.specs.Answers.{optional, each}
use Rattle.ct_types.proofs.AnswersCaused.{Caused, ok_caused, err_caused, weaker, then_caused, after_caused, met_caused, each_caused}
use Rattle.ct_bind_kinds.specs.declared.kind.Kind.TheVariants.{Condition}
use Rattle.ct_bind_names.specs.Names.{same}
use Rattle.ct_bind_expr.specs.declared.place.Place.{Place}
use Rattle.ct_bind_expr.specs.declared.place.Shape.{Shape}
use Rattle.ct_bind_expr.specs.declared.place.Typed.{Typed}
use Rattle.ct_bind_expr.specs.Places.{any_value, row_of}
use Rattle.ct_bind_expr.specs.Walk.{walk}
use Rattle.ct_bind.specs.Queries.{is_empty, columns_of, one_item, bound_item, items_of, order_by, order_place, from_of, parts_of, select}
use Rattle.ct_bind.specs.Sources.{condition}
use Rattle.ct_bind_place_laws.specs.Columns.{source_named}
use Rattle.ct_bind_place_laws.specs.Statements.{ValueRefuses, ItemRefuses, BehindFromRefuses, SelectRefuses}
use Rattle.ct_bind_place_laws.proofs.Columns.{chosen_by}
use Rattle.ct_bind_place_laws.proofs.Members.{first_is_in, later_is_in, all_members}
use Rattle.ct_bind_place_laws.proofs.Sources.{Said, for_that, walk_by, optional_by, condition_by, from_by}

columns_of_by : {Cause : Refusal → Type 0} (name : List ℕ) (at : ℕ) (sources : List Shape) → (source_named name sources ≡ None → Cause (NoColumn name)) → Caused Cause (columns_of name at sources)
unfolding columns_of
columns_of_by name at [] none = err_caused (NoColumn name) (none refl)
columns_of_by name at (source ∷ sources) none =
    chosen_by (same source.name name) _ _
    (λ e. columns_of_by name (at + length source.columns) sources (λ no. none (ap (λ (b : Bool). cond b (Some source) (source_named name sources)) e ∙ no)))

empty_is : (sources : List Shape) → not (is_empty sources) ≡ false → sources ≡ []
empty_is [] e = refl
empty_is (source ∷ sources) e = absurd cc

module _ (tables : List Catalogued) (variables : List Variable) where
  any_by : (place : Place) (x : Expr) (it : Typed) → walk tables variables x place ≡ Ok it → Caused (Said (ValueRefuses tables variables place x)) (any_value it)
  any_by place x it comes = met_caused _ TypeClash _ (λ e is. inr (refl, (it, comes, e))) (λ _. ok_caused _)

  walked_value : (place : Place) (x : Expr) → Caused (Said (ValueRefuses tables variables place x)) (walk tables variables x place)
  walked_value place x = weaker (walk tables variables x place) (λ refusal cause is. inl cause) (walk_by tables variables place x)

  -- ---- items

  item_by_by : (sources : List Shape) (item : SelectItem) → Caused (Said (ItemRefuses tables variables sources item)) (bound_item tables variables sources item)
  unfolding bound_item one_item
  item_by_by sources wanted.All = met_caused (not (is_empty sources)) TypeClash _ (λ e is. (refl, empty_is sources e)) (λ _. ok_caused _)
  item_by_by sources (wanted.AllOf name) = columns_of_by name 0 sources (λ none is. (refl, ap (λ o. is_some o) none))
  item_by_by sources (wanted.One value alias) =
      after_caused (walk tables variables value (row_of sources)) _ (walked_value (row_of sources) value)
      (λ it comes. then_caused (any_value it) _ (any_by (row_of sources) value it comes) (λ bound. ok_caused _))

  items_by : (sources : List Shape) (items : List SelectItem) → Caused (Said (λ refusal. (item : SelectItem) × Contains items item × ItemRefuses tables variables sources item refusal)) (items_of tables variables sources items)
  unfolding items_of
  items_by sources [] = ok_caused []
  items_by sources (item ∷ items) =
      then_caused (bound_item tables variables sources item) _ (for_that (bound_item tables variables sources item) (λ refusal cause. (item, first_is_in item items, cause)) (item_by_by sources item))
      (λ first. then_caused (items_of tables variables sources items) _
      (for_that (items_of tables variables sources items) (λ refusal cause. (cause.0, later_is_in item items cause.0 cause.1, cause.2)) (items_by sources items)) (λ rest. ok_caused _))

  -- ---- ORDER BY

  part_by : (place : Place) (part : OrderItem) → Caused (Said (ValueRefuses tables variables place part.value)) (order_by tables variables place part)
  unfolding order_by
  part_by place part =
      after_caused (walk tables variables part.value place) _ (walked_value place part.value)
      (λ it comes. then_caused (any_value it) _ (any_by place part.value it comes) (λ value. ok_caused _))

  order_by_by : (place : Place) (order : List OrderItem) → Caused (Said (λ refusal. (part : OrderItem) × Contains order part × ValueRefuses tables variables place part.value refusal)) (each (order_by tables variables place) order)
  order_by_by place order =
      each_caused (order_by tables variables place) order
      (all_members (λ part. Caused (Said (λ refusal. (part : OrderItem) × Contains order part × ValueRefuses tables variables place part.value refusal)) (order_by tables variables place part)) order
      (λ part is. for_that (order_by tables variables place part) (λ refusal cause. (part, is, cause)) (part_by place part)))

  -- ---- the whole

  behind_by : (sources : List Shape) (query : Select) → Caused (Said (BehindFromRefuses tables variables sources query)) (parts_of tables variables sources query)
  unfolding parts_of
  behind_by sources query =
      after_caused (items_of tables variables sources query.items) _ (for_that (items_of tables variables sources query.items) (λ refusal cause. inl cause) (items_by sources query.items))
      (λ items are. then_caused (optional (condition tables variables (row_of sources)) query.condition) _
      (for_that (optional (condition tables variables (row_of sources)) query.condition) (λ refusal cause. inr (inl cause))
      (optional_by tables variables (row_of sources) Condition (condition tables variables (row_of sources)) (condition_by tables variables (row_of sources)) query.condition))
      (λ filter. then_caused (each (order_by tables variables (order_place sources items)) query.order) _
      (for_that (each (order_by tables variables (order_place sources items)) query.order) (λ refusal cause. inr (inr (items, are, cause))) (order_by_by (order_place sources items) query.order)) (λ order. ok_caused _)))

  pub select_by : (query : Select) → Caused (Said (SelectRefuses tables variables query)) (select tables variables query)
  unfolding select
  select_by query =
      after_caused (from_of tables variables query.from) _ (for_that (from_of tables variables query.from) (λ refusal cause. inl cause) (from_by tables variables query.from))
      (λ from comes. then_caused (parts_of tables variables from.shapes query) _
      (for_that (parts_of tables variables from.shapes query) (λ refusal cause. inr (from, comes, cause)) (behind_by from.shapes query)) (λ parts. ok_caused _))
