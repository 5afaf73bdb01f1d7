-- The values of CHANGETABLE(VERSION ..) are at most as deep as those that are walked, and the scalar form is one deeper.
use Rattle.std.proofs.Common.{◌≡◌, ℕ, zero, suc, ◌+◌, ◌≤◌, ◌==◌, List, [], ◌∷◌, map, length, Option, Some, None, IfSome, arith}
use Rattle.std.specs.List.{AllByRecursion, slice_get, cons_option, filter_map}
use Rattle.std.specs.Option.{option_and_then}
use Rattle.ct_types.specs.declared.bound.BoundExpr.{BoundExpr}
use Rattle.ct_types.specs.declared.bound.BoundExpr.TheVariants as bound
use Rattle.ct_types.specs.declared.bound.BoundRowVersion.{BoundRowVersion, roll-BoundRowVersion}
use Rattle.ct_types.specs.declared.bound.BoundScalar.{BoundScalar, roll-BoundScalar}
use Rattle.ct_types.specs.declared.refusal.Refusal.TheVariants.{NoColumn, CountClash}
use Rattle.ct_types.specs.declared.schema.Column.{Column}
use Rattle.ct_types.specs.declared.schema.Schema.{Schema}
use Rattle.ct_bind_kinds.specs.declared.kind.Kind.{Kind}
use Rattle.ct_bind_names.specs.Names.{same, place_of}
use Rattle.ct_bind_expr.specs.declared.place.Place.{Place}
use Rattle.ct_bind_expr.specs.Places.{typed}
use Rattle.ct_bind_expr.specs.Versions.{Walk, operand, values, tuple, key_columns, listed_kinds, value_of, in_key_order, version_of, version_column}
use Rattle.ct_bind_expr.specs.Walk.{scalar_column}
use Rattle.ct_types.proofs.AnswersKept.{Kept, ok_kept, then_kept, after_kept, demand_kept}
use Rattle.ct_bind_depth_laws.specs.Depth.{deepest, bound_depth_of}
use Rattle.ct_bind_depth_laws.proofs.Deepest.{deepest_least}
use Rattle.ct_bind_depth_laws.proofs.Layers.{bound_version_depth_of, opened_bound_version, of_Scalar}
use Rattle.ct_bind_depth_laws.proofs.Operators.{NoDeeper, TypedNoDeeper, Bounded}
use Rattle.ct_bind_depth_laws.proofs.Chains.{NoneDeeper, AllBounded, operand_kept}

-- ---- what is chosen of a list

module _ {X : Type 0} (P : X → Type 0) where
  at_place : (xs : List X) (i : ℕ) → AllByRecursion P xs → IfSome (slice_get xs i) P
  at_place [] i all = tt
  at_place (x ∷ xs) zero all = all.0
  at_place (x ∷ xs) (suc i) all = at_place xs i all.1

  at_found : (xs : List X) (found : Option ℕ) → AllByRecursion P xs → IfSome (option_and_then (slice_get xs) found) P
  at_found xs None all = tt
  at_found xs (Some i) all = at_place xs i all

  before_all : (found : Option X) (xs : List X) → IfSome found P → AllByRecursion P xs → AllByRecursion P (cons_option found xs)
  before_all None xs here all = all
  before_all (Some x) xs here all = (here, all)

  chosen_all : {Y : Type 0} (choose : Y → Option X) → ((y : Y) → IfSome (choose y) P) → (ys : List Y) → AllByRecursion P (filter_map choose ys)
  chosen_all choose go [] = tt
  chosen_all choose go (y ∷ ys) = before_all (choose y) (filter_map choose ys) (go y) (chosen_all choose go ys)

in_order : (n : ℕ) (key : List Column) (names : List (List ℕ)) (made : List BoundExpr) → NoneDeeper n made → NoneDeeper n (in_key_order key names made)
unfolding in_key_order
in_order n key names made all = chosen_all (NoDeeper n) (value_of names made) (λ column. at_found (NoDeeper n) made (place_of column.name names) all) key

-- ---- tuples

module _ (n : ℕ) (place : Place) where
  values_kept : (kinds : List Kind) (walks : List Walk) → AllBounded n place walks → Kept (NoneDeeper n) (values place kinds walks)
  unfolding values
  values_kept [] walks all = ok_kept (NoneDeeper n) [] tt
  values_kept (kind ∷ kinds) [] all = ok_kept (NoneDeeper n) [] tt
  values_kept (kind ∷ kinds) (walk ∷ walks) all =
      then_kept (NoDeeper n) (NoneDeeper n) (operand kind place walk) _ (operand_kept n place kind walk all.0)
      (λ x below. then_kept (NoneDeeper n) (NoneDeeper n) (values place kinds walks) _ (values_kept kinds walks all.1)
      (λ made rest. ok_kept (NoneDeeper n) (x ∷ made) (below, rest)))

  pub tuple_kept : (kinds : List Kind) (walks : List Walk) → AllBounded n place walks → Kept (NoneDeeper n) (tuple place kinds walks)
  unfolding tuple
  tuple_kept kinds walks all = demand_kept (NoneDeeper n) (length walks == length kinds) (CountClash (length kinds) (length walks)) _ (λ _. values_kept kinds walks all)

  -- ---- CHANGETABLE(VERSION ..)

  pub version_kept : (table : Schema) (names : List (List ℕ)) (walks : List Walk) → AllBounded n place walks → Kept (λ version. NoneDeeper n version.values) (version_of table names walks place)
  unfolding version_of
  version_kept table names walks all =
      after_kept (λ version. NoneDeeper n version.values) (listed_kinds (key_columns table) names) _
      (λ kinds. then_kept (NoneDeeper n) (λ version. NoneDeeper n version.values) (tuple place kinds walks) _ (tuple_kept kinds walks all)
      (λ made below. ok_kept (λ version. NoneDeeper n version.values) (roll-BoundRowVersion (record { table = table.id; values = in_key_order (key_columns table) names made })) (in_order n (key_columns table) names made below)))

-- ---- the scalar form

scalar_deeper : (n : ℕ) (scalar : BoundScalar) → NoneDeeper n scalar.version.values → NoDeeper (1 + n) (bound.Scalar scalar)
scalar_deeper n scalar all =
    let whole : bound_depth_of (bound.Scalar scalar) ≡ 1 + bound_version_depth_of scalar.version = of_Scalar scalar in
    let opened : bound_version_depth_of scalar.version ≡ deepest (map bound_depth_of scalar.version.values) = opened_bound_version scalar.version in
    let below : deepest (map bound_depth_of scalar.version.values) ≤ n = deepest_least bound_depth_of n scalar.version.values all in
    omega arith

pub scalar_kept : (n : ℕ) (table : Schema) (source alias column : List ℕ) (version : BoundRowVersion) → NoneDeeper n version.values → Bounded (1 + n) (scalar_column table source alias column version)
unfolding scalar_column
scalar_kept n table source alias column version all =
    demand_kept (TypedNoDeeper (1 + n)) (same source alias) (NoColumn source) _
    (λ _. after_kept (TypedNoDeeper (1 + n)) (version_column table column) _
    (λ shown. ok_kept (TypedNoDeeper (1 + n)) (typed (bound.Scalar (roll-BoundScalar (record { version = version; column = shown.0 }))) shown.1)
    (scalar_deeper n (roll-BoundScalar (record { version = version; column = shown.0 })) all)))
