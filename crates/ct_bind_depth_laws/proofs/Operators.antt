-- What an operator comes to is at most one deeper than its operands.
use Rattle.std.proofs.Common.{◌≡◌, ℕ, ◌+◌, ◌≤◌, max, Ok, arith}
use Rattle.ct_types.specs.declared.bound.BoundExpr.{BoundExpr}
use Rattle.ct_types.specs.declared.bound.BoundExpr.TheVariants as bound
use Rattle.ct_types.specs.declared.expr.Comparison.{Comparison}
use Rattle.ct_types.specs.declared.refusal.Refusal.TheVariants.{TypeClash}
use Rattle.ct_bind_kinds.specs.declared.kind.Kind.{Kind}
use Rattle.ct_bind_kinds.specs.declared.kind.Kind.TheVariants.{Number, Text, Bytes, Condition}
use Rattle.ct_bind_kinds.specs.Kinds.{is_value, either}
use Rattle.ct_types.specs.Answers.{Answer, ◌>>=◌}
use Rattle.ct_bind_expr.specs.declared.place.Typed.{Typed}
use Rattle.ct_bind_expr.specs.declared.place.Place.{Place}
use Rattle.ct_bind_expr.specs.Places.{typed, is_a, of_kind, any_value, go_together}
use Rattle.ct_bind_expr.specs.Versions.{Walk}
use Rattle.ct_bind_expr.specs.Walk as spec
use Rattle.ct_bind_expr.specs.Walk.{two, property}
use Rattle.ct_types.proofs.AnswersKept.{Kept, ok_kept, then_kept, demand_kept}
use Rattle.ct_bind_depth_laws.specs.Depth.{bound_depth_of}
use Rattle.ct_bind_depth_laws.proofs.Layers.{of_MinValidVersion, of_IsColumnInMask, of_ObjectId, of_ColumnProperty, of_IfNull, of_Negative, of_Compare, of_IsNull, of_IsNotNull, of_Not}

-- at most n deep
abbrev pub NoDeeper : ℕ → BoundExpr → Type 0
NoDeeper n x = bound_depth_of x ≤ n

abbrev pub TypedNoDeeper : ℕ → Typed → Type 0
TypedNoDeeper n it = NoDeeper n it.expr

-- what is walked is at most n deep
abbrev pub Bounded : ℕ → Answer Typed → Type 0
Bounded n answer = Kept (TypedNoDeeper n) answer

pub raised : (m n : ℕ) (answer : Answer Typed) → m ≤ n → Bounded m answer → Bounded n answer
raised m n answer below bounded = record { holds = λ it e. let here : bound_depth_of it.expr ≤ m = bounded.holds it e in omega arith }

-- ---- one deeper

one_deeper : (n x whole : ℕ) → whole ≡ 1 + x → x ≤ n → whole ≤ 1 + n
one_deeper n x whole is below = omega arith

pub two_deeper : (n x y whole : ℕ) → whole ≡ 1 + max x y → x ≤ n → y ≤ n → whole ≤ 1 + n
two_deeper n x y whole is first second = omega arith

three_deeper : (n x y z whole : ℕ) → whole ≡ 1 + max x (max y z) → x ≤ n → y ≤ n → z ≤ n → whole ≤ 1 + n
three_deeper n x y z whole is first second third = omega arith

module _ (n : ℕ) where
  -- ---- kinds that are wanted

  pub kind_kept : (wanted : Kind) (it : Typed) → TypedNoDeeper n it → Kept (NoDeeper n) (of_kind wanted it)
  kind_kept wanted it below = demand_kept (NoDeeper n) (is_a it.kind wanted) TypeClash _ (λ _. ok_kept (NoDeeper n) it.expr below)

  pub value_kept : (it : Typed) → TypedNoDeeper n it → Kept (NoDeeper n) (any_value it)
  value_kept it below = demand_kept (NoDeeper n) (is_value it.kind) TypeClash _ (λ _. ok_kept (NoDeeper n) it.expr below)

  -- ---- one operand

  made_of_one : (judge : Typed → Answer BoundExpr) → ((it : Typed) → TypedNoDeeper n it → Kept (NoDeeper n) (judge it))
      → (make : BoundExpr → BoundExpr) (kind : Kind) → ((x : BoundExpr) → bound_depth_of (make x) ≡ 1 + bound_depth_of x)
      → (it : Typed) → TypedNoDeeper n it → Bounded (1 + n) (judge it >>= (λ x. Ok (typed (make x) kind)))
  made_of_one judge kept make kind makes it below =
      then_kept (NoDeeper n) (TypedNoDeeper (1 + n)) (judge it) _ (kept it below)
      (λ x here. ok_kept (TypedNoDeeper (1 + n)) (typed (make x) kind) (one_deeper n (bound_depth_of x) (bound_depth_of (make x)) (makes x) here))

  pub min_valid_version : (it : Typed) → TypedNoDeeper n it → Bounded (1 + n) (spec.min_valid_version it)
  unfolding spec.min_valid_version
  min_valid_version = made_of_one (of_kind Number) (kind_kept Number) bound.MinValidVersion Number of_MinValidVersion

  pub object_id : (it : Typed) → TypedNoDeeper n it → Bounded (1 + n) (spec.object_id it)
  unfolding spec.object_id
  object_id = made_of_one (of_kind Text) (kind_kept Text) bound.ObjectId Number of_ObjectId

  pub negative : (it : Typed) → TypedNoDeeper n it → Bounded (1 + n) (spec.negative it)
  unfolding spec.negative
  negative = made_of_one (of_kind Number) (kind_kept Number) bound.Negative Number of_Negative

  pub negated : (it : Typed) → TypedNoDeeper n it → Bounded (1 + n) (spec.negated it)
  unfolding spec.negated
  negated = made_of_one (of_kind Condition) (kind_kept Condition) bound.Not Condition of_Not

  pub is_null : (it : Typed) → TypedNoDeeper n it → Bounded (1 + n) (spec.is_null it)
  unfolding spec.is_null
  is_null = made_of_one any_value value_kept bound.IsNull Condition of_IsNull

  pub is_not_null : (it : Typed) → TypedNoDeeper n it → Bounded (1 + n) (spec.is_not_null it)
  unfolding spec.is_not_null
  is_not_null = made_of_one any_value value_kept bound.IsNotNull Condition of_IsNotNull

  -- ---- several

  pub is_column_in_mask : (column mask : Typed) → TypedNoDeeper n column → TypedNoDeeper n mask → Bounded (1 + n) (spec.is_column_in_mask column mask)
  unfolding spec.is_column_in_mask
  is_column_in_mask column mask first second =
      then_kept (NoDeeper n) (TypedNoDeeper (1 + n)) (of_kind Number column) _ (kind_kept Number column first)
      (λ x left. then_kept (NoDeeper n) (TypedNoDeeper (1 + n)) (of_kind Bytes mask) _ (kind_kept Bytes mask second)
      (λ y right. ok_kept (TypedNoDeeper (1 + n)) (typed (bound.IsColumnInMask x y) Number)
      (two_deeper n (bound_depth_of x) (bound_depth_of y) (bound_depth_of (bound.IsColumnInMask x y)) (of_IsColumnInMask x y) left right)))

  column_property : (table column asked : Typed) → TypedNoDeeper n table → TypedNoDeeper n column → TypedNoDeeper n asked → Bounded (1 + n) (spec.column_property table column asked)
  unfolding spec.column_property
  column_property table column asked first second third =
      then_kept (NoDeeper n) (TypedNoDeeper (1 + n)) (of_kind Number table) _ (kind_kept Number table first)
      (λ x of_x. then_kept (NoDeeper n) (TypedNoDeeper (1 + n)) (of_kind Text column) _ (kind_kept Text column second)
      (λ y of_y. then_kept (NoDeeper n) (TypedNoDeeper (1 + n)) (of_kind Text asked) _ (kind_kept Text asked third)
      (λ z of_z. ok_kept (TypedNoDeeper (1 + n)) (typed (bound.ColumnProperty x y z) Number)
      (three_deeper n (bound_depth_of x) (bound_depth_of y) (bound_depth_of z) (bound_depth_of (bound.ColumnProperty x y z)) (of_ColumnProperty x y z) of_x of_y of_z))))

  pub if_null : (left right : Typed) → TypedNoDeeper n left → TypedNoDeeper n right → Bounded (1 + n) (spec.if_null left right)
  unfolding spec.if_null
  if_null left right first second =
      demand_kept (TypedNoDeeper (1 + n)) (go_together left.kind right.kind) TypeClash _
      (λ _. ok_kept (TypedNoDeeper (1 + n)) (typed (bound.IfNull left.expr right.expr) (either left.kind right.kind))
      (two_deeper n (bound_depth_of left.expr) (bound_depth_of right.expr) (bound_depth_of (bound.IfNull left.expr right.expr)) (of_IfNull left.expr right.expr) first second))

  pub compare : (operator : Comparison) (left right : Typed) → TypedNoDeeper n left → TypedNoDeeper n right → Bounded (1 + n) (spec.compare operator left right)
  unfolding spec.compare
  compare operator left right first second =
      demand_kept (TypedNoDeeper (1 + n)) (go_together left.kind right.kind) TypeClash _
      (λ _. ok_kept (TypedNoDeeper (1 + n)) (typed (bound.Compare operator left.expr right.expr) Condition)
      (two_deeper n (bound_depth_of left.expr) (bound_depth_of right.expr) (bound_depth_of (bound.Compare operator left.expr right.expr)) (of_Compare operator left.expr right.expr) first second))

  -- ---- operands that are still to be walked

  abbrev pub BothNoDeeper : Typed × Typed → Type 0
  BothNoDeeper both = TypedNoDeeper n both.0 × TypedNoDeeper n both.1

  pub two_kept : (place : Place) (left right : Walk) → Bounded n (left place) → Bounded n (right place) → Kept BothNoDeeper (two place left right)
  unfolding two
  two_kept place left right first second =
      then_kept (TypedNoDeeper n) BothNoDeeper (left place) _ first
      (λ a of_a. then_kept (TypedNoDeeper n) BothNoDeeper (right place) _ second (λ b of_b. ok_kept BothNoDeeper (a, b) (of_a, of_b)))

  pub of_two : (rule : Typed → Typed → Answer Typed) → ((left right : Typed) → TypedNoDeeper n left → TypedNoDeeper n right → Bounded (1 + n) (rule left right))
      → (place : Place) (left right : Walk) → Bounded n (left place) → Bounded n (right place) → Bounded (1 + n) (two place left right >>= (λ both. rule both.0 both.1))
  of_two rule kept place left right first second =
      then_kept BothNoDeeper (TypedNoDeeper (1 + n)) (two place left right) _ (two_kept place left right first second) (λ both are. kept both.0 both.1 are.0 are.1)

  pub of_three : (place : Place) (table named asked : Walk) → Bounded n (table place) → Bounded n (named place) → Bounded n (asked place) → Bounded (1 + n) (property place table named asked)
  unfolding property
  of_three place table named asked first second third =
      then_kept BothNoDeeper (TypedNoDeeper (1 + n)) (two place table named) _ (two_kept place table named first second)
      (λ both are. then_kept (TypedNoDeeper n) (TypedNoDeeper (1 + n)) (asked place) _ third (λ it below. column_property both.0 both.1 it are.0 are.1 below))
