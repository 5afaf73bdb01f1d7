-- That what an operator comes to has the kind that it is said to have.
use Rattle.std.proofs.Common.{◌≡◌, Bool, true, ◌&&◌, List, [], ◌∷◌, Option, Some, Ok, refl, sym, ap, subst, ◌∙◌}
use Rattle.ct_types.specs.declared.bound.BoundExpr.{BoundExpr, roll-BoundExpr, map-BoundExpr}
use Rattle.ct_types.specs.declared.bound.BoundExpr.TheVariants as bound
use Rattle.ct_types.specs.declared.bound.BoundExpr.TheOpen as b
use Rattle.ct_types.specs.declared.bound.BoundExpr.TheFolds.{fold-BoundScalar, fold-BoundTerm, fold-roll-BoundExpr}
use Rattle.ct_types.specs.declared.bound.BoundRowVersion.{BoundRowVersion}
use Rattle.ct_types.specs.declared.bound.BoundScalar.{BoundScalar}
use Rattle.ct_types.specs.declared.bound.BoundTerm.{BoundTerm}
use Rattle.ct_types.specs.declared.expr.Comparison.{Comparison}
use Rattle.ct_types.specs.declared.refusal.Refusal.TheVariants.{TypeClash}
use Rattle.ct_types.specs.declared.schema.Schema.{Schema}
use Rattle.ct_bind_kinds.specs.declared.kind.Kind.{Kind}
use Rattle.ct_bind_kinds.specs.declared.kind.Kind.TheVariants.{Number, Text, Bytes, Condition, Null}
use Rattle.ct_bind_kinds.specs.Kinds.{is_value, either}
use Rattle.ct_bind_kinds.specs.WellFormed.{Scope, kind_of, table_of_version, expr_kind, row_version_table, scalar_kind, term_kind, is_of, is_condition, is_any_value, go_together, when, either_of}
use Rattle.ct_types.specs.Answers.{Answer, ◌>>=◌}
use Rattle.ct_bind_expr.specs.declared.place.Typed.{Typed}
use Rattle.ct_bind_expr.specs.Places.{typed, is_a, of_kind, any_value}
use Rattle.ct_bind_expr.specs.Places.{go_together as go}
use Rattle.ct_bind_expr.specs.Walk as spec
use Rattle.ct_types.proofs.AnswersTaken.{steps, passed, same_Ok}

-- ---- kinds that are wanted

abbrev pub fits : Kind → Option Kind → Bool
fits Condition found = is_condition found
fits wanted found = is_of wanted found

fits_is : (a wanted : Kind) → fits wanted (Some a) ≡ is_a a wanted
fits_is Condition Condition = refl
fits_is a Condition = refl
fits_is a wanted = refl

either_is : (a b : Kind) → either_of (Some a) (Some b) ≡ Some (either a b)
either_is Null b = refl
either_is a b = refl

module _ (s : Scope) where
  abbrev pub kind : BoundExpr → Option Kind
  kind = kind_of s

  abbrev pub Kinded : Typed → Type 0
  Kinded it = kind it.expr ≡ Some it.kind

  abbrev pub term_of : BoundTerm → Option Kind
  term_of = fold-BoundTerm (Option Kind) (Option Schema) (Option Kind) (Option Kind) (expr_kind s) (row_version_table s) scalar_kind term_kind

  abbrev pub scalar_of : BoundScalar → Option Kind
  scalar_of = fold-BoundScalar (Option Kind) (Option Schema) (Option Kind) (Option Kind) (expr_kind s) (row_version_table s) scalar_kind term_kind

  -- what is walked has the kind that it is said to have
  abbrev pub Answered : Answer Typed → Type 0
  Answered answer = (it : Typed) → answer ≡ Ok it → Kinded it

  abbrev pub AllAnswered : List (Answer Typed) → Type 0
  AllAnswered [] = Unit {0}
  AllAnswered (answer ∷ more) = Answered answer × AllAnswered more

  pub layer : (x : b.BoundExpr-F BoundExpr BoundRowVersion BoundScalar BoundTerm)
      → kind (roll-BoundExpr x) ≡ expr_kind s (map-BoundExpr _ _ _ _ (Option Kind) (Option Schema) (Option Kind) (Option Kind) kind (table_of_version s) scalar_of term_of x)
  layer x = fold-roll-BoundExpr (Option Kind) (Option Schema) (Option Kind) (Option Kind) (expr_kind s) (row_version_table s) scalar_kind term_kind x

  pub fits_operand : (wanted : Kind) (it : Typed) (expr : BoundExpr) → Kinded it → of_kind wanted it ≡ Ok expr → fits wanted (kind expr) ≡ true
  fits_operand wanted it expr kinded e =
      let p = passed (is_a it.kind wanted) TypeClash (Ok it.expr) expr e in
      ap (λ x. fits wanted (kind x)) (sym (same_Ok it.expr expr p.goes)) ∙ ap (fits wanted) kinded ∙ fits_is it.kind wanted ∙ p.holds

  pub value_operand : (it : Typed) (expr : BoundExpr) → Kinded it → any_value it ≡ Ok expr → is_any_value (kind expr) ≡ true
  value_operand it expr kinded e =
      let p = passed (is_value it.kind) TypeClash (Ok it.expr) expr e in
      ap (λ x. is_any_value (kind x)) (sym (same_Ok it.expr expr p.goes)) ∙ ap is_any_value kinded ∙ p.holds

  -- ---- one operand

  pub one : (judge : Typed → Answer BoundExpr) (test : Option Kind → Bool) → ((it : Typed) (expr : BoundExpr) → Kinded it → judge it ≡ Ok expr → test (kind expr) ≡ true)
      → (make : BoundExpr → BoundExpr) (k : Kind) → ((x : BoundExpr) → kind (make x) ≡ when (test (kind x)) (Some k))
      → (operand it : Typed) → Kinded operand → (judge operand >>= (λ x. Ok (typed (make x) k))) ≡ Ok it → Kinded it
  one judge test sound make k makes operand it kinded e =
      let s = steps (judge operand) (λ x. Ok (typed (make x) k)) it e in
      let made : typed (make s.came) k ≡ it = let g = s.goes in cc in
      subst Kinded made (makes s.came ∙ ap (λ t. when t (Some k)) (sound operand s.came kinded s.is))

  pub min_valid_version : (operand it : Typed) → Kinded operand → spec.min_valid_version operand ≡ Ok it → Kinded it
  unfolding spec.min_valid_version
  min_valid_version = one (of_kind Number) (fits Number) (fits_operand Number) bound.MinValidVersion Number (λ x. ap kind (sym (bound.rolls-MinValidVersion x)) ∙ layer (b.MinValidVersion x))

  pub object_id : (operand it : Typed) → Kinded operand → spec.object_id operand ≡ Ok it → Kinded it
  unfolding spec.object_id
  object_id = one (of_kind Text) (fits Text) (fits_operand Text) bound.ObjectId Number (λ x. ap kind (sym (bound.rolls-ObjectId x)) ∙ layer (b.ObjectId x))

  pub negative : (operand it : Typed) → Kinded operand → spec.negative operand ≡ Ok it → Kinded it
  unfolding spec.negative
  negative = one (of_kind Number) (fits Number) (fits_operand Number) bound.Negative Number (λ x. ap kind (sym (bound.rolls-Negative x)) ∙ layer (b.Negative x))

  pub negated : (operand it : Typed) → Kinded operand → spec.negated operand ≡ Ok it → Kinded it
  unfolding spec.negated
  negated = one (of_kind Condition) (fits Condition) (fits_operand Condition) bound.Not Condition (λ x. ap kind (sym (bound.rolls-Not x)) ∙ layer (b.Not x))

  pub is_null : (operand it : Typed) → Kinded operand → spec.is_null operand ≡ Ok it → Kinded it
  unfolding spec.is_null
  is_null = one any_value is_any_value value_operand bound.IsNull Condition (λ x. ap kind (sym (bound.rolls-IsNull x)) ∙ layer (b.IsNull x))

  pub is_not_null : (operand it : Typed) → Kinded operand → spec.is_not_null operand ≡ Ok it → Kinded it
  unfolding spec.is_not_null
  is_not_null = one any_value is_any_value value_operand bound.IsNotNull Condition (λ x. ap kind (sym (bound.rolls-IsNotNull x)) ∙ layer (b.IsNotNull x))

  -- ---- several

  pub is_column_in_mask : (left right it : Typed) → Kinded left → Kinded right → spec.is_column_in_mask left right ≡ Ok it → Kinded it
  unfolding spec.is_column_in_mask
  is_column_in_mask left right it first second e =
      let a = steps (of_kind Number left) (λ x. of_kind Bytes right >>= (λ y. Ok (typed (bound.IsColumnInMask x y) Number))) it e in
      let c = steps (of_kind Bytes right) (λ y. Ok (typed (bound.IsColumnInMask a.came y) Number)) it a.goes in
      let made : typed (bound.IsColumnInMask a.came c.came) Number ≡ it = let g = c.goes in cc in
      subst Kinded made (ap kind (sym (bound.rolls-IsColumnInMask a.came c.came)) ∙ layer (b.IsColumnInMask a.came c.came)
      ∙ ap (λ t. when (t && is_of Bytes (kind c.came)) (Some Number)) (fits_operand Number left a.came first a.is) ∙ ap (λ t. when t (Some Number)) (fits_operand Bytes right c.came second c.is))

  pub column_property : (x y z it : Typed) → Kinded x → Kinded y → Kinded z → spec.column_property x y z ≡ Ok it → Kinded it
  unfolding spec.column_property
  column_property x y z it first second third e =
      let p = steps (of_kind Number x) (λ a. of_kind Text y >>= (λ c. of_kind Text z >>= (λ d. Ok (typed (bound.ColumnProperty a c d) Number)))) it e in
      let q = steps (of_kind Text y) (λ c. of_kind Text z >>= (λ d. Ok (typed (bound.ColumnProperty p.came c d) Number))) it p.goes in
      let r = steps (of_kind Text z) (λ d. Ok (typed (bound.ColumnProperty p.came q.came d) Number)) it q.goes in
      let made : typed (bound.ColumnProperty p.came q.came r.came) Number ≡ it = let g = r.goes in cc in
      subst Kinded made (ap kind (sym (bound.rolls-ColumnProperty p.came q.came r.came)) ∙ layer (b.ColumnProperty p.came q.came r.came)
      ∙ ap (λ t. when (t && is_of Text (kind q.came) && is_of Text (kind r.came)) (Some Number)) (fits_operand Number x p.came first p.is)
      ∙ ap (λ t. when (t && is_of Text (kind r.came)) (Some Number)) (fits_operand Text y q.came second q.is) ∙ ap (λ t. when t (Some Number)) (fits_operand Text z r.came third r.is))

  pub if_null : (left right it : Typed) → Kinded left → Kinded right → spec.if_null left right ≡ Ok it → Kinded it
  unfolding spec.if_null
  if_null left right it first second e =
      let p = passed (go left.kind right.kind) TypeClash (Ok (typed (bound.IfNull left.expr right.expr) (either left.kind right.kind))) it e in
      subst Kinded (same_Ok (typed (bound.IfNull left.expr right.expr) (either left.kind right.kind)) it p.goes) (ap kind (sym (bound.rolls-IfNull left.expr right.expr)) ∙ layer (b.IfNull left.expr right.expr)
      ∙ ap (λ k. when (go_together k (kind right.expr)) (either_of k (kind right.expr))) first ∙ ap (λ k. when (go_together (Some left.kind) k) (either_of (Some left.kind) k)) second
      ∙ ap (λ t. when t (either_of (Some left.kind) (Some right.kind))) p.holds ∙ either_is left.kind right.kind)

  pub compare : (operator : Comparison) (left right it : Typed) → Kinded left → Kinded right → spec.compare operator left right ≡ Ok it → Kinded it
  unfolding spec.compare
  compare operator left right it first second e =
      let p = passed (go left.kind right.kind) TypeClash (Ok (typed (bound.Compare operator left.expr right.expr) Condition)) it e in
      subst Kinded (same_Ok (typed (bound.Compare operator left.expr right.expr) Condition) it p.goes) (ap kind (sym (bound.rolls-Compare operator left.expr right.expr)) ∙ layer (b.Compare operator left.expr right.expr)
      ∙ ap (λ k. when (go_together k (kind right.expr)) (Some Condition)) first ∙ ap (λ k. when (go_together (Some left.kind) k) (Some Condition)) second
      ∙ ap (λ t. when t (Some Condition)) p.holds)
