-- What each form comes to at a place by what its parts come to there, and so what its code gives.
use Rattle.std.proofs.Common.{◌≡◌, ℕ, List, map, Ok, Err, refl, sym, ap, ◌∙◌, subst}
use Rattle.ct_types.specs.declared.bound.BoundExpr.{BoundExpr}
use Rattle.ct_types.specs.declared.bound.BoundExpr.TheVariants as bound
use Rattle.ct_types.specs.declared.bound.BoundRowVersion.{BoundRowVersion}
use Rattle.ct_types.specs.declared.bound.BoundTerm.{BoundTerm}
use Rattle.ct_types.specs.declared.catalogue.Catalogued.{Catalogued}
use Rattle.ct_types.specs.declared.catalogue.Variable.{Variable}
use Rattle.ct_types.specs.declared.expr.ColumnName.{ColumnName}
use Rattle.ct_types.specs.declared.expr.Comparison.{Comparison}
use Rattle.ct_types.specs.declared.expr.Expr.{Expr, roll-Expr, map-Expr}
use Rattle.ct_types.specs.declared.expr.Expr.TheVariants as form
use Rattle.ct_types.specs.declared.expr.Expr.TheOpen as e
use Rattle.ct_types.specs.declared.expr.Expr.TheFolds.{fold-roll-Expr}
use Rattle.ct_types.specs.declared.expr.RowVersion.{RowVersion}
use Rattle.ct_types.specs.declared.expr.Scalar.{Scalar}
use Rattle.ct_types.specs.declared.expr.Term.{Term}
use Rattle.ct_types.specs.declared.refusal.Refusal.{Refusal}
use Rattle.ct_types.specs.declared.schema.Schema.{Schema}
use Rattle.ct_bind_kinds.specs.declared.kind.Kind.{Kind}
use Rattle.ct_bind_kinds.specs.declared.kind.Kind.TheVariants.{Number, Condition, Null}
use Rattle.ct_bind_names.specs.Catalogue.{tracked_table}
use Rattle.ct_types.specs.Answers.{Answer, ◌>>=◌, Gives}
use Rattle.ct_bind_expr.specs.declared.place.Typed.{Typed}
use Rattle.ct_bind_expr.specs.declared.place.Place.{Place}
use Rattle.ct_bind_expr.specs.Places.{typed, column}
use Rattle.ct_bind_expr.specs.Versions.{Walk, version_of}
use Rattle.ct_bind_expr.specs.Walk as spec
use Rattle.ct_bind_expr.specs.Walk.{VersionWalk, TermWalk, walk, version_walk, scalar_walk, term_walk, expr_rule, version_rule, scalar_rule, term_rule, two, property, sum_typed}
use Rattle.ct_bind_expr.specs.Walked.{both, of_one, of_two, of_three, of_chain, of_sum, scalar_of, walked}
use Rattle.ct_bind_expr.proofs.Gives.{gives_one, gives_both, gives_exact, gives_same}
use Rattle.ct_bind_expr.proofs.Steps.{gives_sum}
use Rattle.ct_bind_expr.proofs.Walked.{scalar_opens}

three_of : (rule : Typed → Typed → Typed → Answer Typed) (a b c : Answer Typed) → (both a b >>= (λ it. c >>= rule it.0 it.1)) ≡ of_three rule a b c
three_of rule (Err refusal) b c = refl
three_of rule (Ok a) (Err refusal) c = refl
three_of rule (Ok a) (Ok b) (Err refusal) = refl
three_of rule (Ok a) (Ok b) (Ok c) = refl

module _ (tables : List Catalogued) (variables : List Variable) (place : Place) where
  abbrev pub come : Expr → Answer Typed
  come x = walk tables variables x place

  pub layer : (x : e.Expr-F Expr RowVersion Scalar Term)
      → come (roll-Expr x) ≡ expr_rule tables variables (map-Expr _ _ _ _ Walk VersionWalk Walk TermWalk (walk tables variables) (version_walk tables variables) (scalar_walk tables variables) (term_walk tables variables) x) place
  unfolding walk version_walk scalar_walk term_walk
  layer x = ap (λ w. w place) (fold-roll-Expr Walk VersionWalk Walk TermWalk (expr_rule tables variables) (version_rule tables variables) (scalar_rule tables variables) (term_rule tables variables) x)

  -- ---- no operand

  pub opens_Null : come form.Null ≡ Ok (typed bound.Null Null)
  opens_Null = ap come (sym form.rolls-Null) ∙ layer e.Null

  pub opens_Number : (digits : List ℕ) → come (form.Number digits) ≡ spec.number_literal digits
  opens_Number digits = ap come (sym (form.rolls-Number digits)) ∙ layer (e.Number digits)

  pub opens_Text : (text : List ℕ) → come (form.Text text) ≡ Ok (spec.text_typed text)
  opens_Text text = ap come (sym (form.rolls-Text text)) ∙ layer (e.Text text)

  pub opens_Bytes : (bytes : List ℕ) → come (form.Bytes bytes) ≡ Ok (spec.bytes_typed bytes)
  opens_Bytes bytes = ap come (sym (form.rolls-Bytes bytes)) ∙ layer (e.Bytes bytes)

  pub opens_Variable : (name : List ℕ) → come (form.Variable name) ≡ spec.variable tables variables name
  opens_Variable name = ap come (sym (form.rolls-Variable name)) ∙ layer (e.Variable name)

  pub opens_Column : (name : ColumnName) → come (form.Column name) ≡ column place name
  opens_Column name = ap come (sym (form.rolls-Column name)) ∙ layer (e.Column name)

  pub opens_CurrentVersion : come form.CurrentVersion ≡ Ok (typed bound.CurrentVersion Number)
  opens_CurrentVersion = ap come (sym form.rolls-CurrentVersion) ∙ layer e.CurrentVersion

  pub arm_none : (y x : Expr) (wanted result : Answer Typed) → y ≡ x → come x ≡ wanted → Gives wanted result → Gives (come y) result
  arm_none y x wanted result is opens whole =
      let P : Answer Typed → Type 0 = λ w. Gives w result in
      subst P (sym (ap come is ∙ opens)) whole

  -- ---- one operand

  pub opens_MinValidVersion : (x : Expr) → come (form.MinValidVersion x) ≡ of_one spec.min_valid_version (come x)
  opens_MinValidVersion x = ap come (sym (form.rolls-MinValidVersion x)) ∙ layer (e.MinValidVersion x)

  pub opens_ObjectId : (x : Expr) → come (form.ObjectId x) ≡ of_one spec.object_id (come x)
  opens_ObjectId x = ap come (sym (form.rolls-ObjectId x)) ∙ layer (e.ObjectId x)

  pub opens_Negative : (x : Expr) → come (form.Negative x) ≡ of_one spec.negative (come x)
  opens_Negative x = ap come (sym (form.rolls-Negative x)) ∙ layer (e.Negative x)

  pub opens_IsNull : (x : Expr) → come (form.IsNull x) ≡ of_one spec.is_null (come x)
  opens_IsNull x = ap come (sym (form.rolls-IsNull x)) ∙ layer (e.IsNull x)

  pub opens_IsNotNull : (x : Expr) → come (form.IsNotNull x) ≡ of_one spec.is_not_null (come x)
  opens_IsNotNull x = ap come (sym (form.rolls-IsNotNull x)) ∙ layer (e.IsNotNull x)

  pub opens_Not : (x : Expr) → come (form.Not x) ≡ of_one spec.negated (come x)
  opens_Not x = ap come (sym (form.rolls-Not x)) ∙ layer (e.Not x)

  pub arm_one : (make : Expr → Expr) (rule : Typed → Answer Typed) → ((x : Expr) → come (make x) ≡ of_one rule (come x))
      → (y x got : Expr) (given result : Answer Typed) → y ≡ make x → got ≡ x → Gives (come got) given → Gives (of_one rule given) result → Gives (come y) result
  arm_one make rule opens y x got given result is same first whole =
      let P : Answer Typed → Type 0 = λ w. Gives w result in
      subst P (sym (ap come is ∙ opens x ∙ ap (λ g. of_one rule (come g)) (sym same))) (gives_one (come got) given rule result first whole)

  -- ---- two

  pub opens_IsColumnInMask : (a b : Expr) → come (form.IsColumnInMask a b) ≡ of_two spec.is_column_in_mask (come a) (come b)
  unfolding two
  opens_IsColumnInMask a b = ap come (sym (form.rolls-IsColumnInMask a b)) ∙ layer (e.IsColumnInMask a b)

  pub opens_IfNull : (a b : Expr) → come (form.IfNull a b) ≡ of_two spec.if_null (come a) (come b)
  unfolding two
  opens_IfNull a b = ap come (sym (form.rolls-IfNull a b)) ∙ layer (e.IfNull a b)

  pub opens_Compare : (operator : Comparison) (a b : Expr) → come (form.Compare operator a b) ≡ of_two (spec.compare operator) (come a) (come b)
  unfolding two
  opens_Compare operator a b = ap come (sym (form.rolls-Compare operator a b)) ∙ layer (e.Compare operator a b)

  pub arm_two : (make : Expr → Expr → Expr) (rule : Typed → Typed → Answer Typed) → ((a b : Expr) → come (make a b) ≡ of_two rule (come a) (come b))
      → (y a b got_a got_b : Expr) (given_a given_b result : Answer Typed) → y ≡ make a b → got_a ≡ a → got_b ≡ b
      → Gives (come got_a) given_a → Gives (come got_b) given_b → Gives (of_two rule given_a given_b) result → Gives (come y) result
  arm_two make rule opens y a b got_a got_b given_a given_b result is same_a same_b first second whole =
      let P : Answer Typed → Type 0 = λ w. Gives w result in
      subst P (sym (ap come is ∙ opens a b ∙ ap (λ g. of_two rule (come g) (come b)) (sym same_a) ∙ ap (λ g. of_two rule (come got_a) (come g)) (sym same_b)))
      (gives_one (both (come got_a) (come got_b)) (both given_a given_b) (λ it. rule it.0 it.1) result (gives_both (come got_a) given_a (come got_b) given_b first second) whole)

  -- ---- three

  pub opens_ColumnProperty : (a b c : Expr) → come (form.ColumnProperty a b c) ≡ of_three spec.column_property (come a) (come b) (come c)
  unfolding two property
  opens_ColumnProperty a b c = ap come (sym (form.rolls-ColumnProperty a b c)) ∙ layer (e.ColumnProperty a b c) ∙ three_of spec.column_property (come a) (come b) (come c)

  pub arm_three : (y a b c got_a got_b got_c : Expr) (given_a given_b given_c result : Answer Typed) → y ≡ form.ColumnProperty a b c → got_a ≡ a → got_b ≡ b → got_c ≡ c
      → Gives (come got_a) given_a → Gives (come got_b) given_b → Gives (come got_c) given_c → Gives (of_three spec.column_property given_a given_b given_c) result → Gives (come y) result
  arm_three y a b c got_a got_b got_c given_a given_b given_c result is same_a same_b same_c first second third whole =
      let P : Answer Typed → Type 0 = λ w. Gives w result in
      let rule = λ (it : Typed × (Typed × Typed)). spec.column_property it.0 it.1.0 it.1.1 in
      subst P (sym (ap come is ∙ opens_ColumnProperty a b c ∙ ap (λ g. of_three spec.column_property (come g) (come b) (come c)) (sym same_a)
      ∙ ap (λ g. of_three spec.column_property (come got_a) (come g) (come c)) (sym same_b) ∙ ap (λ g. of_three spec.column_property (come got_a) (come got_b) (come g)) (sym same_c)))
      (gives_one (both (come got_a) (both (come got_b) (come got_c))) (both given_a (both given_b given_c)) rule result
      (gives_both (come got_a) given_a (both (come got_b) (come got_c)) (both given_b given_c) first (gives_both (come got_b) given_b (come got_c) given_c second third)) whole)

  -- ---- chains, sums and scalar forms

  abbrev chained : Kind → List Expr → Answer (List BoundExpr)
  chained wanted all = spec.chain wanted place (map (walk tables variables) all)

  pub opens_Product : (all : List Expr) → come (form.Product all) ≡ of_chain Number bound.Product (chained Number all)
  opens_Product all = ap come (sym (form.rolls-Product all)) ∙ layer (e.Product all)

  pub opens_And : (all : List Expr) → come (form.And all) ≡ of_chain Condition bound.And (chained Condition all)
  opens_And all = ap come (sym (form.rolls-And all)) ∙ layer (e.And all)

  pub opens_Or : (all : List Expr) → come (form.Or all) ≡ of_chain Condition bound.Or (chained Condition all)
  opens_Or all = ap come (sym (form.rolls-Or all)) ∙ layer (e.Or all)

  pub arm_chain : (make : List Expr → Expr) (wanted : Kind) (made : List BoundExpr → BoundExpr) → ((all : List Expr) → come (make all) ≡ of_chain wanted made (chained wanted all))
      → (y : Expr) (all got : List Expr) (given : Answer (List BoundExpr)) (result : Answer Typed) → y ≡ make all → got ≡ all → Gives (chained wanted got) given → result ≡ of_chain wanted made given → Gives (come y) result
  arm_chain make wanted made opens y all got given result is same operands whole =
      let P : Answer Typed → Type 0 = λ w. Gives w result in
      subst P (sym (ap come is ∙ opens all ∙ ap (λ g. of_chain wanted made (chained wanted g)) (sym same)))
      (gives_one (chained wanted got) given (λ all. Ok (typed (made all) wanted)) result operands (gives_exact (of_chain wanted made given) result whole))

  abbrev summed : Expr → List Term → Answer (BoundExpr × List BoundTerm)
  summed first more = spec.sum place (walk tables variables first) (map (term_walk tables variables) more)

  pub opens_Sum : (first : Expr) (more : List Term) → come (form.Sum first more) ≡ of_sum (summed first more)
  opens_Sum first more = ap come (sym (form.rolls-Sum first more)) ∙ layer (e.Sum first more)

  pub arm_sum : (y first got : Expr) (more got_more : List Term) (left : Answer Typed) (given : Answer (BoundExpr × List BoundTerm)) (result : Answer Typed) → y ≡ form.Sum first more → got ≡ first → got_more ≡ more
      → Gives (come got) left → Gives (spec.sum place (walked left) (map (term_walk tables variables) got_more)) given → Gives (of_sum given) result → Gives (come y) result
  arm_sum y first got more got_more left given result is same same_more at_first operands whole =
      let P : Answer Typed → Type 0 = λ w. Gives w result in
      subst P (sym (ap come is ∙ opens_Sum first more ∙ ap (λ g. of_sum (summed g more)) (sym same) ∙ ap (λ g. of_sum (summed got g)) (sym same_more)))
      (gives_one (summed got got_more) given (λ it. Ok (sum_typed it.0 it.1)) result
      (gives_sum place (walk tables variables got) left (map (term_walk tables variables) got_more) given at_first operands) whole)

  abbrev versioned : Schema → Scalar → Answer BoundRowVersion
  versioned table s = version_of table s.version.columns (map (walk tables variables) s.version.values) place

  pub opens_Scalar : (s : Scalar) → come (form.Scalar s) ≡ (tracked_table tables s.version.table >>= (λ it. scalar_of it.schema s (versioned it.schema s)))
  opens_Scalar s = ap come (sym (form.rolls-Scalar s)) ∙ layer (e.Scalar s) ∙ scalar_opens tables variables place s

  pub arm_scalar : (y : Expr) (s got : Scalar) (table : Catalogued) (names : List (List ℕ)) (values : List Expr) (version : Answer BoundRowVersion) (result : Answer Typed) → y ≡ form.Scalar s → got ≡ s
      → tracked_table tables got.version.table ≡ Ok table → names ≡ got.version.columns → values ≡ got.version.values → Gives (version_of table.schema names (map (walk tables variables) values) place) version
      → Gives (scalar_of table.schema got version) result → Gives (come y) result
  arm_scalar y s got table names values version result is same found are_names are_values bound whole =
      let P : Answer Typed → Type 0 = λ w. Gives w result in
      let given : Gives (versioned table.schema got) version = gives_same (versioned table.schema got) (version_of table.schema names (map (walk tables variables) values) place) version
      (ap (λ names. version_of table.schema names (map (walk tables variables) got.version.values) place) (sym are_names) ∙ ap (λ values. version_of table.schema names (map (walk tables variables) values) place) (sym are_values)) bound in
      subst P (sym (ap come (is ∙ ap form.Scalar (sym same)) ∙ opens_Scalar got ∙ ap (λ it. it >>= (λ it. scalar_of it.schema got (versioned it.schema got))) found))
      (gives_one (versioned table.schema got) version (spec.scalar_column table.schema got.source got.alias got.column) result given whole)

  pub arm_untracked : (y : Expr) (s got : Scalar) (refusal : Refusal) → y ≡ form.Scalar s → got ≡ s → tracked_table tables got.version.table ≡ Err refusal → come y ≡ Err refusal
  arm_untracked y s got refusal is same found =
      ap come (is ∙ ap form.Scalar (sym same)) ∙ opens_Scalar got ∙ ap (λ it. it >>= (λ it. scalar_of it.schema got (versioned it.schema got))) found
