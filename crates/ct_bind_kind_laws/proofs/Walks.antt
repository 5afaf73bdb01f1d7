-- What an expression comes to is well formed: by induction over the expression, one case for each form.
use Rattle.std.proofs.Common.{◌≡◌, ◌&&◌, List, [], ◌∷◌, map, Some, Ok, refl, sym, ap, subst, ◌∙◌}
use Rattle.std.specs.List.{list_all}
use Rattle.ct_types.specs.declared.bound.BoundExpr.{BoundExpr}
use Rattle.ct_types.specs.declared.bound.BoundExpr.TheVariants as bound
use Rattle.ct_types.specs.declared.bound.BoundExpr.TheOpen as b
use Rattle.ct_types.specs.declared.catalogue.Catalogued.{Catalogued}
use Rattle.ct_types.specs.declared.catalogue.Variable.{Variable}
use Rattle.ct_types.specs.declared.expr.Expr.{Expr}
use Rattle.ct_types.specs.declared.expr.Expr.TheOpen as e
use Rattle.ct_types.specs.declared.expr.RowVersion.{RowVersion}
use Rattle.ct_types.specs.declared.expr.Scalar.{Scalar}
use Rattle.ct_types.specs.declared.expr.Term.{Term}
use Rattle.ct_bind_kinds.specs.declared.kind.Kind.{Kind}
use Rattle.ct_bind_kinds.specs.declared.kind.Kind.TheVariants.{Number, Condition, Null}
use Rattle.ct_bind_kinds.specs.WellFormed.{Scope, kind_of, is_of, when}
use Rattle.ct_types.specs.Answers.{Answer, ◌>>=◌}
use Rattle.ct_bind_names.specs.Numbers.{literal}
use Rattle.ct_bind_expr.specs.declared.place.Typed.{Typed}
use Rattle.ct_bind_expr.specs.declared.place.Place.{Place}
use Rattle.ct_bind_expr.specs.Places.{typed}
use Rattle.ct_bind_expr.specs.Versions.{Walk}
use Rattle.ct_bind_expr.specs.Walk as spec
use Rattle.ct_bind_expr.specs.Walk.{TermWalk, walk, term_walk, two, property, chain, sum, sum_typed, number_typed}
use Rattle.ct_bind_expr.proofs.Arms.{come}
use Rattle.ct_bind_expr.proofs.Arms as arms
use Rattle.ct_bind_expr.proofs.Forms.{Known, Form, parts, by_forms, form_walk}
use Rattle.ct_bind_expr.proofs.Opened.{opened_term}
use Rattle.ct_bind_expr.proofs.Walked.{chain_at, scalar_at}
use Rattle.ct_bind_kind_laws.specs.Laws.{Sound, Shows, WalkedAreWellFormed}
use Rattle.ct_bind_kind_laws.specs.Statements.{scope_of}
use Rattle.ct_types.proofs.AnswersTaken.{steps, same_Ok}
use Rattle.ct_bind_kind_laws.proofs.Operators.{Kinded, Answered, AllAnswered, layer, fits, term_of}
use Rattle.ct_bind_kind_laws.proofs.Operators as operators
use Rattle.ct_bind_kind_laws.proofs.Chains.{AllTerms, chain_fits, sum_fits}
use Rattle.ct_bind_kind_laws.proofs.Columns.{column_kinded, variable_kinded}
use Rattle.ct_bind_kind_laws.proofs.Versions.{scalar_kinded}

-- ---- operators over what their operands come to

module _ (s : Scope) where
  settled : (it : Typed) → Kinded s it → Answered s (Ok it)
  settled it kinded other came = subst (Kinded s) (same_Ok it other came) kinded

  mapped : {A : Type 0} (first : Answer A) (make : A → Typed) → ((a : A) → first ≡ Ok a → Kinded s (make a)) → Answered s (first >>= (λ a. Ok (make a)))
  mapped first make kinded it came =
      let p = steps first (λ a. Ok (make a)) it came in
      subst (Kinded s) (same_Ok (make p.came) it p.goes) (kinded p.came p.is)

  of_one : (rule : Typed → Answer Typed) (first : Answer Typed) → ((operand it : Typed) → Kinded s operand → rule operand ≡ Ok it → Kinded s it) → Answered s first → Answered s (first >>= rule)
  of_one rule first keeps answered it came =
      let p = steps first rule it came in
      keeps p.came it (answered p.came p.is) p.goes

  of_two : (rule : Typed → Typed → Answer Typed) (place : Place) (left right : Walk) → ((a b it : Typed) → Kinded s a → Kinded s b → rule a b ≡ Ok it → Kinded s it)
      → Answered s (left place) → Answered s (right place) → Answered s (two place left right >>= (λ both. rule both.0 both.1))
  unfolding two
  of_two rule place left right keeps first second it came =
      let p = steps (two place left right) (λ both. rule both.0 both.1) it came in
      let q = steps (left place) (λ a. right place >>= (λ b. Ok (a, b))) p.came p.is in
      let r = steps (right place) (λ b. Ok (q.came, b)) p.came q.goes in
      let are : (q.came, r.came) ≡ p.came = same_Ok (q.came, r.came) p.came r.goes in
      keeps q.came r.came it (first q.came q.is) (second r.came r.is) (ap (λ (both : Typed × Typed). rule both.0 both.1) are ∙ p.goes)

  of_three : (place : Place) (x y z : Walk) → Answered s (x place) → Answered s (y place) → Answered s (z place) → Answered s (property place x y z)
  unfolding two property
  of_three place x y z first second third it came =
      let p = steps (two place x y) (λ both. z place >>= (λ c. spec.column_property both.0 both.1 c)) it came in
      let q = steps (x place) (λ a. y place >>= (λ b. Ok (a, b))) p.came p.is in
      let r = steps (y place) (λ b. Ok (q.came, b)) p.came q.goes in
      let t = steps (z place) (λ c. spec.column_property p.came.0 p.came.1 c) it p.goes in
      let are : (q.came, r.came) ≡ p.came = same_Ok (q.came, r.came) p.came r.goes in
      operators.column_property s q.came r.came t.came it (first q.came q.is) (second r.came r.is) (third t.came t.is)
      (ap (λ (both : Typed × Typed). spec.column_property both.0 both.1 t.came) are ∙ t.goes)

module _ (tables : List Catalogued) (variables : List Variable) (columns : List Kind) (place : Place) (sound : Sound tables) (shows : Shows place columns) where
  abbrev here : Scope
  here = scope_of tables variables columns

  abbrev OfExpr : Expr → Type 0
  OfExpr x = Answered here (come tables variables place x)

  abbrev OfRowVersion : RowVersion → Type 0
  OfRowVersion x = AllAnswered here (map (come tables variables place) x.values)

  abbrev OfScalar : Scalar → Type 0
  OfScalar x = AllAnswered here (map (come tables variables place) x.version.values)

  abbrev OfTerm : Term → Type 0
  OfTerm x = OfExpr x.value

  all_answered : (all : List (Known OfExpr)) → AllAnswered here (map (come tables variables place) (map (λ (p : Known OfExpr). p.0) all))
  all_answered [] = tt
  all_answered (part ∷ more) = (part.1, all_answered more)

  all_terms : (all : List (Known OfTerm)) → AllTerms here place (map (term_walk tables variables) (map (λ (p : Known OfTerm). p.0) all))
  all_terms [] = tt
  all_terms (part ∷ more) = (subst (λ (w : TermWalk). Answered here (w.1 place)) (sym (opened_term tables variables part.0)) part.1, all_terms more)

  of_chain : (wanted : Kind) (make : List BoundExpr → BoundExpr) → ((made : List BoundExpr) → kind_of here (make made) ≡ when (list_all (fits wanted) (map (kind_of here) made)) (Some wanted))
      → (all : List (Known OfExpr)) → Answered here (chain wanted place (map (walk tables variables) (map (λ (p : Known OfExpr). p.0) all)) >>= (λ made. Ok (typed (make made) wanted)))
  of_chain wanted make makes all = mapped here (chain wanted place (map (walk tables variables) (map (λ (p : Known OfExpr). p.0) all))) (λ made. typed (make made) wanted) (λ made is.
      makes made ∙ ap (λ t. when t (Some wanted)) (chain_fits here wanted (map (come tables variables place) (map (λ (p : Known OfExpr). p.0) all)) made (all_answered all)
      (sym (chain_at (walk tables variables) wanted place (map (λ (p : Known OfExpr). p.0) all)) ∙ is)))

  of_sum : (first : Known OfExpr) (more : List (Known OfTerm)) → Answered here (sum place (walk tables variables first.0) (map (term_walk tables variables) (map (λ (p : Known OfTerm). p.0) more)) >>= (λ operands. Ok (sum_typed operands.0 operands.1)))
  of_sum first more = mapped here (sum place (walk tables variables first.0) (map (term_walk tables variables) (map (λ (p : Known OfTerm). p.0) more))) (λ operands. sum_typed operands.0 operands.1) (λ made is.
      let fit = sum_fits here place (walk tables variables first.0) (map (term_walk tables variables) (map (λ (p : Known OfTerm). p.0) more)) made first.1 (all_terms more) is in
      ap (kind_of here) (sym (bound.rolls-Sum made.0 made.1)) ∙ layer here (b.Sum made.0 made.1)
      ∙ ap (λ t. when (t && list_all (is_of Number) (map (term_of here) made.1)) (Some Number)) fit.0 ∙ ap (λ t. when t (Some Number)) fit.1)

  -- ---- the forms

  form : (y : Form OfExpr OfRowVersion OfScalar OfTerm) → Answered here (form_walk tables variables (parts OfExpr OfRowVersion OfScalar OfTerm y) place)
  unfolding spec.number_literal spec.variable
  form e.Null = settled here (typed bound.Null Null) (ap (kind_of here) (sym bound.rolls-Null) ∙ layer here b.Null)
  form (e.Number digits) = mapped here (literal digits) number_typed (λ n is. ap (kind_of here) (sym (bound.rolls-Number n)) ∙ layer here (b.Number n))
  form (e.Text text) = settled here (spec.text_typed text) (ap (kind_of here) (sym (bound.rolls-Text text)) ∙ layer here (b.Text text))
  form (e.Bytes bytes) = settled here (spec.bytes_typed bytes) (ap (kind_of here) (sym (bound.rolls-Bytes bytes)) ∙ layer here (b.Bytes bytes))
  form (e.Variable name) = variable_kinded here variables name refl
  form (e.Column name) = column_kinded here place name shows
  form e.CurrentVersion = settled here (typed bound.CurrentVersion Number) (ap (kind_of here) (sym bound.rolls-CurrentVersion) ∙ layer here b.CurrentVersion)
  form (e.MinValidVersion table) = of_one here spec.min_valid_version (come tables variables place table.0) (operators.min_valid_version here) table.1
  form (e.IsColumnInMask column mask) = of_two here spec.is_column_in_mask place (walk tables variables column.0) (walk tables variables mask.0) (operators.is_column_in_mask here) column.1 mask.1
  form (e.ObjectId name) = of_one here spec.object_id (come tables variables place name.0) (operators.object_id here) name.1
  form (e.ColumnProperty table column asked) = of_three here place (walk tables variables table.0) (walk tables variables column.0) (walk tables variables asked.0) table.1 column.1 asked.1
  form (e.IfNull value instead) = of_two here spec.if_null place (walk tables variables value.0) (walk tables variables instead.0) (operators.if_null here) value.1 instead.1
  form (e.Scalar x) = subst (Answered here) (sym (scalar_at tables variables place x.0)) (scalar_kinded here tables x.0 (map (come tables variables place) x.0.version.values) sound refl x.1)
  form (e.Negative value) = of_one here spec.negative (come tables variables place value.0) (operators.negative here) value.1
  form (e.Product factors) = of_chain Number bound.Product (λ made. ap (kind_of here) (sym (bound.rolls-Product made)) ∙ layer here (b.Product made)) factors
  form (e.Sum first more) = of_sum first more
  form (e.Compare operator a c) = of_two here (spec.compare operator) place (walk tables variables a.0) (walk tables variables c.0) (operators.compare here operator) a.1 c.1
  form (e.IsNull value) = of_one here spec.is_null (come tables variables place value.0) (operators.is_null here) value.1
  form (e.IsNotNull value) = of_one here spec.is_not_null (come tables variables place value.0) (operators.is_not_null here) value.1
  form (e.Not value) = of_one here spec.negated (come tables variables place value.0) (operators.negated here) value.1
  form (e.And operands) = of_chain Condition bound.And (λ made. ap (kind_of here) (sym (bound.rolls-And made)) ∙ layer here (b.And made)) operands
  form (e.Or operands) = of_chain Condition bound.Or (λ made. ap (kind_of here) (sym (bound.rolls-Or made)) ∙ layer here (b.Or made)) operands

  pub every : (x : Expr) → OfExpr x
  every = by_forms OfExpr OfRowVersion OfScalar OfTerm (λ y. subst (Answered here) (sym (arms.layer tables variables place (parts OfExpr OfRowVersion OfScalar OfTerm y))) (form y)) (λ y. all_answered y.values) (λ y. y.version.1) (λ y. y.value.1)

pub walked_are_well_formed : WalkedAreWellFormed
walked_are_well_formed tables variables columns place x it sound shows came = every tables variables columns place sound shows x it came
