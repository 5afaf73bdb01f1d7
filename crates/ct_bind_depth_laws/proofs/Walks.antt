-- What an expression comes to is at most as deep as the expression: by induction over the expression, one case for each form.
use Rattle.std.proofs.Common.{◌≡◌, ℕ, ◌+◌, ◌≤◌, max, List, [], ◌∷◌, map, Ok, refl, sym, subst, le_refl, arith}
use Rattle.std.proofs.Math.Nat.{le-max_left, le-max_right}
use Rattle.std.specs.List.{AllByRecursion}
use Rattle.ct_types.specs.declared.bound.BoundExpr.{BoundExpr}
use Rattle.ct_types.specs.declared.bound.BoundExpr.TheVariants as bound
use Rattle.ct_types.specs.declared.bound.BoundRowVersion.{BoundRowVersion}
use Rattle.ct_types.specs.declared.catalogue.Catalogued.{Catalogued}
use Rattle.ct_types.specs.declared.catalogue.Variable.{Variable}
use Rattle.ct_types.specs.declared.expr.Expr.{Expr, roll-Expr, map-Expr}
use Rattle.ct_types.specs.declared.expr.Expr.TheOpen as e
use Rattle.ct_types.specs.declared.expr.Expr.TheOpen.{Expr-F}
use Rattle.ct_types.specs.declared.expr.RowVersion.{RowVersion, roll-RowVersion}
use Rattle.ct_types.specs.declared.expr.Scalar.{Scalar, roll-Scalar}
use Rattle.ct_types.specs.declared.expr.Term.{Term, roll-Term}
use Rattle.ct_types.specs.declared.schema.Schema.{Schema}
use Rattle.ct_bind_kinds.specs.declared.kind.Kind.{Kind}
use Rattle.ct_bind_kinds.specs.declared.kind.Kind.TheVariants.{Number, Condition, Null}
use Rattle.ct_types.specs.Answers.{Answer, ◌>>=◌}
use Rattle.ct_bind_names.specs.Catalogue.{tracked_table}
use Rattle.ct_bind_expr.specs.declared.place.Typed.{Typed}
use Rattle.ct_bind_expr.specs.declared.place.Place.{Place}
use Rattle.ct_bind_expr.specs.Places.{typed}
use Rattle.ct_bind_expr.specs.Versions.{Walk, version_of}
use Rattle.ct_bind_expr.specs.Walk as spec
use Rattle.ct_bind_expr.specs.Walk.{VersionWalk, TermWalk, walk, version_walk, scalar_walk, term_walk, chain, sum, sum_typed}
use Rattle.ct_bind_expr.proofs.Arms.{come}
use Rattle.ct_bind_expr.proofs.Arms as arms
use Rattle.ct_bind_expr.proofs.Forms.{Known, Form, parts, version_parts, scalar_parts, term_parts, by_forms, form_walk}
use Rattle.ct_bind_expr.proofs.Opened as opened
use Rattle.ct_types.proofs.AnswersKept.{Kept, ok_kept, then_kept, after_kept}
use Rattle.ct_bind_depth_laws.specs.Depth.{deepest, expr_depth, depth_of, bound_depth_of}
use Rattle.ct_bind_depth_laws.specs.Laws.{WalkedAreNoDeeper}
use Rattle.ct_bind_depth_laws.proofs.Deepest.{deepest_least}
use Rattle.ct_bind_depth_laws.proofs.Layers.{version_depth_of, scalar_depth_of, term_depth_of, layer, opened_version, opened_scalar, opened_term, bound_term_depth_of, of_Null, of_Text, of_Bytes, of_CurrentVersion, of_Product, of_Sum, of_And, of_Or}
use Rattle.ct_bind_depth_laws.proofs.Operators.{TypedNoDeeper, Bounded, raised, two_deeper, of_two, of_three}
use Rattle.ct_bind_depth_laws.proofs.Operators as operators
use Rattle.ct_bind_depth_laws.proofs.Chains.{NoneDeeper, AllBounded, TermBounded, SumNoDeeper, chain_kept, sum_kept}
use Rattle.ct_bind_depth_laws.proofs.Versions.{version_kept, scalar_kept}
use Rattle.ct_bind_depth_laws.proofs.Columns.{flat, column_kept, variable_kept, number_kept}

chain_deeper : (n : ℕ) (made : List BoundExpr) (whole : ℕ) → whole ≡ 1 + deepest (map bound_depth_of made) → NoneDeeper n made → whole ≤ 1 + n
chain_deeper n made whole is all = let below : deepest (map bound_depth_of made) ≤ n = deepest_least bound_depth_of n made all in omega arith

module _ (tables : List Catalogued) (variables : List Variable) (place : Place) where
  abbrev OfExpr : Expr → Type 0
  OfExpr x = Bounded (depth_of x) (come tables variables place x)

  abbrev VersionNoDeeper : ℕ → Schema × BoundRowVersion → Type 0
  VersionNoDeeper n it = NoneDeeper n it.1.values

  abbrev OfRowVersion : RowVersion → Type 0
  OfRowVersion x = Kept (VersionNoDeeper (version_depth_of x)) (version_walk tables variables x place)

  abbrev OfScalar : Scalar → Type 0
  OfScalar x = Bounded (1 + scalar_depth_of x) (scalar_walk tables variables x place)

  abbrev OfTerm : Term → Type 0
  OfTerm x = TermBounded (term_depth_of x) place (term_walk tables variables x)

  -- parts, without what is known of them
  abbrev exprs : List (Known OfExpr) → List Expr
  exprs all = map (λ (p : Known OfExpr). p.0) all

  abbrev terms : List (Known OfTerm) → List Term
  terms all = map (λ (p : Known OfTerm). p.0) all

  all_bounded : (n : ℕ) (all : List (Known OfExpr)) → deepest (map depth_of (exprs all)) ≤ n → AllBounded n place (map (walk tables variables) (exprs all))
  all_bounded n [] whole = tt
  all_bounded n (part ∷ all) whole =
      let here : depth_of part.0 ≤ n = omega arith in
      let rest : deepest (map depth_of (exprs all)) ≤ n = omega arith in
      (raised (depth_of part.0) n (come tables variables place part.0) here part.1, all_bounded n all rest)

  all_terms : (n : ℕ) (all : List (Known OfTerm)) → deepest (map term_depth_of (terms all)) ≤ n → AllByRecursion (TermBounded n place) (map (term_walk tables variables) (terms all))
  all_terms n [] whole = tt
  all_terms n (part ∷ all) whole =
      let here : term_depth_of part.0 ≤ n = omega arith in
      let rest : deepest (map term_depth_of (terms all)) ≤ n = omega arith in
      (raised (term_depth_of part.0) n ((term_walk tables variables part.0).1 place) here part.1, all_terms n all rest)

  -- ---- forms of one operand, of two, of three, of a chain

  of_one : (rule : Typed → Answer Typed) → ((n : ℕ) (it : Typed) → TypedNoDeeper n it → Bounded (1 + n) (rule it)) → (part : Known OfExpr) → Bounded (1 + depth_of part.0) (come tables variables place part.0 >>= rule)
  of_one rule kept part =
      then_kept (TypedNoDeeper (depth_of part.0)) (TypedNoDeeper (1 + depth_of part.0)) (come tables variables place part.0) rule part.1 (kept (depth_of part.0))

  both_of : (rule : Typed → Typed → Answer Typed) → ((n : ℕ) (left right : Typed) → TypedNoDeeper n left → TypedNoDeeper n right → Bounded (1 + n) (rule left right))
      → (left right : Known OfExpr) → Bounded (1 + max (depth_of left.0) (depth_of right.0)) (spec.two place (walk tables variables left.0) (walk tables variables right.0) >>= (λ both. rule both.0 both.1))
  both_of rule kept left right =
      let n : ℕ = max (depth_of left.0) (depth_of right.0) in
      of_two n rule (kept n) place (walk tables variables left.0) (walk tables variables right.0)
      (raised (depth_of left.0) n (come tables variables place left.0) (le-max_left (depth_of left.0) (depth_of right.0)) left.1)
      (raised (depth_of right.0) n (come tables variables place right.0) (le-max_right (depth_of left.0) (depth_of right.0)) right.1)

  all_of : (x y z : Known OfExpr) → Bounded (1 + max (depth_of x.0) (max (depth_of y.0) (depth_of z.0))) (spec.property place (walk tables variables x.0) (walk tables variables y.0) (walk tables variables z.0))
  all_of x y z =
      let n : ℕ = max (depth_of x.0) (max (depth_of y.0) (depth_of z.0)) in
      let of_x : depth_of x.0 ≤ n = omega arith in
      let of_y : depth_of y.0 ≤ n = omega arith in
      let of_z : depth_of z.0 ≤ n = omega arith in
      of_three n place (walk tables variables x.0) (walk tables variables y.0) (walk tables variables z.0)
      (raised (depth_of x.0) n (come tables variables place x.0) of_x x.1) (raised (depth_of y.0) n (come tables variables place y.0) of_y y.1) (raised (depth_of z.0) n (come tables variables place z.0) of_z z.1)

  of_chain : (wanted : Kind) (make : List BoundExpr → BoundExpr) → ((made : List BoundExpr) → bound_depth_of (make made) ≡ 1 + deepest (map bound_depth_of made))
      → (all : List (Known OfExpr)) → Bounded (1 + deepest (map depth_of (exprs all))) (chain wanted place (map (walk tables variables) (exprs all)) >>= (λ made. Ok (typed (make made) wanted)))
  of_chain wanted make makes all =
      let n : ℕ = deepest (map depth_of (exprs all)) in
      then_kept (NoneDeeper n) (TypedNoDeeper (1 + n)) (chain wanted place (map (walk tables variables) (exprs all))) _
      (chain_kept n place wanted (map (walk tables variables) (exprs all)) (all_bounded n all (le_refl n)))
      (λ made all. ok_kept (TypedNoDeeper (1 + n)) (typed (make made) wanted) (chain_deeper n made (bound_depth_of (make made)) (makes made) all))

  of_sum : (first : Known OfExpr) (more : List (Known OfTerm))
      → Bounded (1 + max (depth_of first.0) (deepest (map term_depth_of (terms more)))) (sum place (walk tables variables first.0) (map (term_walk tables variables) (terms more)) >>= (λ operands. Ok (sum_typed operands.0 operands.1)))
  of_sum first more =
      let least : ℕ = depth_of first.0 in
      let rest : ℕ = deepest (map term_depth_of (terms more)) in
      let n : ℕ = max least rest in
      then_kept (SumNoDeeper n place) (TypedNoDeeper (1 + n)) (sum place (walk tables variables first.0) (map (term_walk tables variables) (terms more))) _
      (sum_kept n place (walk tables variables first.0) (map (term_walk tables variables) (terms more))
      (raised least n (come tables variables place first.0) (le-max_left least rest) first.1) (all_terms n more (le-max_right least rest)))
      (λ made all. ok_kept (TypedNoDeeper (1 + n)) (sum_typed made.0 made.1)
      (two_deeper n (bound_depth_of made.0) (deepest (map bound_term_depth_of made.1)) (bound_depth_of (bound.Sum made.0 made.1)) (of_Sum made.0 made.1) all.0 (deepest_least bound_term_depth_of n made.1 all.1)))

  -- how deep a form is, by its parts
  abbrev depth_at : Expr-F Expr RowVersion Scalar Term → ℕ
  depth_at x = expr_depth (map-Expr Expr RowVersion Scalar Term ℕ ℕ ℕ ℕ depth_of version_depth_of scalar_depth_of term_depth_of x)

  form : (y : Form OfExpr OfRowVersion OfScalar OfTerm) → Bounded (depth_at (parts OfExpr OfRowVersion OfScalar OfTerm y)) (form_walk tables variables (parts OfExpr OfRowVersion OfScalar OfTerm y) place)
  form e.Null = ok_kept (TypedNoDeeper 0) (typed bound.Null Null) (flat _ of_Null)
  form (e.Number digits) = number_kept digits
  form (e.Text text) = ok_kept (TypedNoDeeper 0) (spec.text_typed text) (flat _ (of_Text text))
  form (e.Bytes bytes) = ok_kept (TypedNoDeeper 0) (spec.bytes_typed bytes) (flat _ (of_Bytes bytes))
  form (e.Variable name) = variable_kept tables variables name
  form (e.Column name) = column_kept place name
  form e.CurrentVersion = ok_kept (TypedNoDeeper 0) (typed bound.CurrentVersion Number) (flat _ of_CurrentVersion)
  form (e.MinValidVersion table) = of_one spec.min_valid_version operators.min_valid_version table
  form (e.IsColumnInMask column mask) = both_of spec.is_column_in_mask operators.is_column_in_mask column mask
  form (e.ObjectId name) = of_one spec.object_id operators.object_id name
  form (e.ColumnProperty table column asked) = all_of table column asked
  form (e.IfNull value instead) = both_of spec.if_null operators.if_null value instead
  form (e.Scalar scalar) = scalar.1
  form (e.Negative value) = of_one spec.negative operators.negative value
  form (e.Product factors) = of_chain Number bound.Product of_Product factors
  form (e.Sum first more) = of_sum first more
  form (e.Compare operator left right) = both_of (spec.compare operator) (λ n. operators.compare n operator) left right
  form (e.IsNull value) = of_one spec.is_null operators.is_null value
  form (e.IsNotNull value) = of_one spec.is_not_null operators.is_not_null value
  form (e.Not value) = of_one spec.negated operators.negated value
  form (e.And operands) = of_chain Condition bound.And of_And operands
  form (e.Or operands) = of_chain Condition bound.Or of_Or operands

  -- ---- the parts of forms

  of_version : (v : RowVersion) (all : List (Known OfExpr)) → exprs all ≡ v.values → OfRowVersion v
  of_version v all are =
      let n : ℕ = version_depth_of v in
      let same : version_depth_of v ≡ deepest (map depth_of v.values) = opened_version v in
      let below : deepest (map depth_of v.values) ≤ n = omega arith in
      let bounded : AllBounded n place (map (walk tables variables) v.values) =
      subst (λ (es : List Expr). AllBounded n place (map (walk tables variables) es)) are (all_bounded n all (subst (λ (es : List Expr). deepest (map depth_of es) ≤ n) (sym are) below)) in
      subst (λ (w : VersionWalk). Kept (VersionNoDeeper n) (w place)) (sym (opened.opened_version tables variables v))
      (after_kept (VersionNoDeeper n) (tracked_table tables v.table) _
      (λ table. then_kept (λ version. NoneDeeper n version.values) (VersionNoDeeper n) (version_of table.schema v.columns (map (walk tables variables) v.values) place) _
      (version_kept n place table.schema v.columns (map (walk tables variables) v.values) bounded)
      (λ version all. ok_kept (VersionNoDeeper n) (table.schema, version) all)))

  of_scalar : (s : Scalar) → OfRowVersion s.version → OfScalar s
  of_scalar s known =
      let n : ℕ = version_depth_of s.version in
      subst (λ (m : ℕ). Bounded (1 + m) (scalar_walk tables variables s place)) (sym (opened_scalar s))
      (subst (λ (w : Walk). Bounded (1 + n) (w place)) (sym (opened.opened_scalar tables variables s))
      (then_kept (VersionNoDeeper n) (TypedNoDeeper (1 + n)) (version_walk tables variables s.version place) _ known
      (λ it all. scalar_kept n it.0 s.source s.alias s.column it.1 all)))

  of_term : (t : Term) → OfExpr t.value → OfTerm t
  of_term t known =
      subst (λ (m : ℕ). TermBounded m place (term_walk tables variables t)) (sym (opened_term t))
      (subst (λ (w : TermWalk). TermBounded (depth_of t.value) place w) (sym (opened.opened_term tables variables t)) known)

  rolled : (y : Form OfExpr OfRowVersion OfScalar OfTerm) → OfExpr (roll-Expr (parts OfExpr OfRowVersion OfScalar OfTerm y))
  rolled y =
      let x : Expr-F Expr RowVersion Scalar Term = parts OfExpr OfRowVersion OfScalar OfTerm y in
      subst (λ (m : ℕ). Bounded m (come tables variables place (roll-Expr x))) (sym (layer x)) (subst (Bounded (depth_at x)) (sym (arms.layer tables variables place x)) (form y))

  pub every : (x : Expr) → OfExpr x
  every = by_forms OfExpr OfRowVersion OfScalar OfTerm rolled (λ y. of_version (roll-RowVersion (version_parts OfExpr OfRowVersion OfScalar OfTerm y)) y.values refl)
      (λ y. of_scalar (roll-Scalar (scalar_parts OfExpr OfRowVersion OfScalar OfTerm y)) y.version.1) (λ y. of_term (roll-Term (term_parts OfExpr OfRowVersion OfScalar OfTerm y)) y.value.1)

pub walked_are_no_deeper : WalkedAreNoDeeper
walked_are_no_deeper tables variables place x it came = (every tables variables place x).holds it came
