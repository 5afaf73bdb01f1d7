-- Where a walk over an expression refuses nothing, what the expression mentions is met: by induction, one case for each form.
use Rattle.std.proofs.Common.{◌≡◌, List, [], ◌∷◌, ◌++◌, length, map, Some, subst, sym, ◌∙◌}
use Rattle.std.proofs.lemmas.List.{length-map}
use Rattle.ct_types.specs.declared.catalogue.Catalogued.{Catalogued}
use Rattle.ct_types.specs.declared.catalogue.Variable.{Variable}
use Rattle.ct_types.specs.declared.expr.Expr.{Expr, roll-Expr}
use Rattle.ct_types.specs.declared.expr.Expr.TheOpen as e
use Rattle.ct_types.specs.declared.expr.Expr.TheOpen.{Expr-F, RowVersion-F, Scalar-F, Term-F}
use Rattle.ct_types.specs.declared.expr.RowVersion.{RowVersion, roll-RowVersion}
use Rattle.ct_types.specs.declared.expr.Scalar.{Scalar, roll-Scalar}
use Rattle.ct_types.specs.declared.expr.Term.{Term, roll-Term}
use Rattle.ct_types.specs.declared.stmt.Stmt.{Stmt}
use Rattle.ct_bind_kinds.specs.declared.kind.Kind.{Kind}
use Rattle.ct_bind_kinds.specs.declared.kind.Kind.TheVariants.{Number, Condition}
use Rattle.ct_bind_expr.specs.declared.place.Place.{Place}
use Rattle.ct_bind_expr.specs.Versions.{Walk}
use Rattle.ct_bind_expr.specs.Walk.{VersionWalk, two, chain, walk, version_walk, scalar_walk, term_walk}
use Rattle.ct_bind_refusal_laws.specs.Mentions.{Mention, OfTuple, of_tracked, of_each, mentions, version_mentions, scalar_mentions, term_mentions}
use Rattle.ct_bind_expr.proofs.Forms.{Known, Form, VersionForm, ScalarForm, TermForm, parts, version_parts, scalar_parts, term_parts, by_forms, form_walk, version_form_walk, scalar_form_walk, term_form_walk, walked, version_walked, scalar_walked, term_walked}
use Rattle.ct_bind_refusal_laws.proofs.Layers.{form_mentions, version_form_mentions, said, version_said, scalar_said, term_said}
use Rattle.ct_bind_refusal_laws.proofs.Passed.{anyway, first_passed, both_passed}
use Rattle.ct_bind_refusal_laws.proofs.Meets.{Pairs, Meets, MeetsAt, TermMeets, joined, number_meets, tracked_meets, variable_typed_meets, two_meets, property_meets, chain_meets, sum_meets, version_meets}

module _ (tables : List Catalogued) (variables : List Variable) (statement : Stmt) where
  abbrev At : Walk → List Mention → Type 0
  At one some = MeetsAt tables variables statement one some

  abbrev VersionAt : VersionWalk → List Mention → Type 0
  VersionAt one some = (place : Place) → Meets tables variables statement some (one place)

  abbrev OfExpr : Expr → Type 0
  OfExpr e = At (walk tables variables e) (mentions e)

  abbrev OfVersion : RowVersion → Type 0
  OfVersion v = VersionAt (version_walk tables variables v) (version_mentions v)

  abbrev OfScalar : Scalar → Type 0
  OfScalar s = At (scalar_walk tables variables s) (scalar_mentions s)

  abbrev OfTerm : Term → Type 0
  OfTerm t = TermMeets tables variables statement (term_walk tables variables t) (term_mentions t)

  all_at : (parts : List (Known OfExpr)) → Pairs At (map (walk tables variables) (map (λ p. p.0) parts)) (map mentions (map (λ p. p.0) parts))
  all_at [] = tt
  all_at (part ∷ more) = (part.1, all_at more)

  all_terms : (parts : List (Known OfTerm)) → Pairs (TermMeets tables variables statement) (map (term_walk tables variables) (map (λ p. p.0) parts)) (map term_mentions (map (λ p. p.0) parts))
  all_terms [] = tt
  all_terms (part ∷ more) = (part.1, all_terms more)

  -- ---- the forms, whose parts stand in their places

  both_at : (one other : Known OfExpr) (place : Place) → Meets tables variables statement (mentions one.0 ++ mentions other.0) (two place (walk tables variables one.0) (walk tables variables other.0))
  both_at one other place =
      joined tables variables statement (mentions one.0) (mentions other.0) _ (two_meets tables variables statement place (walk tables variables one.0) (walk tables variables other.0) (mentions one.0) (mentions other.0) one.1 other.1)

  chain_at : (wanted : Kind) (parts : List (Known OfExpr)) (place : Place) → Meets tables variables statement (of_each (map mentions (map (λ p. p.0) parts))) (chain wanted place (map (walk tables variables) (map (λ p. p.0) parts)))
  chain_at wanted parts place = chain_meets tables variables statement wanted place (map (walk tables variables) (map (λ p. p.0) parts)) (map mentions (map (λ p. p.0) parts)) (all_at parts)

  form_meets : (y : Form OfExpr OfVersion OfScalar OfTerm) → At (form_walk tables variables (parts OfExpr OfVersion OfScalar OfTerm y)) (form_mentions (parts OfExpr OfVersion OfScalar OfTerm y))
  form_meets e.Null place = anyway _ tt
  form_meets (e.Number digits) place = number_meets tables variables statement digits
  form_meets (e.Text text) place = anyway _ tt
  form_meets (e.Bytes bytes) place = anyway _ tt
  form_meets (e.Variable name) place = variable_typed_meets tables variables statement name
  form_meets (e.Column name) place = anyway _ tt
  form_meets e.CurrentVersion place = anyway _ tt
  form_meets (e.MinValidVersion table) place = first_passed _ _ (table.1 place)
  form_meets (e.IsColumnInMask column mask) place = first_passed _ _ (both_at column mask place)
  form_meets (e.ObjectId name) place = first_passed _ _ (name.1 place)
  form_meets (e.ColumnProperty table column name) place =
      property_meets tables variables statement place (walk tables variables table.0) (walk tables variables column.0) (walk tables variables name.0) (mentions table.0) (mentions column.0) (mentions name.0) table.1 column.1 name.1
  form_meets (e.IfNull value instead) place = first_passed _ _ (both_at value instead place)
  form_meets (e.Scalar scalar) place = scalar.1 place
  form_meets (e.Negative value) place = first_passed _ _ (value.1 place)
  form_meets (e.Product factors) place = first_passed _ _ (chain_at Number factors place)
  form_meets (e.Sum one more) place =
      first_passed _ _ (sum_meets tables variables statement place (walk tables variables one.0) (map (term_walk tables variables) (map (λ p. p.0) more)) (mentions one.0) (map term_mentions (map (λ p. p.0) more)) one.1 (all_terms more))
  form_meets (e.Compare operator one other) place = first_passed _ _ (both_at one other place)
  form_meets (e.IsNull value) place = first_passed _ _ (value.1 place)
  form_meets (e.IsNotNull value) place = first_passed _ _ (value.1 place)
  form_meets (e.Not value) place = first_passed _ _ (value.1 place)
  form_meets (e.And operands) place = first_passed _ _ (chain_at Condition operands place)
  form_meets (e.Or operands) place = first_passed _ _ (chain_at Condition operands place)

  version_form_meets : (y : VersionForm OfExpr OfVersion OfScalar OfTerm) → VersionAt (version_form_walk tables variables (version_parts OfExpr OfVersion OfScalar OfTerm y)) (version_form_mentions (version_parts OfExpr OfVersion OfScalar OfTerm y))
  version_form_meets y place =
      let walks : List Walk = map (walk tables variables) (map (λ p. p.0) y.values) in
      let all : List (List Mention) = map mentions (map (λ p. p.0) y.values) in
      let long : length walks ≡ length all = length-map (map (λ p. p.0) y.values) (walk tables variables) ∙ sym (length-map (map (λ p. p.0) y.values) mentions) in
      joined tables variables statement (of_tracked y.table ∷ []) (OfTuple (Some (length y.columns)) (length all) ∷ of_each all) _
      (both_passed _ _ (tracked_meets tables variables statement y.table)
      (λ table _. first_passed _ _ (version_meets tables variables statement table.schema y.columns walks all place (length all) long (all_at y.values))))

  -- ---- one layer

  expr_case : (y : Form OfExpr OfVersion OfScalar OfTerm) → OfExpr (roll-Expr (parts OfExpr OfVersion OfScalar OfTerm y))
  expr_case y =
      let x : Expr-F Expr RowVersion Scalar Term = parts OfExpr OfVersion OfScalar OfTerm y in
      subst (λ w. At w (mentions (roll-Expr x))) (sym (walked tables variables x)) (subst (λ m. At (form_walk tables variables x) m) (sym (said x)) (form_meets y))

  version_case : (y : VersionForm OfExpr OfVersion OfScalar OfTerm) → OfVersion (roll-RowVersion (version_parts OfExpr OfVersion OfScalar OfTerm y))
  version_case y =
      let x : RowVersion-F Expr RowVersion Scalar Term = version_parts OfExpr OfVersion OfScalar OfTerm y in
      subst (λ w. VersionAt w (version_mentions (roll-RowVersion x))) (sym (version_walked tables variables x))
      (subst (λ m. VersionAt (version_form_walk tables variables x) m) (sym (version_said x)) (version_form_meets y))

  scalar_case : (y : ScalarForm OfExpr OfVersion OfScalar OfTerm) → OfScalar (roll-Scalar (scalar_parts OfExpr OfVersion OfScalar OfTerm y))
  scalar_case y =
      let x : Scalar-F Expr RowVersion Scalar Term = scalar_parts OfExpr OfVersion OfScalar OfTerm y in
      subst (λ w. At w (scalar_mentions (roll-Scalar x))) (sym (scalar_walked tables variables x))
      (subst (λ m. At (scalar_form_walk tables variables x) m) (sym (scalar_said x)) (λ place. first_passed _ _ (y.version.1 place)))

  term_case : (y : TermForm OfExpr OfVersion OfScalar OfTerm) → OfTerm (roll-Term (term_parts OfExpr OfVersion OfScalar OfTerm y))
  term_case y =
      let x : Term-F Expr RowVersion Scalar Term = term_parts OfExpr OfVersion OfScalar OfTerm y in
      subst (λ w. TermMeets tables variables statement w (term_mentions (roll-Term x))) (sym (term_walked tables variables x))
      (subst (λ m. TermMeets tables variables statement (term_form_walk tables variables x) m) (sym (term_said x)) y.value.1)

  pub walk_meets : (e : Expr) → At (walk tables variables e) (mentions e)
  walk_meets = by_forms OfExpr OfVersion OfScalar OfTerm expr_case version_case scalar_case term_case

  pub walks_meet : (values : List Expr) → Pairs At (map (walk tables variables) values) (map mentions values)
  walks_meet [] = tt
  walks_meet (value ∷ more) = (walk_meets value, walks_meet more)
