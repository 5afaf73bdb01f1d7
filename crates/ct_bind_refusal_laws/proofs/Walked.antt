-- Each refusal of a walk over an expression has its cause: by induction over the expression, one case for each form.
use Rattle.std.proofs.Common.{◌≡◌, List, [], ◌∷◌, ◌++◌, length, map, Some, ◌∙◌, subst, sym}
use Rattle.std.specs.List.{AllByRecursion}
use Rattle.std.proofs.lemmas.List.{length-map}
use Rattle.ct_types.specs.declared.catalogue.Catalogued.{Catalogued}
use Rattle.ct_types.specs.declared.catalogue.Variable.{Variable}
use Rattle.ct_types.specs.declared.expr.Expr.{Expr, roll-Expr}
use Rattle.ct_types.specs.declared.expr.Expr.TheOpen as e
use Rattle.ct_types.specs.declared.expr.Expr.TheOpen.{Expr-F, RowVersion-F, Scalar-F, Term-F}
use Rattle.ct_types.specs.declared.expr.RowVersion.{RowVersion, roll-RowVersion}
use Rattle.ct_types.specs.declared.expr.Scalar.{Scalar, roll-Scalar}
use Rattle.ct_types.specs.declared.expr.Term.{Term, roll-Term}
use Rattle.ct_bind_kinds.specs.declared.kind.Kind.TheVariants.{Number, Condition}
use Rattle.ct_bind_expr.specs.declared.place.Place.{Place}
use Rattle.ct_bind_expr.specs.Walk.{two, property, sum, walk, version_walk, scalar_walk, term_walk}
use Rattle.ct_bind_refusal_laws.specs.Mentions.{Mention, OfVariable, OfNumber, OfTuple, of_tracked, of_each, mentions, version_mentions, scalar_mentions, term_mentions, of_values}
use Rattle.ct_bind_expr.proofs.Forms.{Known, Form, VersionForm, ScalarForm, TermForm, parts, version_parts, scalar_parts, term_parts, by_forms, form_walk, version_form_walk, scalar_form_walk, walked, version_walked, scalar_walked, term_walked}
use Rattle.ct_bind_refusal_laws.proofs.Among.{Among, left, right, first, rest}
use Rattle.ct_types.proofs.AnswersCaused.{ok_caused, then_caused}
use Rattle.ct_bind_refusal_laws.proofs.Expressions.{IsExplained, ExplainedAt, TermExplained, number_explained, variable_typed_explained, column_explained, min_valid_version_explained, column_in_mask_explained, object_id_explained, property_explained, if_null_explained, negative_explained, compare_explained, is_null_explained, is_not_null_explained, negated_explained, two_explained, chain_explained, sum_explained, version_of_explained, scalar_column_explained, tracked_explained}
use Rattle.ct_bind_refusal_laws.proofs.Layers.{form_mentions, version_form_mentions, scalar_form_mentions, said, version_said, scalar_said, term_said}

module _ (tables : List Catalogued) (variables : List Variable) where
  abbrev OfExpr : Expr → Type 0
  OfExpr e = (mentioned : List Mention) → Among (mentions e) mentioned → ExplainedAt tables variables mentioned (walk tables variables e)

  abbrev OfVersion : RowVersion → Type 0
  OfVersion v = (mentioned : List Mention) → Among (version_mentions v) mentioned → (place : Place) → IsExplained tables variables mentioned (version_walk tables variables v place)

  abbrev OfScalar : Scalar → Type 0
  OfScalar s = (mentioned : List Mention) → Among (scalar_mentions s) mentioned → ExplainedAt tables variables mentioned (scalar_walk tables variables s)

  abbrev OfTerm : Term → Type 0
  OfTerm t = (mentioned : List Mention) → Among (term_mentions t) mentioned → TermExplained tables variables mentioned (term_walk tables variables t)

  all_at : (parts : List (Known OfExpr)) (mentioned : List Mention) → Among (of_each (map mentions (map (λ p. p.0) parts))) mentioned
      → AllByRecursion (ExplainedAt tables variables mentioned) (map (walk tables variables) (map (λ p. p.0) parts))
  all_at [] mentioned among = tt
  all_at (part ∷ more) mentioned among =
      (part.1 mentioned (left (mentions part.0) (of_each (map mentions (map (λ p. p.0) more))) among), all_at more mentioned (right (mentions part.0) (of_each (map mentions (map (λ p. p.0) more))) among))

  all_terms : (parts : List (Known OfTerm)) (mentioned : List Mention) → Among (of_each (map term_mentions (map (λ p. p.0) parts))) mentioned
      → AllByRecursion (TermExplained tables variables mentioned) (map (term_walk tables variables) (map (λ p. p.0) parts))
  all_terms [] mentioned among = tt
  all_terms (part ∷ more) mentioned among = (
    part.1 mentioned (left (term_mentions part.0) (of_each (map term_mentions (map (λ p. p.0) more))) among),
    all_terms more mentioned (right (term_mentions part.0) (of_each (map term_mentions (map (λ p. p.0) more))) among),
  )

  two_at : (one other : Known OfExpr) (mentioned : List Mention) → Among (mentions one.0 ++ mentions other.0) mentioned → (place : Place)
      → IsExplained tables variables mentioned (two place (walk tables variables one.0) (walk tables variables other.0))
  two_at one other mentioned among place =
      two_explained tables variables mentioned place _ _ (one.1 mentioned (left (mentions one.0) (mentions other.0) among)) (other.1 mentioned (right (mentions one.0) (mentions other.0) among))

  property_at : (table column name : Known OfExpr) (mentioned : List Mention) → Among ((mentions table.0 ++ mentions column.0) ++ mentions name.0) mentioned → (place : Place)
      → IsExplained tables variables mentioned (property place (walk tables variables table.0) (walk tables variables column.0) (walk tables variables name.0))
  property_at table column name mentioned among place =
      let both : Among (mentions table.0 ++ mentions column.0) mentioned = left (mentions table.0 ++ mentions column.0) (mentions name.0) among in
      property_explained tables variables mentioned place _ _ _ (table.1 mentioned (left (mentions table.0) (mentions column.0) both)) (column.1 mentioned (right (mentions table.0) (mentions column.0) both))
      (name.1 mentioned (right (mentions table.0 ++ mentions column.0) (mentions name.0) among))

  sum_at : (one : Known OfExpr) (more : List (Known OfTerm)) (mentioned : List Mention) → Among (mentions one.0 ++ of_each (map term_mentions (map (λ p. p.0) more))) mentioned → (place : Place)
      → IsExplained tables variables mentioned (sum place (walk tables variables one.0) (map (term_walk tables variables) (map (λ p. p.0) more)))
  sum_at one more mentioned among place =
      sum_explained tables variables mentioned place _ _ (one.1 mentioned (left (mentions one.0) (of_each (map term_mentions (map (λ p. p.0) more))) among))
      (all_terms more mentioned (right (mentions one.0) (of_each (map term_mentions (map (λ p. p.0) more))) among))

  -- ---- the forms

  form_explained : (y : Form OfExpr OfVersion OfScalar OfTerm) (mentioned : List Mention) → Among (form_mentions (parts OfExpr OfVersion OfScalar OfTerm y)) mentioned → ExplainedAt tables variables mentioned (form_walk tables variables (parts OfExpr OfVersion OfScalar OfTerm y))
  form_explained e.Null mentioned among place = ok_caused _
  form_explained (e.Number digits) mentioned among place = number_explained tables variables mentioned digits (first (OfNumber digits) [] among)
  form_explained (e.Text text) mentioned among place = ok_caused _
  form_explained (e.Bytes bytes) mentioned among place = ok_caused _
  form_explained (e.Variable name) mentioned among place = variable_typed_explained tables variables mentioned name (first (OfVariable name) [] among)
  form_explained (e.Column name) mentioned among place = column_explained tables variables mentioned place name
  form_explained e.CurrentVersion mentioned among place = ok_caused _
  form_explained (e.MinValidVersion table) mentioned among place = then_caused _ _ (table.1 mentioned among place) (min_valid_version_explained tables variables mentioned)
  form_explained (e.IsColumnInMask column mask) mentioned among place =
      then_caused _ _ (two_at column mask mentioned among place) (λ both. column_in_mask_explained tables variables mentioned both.0 both.1)
  form_explained (e.ObjectId name) mentioned among place = then_caused _ _ (name.1 mentioned among place) (object_id_explained tables variables mentioned)
  form_explained (e.ColumnProperty table column name) mentioned among place = property_at table column name mentioned among place
  form_explained (e.IfNull value instead) mentioned among place = then_caused _ _ (two_at value instead mentioned among place) (λ both. if_null_explained tables variables mentioned both.0 both.1)
  form_explained (e.Scalar scalar) mentioned among place = scalar.1 mentioned among place
  form_explained (e.Negative value) mentioned among place = then_caused _ _ (value.1 mentioned among place) (negative_explained tables variables mentioned)
  form_explained (e.Product factors) mentioned among place = then_caused _ _ (chain_explained tables variables mentioned Number place _ (all_at factors mentioned among)) (λ _. ok_caused _)
  form_explained (e.Sum one more) mentioned among place = then_caused _ _ (sum_at one more mentioned among place) (λ _. ok_caused _)
  form_explained (e.Compare operator one other) mentioned among place =
      then_caused _ _ (two_at one other mentioned among place) (λ both. compare_explained tables variables mentioned operator both.0 both.1)
  form_explained (e.IsNull value) mentioned among place = then_caused _ _ (value.1 mentioned among place) (is_null_explained tables variables mentioned)
  form_explained (e.IsNotNull value) mentioned among place = then_caused _ _ (value.1 mentioned among place) (is_not_null_explained tables variables mentioned)
  form_explained (e.Not value) mentioned among place = then_caused _ _ (value.1 mentioned among place) (negated_explained tables variables mentioned)
  form_explained (e.And operands) mentioned among place = then_caused _ _ (chain_explained tables variables mentioned Condition place _ (all_at operands mentioned among)) (λ _. ok_caused _)
  form_explained (e.Or operands) mentioned among place = then_caused _ _ (chain_explained tables variables mentioned Condition place _ (all_at operands mentioned among)) (λ _. ok_caused _)

  version_form_explained : (y : VersionForm OfExpr OfVersion OfScalar OfTerm) (mentioned : List Mention) → Among (version_form_mentions (version_parts OfExpr OfVersion OfScalar OfTerm y)) mentioned
      → (place : Place) → IsExplained tables variables mentioned (version_form_walk tables variables (version_parts OfExpr OfVersion OfScalar OfTerm y) place)
  version_form_explained y mentioned among place =
      let values : List (List Mention) = map mentions (map (λ p. p.0) y.values) in
      let own : Mention = OfTuple (Some (length y.columns)) (length values) in
      let behind : Among (own ∷ of_each values) mentioned = rest (of_tracked y.table) (own ∷ of_each values) among in
      let long : length (map (walk tables variables) (map (λ p. p.0) y.values)) ≡ length values = length-map (map (λ p. p.0) y.values) (walk tables variables) ∙ sym (length-map (map (λ p. p.0) y.values) mentions) in
      then_caused _ _ (tracked_explained tables variables mentioned y.table (first (of_tracked y.table) (own ∷ of_each values) among))
      (λ table. then_caused _ _ (version_of_explained tables variables mentioned table.schema y.columns _ place (length values) long (first own (of_each values) behind)
      (all_at y.values mentioned (rest own (of_each values) behind))) (λ _. ok_caused _))

  scalar_form_explained : (y : ScalarForm OfExpr OfVersion OfScalar OfTerm) (mentioned : List Mention) → Among (scalar_form_mentions (scalar_parts OfExpr OfVersion OfScalar OfTerm y)) mentioned
      → ExplainedAt tables variables mentioned (scalar_form_walk tables variables (scalar_parts OfExpr OfVersion OfScalar OfTerm y))
  scalar_form_explained y mentioned among place =
      then_caused _ _ (y.version.1 mentioned among place) (λ version. scalar_column_explained tables variables mentioned version.0 y.source y.alias y.column version.1)

  -- ---- one layer

  expr_case : (y : Form OfExpr OfVersion OfScalar OfTerm) → OfExpr (roll-Expr (parts OfExpr OfVersion OfScalar OfTerm y))
  expr_case y mentioned among =
      let x : Expr-F Expr RowVersion Scalar Term = parts OfExpr OfVersion OfScalar OfTerm y in
      subst (λ w. ExplainedAt tables variables mentioned w) (sym (walked tables variables x)) (form_explained y mentioned (subst (λ m. Among m mentioned) (said x) among))

  version_case : (y : VersionForm OfExpr OfVersion OfScalar OfTerm) → OfVersion (roll-RowVersion (version_parts OfExpr OfVersion OfScalar OfTerm y))
  version_case y mentioned among =
      let x : RowVersion-F Expr RowVersion Scalar Term = version_parts OfExpr OfVersion OfScalar OfTerm y in
      subst (λ w. (place : Place) → IsExplained tables variables mentioned (w place)) (sym (version_walked tables variables x))
      (version_form_explained y mentioned (subst (λ m. Among m mentioned) (version_said x) among))

  scalar_case : (y : ScalarForm OfExpr OfVersion OfScalar OfTerm) → OfScalar (roll-Scalar (scalar_parts OfExpr OfVersion OfScalar OfTerm y))
  scalar_case y mentioned among =
      let x : Scalar-F Expr RowVersion Scalar Term = scalar_parts OfExpr OfVersion OfScalar OfTerm y in
      subst (λ w. ExplainedAt tables variables mentioned w) (sym (scalar_walked tables variables x)) (scalar_form_explained y mentioned (subst (λ m. Among m mentioned) (scalar_said x) among))

  term_case : (y : TermForm OfExpr OfVersion OfScalar OfTerm) → OfTerm (roll-Term (term_parts OfExpr OfVersion OfScalar OfTerm y))
  term_case y mentioned among =
      let x : Term-F Expr RowVersion Scalar Term = term_parts OfExpr OfVersion OfScalar OfTerm y in
      subst (λ w. TermExplained tables variables mentioned w) (sym (term_walked tables variables x)) (y.value.1 mentioned (subst (λ m. Among m mentioned) (term_said x) among))

  pub walk_explained : (e : Expr) (mentioned : List Mention) → Among (mentions e) mentioned → ExplainedAt tables variables mentioned (walk tables variables e)
  walk_explained = by_forms OfExpr OfVersion OfScalar OfTerm expr_case version_case scalar_case term_case

  pub walks_explained : (values : List Expr) (mentioned : List Mention) → Among (of_values values) mentioned → AllByRecursion (ExplainedAt tables variables mentioned) (map (walk tables variables) values)
  walks_explained [] mentioned among = tt
  walks_explained (e ∷ more) mentioned among =
      (walk_explained e mentioned (left (mentions e) (of_values more) among), walks_explained more mentioned (right (mentions e) (of_values more) among))
