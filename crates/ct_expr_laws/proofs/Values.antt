-- What comes of an expression is of its kind: by induction over the expression, one case for each form.
use Rattle.std.proofs.Common.{map, Option, sym, subst, ◌∙◌}
use Rattle.std.specs.List.{slice_get}
use Rattle.std.specs.Option.{option_map}
use Rattle.std.proofs.lemmas.Option.{slice_get-map}
use Rattle.ct_types.specs.declared.bound.BoundExpr.{BoundExpr, roll-BoundExpr, map-BoundExpr}
use Rattle.ct_types.specs.declared.bound.BoundExpr.TheOpen as e
use Rattle.ct_types.specs.declared.bound.BoundExpr.TheOpen.{BoundExpr-F, BoundScalar-F, BoundRowVersion-F}
use Rattle.ct_types.specs.declared.bound.BoundExpr.TheFolds.{map-BoundRowVersion, map-BoundScalar, fold-BoundScalar, fold-BoundTerm, fold-roll-BoundExpr, fold-roll-BoundRowVersion, fold-roll-BoundScalar, ind-BoundExpr}
use Rattle.ct_types.specs.declared.bound.BoundRowVersion.{BoundRowVersion, roll-BoundRowVersion}
use Rattle.ct_types.specs.declared.bound.BoundScalar.{BoundScalar, roll-BoundScalar}
use Rattle.ct_types.specs.declared.bound.BoundTerm.{BoundTerm}
use Rattle.ct_types.specs.declared.catalogue.Variable.{Variable}
use Rattle.ct_types.specs.declared.schema.Schema.{Schema}
use Rattle.ct_types.specs.declared.tracked.VersionRow.{VersionRow}
use Rattle.ct_types.specs.declared.value.Key.{Key}
use Rattle.ct_types.specs.declared.value.Value.{Value}
use Rattle.ct_types.specs.declared.value.Value.TheVariants as v
use Rattle.ct_types.specs.Answers.{Answer}
use Rattle.ct_bind_kinds.specs.declared.kind.Kind.{Kind}
use Rattle.ct_bind_kinds.specs.declared.kind.Kind.TheVariants.{Number, Text, Bytes, Null}
use Rattle.ct_bind_kinds.specs.Kinds.{kind_of_type, IsOfKind}
use Rattle.ct_bind_kinds.specs.WellFormed.{Scope, kind_of, table_of, table_of_version, expr_kind, row_version_table, scalar_kind, term_kind}
use Rattle.ct_expr.specs.Functions.{or_null, counted_or_null}
use Rattle.ct_expr.specs.Functions as f
use Rattle.ct_expr.specs.Meaning.{Scene, Meaning, Operand, multiplied, one, meaning_rule, row_version_rule, scalar_rule, operand_rule, meaning, row_version, scalar, operand}
use Rattle.ct_expr_laws.specs.Laws.{IsSceneOf, ValuesHaveTheirKind}
use Rattle.ct_expr_laws.proofs.Fitting.{counted_fits, object_id_fits, min_valid_version_fits, in_mask_fits, property_fits, negative_kept, at_place}
use Rattle.ct_types.proofs.AnswersKept.{ok_kept, after_kept}
use Rattle.ct_expr_laws.proofs.Rules.{Of, of_value, of_number, of_condition, if_null_of, chain_kept, multiplied_kept, sum_of}
use Rattle.ct_expr_laws.proofs.Versions.{OfVersion, version_of, scalar_of}

module _ (s : Scope) (scene : Scene) (fits : IsSceneOf s scene) where
  abbrev scalar_of_kind : BoundScalar → Option Kind
  scalar_of_kind = fold-BoundScalar (Option Kind) (Option Schema) (Option Kind) (Option Kind) (expr_kind s) (row_version_table s) scalar_kind term_kind

  abbrev term_of_kind : BoundTerm → Option Kind
  term_of_kind = fold-BoundTerm (Option Kind) (Option Schema) (Option Kind) (Option Kind) (expr_kind s) (row_version_table s) scalar_kind term_kind

  abbrev OfExpr : BoundExpr → Type 0
  OfExpr x = Of (kind_of s x) (meaning scene x).value

  abbrev OfRowVersion : BoundRowVersion → Type 0
  OfRowVersion x = OfVersion (table_of_version s x) (row_version scene x)

  abbrev OfScalar : BoundScalar → Type 0
  OfScalar x = Of (scalar_of_kind x) (scalar scene x)

  abbrev OfTerm : BoundTerm → Type 0
  OfTerm x = Unit {0}

  -- parts, each with what is known of it
  abbrev E : Type 0
  E = (x : BoundExpr) × OfExpr x

  abbrev R : Type 0
  R = (x : BoundRowVersion) × OfRowVersion x

  abbrev S : Type 0
  S = (x : BoundScalar) × OfScalar x

  abbrev T : Type 0
  T = (x : BoundTerm) × OfTerm x

  -- a form whose parts stand in their places: its kind, and its value
  abbrev kind_at : BoundExpr-F BoundExpr BoundRowVersion BoundScalar BoundTerm → Option Kind
  kind_at x = expr_kind s (map-BoundExpr BoundExpr BoundRowVersion BoundScalar BoundTerm (Option Kind) (Option Schema) (Option Kind) (Option Kind) (kind_of s) (table_of_version s) scalar_of_kind term_of_kind x)

  abbrev meaning_at : BoundExpr-F BoundExpr BoundRowVersion BoundScalar BoundTerm → Meaning
  meaning_at x = meaning_rule scene (map-BoundExpr BoundExpr BoundRowVersion BoundScalar BoundTerm Meaning (Answer (Key × VersionRow)) (Answer Value) Operand (meaning scene) (row_version scene) (scalar scene) (operand scene) x)

  abbrev parts_of : BoundExpr-F E R S T → BoundExpr-F BoundExpr BoundRowVersion BoundScalar BoundTerm
  parts_of y = map-BoundExpr E R S T BoundExpr BoundRowVersion BoundScalar BoundTerm (λ p. p.0) (λ p. p.0) (λ p. p.0) (λ p. p.0) y

  form : (y : BoundExpr-F E R S T) → Of (kind_at (parts_of y)) (meaning_at (parts_of y)).value
  form e.Null = of_value Null v.Null tt
  form (e.Number n) = of_value Number (v.Int n) tt
  form (e.Text t) = of_value Text (v.Text t) tt
  form (e.Bytes b) = of_value Bytes (v.Bytes b) tt
  form (e.Column at) = λ kind is value. ok_kept (IsOfKind kind) (or_null (slice_get scene.row.0 at)) (at_place s.columns scene.row.0 at kind fits.row is)
  form (e.Variable at) = λ kind is value. ok_kept (IsOfKind kind) (or_null (option_map (λ variable. variable.value) (slice_get scene.env.variables.0 at)))
      (subst (λ (o : Option Value). IsOfKind kind (or_null o)) (slice_get-map (λ (variable : Variable). variable.value) scene.env.variables.0 at)
      (at_place (map kind_of_type s.variables) (map (λ (variable : Variable). variable.value) scene.env.variables.0) at kind fits.variables (slice_get-map kind_of_type s.variables at ∙ is)))
  form e.CurrentVersion = of_value Number (counted_or_null scene.env.current) (counted_fits scene.env.current)
  form (e.MinValidVersion table) = of_number _ _ (after_kept (IsOfKind Number) (meaning scene table.0).value _
      (λ x. ok_kept (IsOfKind Number) (f.min_valid_version scene.env.tables x) (min_valid_version_fits scene.env.tables x)))
  form (e.IsColumnInMask column mask) = of_number _ _ (after_kept (IsOfKind Number) (meaning scene column.0).value _ (λ x.
      after_kept (IsOfKind Number) (meaning scene mask.0).value _ (λ y. ok_kept (IsOfKind Number) (f.is_column_in_mask x y) (in_mask_fits x y))))
  form (e.ObjectId name) = of_number _ _ (after_kept (IsOfKind Number) (meaning scene name.0).value _
      (λ x. ok_kept (IsOfKind Number) (f.object_id scene.env.tables x) (object_id_fits scene.env.tables x)))
  form (e.ColumnProperty table column property) = of_number _ _ (after_kept (IsOfKind Number) (meaning scene table.0).value _ (λ x.
      after_kept (IsOfKind Number) (meaning scene column.0).value _ (λ y.
      after_kept (IsOfKind Number) (meaning scene property.0).value _ (λ z.
      ok_kept (IsOfKind Number) (f.column_property scene.env.tables x y z) (property_fits scene.env.tables x y z)))))
  form (e.IfNull a b) = if_null_of (kind_of s a.0) (kind_of s b.0) (meaning scene a.0).value (meaning scene b.0).value a.1 b.1
  form (e.Scalar x) = x.1
  form (e.Negative a) = of_number _ _ (after_kept (IsOfKind Number) (meaning scene a.0).value _ negative_kept)
  form (e.Product factors) = of_number _ _ (chain_kept multiplied multiplied_kept one tt (map (meaning scene) (map (λ (p : E). p.0) factors)))
  form (e.Sum first more) = sum_of (kind_of s first.0) (meaning scene first.0).value _ _ first.1
  form (e.Compare operator a b) = of_condition _ _
  form (e.IsNull a) = of_condition _ _
  form (e.IsNotNull a) = of_condition _ _
  form (e.Not a) = of_condition _ _
  form (e.And operands) = of_condition _ _
  form (e.Or operands) = of_condition _ _

  abbrev table_at : BoundRowVersion-F BoundExpr BoundRowVersion BoundScalar BoundTerm → Option Schema
  table_at x = row_version_table s (map-BoundRowVersion BoundExpr BoundRowVersion BoundScalar BoundTerm (Option Kind) (Option Schema) (Option Kind) (Option Kind) (kind_of s) (table_of_version s) scalar_of_kind term_of_kind x)

  abbrev row_at : BoundRowVersion-F BoundExpr BoundRowVersion BoundScalar BoundTerm → Answer (Key × VersionRow)
  row_at x = row_version_rule scene (map-BoundRowVersion BoundExpr BoundRowVersion BoundScalar BoundTerm Meaning (Answer (Key × VersionRow)) (Answer Value) Operand (meaning scene) (row_version scene) (scalar scene) (operand scene) x)

  abbrev version_parts : BoundRowVersion-F E R S T → BoundRowVersion-F BoundExpr BoundRowVersion BoundScalar BoundTerm
  version_parts y = map-BoundRowVersion E R S T BoundExpr BoundRowVersion BoundScalar BoundTerm (λ p. p.0) (λ p. p.0) (λ p. p.0) (λ p. p.0) y

  version : (y : BoundRowVersion-F E R S T) → OfVersion (table_at (version_parts y)) (row_at (version_parts y))
  version y = version_of (λ (p : E). p.0) (kind_of s) (meaning scene) (λ p. p.1) (table_of s.tables y.table) (scene.versions y.table) y.values

  abbrev shown_kind_at : BoundScalar-F BoundExpr BoundRowVersion BoundScalar BoundTerm → Option Kind
  shown_kind_at x = scalar_kind (map-BoundScalar BoundExpr BoundRowVersion BoundScalar BoundTerm (Option Kind) (Option Schema) (Option Kind) (Option Kind) (kind_of s) (table_of_version s) scalar_of_kind term_of_kind x)

  abbrev shown_at : BoundScalar-F BoundExpr BoundRowVersion BoundScalar BoundTerm → Answer Value
  shown_at x = scalar_rule (map-BoundScalar BoundExpr BoundRowVersion BoundScalar BoundTerm Meaning (Answer (Key × VersionRow)) (Answer Value) Operand (meaning scene) (row_version scene) (scalar scene) (operand scene) x)

  abbrev scalar_parts : BoundScalar-F E R S T → BoundScalar-F BoundExpr BoundRowVersion BoundScalar BoundTerm
  scalar_parts y = map-BoundScalar E R S T BoundExpr BoundRowVersion BoundScalar BoundTerm (λ p. p.0) (λ p. p.0) (λ p. p.0) (λ p. p.0) y

  shown : (y : BoundScalar-F E R S T) → Of (shown_kind_at (scalar_parts y)) (shown_at (scalar_parts y))
  shown y = scalar_of (table_of_version s y.version.0) (row_version scene y.version.0) y.column y.version.1

  expr_rolled : (x : BoundExpr-F BoundExpr BoundRowVersion BoundScalar BoundTerm) → Of (kind_at x) (meaning_at x).value → OfExpr (roll-BoundExpr x)
  expr_rolled x of =
      subst (λ (k : Option Kind). Of k (meaning scene (roll-BoundExpr x)).value) (sym (fold-roll-BoundExpr (Option Kind) (Option Schema) (Option Kind) (Option Kind) (expr_kind s) (row_version_table s) scalar_kind term_kind x))
      (subst (λ (m : Meaning). Of (kind_at x) m.value) (sym (fold-roll-BoundExpr Meaning (Answer (Key × VersionRow)) (Answer Value) Operand (meaning_rule scene) (row_version_rule scene) scalar_rule operand_rule x)) of)

  version_rolled : (x : BoundRowVersion-F BoundExpr BoundRowVersion BoundScalar BoundTerm) → OfVersion (table_at x) (row_at x) → OfRowVersion (roll-BoundRowVersion x)
  version_rolled x of =
      subst (λ (t : Option Schema). OfVersion t (row_version scene (roll-BoundRowVersion x))) (sym (fold-roll-BoundRowVersion (Option Kind) (Option Schema) (Option Kind) (Option Kind) (expr_kind s) (row_version_table s) scalar_kind term_kind x))
      (subst (λ (r : Answer (Key × VersionRow)). OfVersion (table_at x) r) (sym (fold-roll-BoundRowVersion Meaning (Answer (Key × VersionRow)) (Answer Value) Operand (meaning_rule scene) (row_version_rule scene) scalar_rule operand_rule x)) of)

  scalar_rolled : (x : BoundScalar-F BoundExpr BoundRowVersion BoundScalar BoundTerm) → Of (shown_kind_at x) (shown_at x) → OfScalar (roll-BoundScalar x)
  scalar_rolled x of =
      subst (λ (k : Option Kind). Of k (scalar scene (roll-BoundScalar x))) (sym (fold-roll-BoundScalar (Option Kind) (Option Schema) (Option Kind) (Option Kind) (expr_kind s) (row_version_table s) scalar_kind term_kind x))
      (subst (λ (a : Answer Value). Of (shown_kind_at x) a) (sym (fold-roll-BoundScalar Meaning (Answer (Key × VersionRow)) (Answer Value) Operand (meaning_rule scene) (row_version_rule scene) scalar_rule operand_rule x)) of)

  pub every : (x : BoundExpr) → OfExpr x
  every = ind-BoundExpr OfExpr OfRowVersion OfScalar OfTerm
      (λ x y is. expr_rolled x (subst (λ x. Of (kind_at x) (meaning_at x).value) is (form y)))
      (λ x y is. version_rolled x (subst (λ x. OfVersion (table_at x) (row_at x)) is (version y)))
      (λ x y is. scalar_rolled x (subst (λ x. Of (shown_kind_at x) (shown_at x)) is (shown y)))
      (λ x y is. tt)

pub values_have_their_kind : ValuesHaveTheirKind
values_have_their_kind scope scene expr kind x fits is value came = (every scope scene fits expr kind is value).holds x came
