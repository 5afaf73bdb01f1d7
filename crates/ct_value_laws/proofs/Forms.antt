-- What each bound form comes to is representable, where the parts that may be its value are.
use Rattle.std.proofs.Common.{◌≡◌, ℕ, ℤ, List, [], ◌∷◌, ◌++◌, map, Option, Ok, sym, subst}
use Rattle.std.specs.List.{slice_get, AllByRecursion}
use Rattle.std.specs.Option.{option_map}
use Rattle.std.specs.Str.{IsUtf8}
use Rattle.std.proofs.lemmas.Option.{slice_get-map}
use Rattle.ct_types.specs.ColumnFit.{IsBigInt}
use Rattle.ct_types.specs.declared.bound.BoundExpr.{BoundExpr, roll-BoundExpr, map-BoundExpr}
use Rattle.ct_types.specs.declared.bound.BoundExpr.TheVariants as bound
use Rattle.ct_types.specs.declared.bound.BoundExpr.TheOpen as b
use Rattle.ct_types.specs.declared.bound.BoundExpr.TheOpen.{BoundExpr-F}
use Rattle.ct_types.specs.declared.bound.BoundExpr.TheFolds.{fold-roll-BoundExpr, fold_out-BoundRowVersion, fold_out-BoundScalar}
use Rattle.ct_types.specs.declared.bound.BoundRowVersion.{BoundRowVersion}
use Rattle.ct_types.specs.declared.bound.BoundScalar.{BoundScalar}
use Rattle.ct_types.specs.declared.bound.BoundTerm.{BoundTerm}
use Rattle.ct_types.specs.declared.bound.VersionColumn.{VersionColumn}
use Rattle.ct_types.specs.declared.bound.VersionColumn.TheVariants as shown
use Rattle.ct_types.specs.declared.catalogue.Variable.{Variable}
use Rattle.ct_types.specs.declared.expr.Comparison.{Comparison}
use Rattle.ct_types.specs.declared.tracked.VersionRow.{VersionRow}
use Rattle.ct_types.specs.declared.value.Key.{Key}
use Rattle.ct_types.specs.declared.value.Value.{Value}
use Rattle.ct_types.specs.declared.value.Value.TheVariants as v
use Rattle.ct_types.specs.Answers.{Answer, ◌>>=◌}
use Rattle.ct_types.proofs.AnswersKept.{Kept, ok_kept, then_kept, after_kept, twice_kept}
use Rattle.ct_types.proofs.Lists.{all_append}
use Rattle.ct_expr.specs.Functions as f
use Rattle.ct_expr.specs.Functions.{or_null, counted_or_null, version_column}
use Rattle.ct_expr.specs.Meaning.{Scene, Meaning, Operand, chain, listed, keyed, key_of, multiplied, added, one, value, value_rule, meaning_rule, row_version_rule, scalar_rule, operand_rule, meaning, row_version, scalar, operand}
use Rattle.ct_value_laws.specs.Values.{IsRepresentable, AreRepresentable, HoldRepresentable}
use Rattle.ct_value_laws.proofs.Represented.{Fine, fine, counted_fits, bytes_fit, object_id_fits, min_valid_version_fits, in_mask_fits, property_fits, if_null_fits, negative_fine, at_place, chain_fine, multiplied_fine, added_fine, one_fits}

module _ (scene : Scene) where
  abbrev pub Sound : BoundExpr → Type 0
  Sound x = Fine (value scene x)

  abbrev pub AllSound : List BoundExpr → Type 0
  AllSound xs = AllByRecursion Sound xs

  -- a form whose parts stand in their places
  abbrev value_at : BoundExpr-F BoundExpr BoundRowVersion BoundScalar BoundTerm → Answer Value
  value_at x = value_rule scene (map-BoundExpr BoundExpr BoundRowVersion BoundScalar BoundTerm Meaning (Answer (Key × VersionRow)) (Answer Value) Operand (meaning scene) (row_version scene) (scalar scene) (operand scene) x)

  made : (x : BoundExpr-F BoundExpr BoundRowVersion BoundScalar BoundTerm) (y : BoundExpr) → roll-BoundExpr x ≡ y → Fine (value_at x) → Sound y
  made x y is good =
      subst Sound is
      (subst (λ (m : Meaning). Fine m.value) (sym (fold-roll-BoundExpr Meaning (Answer (Key × VersionRow)) (Answer Value) Operand (meaning_rule scene) (row_version_rule scene) scalar_rule operand_rule x)) good)

  -- ---- what has no part that may be its value

  pub of_Null : Sound bound.Null
  of_Null = made b.Null bound.Null bound.rolls-Null (fine v.Null tt)

  pub of_Number : (n : ℤ) → IsBigInt n → Sound (bound.Number n)
  of_Number n is = made (b.Number n) (bound.Number n) (bound.rolls-Number n) (fine (v.Int n) is)

  pub of_Text : (text : List ℕ) → IsUtf8 text → Sound (bound.Text text)
  of_Text text is = made (b.Text text) (bound.Text text) (bound.rolls-Text text) (fine (v.Text text) is)

  pub of_Bytes : (bytes : List ℕ) → Sound (bound.Bytes bytes)
  of_Bytes bytes = made (b.Bytes bytes) (bound.Bytes bytes) (bound.rolls-Bytes bytes) (fine (v.Bytes bytes) tt)

  pub of_Column : AreRepresentable scene.row.0 → (at : ℕ) → Sound (bound.Column at)
  of_Column row at = made (b.Column at) (bound.Column at) (bound.rolls-Column at) (fine (or_null (slice_get scene.row.0 at)) (at_place scene.row.0 at row))

  pub of_Variable : HoldRepresentable scene.env.variables.0 → (at : ℕ) → Sound (bound.Variable at)
  of_Variable held at =
      made (b.Variable at) (bound.Variable at) (bound.rolls-Variable at) (fine (or_null (option_map (λ variable. variable.value) (slice_get scene.env.variables.0 at)))
      (subst (λ (o : Option Value). IsRepresentable (or_null o)) (slice_get-map (λ (variable : Variable). variable.value) scene.env.variables.0 at)
      (at_place (map (λ (variable : Variable). variable.value) scene.env.variables.0) at held)))

  pub of_CurrentVersion : Sound bound.CurrentVersion
  of_CurrentVersion = made b.CurrentVersion bound.CurrentVersion bound.rolls-CurrentVersion (fine (counted_or_null scene.env.current) (counted_fits scene.env.current))

  pub of_MinValidVersion : (x : BoundExpr) → Sound (bound.MinValidVersion x)
  of_MinValidVersion x =
      made (b.MinValidVersion x) (bound.MinValidVersion x) (bound.rolls-MinValidVersion x)
      (after_kept IsRepresentable (value scene x) _ (λ p. fine (f.min_valid_version scene.env.tables p) (min_valid_version_fits scene.env.tables p)))

  pub of_IsColumnInMask : (x y : BoundExpr) → Sound (bound.IsColumnInMask x y)
  of_IsColumnInMask x y =
      made (b.IsColumnInMask x y) (bound.IsColumnInMask x y) (bound.rolls-IsColumnInMask x y)
      (after_kept IsRepresentable (value scene x) _ (λ p. after_kept IsRepresentable (value scene y) _ (λ q. fine (f.is_column_in_mask p q) (in_mask_fits p q))))

  pub of_ObjectId : (x : BoundExpr) → Sound (bound.ObjectId x)
  of_ObjectId x =
      made (b.ObjectId x) (bound.ObjectId x) (bound.rolls-ObjectId x)
      (after_kept IsRepresentable (value scene x) _ (λ p. fine (f.object_id scene.env.tables p) (object_id_fits scene.env.tables p)))

  pub of_ColumnProperty : (x y z : BoundExpr) → Sound (bound.ColumnProperty x y z)
  of_ColumnProperty x y z =
      made (b.ColumnProperty x y z) (bound.ColumnProperty x y z) (bound.rolls-ColumnProperty x y z)
      (after_kept IsRepresentable (value scene x) _ (λ p. after_kept IsRepresentable (value scene y) _ (λ q. after_kept IsRepresentable (value scene z) _
      (λ r. fine (f.column_property scene.env.tables p q r) (property_fits scene.env.tables p q r)))))

  pub of_Negative : (x : BoundExpr) → Sound (bound.Negative x)
  of_Negative x = made (b.Negative x) (bound.Negative x) (bound.rolls-Negative x) (after_kept IsRepresentable (value scene x) _ negative_fine)

  pub of_Product : (xs : List BoundExpr) → Sound (bound.Product xs)
  of_Product xs = made (b.Product xs) (bound.Product xs) (bound.rolls-Product xs) (chain_fine multiplied multiplied_fine one one_fits (map (meaning scene) xs))

  pub of_Compare : (operator : Comparison) (x y : BoundExpr) → Sound (bound.Compare operator x y)
  of_Compare operator x y = made (b.Compare operator x y) (bound.Compare operator x y) (bound.rolls-Compare operator x y) (fine v.Null tt)

  pub of_IsNull : (x : BoundExpr) → Sound (bound.IsNull x)
  of_IsNull x = made (b.IsNull x) (bound.IsNull x) (bound.rolls-IsNull x) (fine v.Null tt)

  pub of_IsNotNull : (x : BoundExpr) → Sound (bound.IsNotNull x)
  of_IsNotNull x = made (b.IsNotNull x) (bound.IsNotNull x) (bound.rolls-IsNotNull x) (fine v.Null tt)

  pub of_Not : (x : BoundExpr) → Sound (bound.Not x)
  of_Not x = made (b.Not x) (bound.Not x) (bound.rolls-Not x) (fine v.Null tt)

  pub of_And : (xs : List BoundExpr) → Sound (bound.And xs)
  of_And xs = made (b.And xs) (bound.And xs) (bound.rolls-And xs) (fine v.Null tt)

  pub of_Or : (xs : List BoundExpr) → Sound (bound.Or xs)
  of_Or xs = made (b.Or xs) (bound.Or xs) (bound.rolls-Or xs) (fine v.Null tt)

  -- ---- ISNULL and sums

  pub of_IfNull : (x y : BoundExpr) → Sound x → Sound y → Sound (bound.IfNull x y)
  of_IfNull x y first second =
      made (b.IfNull x y) (bound.IfNull x y) (bound.rolls-IfNull x y)
      (then_kept IsRepresentable IsRepresentable (value scene x) _ first (λ p fp. then_kept IsRepresentable IsRepresentable (value scene y) _ second (λ q fq. fine (f.if_null p q) (if_null_fits p q fp fq))))

  pub of_Sum : (x : BoundExpr) (more : List BoundTerm) → Sound x → Sound (bound.Sum x more)
  of_Sum x more first =
      made (b.Sum x more) (bound.Sum x more) (bound.rolls-Sum x more)
      (then_kept IsRepresentable IsRepresentable (value scene x) _ first (λ p fits. chain_fine added added_fine p fits (map (operand scene) more)))

  -- ---- the scalar form

  listed_kept : (parts : List BoundExpr) (so_far : List Value) → AreRepresentable so_far → AllSound parts → Kept AreRepresentable (chain listed so_far (map (meaning scene) parts))
  listed_kept [] so_far are all = ok_kept AreRepresentable so_far are
  listed_kept (part ∷ parts) so_far are all =
      twice_kept IsRepresentable AreRepresentable (value scene part) (λ x. so_far ++ x ∷ []) (λ made. chain listed made (map (meaning scene) parts)) all.0
      (λ x fits. listed_kept parts (so_far ++ x ∷ []) (all_append IsRepresentable so_far (x ∷ []) are (fits, tt)) all.1)

  shown_fits : (column : VersionColumn) (key : Key) (row : VersionRow) → AreRepresentable key.0 → IsRepresentable (version_column column key row)
  shown_fits shown.Version key row are = counted_fits row.version
  shown_fits shown.Context key row are = bytes_fit row.context
  shown_fits (shown.Key at) key row are = at_place key.0 at are

  opened_version : (r : BoundRowVersion) → row_version scene r ≡ (keyed (map (meaning scene) r.values) >>= (λ key. Ok (key, scene.versions r.table key)))
  opened_version r = fold_out-BoundRowVersion Meaning (Answer (Key × VersionRow)) (Answer Value) Operand (meaning_rule scene) (row_version_rule scene) scalar_rule operand_rule r

  opened_scalar : (s : BoundScalar) → scalar scene s ≡ (row_version scene s.version >>= (λ found. Ok (version_column s.column found.0 found.1)))
  opened_scalar s = fold_out-BoundScalar Meaning (Answer (Key × VersionRow)) (Answer Value) Operand (meaning_rule scene) (row_version_rule scene) scalar_rule operand_rule s

  abbrev KeyFits : Key × VersionRow → Type 0
  KeyFits found = AreRepresentable found.0.0

  version_kept : (r : BoundRowVersion) → AllSound r.values → Kept KeyFits (row_version scene r)
  version_kept r all =
      subst (Kept KeyFits) (sym (opened_version r))
      (then_kept (λ (key : Key). AreRepresentable key.0) KeyFits (keyed (map (meaning scene) r.values)) _
      (then_kept AreRepresentable (λ (key : Key). AreRepresentable key.0) (chain listed [] (map (meaning scene) r.values)) _ (listed_kept r.values [] tt all)
      (λ values are. ok_kept (λ (key : Key). AreRepresentable key.0) (key_of values) are))
      (λ key are. ok_kept KeyFits (key, scene.versions r.table key) are))

  pub of_Scalar : (s : BoundScalar) → AllSound s.version.values → Sound (bound.Scalar s)
  of_Scalar s all =
      made (b.Scalar s) (bound.Scalar s) (bound.rolls-Scalar s)
      (subst Fine (sym (opened_scalar s))
      (then_kept KeyFits IsRepresentable (row_version scene s.version) _ (version_kept s.version all) (λ found are. fine (version_column s.column found.0 found.1) (shown_fits s.column found.0 found.1 are))))
