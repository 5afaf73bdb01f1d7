-- What a reading tells of an expression holds of its meaning on every row: by induction over the expression, one case for each form.
use Rattle.std.proofs.Common.{◌≡◌, ℕ, ◌==◌, Bool, true, false, ◌&&◌, List, [], ◌∷◌, map, Option, Some, None, Ok, Err, refl, sym, ap, subst, ◌∙◌, if◌then◌else◌, eqb-true}
use Rattle.std.specs.Prelude.{is_ok}
use Rattle.std.specs.List.{slice_get}
use Rattle.std.specs.Option.{is_some, option_map, option_or}
use Rattle.std.specs.Ordering.{is_eq}
use Rattle.std.specs.Result.{result_ok}
use Rattle.ct_types.specs.declared.bound.BoundExpr.{BoundExpr, roll-BoundExpr, map-BoundExpr}
use Rattle.ct_types.specs.declared.bound.BoundExpr.TheOpen as e
use Rattle.ct_types.specs.declared.bound.BoundExpr.TheOpen.{BoundExpr-F, BoundScalar-F, BoundRowVersion-F}
use Rattle.ct_types.specs.declared.bound.BoundExpr.TheFolds.{map-BoundRowVersion, map-BoundScalar, fold-roll-BoundExpr, fold-roll-BoundRowVersion, fold-roll-BoundScalar, ind-BoundExpr}
use Rattle.ct_types.specs.declared.bound.BoundRowVersion.{BoundRowVersion, roll-BoundRowVersion}
use Rattle.ct_types.specs.declared.bound.BoundScalar.{BoundScalar, roll-BoundScalar}
use Rattle.ct_types.specs.declared.bound.BoundTerm.{BoundTerm}
use Rattle.ct_types.specs.declared.expr.Comparison.{Comparison}
use Rattle.ct_types.specs.declared.expr.Comparison.TheVariants as comparison
use Rattle.ct_types.specs.declared.tracked.VersionRow.{VersionRow}
use Rattle.ct_types.specs.declared.value.Key.{Key}
use Rattle.ct_types.specs.declared.value.Value.{Value}
use Rattle.ct_types.specs.declared.value.Value.TheVariants as v
use Rattle.ct_types.specs.Answers.{Answer, ◌>>=◌}
use Rattle.ct_types.specs.Order.{value_cmp}
use Rattle.ct_types.proofs.Tests.{both}
use Rattle.ct_expr.specs.Functions.{or_null, counted_or_null}
use Rattle.ct_expr.specs.Logic.{Truth}
use Rattle.ct_expr.specs.Meaning.{Scene, Meaning, Operand, chain, conjoined, disjoined, listed, of_two, meaning_rule, row_version_rule, scalar_rule, operand_rule, meaning, row_version, scalar, operand}
use Rattle.ct_expr.specs.Numbers.{negative, compare, is_null}
use Rattle.ct_source.specs.Cells as cells
use Rattle.ct_scan.specs.Seen.{Seen, value_at, Agrees}
use Rattle.ct_scan.specs.Readings as r
use Rattle.ct_scan.specs.Readings.{Reading, Form, negated, all_quiet, pinned_by, first_pin, pins_rule, reading_rule, version_rule, term_rule, reading, version_quiet, scalar_quiet, of_term}
use Rattle.ct_scan.proofs.Steps.{comes_one, comes_then, first_true, rest_true, equal_values, equal_turned}

-- a cell is what an expression's column comes to
pub same_null : (found : Option Value) → or_null found ≡ cells.or_null found
same_null None = refl
same_null (Some x) = refl

module _ (s : Scene) (seen : Seen) (at : ℕ) (agrees : Agrees seen s.row) where
  abbrev cell : Value
  cell = cells.cell at s.row

  -- the column has this value, which is not NULL
  abbrev pub Has : Value → Type 0
  Has x = (is_eq (value_cmp cell x) ≡ true) × (is_null x ≡ false)

  -- what a reading tells holds of a meaning
  pub record IsOf (told : Reading) (m : Meaning) : Type 0 where
    pub value : told.quiet ≡ true → is_ok m.value ≡ true
    pub truth : told.quiet ≡ true → is_ok m.truth ≡ true
    pub is_column : told.is_column ≡ true → m.value ≡ Ok cell
    pub known : (x : Value) → told.known ≡ Some x → m.value ≡ Ok x
    pub pins : (x : Value) → told.pins ≡ Some x → m.truth ≡ Ok (Some true) → Has x

  only_quiet : (quiet : Bool) (m : Meaning) → (quiet ≡ true → is_ok m.value ≡ true) → (quiet ≡ true → is_ok m.truth ≡ true)
      → IsOf (record { quiet = quiet; is_column = false; known = None; pins = None }) m
  only_quiet quiet m value truth = record {
    value = value;
    truth = truth;
    is_column = λ e. absurd cc;
    known = λ x e. absurd cc;
    pins = λ x e t. absurd cc;
  }

  comes_to : (x : Value) (m : Meaning) → m.value ≡ Ok x → is_ok m.value ≡ true
  comes_to x m value = ap (λ (a : Answer Value). is_ok a) value

  is_known : (x : Value) (m : Meaning) → m.value ≡ Ok x → is_ok m.truth ≡ true
      → IsOf (record { quiet = true; is_column = false; known = Some x; pins = None }) m
  is_known x m value truth = record {
    value = λ e. comes_to x m value;
    truth = λ e. truth;
    is_column = λ e. absurd cc;
    known = λ y e. let same : x ≡ y = cc in value ∙ ap (λ z. Ok z) same;
    pins = λ y e t. absurd cc;
  }

  is_place : (place : ℕ) (m : Meaning) → m.value ≡ Ok (or_null (slice_get s.row.0 place)) → is_ok m.truth ≡ true
      → IsOf (record { quiet = true; is_column = place == at; known = value_at seen place; pins = None }) m
  is_place place m value truth =
      let at_place : m.value ≡ Ok (cells.cell place s.row) = value ∙ ap (λ x. Ok x) (same_null (slice_get s.row.0 place)) in
      record {
        value = λ e. comes_to (or_null (slice_get s.row.0 place)) m value;
        truth = λ e. truth;
        is_column = λ e. let same : place ≡ at = eqb-true _ _ e in at_place ∙ ap (λ n. Ok (cells.cell n s.row)) same;
        known = λ x e. at_place ∙ ap (λ y. Ok y) (agrees place x e);
        pins = λ x e t. absurd cc;
      }

  -- ---- a sign

  fits_to : (a : Answer Value) (m : Meaning) → m.value ≡ a → is_ok m.truth ≡ true
      → IsOf (record { quiet = is_some (result_ok a); is_column = false; known = result_ok a; pins = None }) m
  fits_to (Ok x) m value truth = is_known x m value truth
  fits_to (Err refusal) m value truth = only_quiet false m (λ e. absurd cc) (λ e. absurd cc)

  is_negated : (known : Option Value) (a : Answer Value) (m : Meaning) → ((x : Value) → known ≡ Some x → a ≡ Ok x) → m.value ≡ (a >>= negative) → is_ok m.truth ≡ true
      → IsOf (record { quiet = is_some (negated known); is_column = false; known = negated known; pins = None }) m
  is_negated None a m has value truth = only_quiet false m (λ e. absurd cc) (λ e. absurd cc)
  is_negated (Some x) a m has value truth = fits_to (negative x) m (value ∙ ap (λ (o : Answer Value). o >>= negative) (has x refl)) truth

  -- ---- comparisons

  abbrev equality : Answer Value → Answer Value → Answer Truth
  equality a b = a >>= (λ y. b >>= (λ z. Ok (compare comparison.Equal y z)))

  sides : (a b : Answer Value) (x y : Value) → a ≡ Ok x → b ≡ Ok y → equality a b ≡ Ok (Some true) → compare comparison.Equal x y ≡ Some true
  sides a b x y is_a is_b e =
      let whole : Ok (compare comparison.Equal x y) ≡ Ok (Some true) =
      sym (ap (λ (o : Answer Value). equality o (Ok y)) is_a) ∙ (sym (ap (λ (o : Answer Value). equality a o) is_b) ∙ e) in
      cc

  side_pins : (p q : Bool) (known_a known_b : Option Value) (a b : Answer Value) (x : Value)
      → (p ≡ true → a ≡ Ok cell) → (q ≡ true → b ≡ Ok cell) → ((y : Value) → known_a ≡ Some y → a ≡ Ok y) → ((y : Value) → known_b ≡ Some y → b ≡ Ok y)
      → (if p then known_b else (if q then known_a else None)) ≡ Some x → equality a b ≡ Ok (Some true) → Has x
  side_pins true q known_a known_b a b x here_a here_b is_a is_b is e =
      let equal = equal_values cell x (sides a b cell x (here_a refl) (is_b x is) e) in
      (equal.0, equal.1.1)
  side_pins false true known_a known_b a b x here_a here_b is_a is_b is e =
      let equal = equal_values x cell (sides a b x cell (is_a x is) (here_b refl) e) in
      (equal_turned x cell equal.0, equal.1.0)
  side_pins false false known_a known_b a b x here_a here_b is_a is_b is e = absurd cc

  -- what a comparison of two such pins
  abbrev compared : Comparison → Reading → Reading → Option Value
  compared operator a b = pins_rule (e.Compare operator a b)

  compare_pins : (operator : Comparison) (ra rb : Reading) (a b : Meaning) → IsOf ra a → IsOf rb b → (x : Value) → compared operator ra rb ≡ Some x
      → of_two (compare operator) a b ≡ Ok (Some true) → Has x
  compare_pins comparison.Equal ra rb a b ia ib x is e = side_pins ra.is_column rb.is_column ra.known rb.known a.value b.value x ia.is_column ib.is_column ia.known ib.known is e
  compare_pins comparison.NotEqual ra rb a b ia ib x is e = absurd cc
  compare_pins comparison.Less ra rb a b ia ib x is e = absurd cc
  compare_pins comparison.AtMost ra rb a b ia ib x is e = absurd cc
  compare_pins comparison.More ra rb a b ia ib x is e = absurd cc
  compare_pins comparison.AtLeast ra rb a b ia ib x is e = absurd cc

  is_compared : (operator : Comparison) (ra rb : Reading) (a b m : Meaning) → IsOf ra a → IsOf rb b → is_ok m.value ≡ true → m.truth ≡ of_two (compare operator) a b
      → IsOf (record { quiet = ra.quiet && rb.quiet; is_column = false; known = None; pins = compared operator ra rb }) m
  is_compared operator ra rb a b m ia ib value truth = record {
    value = λ e. value;
    truth = λ e.
        let quiet = both ra.quiet rb.quiet e in
        ap (λ (o : Answer Truth). is_ok o) truth ∙ comes_then a.value _ (ia.value quiet.0) (λ y. comes_one b.value (compare operator y) (ib.value quiet.1));
    is_column = λ e. absurd cc;
    known = λ x e. absurd cc;
    pins = λ x is e. compare_pins operator ra rb a b ia ib x is (sym truth ∙ e);
  }

  -- ---- the forms

  abbrev OfExpr : BoundExpr → Type 0
  OfExpr x = IsOf (reading s.env seen at x) (meaning s x)

  abbrev OfRowVersion : BoundRowVersion → Type 0
  OfRowVersion x = version_quiet s.env seen at x ≡ true → is_ok (row_version s x) ≡ true

  abbrev OfScalar : BoundScalar → Type 0
  OfScalar x = scalar_quiet s.env seen at x ≡ true → is_ok (scalar s x) ≡ true

  abbrev OfTerm : BoundTerm → Type 0
  OfTerm x = Unit {0}

  -- parts, each with what is known of it
  abbrev E : Type 0
  E = (x : BoundExpr) × OfExpr x

  abbrev R : Type 0
  R = (x : BoundRowVersion) × OfRowVersion x

  abbrev S : Type 0
  S = (x : BoundScalar) × OfScalar x

  abbrev T : Type 0
  T = (x : BoundTerm) × OfTerm x

  abbrev told : E → Reading
  told part = reading s.env seen at part.0

  abbrev meant : E → Meaning
  meant part = meaning s part.0

  abbrev exprs : List E → List BoundExpr
  exprs parts = map (λ (part : E). part.0) parts

  abbrev tellings : List E → List Reading
  tellings parts = map (reading s.env seen at) (exprs parts)

  abbrev meanings : List E → List Meaning
  meanings parts = map (meaning s) (exprs parts)

  -- a form whose parts stand in their places: its reading, and its meaning
  abbrev reading_at : BoundExpr-F BoundExpr BoundRowVersion BoundScalar BoundTerm → Reading
  reading_at x = reading_rule s.env seen at (map-BoundExpr BoundExpr BoundRowVersion BoundScalar BoundTerm Reading Bool Bool (Unit {0}) (reading s.env seen at) (version_quiet s.env seen at) (scalar_quiet s.env seen at) (of_term s.env seen at) x)

  abbrev meaning_at : BoundExpr-F BoundExpr BoundRowVersion BoundScalar BoundTerm → Meaning
  meaning_at x = meaning_rule s (map-BoundExpr BoundExpr BoundRowVersion BoundScalar BoundTerm Meaning (Answer (Key × VersionRow)) (Answer Value) Operand (meaning s) (row_version s) (scalar s) (operand s) x)

  abbrev parts_of : BoundExpr-F E R S T → BoundExpr-F BoundExpr BoundRowVersion BoundScalar BoundTerm
  parts_of y = map-BoundExpr E R S T BoundExpr BoundRowVersion BoundScalar BoundTerm (λ p. p.0) (λ p. p.0) (λ p. p.0) (λ p. p.0) y

  -- ---- chains

  conjunction_comes : (t : Truth) (parts : List E) → all_quiet (tellings parts) ≡ true → is_ok (chain conjoined t (meanings parts)) ≡ true
  conjunction_comes t [] quiet = refl
  conjunction_comes t (part ∷ parts) quiet =
      let all = both (told part).quiet (all_quiet (tellings parts)) quiet in
      comes_then (conjoined t (meant part)) _ (comes_one (meant part).truth _ (part.1.truth all.0)) (λ made. conjunction_comes made parts all.1)

  disjunction_comes : (t : Truth) (parts : List E) → all_quiet (tellings parts) ≡ true → is_ok (chain disjoined t (meanings parts)) ≡ true
  disjunction_comes t [] quiet = refl
  disjunction_comes t (part ∷ parts) quiet =
      let all = both (told part).quiet (all_quiet (tellings parts)) quiet in
      comes_then (disjoined t (meant part)) _ (comes_one (meant part).truth _ (part.1.truth all.0)) (λ made. disjunction_comes made parts all.1)

  key_comes : (so_far : List Value) (parts : List E) → all_quiet (tellings parts) ≡ true → is_ok (chain listed so_far (meanings parts)) ≡ true
  key_comes so_far [] quiet = refl
  key_comes so_far (part ∷ parts) quiet =
      let all = both (told part).quiet (all_quiet (tellings parts)) quiet in
      comes_then (listed so_far (meant part)) _ (comes_one (meant part).value _ (part.1.value all.0)) (λ made. key_comes made parts all.1)

  either_pins : (first more : Option Value) (x : Value) → ((y : Value) → first ≡ Some y → Has y) → ((y : Value) → more ≡ Some y → Has y) → option_or first more ≡ Some x → Has x
  either_pins None more x here after is = after x is
  either_pins (Some y) more x here after is = here x is

  conjunction_pins : (t : Truth) (parts : List E) (x : Value) → first_pin (tellings parts) ≡ Some x → chain conjoined t (meanings parts) ≡ Ok (Some true) → Has x
  conjunction_pins t [] x is e = absurd cc
  conjunction_pins t (part ∷ parts) x is e =
      let rest = rest_true t (meant part) (meanings parts) e in
      either_pins (told part).pins (first_pin (tellings parts)) x
      (λ y here. part.1.pins y here (first_true t (meant part) (meanings parts) e)) (λ y more. conjunction_pins rest.0 parts y more rest.1) is

  -- ---- each form

  of_one_part : (a : E) (m : Meaning) → ((told a).quiet ≡ true → is_ok m.value ≡ true) → ((told a).quiet ≡ true → is_ok m.truth ≡ true)
      → IsOf (record { quiet = (told a).quiet; is_column = false; known = None; pins = None }) m
  of_one_part a m value truth = only_quiet (told a).quiet m value truth

  form : (y : BoundExpr-F E R S T) → IsOf (reading_at (parts_of y)) (meaning_at (parts_of y))
  form e.Null = is_known v.Null (meaning_at e.Null) refl refl
  form (e.Number n) = is_known (v.Int n) (meaning_at (e.Number n)) refl refl
  form (e.Text t) = is_known (v.Text t) (meaning_at (e.Text t)) refl refl
  form (e.Bytes b) = is_known (v.Bytes b) (meaning_at (e.Bytes b)) refl refl
  form (e.Column place) = is_place place (meaning_at (e.Column place)) refl refl
  form (e.Variable place) = is_known (or_null (option_map (λ variable. variable.value) (slice_get s.env.variables.0 place))) (meaning_at (e.Variable place)) refl refl
  form e.CurrentVersion = is_known (counted_or_null s.env.current) (meaning_at e.CurrentVersion) refl refl
  form (e.MinValidVersion table) = of_one_part table (meaning_at (parts_of (e.MinValidVersion table))) (λ q. comes_one (meant table).value _ (table.1.value q)) (λ q. refl)
  form (e.IsColumnInMask column mask) =
      only_quiet ((told column).quiet && (told mask).quiet) (meaning_at (parts_of (e.IsColumnInMask column mask)))
      (λ q. let all = both (told column).quiet (told mask).quiet q in
      comes_then (meant column).value _ (column.1.value all.0) (λ x. comes_one (meant mask).value _ (mask.1.value all.1))) (λ q. refl)
  form (e.ObjectId name) = of_one_part name (meaning_at (parts_of (e.ObjectId name))) (λ q. comes_one (meant name).value _ (name.1.value q)) (λ q. refl)
  form (e.ColumnProperty table column property) =
      only_quiet ((told table).quiet && ((told column).quiet && (told property).quiet)) (meaning_at (parts_of (e.ColumnProperty table column property)))
      (λ q. let all = both (told table).quiet ((told column).quiet && (told property).quiet) q in
      let more = both (told column).quiet (told property).quiet all.1 in
      comes_then (meant table).value _ (table.1.value all.0) (λ x. comes_then (meant column).value _ (column.1.value more.0) (λ y. comes_one (meant property).value _ (property.1.value more.1)))) (λ q. refl)
  form (e.IfNull a b) =
      only_quiet ((told a).quiet && (told b).quiet) (meaning_at (parts_of (e.IfNull a b)))
      (λ q. let all = both (told a).quiet (told b).quiet q in
      comes_then (meant a).value _ (a.1.value all.0) (λ x. comes_one (meant b).value _ (b.1.value all.1))) (λ q. refl)
  form (e.Scalar x) = only_quiet (scalar_quiet s.env seen at x.0) (meaning_at (parts_of (e.Scalar x))) x.1 (λ q. refl)
  form (e.Negative a) = is_negated (told a).known (meant a).value (meaning_at (parts_of (e.Negative a))) a.1.known refl refl
  form (e.Product factors) = only_quiet false (meaning_at (parts_of (e.Product factors))) (λ q. absurd cc) (λ q. absurd cc)
  form (e.Sum first more) = only_quiet false (meaning_at (parts_of (e.Sum first more))) (λ q. absurd cc) (λ q. absurd cc)
  form (e.Compare operator a b) = is_compared operator (told a) (told b) (meant a) (meant b) (meaning_at (parts_of (e.Compare operator a b))) a.1 b.1 refl refl
  form (e.IsNull a) = of_one_part a (meaning_at (parts_of (e.IsNull a))) (λ q. refl) (λ q. comes_one (meant a).value _ (a.1.value q))
  form (e.IsNotNull a) = of_one_part a (meaning_at (parts_of (e.IsNotNull a))) (λ q. refl) (λ q. comes_one (meant a).value _ (a.1.value q))
  form (e.Not a) = of_one_part a (meaning_at (parts_of (e.Not a))) (λ q. refl) (λ q. comes_one (meant a).truth _ (a.1.truth q))
  form (e.And operands) = record {
    value = λ q. refl;
    truth = λ q. conjunction_comes (Some true) operands q;
    is_column = λ e. absurd cc;
    known = λ x e. absurd cc;
    pins = λ x is e. conjunction_pins (Some true) operands x is e;
  }
  form (e.Or operands) = only_quiet (all_quiet (tellings operands)) (meaning_at (parts_of (e.Or operands))) (λ q. refl) (λ q. disjunction_comes (Some false) operands q)

  -- ---- CHANGETABLE(VERSION ..)

  abbrev version_at : BoundRowVersion-F BoundExpr BoundRowVersion BoundScalar BoundTerm → Bool
  version_at x = version_rule (map-BoundRowVersion BoundExpr BoundRowVersion BoundScalar BoundTerm Reading Bool Bool (Unit {0}) (reading s.env seen at) (version_quiet s.env seen at) (scalar_quiet s.env seen at) (of_term s.env seen at) x)

  abbrev row_at : BoundRowVersion-F BoundExpr BoundRowVersion BoundScalar BoundTerm → Answer (Key × VersionRow)
  row_at x = row_version_rule s (map-BoundRowVersion BoundExpr BoundRowVersion BoundScalar BoundTerm Meaning (Answer (Key × VersionRow)) (Answer Value) Operand (meaning s) (row_version s) (scalar s) (operand s) x)

  abbrev version_parts : BoundRowVersion-F E R S T → BoundRowVersion-F BoundExpr BoundRowVersion BoundScalar BoundTerm
  version_parts y = map-BoundRowVersion E R S T BoundExpr BoundRowVersion BoundScalar BoundTerm (λ p. p.0) (λ p. p.0) (λ p. p.0) (λ p. p.0) y

  version : (y : BoundRowVersion-F E R S T) → version_at (version_parts y) ≡ true → is_ok (row_at (version_parts y)) ≡ true
  version y q =
      comes_one (chain listed [] (meanings y.values) >>= (λ values. Ok (record { 0 = values }))) _
      (comes_one (chain listed [] (meanings y.values)) _ (key_comes [] y.values q))

  abbrev shown_quiet_at : BoundScalar-F BoundExpr BoundRowVersion BoundScalar BoundTerm → Bool
  shown_quiet_at x = r.scalar_rule (map-BoundScalar BoundExpr BoundRowVersion BoundScalar BoundTerm Reading Bool Bool (Unit {0}) (reading s.env seen at) (version_quiet s.env seen at) (scalar_quiet s.env seen at) (of_term s.env seen at) x)

  abbrev shown_at : BoundScalar-F BoundExpr BoundRowVersion BoundScalar BoundTerm → Answer Value
  shown_at x = scalar_rule (map-BoundScalar BoundExpr BoundRowVersion BoundScalar BoundTerm Meaning (Answer (Key × VersionRow)) (Answer Value) Operand (meaning s) (row_version s) (scalar s) (operand s) x)

  abbrev scalar_parts : BoundScalar-F E R S T → BoundScalar-F BoundExpr BoundRowVersion BoundScalar BoundTerm
  scalar_parts y = map-BoundScalar E R S T BoundExpr BoundRowVersion BoundScalar BoundTerm (λ p. p.0) (λ p. p.0) (λ p. p.0) (λ p. p.0) y

  shown : (y : BoundScalar-F E R S T) → shown_quiet_at (scalar_parts y) ≡ true → is_ok (shown_at (scalar_parts y)) ≡ true
  shown y q = comes_one (row_version s y.version.0) _ (y.version.1 q)

  -- ---- the whole

  expr_rolled : (x : BoundExpr-F BoundExpr BoundRowVersion BoundScalar BoundTerm) → IsOf (reading_at x) (meaning_at x) → OfExpr (roll-BoundExpr x)
  expr_rolled x of =
      subst (λ (t : Reading). IsOf t (meaning s (roll-BoundExpr x))) (sym (fold-roll-BoundExpr Reading Bool Bool (Unit {0}) (reading_rule s.env seen at) version_rule r.scalar_rule term_rule x))
      (subst (λ (m : Meaning). IsOf (reading_at x) m) (sym (fold-roll-BoundExpr Meaning (Answer (Key × VersionRow)) (Answer Value) Operand (meaning_rule s) (row_version_rule s) scalar_rule operand_rule x)) of)

  version_rolled : (x : BoundRowVersion-F BoundExpr BoundRowVersion BoundScalar BoundTerm) → (version_at x ≡ true → is_ok (row_at x) ≡ true) → OfRowVersion (roll-BoundRowVersion x)
  version_rolled x of =
      subst (λ (b : Bool). b ≡ true → is_ok (row_version s (roll-BoundRowVersion x)) ≡ true) (sym (fold-roll-BoundRowVersion Reading Bool Bool (Unit {0}) (reading_rule s.env seen at) version_rule r.scalar_rule term_rule x))
      (subst (λ (a : Answer (Key × VersionRow)). version_at x ≡ true → is_ok a ≡ true) (sym (fold-roll-BoundRowVersion Meaning (Answer (Key × VersionRow)) (Answer Value) Operand (meaning_rule s) (row_version_rule s) scalar_rule operand_rule x)) of)

  scalar_rolled : (x : BoundScalar-F BoundExpr BoundRowVersion BoundScalar BoundTerm) → (shown_quiet_at x ≡ true → is_ok (shown_at x) ≡ true) → OfScalar (roll-BoundScalar x)
  scalar_rolled x of =
      subst (λ (b : Bool). b ≡ true → is_ok (scalar s (roll-BoundScalar x)) ≡ true) (sym (fold-roll-BoundScalar Reading Bool Bool (Unit {0}) (reading_rule s.env seen at) version_rule r.scalar_rule term_rule x))
      (subst (λ (a : Answer Value). shown_quiet_at x ≡ true → is_ok a ≡ true) (sym (fold-roll-BoundScalar Meaning (Answer (Key × VersionRow)) (Answer Value) Operand (meaning_rule s) (row_version_rule s) scalar_rule operand_rule x)) of)

  pub every : (x : BoundExpr) → OfExpr x
  every = ind-BoundExpr OfExpr OfRowVersion OfScalar OfTerm
      (λ x y is. expr_rolled x (subst (λ x. IsOf (reading_at x) (meaning_at x)) is (form y)))
      (λ x y is. version_rolled x (subst (λ x. version_at x ≡ true → is_ok (row_at x) ≡ true) is (version y)))
      (λ x y is. scalar_rolled x (subst (λ x. shown_quiet_at x ≡ true → is_ok (shown_at x) ≡ true) is (shown y)))
      (λ x y is. tt)
