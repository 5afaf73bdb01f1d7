-- What an expression refuses is Overflow at one of its parts: by induction over the expression, one case for each form.
use Rattle.std.proofs.Common.{◌≡◌, ℤ, ◌+ℤ◌, ◌-ℤ◌, ◌*ℤ◌, Bool, true, false, if◌then◌else◌, List, [], ◌∷◌, ◌++◌, map, Some, Ok, inl, inr, refl, sym, ap, ◌∙◌, subst, append_assoc}
use Rattle.std.specs.List.{Contains}
use Rattle.ct_types.specs.ColumnFit.{IsBigInt}
use Rattle.ct_types.specs.declared.bound.BoundExpr.{BoundExpr, roll-BoundExpr, map-BoundExpr}
use Rattle.ct_types.specs.declared.bound.BoundExpr.TheOpen as e
use Rattle.ct_types.specs.declared.bound.BoundExpr.TheOpen.{BoundExpr-F, BoundTerm-F, BoundScalar-F, BoundRowVersion-F}
use Rattle.ct_types.specs.declared.bound.BoundExpr.TheFolds.{map-BoundRowVersion, map-BoundScalar, map-BoundTerm, fold-roll-BoundExpr, fold-roll-BoundRowVersion, fold-roll-BoundScalar, fold-roll-BoundTerm, fold_out-BoundTerm, ind-BoundExpr}
use Rattle.ct_types.specs.declared.bound.BoundRowVersion.{BoundRowVersion, roll-BoundRowVersion}
use Rattle.ct_types.specs.declared.bound.BoundScalar.{BoundScalar, roll-BoundScalar}
use Rattle.ct_types.specs.declared.bound.BoundTerm.{BoundTerm, roll-BoundTerm}
use Rattle.ct_types.specs.declared.refusal.Refusal.{Refusal}
use Rattle.ct_types.specs.declared.refusal.Refusal.TheVariants.{Overflow}
use Rattle.ct_types.specs.declared.tracked.VersionRow.{VersionRow}
use Rattle.ct_types.specs.declared.value.Key.{Key}
use Rattle.ct_types.specs.declared.value.Value.{Value}
use Rattle.ct_types.specs.declared.value.Value.TheVariants.{Int}
use Rattle.ct_types.specs.Answers.{Answer, ◌>>=◌}
use Rattle.ct_types.proofs.AnswersCaused.{Caused, ok_caused, weaker, then_caused, after_caused}
use Rattle.ct_model.proofs.Members.{all_map}
use Rattle.ct_expr.specs.Numbers.{plus, minus}
use Rattle.ct_expr.specs.Meaning.{Scene, Meaning, Operand, chain, multiplied, added, conjoined, disjoined, listed, one, meaning_rule, row_version_rule, scalar_rule, operand_rule, meaning, row_version, scalar, operand, value, truth, product, sum}
use Rattle.ct_refusal_laws.specs.Parts.{Form, IsOperand, itself, inside}
use Rattle.ct_refusal_laws.specs.Overflows.{Leaves, Overflows}
use Rattle.ct_refusal_laws.specs.Laws.{ValuesRefuseOverflow, TruthsRefuseOverflow}
use Rattle.ct_refusal_laws.proofs.Numbers.{on_numbers_caused, negative_caused}
use Rattle.ct_refusal_laws.proofs.Steps.{behind_is_in, each_is_in, chain_caused, chain_goes_on}

-- the refusal is Overflow, at a part of one of these expressions
pub record OverflowUnder (s : Scene) (Is : BoundExpr → Type 0) (refusal : Refusal) : Type 0 where
  pub is : refusal ≡ Overflow
  pub top : BoundExpr
  pub under : Is top
  pub at : Overflows s top

module _ (s : Scene) where
  abbrev Explained : {A : Type 0} → (BoundExpr → Type 0) → Answer A → Type 0
  Explained Is answer = Caused (OverflowUnder s Is) answer

  abbrev Whole : BoundExpr → BoundExpr → Type 0
  Whole x y = y ≡ x

  record OfExpr (x : BoundExpr) : Type 0 where
    value_is : Explained (Whole x) (value s x)
    truth_is : Explained (Whole x) (truth s x)

  abbrev OfRowVersion : BoundRowVersion → Type 0
  OfRowVersion x = Explained (Contains x.values) (row_version s x)

  abbrev OfScalar : BoundScalar → Type 0
  OfScalar x = Explained (Contains x.version.values) (scalar s x)

  abbrev OfTerm : BoundTerm → Type 0
  OfTerm x = Explained (Whole x.value) (operand s x).meaning.value

  -- parts, each with what is known of it
  abbrev E : Type 0
  E = (x : BoundExpr) × OfExpr x

  abbrev R : Type 0
  R = (x : BoundRowVersion) × OfRowVersion x

  abbrev S : Type 0
  S = (x : BoundScalar) × OfScalar x

  abbrev T : Type 0
  T = (x : BoundTerm) × OfTerm x

  abbrev expr_in : E → BoundExpr
  expr_in p = p.0

  -- ---- what an operand refuses, its form does

  inherit : {A : Type 0} (x : Form) (Is : BoundExpr → Type 0) (answer : Answer A) → ((y : BoundExpr) → Is y → IsOperand x y) → Explained Is answer → Explained (Whole (roll-BoundExpr x)) answer
  inherit x Is answer operands known = weaker answer (λ refusal u. record {
    is = u.is;
    top = roll-BoundExpr x;
    under = refl;
    at = (u.at.0, inside x (operands u.top u.under) u.at.1, u.at.2);
  }) known

  of_value : (x : Form) (p : E) → IsOperand x p.0 → Explained (Whole (roll-BoundExpr x)) (value s p.0)
  of_value x p is = inherit x (Whole p.0) (value s p.0) (λ y e. subst (IsOperand x) (sym e) is) p.1.value_is

  of_truth : (x : Form) (p : E) → IsOperand x p.0 → Explained (Whole (roll-BoundExpr x)) (truth s p.0)
  of_truth x p is = inherit x (Whole p.0) (truth s p.0) (λ y e. subst (IsOperand x) (sym e) is) p.1.truth_is

  -- a form that leaves 64 bits is the cause itself
  own : (x : Form) → Leaves s x → OverflowUnder s (Whole (roll-BoundExpr x)) Overflow
  own x leaves = record { is = refl; top = roll-BoundExpr x; under = refl; at = (roll-BoundExpr x, itself, (x, refl, leaves)) }

  -- ---- products

  product_explained : (factors before : List BoundExpr) (more : List E) (so_far : Value) → factors ≡ before ++ map expr_in more → product s before ≡ Ok so_far
      → Explained (Whole (roll-BoundExpr (e.Product factors))) (chain multiplied so_far (map (meaning s) (map expr_in more)))
  product_explained factors before [] so_far are came = ok_caused so_far
  product_explained factors before (p ∷ more) so_far are came =
      let is : Contains factors p.0 = subst (λ (fs : List BoundExpr). Contains fs p.0) (sym are) (behind_is_in before p.0 (map expr_in more)) in
      let further : factors ≡ (before ++ p.0 ∷ []) ++ map expr_in more = are ∙ sym (append_assoc before (p.0 ∷ []) (map expr_in more)) in
      after_caused (multiplied so_far (meaning s p.0)) (λ made. chain multiplied made (map (meaning s) (map expr_in more)))
      (after_caused (value s p.0) _ (of_value (e.Product factors) p is)
      (λ x comes. on_numbers_caused (λ a b. a *ℤ b) so_far x (λ m n made number leaves. own (e.Product factors) (record {
        before = before;
        factor = p.0;
        after = map expr_in more;
        are = are;
        made = m;
        number = n;
        made_is = came ∙ ap (λ (v : Value). Ok v) made;
        comes = comes ∙ ap (λ (v : Value). Ok v) number;
        leaves = leaves;
      }))))
      (λ made gave. product_explained factors (before ++ p.0 ∷ []) more made further (chain_goes_on multiplied (meaning s) one so_far made before p.0 came gave))

  -- ---- sums

  abbrev term_in : T → BoundTerm
  term_in p = p.0

  added_caused : {Cause : Refusal → Type 0} (subtracts : Bool) (a b : Value) → ((m n : ℤ) → a ≡ Int m → b ≡ Int n → ¬ IsBigInt (if subtracts then m -ℤ n else m +ℤ n) → Cause Overflow)
      → Caused Cause (if subtracts then minus a b else plus a b)
  added_caused true a b cause = on_numbers_caused (λ m n. m -ℤ n) a b cause
  added_caused false a b cause = on_numbers_caused (λ m n. m +ℤ n) a b cause

  -- an operand by its value
  opened : (t : BoundTerm) → operand s t ≡ record { subtracts = t.subtracts; meaning = meaning s t.value }
  opened t = fold_out-BoundTerm Meaning (Answer (Key × VersionRow)) (Answer Value) Operand (meaning_rule s) (row_version_rule s) scalar_rule operand_rule t

  sum_explained : (first : BoundExpr) (terms before : List BoundTerm) (more : List T) (begun so_far : Value) → value s first ≡ Ok begun → terms ≡ before ++ map term_in more → sum s begun before ≡ Ok so_far
      → Explained (Whole (roll-BoundExpr (e.Sum first terms))) (chain added so_far (map (operand s) (map term_in more)))
  sum_explained first terms before [] begun so_far begins are came = ok_caused so_far
  sum_explained first terms before (p ∷ more) begun so_far begins are came =
      let is : Contains terms p.0 = subst (λ (ts : List BoundTerm). Contains ts p.0) (sym are) (behind_is_in before p.0 (map term_in more)) in
      let further : terms ≡ (before ++ p.0 ∷ []) ++ map term_in more = are ∙ sym (append_assoc before (p.0 ∷ []) (map term_in more)) in
      after_caused (added so_far (operand s p.0)) (λ made. chain added made (map (operand s) (map term_in more)))
      (after_caused (operand s p.0).meaning.value _ (inherit (e.Sum first terms) (Whole p.0.value) (operand s p.0).meaning.value (λ y of. inr (p.0, is, of)) p.1)
      (λ x comes. added_caused (operand s p.0).subtracts so_far x (λ m n made number leaves. own (e.Sum first terms) (record {
        before = before;
        term = p.0;
        after = map term_in more;
        are = are;
        begun = begun;
        made = m;
        number = n;
        begins = begins;
        made_is = came ∙ ap (λ (v : Value). Ok v) made;
        comes = sym (ap (λ (o : Operand). o.meaning.value) (opened p.0)) ∙ (comes ∙ ap (λ (v : Value). Ok v) number);
        leaves = subst (λ (o : Operand). ¬ IsBigInt (if o.subtracts then m -ℤ n else m +ℤ n)) (opened p.0) leaves;
      }))))
      (λ made gave. sum_explained first terms (before ++ p.0 ∷ []) more begun made begins further (chain_goes_on added (operand s) begun so_far made before p.0 came gave))

  -- ---- chains of conditions, and keys

  each_explained : {A : Type 0} (Is : BoundExpr → Type 0) (step : A → Meaning → Answer A) (so_far : A) (ps : List E)
      → ((p : E) → Contains (map expr_in ps) p.0 → (a : A) → Explained Is (step a (meaning s p.0))) → Explained Is (chain step so_far (map (meaning s) (map expr_in ps)))
  each_explained {A = A} Is step so_far ps go =
      chain_caused step (meaning s) so_far (map expr_in ps)
      (all_map (λ p. Contains (map expr_in ps) p.0) (λ y. (a : A) → Explained Is (step a (meaning s y))) expr_in go ps (each_is_in expr_in ps))

  -- ---- the forms

  -- a form whose parts stand in their places: its meaning
  abbrev meaning_at : Form → Meaning
  meaning_at x = meaning_rule s (map-BoundExpr BoundExpr BoundRowVersion BoundScalar BoundTerm Meaning (Answer (Key × VersionRow)) (Answer Value) Operand (meaning s) (row_version s) (scalar s) (operand s) x)

  abbrev parts_of : BoundExpr-F E R S T → Form
  parts_of y = map-BoundExpr E R S T BoundExpr BoundRowVersion BoundScalar BoundTerm expr_in (λ p. p.0) (λ p. p.0) term_in y

  abbrev OfForm : Form → Type 0
  OfForm x = Explained (Whole (roll-BoundExpr x)) (meaning_at x).value × Explained (Whole (roll-BoundExpr x)) (meaning_at x).truth

  -- what has no operand that is evaluated is never refused
  one_value : {A : Type 0} (x : Form) (p : E) (f : Value → A) → IsOperand x p.0 → Explained (Whole (roll-BoundExpr x)) (value s p.0 >>= (λ v. Ok (f v)))
  one_value x p f is = then_caused _ _ (of_value x p is) (λ v. ok_caused (f v))

  two_values : {A : Type 0} (x : Form) (p q : E) (f : Value → Value → A) → IsOperand x p.0 → IsOperand x q.0
      → Explained (Whole (roll-BoundExpr x)) (value s p.0 >>= (λ v. value s q.0 >>= (λ w. Ok (f v w))))
  two_values x p q f first second = then_caused _ _ (of_value x p first) (λ v. one_value x q (f v) second)

  three_values : {A : Type 0} (x : Form) (p q r : E) (f : Value → Value → Value → A) → IsOperand x p.0 → IsOperand x q.0 → IsOperand x r.0
      → Explained (Whole (roll-BoundExpr x)) (value s p.0 >>= (λ v. value s q.0 >>= (λ w. value s r.0 >>= (λ z. Ok (f v w z)))))
  three_values x p q r f first second third = then_caused _ _ (of_value x p first) (λ v. two_values x q r (f v) second third)

  form : (y : BoundExpr-F E R S T) → OfForm (parts_of y)
  form e.Null = (ok_caused _, ok_caused _)
  form (e.Number n) = (ok_caused _, ok_caused _)
  form (e.Text t) = (ok_caused _, ok_caused _)
  form (e.Bytes b) = (ok_caused _, ok_caused _)
  form (e.Column at) = (ok_caused _, ok_caused _)
  form (e.Variable at) = (ok_caused _, ok_caused _)
  form e.CurrentVersion = (ok_caused _, ok_caused _)
  form (e.MinValidVersion table) = (one_value (e.MinValidVersion table.0) table _ refl, ok_caused _)
  form (e.IsColumnInMask column mask) = (two_values (e.IsColumnInMask column.0 mask.0) column mask _ (inl refl) (inr refl), ok_caused _)
  form (e.ObjectId name) = (one_value (e.ObjectId name.0) name _ refl, ok_caused _)
  form (e.ColumnProperty table column property) =
      (three_values (e.ColumnProperty table.0 column.0 property.0) table column property _ (inl refl) (inr (inl refl)) (inr (inr refl)), ok_caused _)
  form (e.IfNull a b) = (two_values (e.IfNull a.0 b.0) a b _ (inl refl) (inr refl), ok_caused _)
  form (e.Scalar x) = (inherit (e.Scalar x.0) (Contains x.0.version.values) (scalar s x.0) (λ y is. is) x.1, ok_caused _)
  form (e.Negative a) = (
    after_caused (value s a.0) _ (of_value (e.Negative a.0) a refl)
        (λ x comes. negative_caused x (λ n number leaves. own (e.Negative a.0) (record { number = n; comes = comes ∙ ap (λ (v : Value). Ok v) number; leaves = leaves }))),
    ok_caused _,
  )
  form (e.Product factors) = (product_explained (map expr_in factors) [] factors one refl refl, ok_caused _)
  form (e.Sum first more) = (
    after_caused (value s first.0) _ (of_value (e.Sum first.0 (map term_in more)) first (inl refl))
        (λ begun begins. sum_explained first.0 (map term_in more) [] more begun begun begins refl refl),
    ok_caused _,
  )
  form (e.Compare operator a b) = (ok_caused _, two_values (e.Compare operator a.0 b.0) a b _ (inl refl) (inr refl))
  form (e.IsNull a) = (ok_caused _, one_value (e.IsNull a.0) a _ refl)
  form (e.IsNotNull a) = (ok_caused _, one_value (e.IsNotNull a.0) a _ refl)
  form (e.Not a) = (ok_caused _, then_caused _ _ (of_truth (e.Not a.0) a refl) (λ t. ok_caused _))
  form (e.And operands) = (
    ok_caused _,
    each_explained (Whole (roll-BoundExpr (e.And (map expr_in operands)))) conjoined (Some true) operands
        (λ p is t. then_caused _ _ (of_truth (e.And (map expr_in operands)) p is) (λ u. ok_caused _)),
  )
  form (e.Or operands) = (
    ok_caused _,
    each_explained (Whole (roll-BoundExpr (e.Or (map expr_in operands)))) disjoined (Some false) operands
        (λ p is t. then_caused _ _ (of_truth (e.Or (map expr_in operands)) p is) (λ u. ok_caused _)),
  )

  -- ---- CHANGETABLE(VERSION ..), and the terms of a sum

  abbrev version_parts : BoundRowVersion-F E R S T → BoundRowVersion-F BoundExpr BoundRowVersion BoundScalar BoundTerm
  version_parts y = map-BoundRowVersion E R S T BoundExpr BoundRowVersion BoundScalar BoundTerm expr_in (λ p. p.0) (λ p. p.0) term_in y

  abbrev row_at : BoundRowVersion-F BoundExpr BoundRowVersion BoundScalar BoundTerm → Answer (Key × VersionRow)
  row_at x = row_version_rule s (map-BoundRowVersion BoundExpr BoundRowVersion BoundScalar BoundTerm Meaning (Answer (Key × VersionRow)) (Answer Value) Operand (meaning s) (row_version s) (scalar s) (operand s) x)

  -- what the value of an expression refuses is a refusal under whatever has the expression
  under : (Is : BoundExpr → Type 0) (p : E) → Is p.0 → Explained Is (value s p.0)
  under Is p is = weaker (value s p.0) (λ refusal u. record { is = u.is; top = u.top; under = subst Is (sym u.under) is; at = u.at }) p.1.value_is

  version : (y : BoundRowVersion-F E R S T) → Explained (Contains (roll-BoundRowVersion (version_parts y)).values) (row_at (version_parts y))
  version y =
      let Is : BoundExpr → Type 0 = Contains (roll-BoundRowVersion (version_parts y)).values in
      then_caused _ _ (then_caused _ _ (each_explained Is listed [] y.values (λ p is values. then_caused _ _ (under Is p is) (λ v. ok_caused _))) (λ values. ok_caused _))
      (λ key. ok_caused _)

  abbrev scalar_parts : BoundScalar-F E R S T → BoundScalar-F BoundExpr BoundRowVersion BoundScalar BoundTerm
  scalar_parts y = map-BoundScalar E R S T BoundExpr BoundRowVersion BoundScalar BoundTerm expr_in (λ p. p.0) (λ p. p.0) term_in y

  abbrev shown_at : BoundScalar-F BoundExpr BoundRowVersion BoundScalar BoundTerm → Answer Value
  shown_at x = scalar_rule (map-BoundScalar BoundExpr BoundRowVersion BoundScalar BoundTerm Meaning (Answer (Key × VersionRow)) (Answer Value) Operand (meaning s) (row_version s) (scalar s) (operand s) x)

  shown : (y : BoundScalar-F E R S T) → Explained (Contains (roll-BoundScalar (scalar_parts y)).version.values) (shown_at (scalar_parts y))
  shown y =
      let here : Explained (Contains (roll-BoundScalar (scalar_parts y)).version.values) (row_version s y.version.0) =
      weaker (row_version s y.version.0) (λ refusal u. record { is = u.is; top = u.top; under = u.under; at = u.at }) y.version.1 in
      then_caused _ _ here (λ found. ok_caused _)

  abbrev term_parts : BoundTerm-F E R S T → BoundTerm-F BoundExpr BoundRowVersion BoundScalar BoundTerm
  term_parts y = map-BoundTerm E R S T BoundExpr BoundRowVersion BoundScalar BoundTerm expr_in (λ p. p.0) (λ p. p.0) term_in y

  abbrev operand_at : BoundTerm-F BoundExpr BoundRowVersion BoundScalar BoundTerm → Operand
  operand_at x = operand_rule (map-BoundTerm BoundExpr BoundRowVersion BoundScalar BoundTerm Meaning (Answer (Key × VersionRow)) (Answer Value) Operand (meaning s) (row_version s) (scalar s) (operand s) x)

  term : (y : BoundTerm-F E R S T) → Explained (Whole (roll-BoundTerm (term_parts y)).value) (operand_at (term_parts y)).meaning.value
  term y = under (Whole (roll-BoundTerm (term_parts y)).value) y.value refl

  -- ---- the whole

  expr_rolled : (x : Form) → OfForm x → OfExpr (roll-BoundExpr x)
  expr_rolled x of =
      let same : meaning s (roll-BoundExpr x) ≡ meaning_at x = fold-roll-BoundExpr Meaning (Answer (Key × VersionRow)) (Answer Value) Operand (meaning_rule s) (row_version_rule s) scalar_rule operand_rule x in
      record {
        value_is = subst (λ (m : Meaning). Explained (Whole (roll-BoundExpr x)) m.value) (sym same) of.0;
        truth_is = subst (λ (m : Meaning). Explained (Whole (roll-BoundExpr x)) m.truth) (sym same) of.1;
      }

  version_rolled : (x : BoundRowVersion-F BoundExpr BoundRowVersion BoundScalar BoundTerm) → Explained (Contains (roll-BoundRowVersion x).values) (row_at x) → OfRowVersion (roll-BoundRowVersion x)
  version_rolled x of =
      subst (λ (r : Answer (Key × VersionRow)). Explained (Contains (roll-BoundRowVersion x).values) r)
      (sym (fold-roll-BoundRowVersion Meaning (Answer (Key × VersionRow)) (Answer Value) Operand (meaning_rule s) (row_version_rule s) scalar_rule operand_rule x)) of

  scalar_rolled : (x : BoundScalar-F BoundExpr BoundRowVersion BoundScalar BoundTerm) → Explained (Contains (roll-BoundScalar x).version.values) (shown_at x) → OfScalar (roll-BoundScalar x)
  scalar_rolled x of =
      subst (λ (a : Answer Value). Explained (Contains (roll-BoundScalar x).version.values) a)
      (sym (fold-roll-BoundScalar Meaning (Answer (Key × VersionRow)) (Answer Value) Operand (meaning_rule s) (row_version_rule s) scalar_rule operand_rule x)) of

  term_rolled : (x : BoundTerm-F BoundExpr BoundRowVersion BoundScalar BoundTerm) → Explained (Whole (roll-BoundTerm x).value) (operand_at x).meaning.value → OfTerm (roll-BoundTerm x)
  term_rolled x of =
      subst (λ (o : Operand). Explained (Whole (roll-BoundTerm x).value) o.meaning.value)
      (sym (fold-roll-BoundTerm Meaning (Answer (Key × VersionRow)) (Answer Value) Operand (meaning_rule s) (row_version_rule s) scalar_rule operand_rule x)) of

  every : (x : BoundExpr) → OfExpr x
  every = ind-BoundExpr OfExpr OfRowVersion OfScalar OfTerm
      (λ x y is. expr_rolled x (subst OfForm is (form y)))
      (λ x y is. version_rolled x (subst (λ x. Explained (Contains (roll-BoundRowVersion x).values) (row_at x)) is (version y)))
      (λ x y is. scalar_rolled x (subst (λ x. Explained (Contains (roll-BoundScalar x).version.values) (shown_at x)) is (shown y)))
      (λ x y is. term_rolled x (subst (λ x. Explained (Whole (roll-BoundTerm x).value) (operand_at x).meaning.value) is (term y)))

  told : (x : BoundExpr) (refusal : Refusal) → OverflowUnder s (Whole x) refusal → (refusal ≡ Overflow) × Overflows s x
  told x refusal u = (u.is, subst (Overflows s) u.under u.at)

pub values_refuse_overflow : ValuesRefuseOverflow
values_refuse_overflow s x refusal e = told s x refusal ((every s x).value_is.holds refusal e)

pub truths_refuse_overflow : TruthsRefuseOverflow
truths_refuse_overflow s x refusal e = told s x refusal ((every s x).truth_is.holds refusal e)
