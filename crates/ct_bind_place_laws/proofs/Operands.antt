-- What operands refuse, by the kinds to which they come.
use Rattle.std.proofs.Common.{◌≡◌, List, [], ◌∷◌, map, Ok, Err, refl, sym, subst}
use Rattle.std.specs.List.{AllByRecursion}
use Rattle.ct_types.specs.declared.bound.BoundExpr.{BoundExpr}
use Rattle.ct_types.specs.declared.bound.BoundTerm.{BoundTerm}
use Rattle.ct_types.specs.declared.catalogue.Catalogued.{Catalogued}
use Rattle.ct_types.specs.declared.catalogue.Variable.{Variable}
use Rattle.ct_types.specs.declared.expr.Comparison.{Comparison}
use Rattle.ct_types.specs.declared.expr.Expr.{Expr}
use Rattle.ct_types.specs.declared.refusal.Refusal.{Refusal}
use Rattle.ct_types.specs.declared.refusal.Refusal.TheVariants.{TypeClash}
use Rattle.ct_bind_kinds.specs.declared.kind.Kind.{Kind}
use Rattle.ct_bind_kinds.specs.declared.kind.Kind.TheVariants.{Number, Text, Bytes, Condition}
use Rattle.ct_types.specs.Answers.{Answer, ◌>>=◌, each}
use Rattle.ct_types.proofs.AnswersCaused.{Caused, ok_caused, err_caused, then_caused, after_caused, met_caused}
use Rattle.ct_bind_expr.specs.declared.place.Place.{Place}
use Rattle.ct_bind_expr.specs.declared.place.Typed.{Typed}
use Rattle.ct_bind_expr.specs.Places.{of_kind, any_value}
use Rattle.ct_bind_expr.specs.Versions.{Walk, operand}
use Rattle.ct_bind_expr.specs.Walk as expr
use Rattle.ct_bind_expr.specs.Walk.{TermWalk, two, both_of_kind, chain, further_term, sum, walk}
use Rattle.ct_bind_place_laws.specs.Causes.{IsNoOperand, IsNoValue, Differ}

-- two steps, of which the next one knows what both came to
two_then : {A B C : Type 0} {Cause : Refusal → Type 0} (x : Answer A) (y : Answer B) (next : A × B → Answer C) → Caused Cause x → Caused Cause y
    → ((a : A) (b : B) → x ≡ Ok a → y ≡ Ok b → Caused Cause (next (a, b))) → Caused Cause ((x >>= (λ a. y >>= (λ b. Ok (a, b)))) >>= next)
two_then (Ok a) (Ok b) next first second go = go a b refl refl
two_then (Ok a) (Err refusal) next first second go = err_caused refusal (second.holds refusal refl)
two_then (Err refusal) y next first second go = err_caused refusal (first.holds refusal refl)

module _ (tables : List Catalogued) (variables : List Variable) (place : Place) where
  abbrev Comes : Expr → Typed → Type 0
  Comes y it = walk tables variables y place ≡ Ok it

  abbrev pub NoOperand : Kind → Expr → Type 0
  NoOperand wanted y = IsNoOperand tables variables place wanted y

  -- an operand of which each refusal has a cause
  abbrev pub IsFine : (Refusal → Type 0) → Kind → Expr → Type 0
  IsFine Cause wanted y = Caused Cause (walk tables variables y place) × (NoOperand wanted y → Cause TypeClash)

  -- an operand of a sum after the first, whose walk is that of an expression
  pub record IsFineTerm (Cause : Refusal → Type 0) (walked : TermWalk) : Type 0 where
    pub value : Expr
    pub is : walked.1 ≡ walk tables variables value
    pub fine : IsFine Cause Number value

  module _ {Cause : Refusal → Type 0} where
    of_kind_by : (wanted : Kind) (y : Expr) (it : Typed) → Comes y it → (NoOperand wanted y → Cause TypeClash) → Caused Cause (of_kind wanted it)
    of_kind_by wanted y it comes bad = met_caused _ TypeClash _ (λ e. bad (it, comes, e)) (λ _. ok_caused _)

    any_value_by : (y : Expr) (it : Typed) → Comes y it → (IsNoValue tables variables place y → Cause TypeClash) → Caused Cause (any_value it)
    any_value_by y it comes bad = met_caused _ TypeClash _ (λ e. bad (it, comes, e)) (λ _. ok_caused _)

    pub operand_by : (wanted : Kind) (y : Expr) → Caused Cause (walk tables variables y place) → (NoOperand wanted y → Cause TypeClash) → Caused Cause (operand wanted place (walk tables variables y))
    unfolding operand
    operand_by wanted y known bad = after_caused _ _ known (λ it comes. of_kind_by wanted y it comes bad)

    -- ---- operators of one operand

    pub min_valid_version_by : (y : Expr) → Caused Cause (walk tables variables y place) → (NoOperand Number y → Cause TypeClash) → Caused Cause (walk tables variables y place >>= expr.min_valid_version)
    unfolding expr.min_valid_version
    min_valid_version_by y known bad = after_caused _ _ known (λ it comes. then_caused _ _ (of_kind_by Number y it comes bad) (λ _. ok_caused _))

    pub object_id_by : (y : Expr) → Caused Cause (walk tables variables y place) → (NoOperand Text y → Cause TypeClash) → Caused Cause (walk tables variables y place >>= expr.object_id)
    unfolding expr.object_id
    object_id_by y known bad = after_caused _ _ known (λ it comes. then_caused _ _ (of_kind_by Text y it comes bad) (λ _. ok_caused _))

    pub negative_by : (y : Expr) → Caused Cause (walk tables variables y place) → (NoOperand Number y → Cause TypeClash) → Caused Cause (walk tables variables y place >>= expr.negative)
    unfolding expr.negative
    negative_by y known bad = after_caused _ _ known (λ it comes. then_caused _ _ (of_kind_by Number y it comes bad) (λ _. ok_caused _))

    pub negated_by : (y : Expr) → Caused Cause (walk tables variables y place) → (NoOperand Condition y → Cause TypeClash) → Caused Cause (walk tables variables y place >>= expr.negated)
    unfolding expr.negated
    negated_by y known bad = after_caused _ _ known (λ it comes. then_caused _ _ (of_kind_by Condition y it comes bad) (λ _. ok_caused _))

    pub is_null_by : (y : Expr) → Caused Cause (walk tables variables y place) → (IsNoValue tables variables place y → Cause TypeClash) → Caused Cause (walk tables variables y place >>= expr.is_null)
    unfolding expr.is_null
    is_null_by y known bad = after_caused _ _ known (λ it comes. then_caused _ _ (any_value_by y it comes bad) (λ _. ok_caused _))

    pub is_not_null_by : (y : Expr) → Caused Cause (walk tables variables y place) → (IsNoValue tables variables place y → Cause TypeClash) → Caused Cause (walk tables variables y place >>= expr.is_not_null)
    unfolding expr.is_not_null
    is_not_null_by y known bad = after_caused _ _ known (λ it comes. then_caused _ _ (any_value_by y it comes bad) (λ _. ok_caused _))

    -- ---- and of two or three

    two_by : {C : Type 0} (a b : Expr) (next : Typed × Typed → Answer C) → Caused Cause (walk tables variables a place) → Caused Cause (walk tables variables b place)
        → ((x y : Typed) → Comes a x → Comes b y → Caused Cause (next (x, y))) → Caused Cause (two place (walk tables variables a) (walk tables variables b) >>= next)
    unfolding two
    two_by a b next first second go = two_then (walk tables variables a place) (walk tables variables b place) next first second go

    pub column_in_mask_by : (a b : Expr) → Caused Cause (walk tables variables a place) → Caused Cause (walk tables variables b place) → (NoOperand Number a → Cause TypeClash) → (NoOperand Bytes b → Cause TypeClash)
        → Caused Cause (two place (walk tables variables a) (walk tables variables b) >>= (λ both. expr.is_column_in_mask both.0 both.1))
    unfolding expr.is_column_in_mask
    column_in_mask_by a b first second bad worse =
        two_by a b _ first second (λ x y is are. then_caused _ _ (of_kind_by Number a x is bad) (λ _. then_caused _ _ (of_kind_by Bytes b y are worse) (λ _. ok_caused _)))

    pub if_null_by : (a b : Expr) → Caused Cause (walk tables variables a place) → Caused Cause (walk tables variables b place) → (Differ tables variables place a b → Cause TypeClash)
        → Caused Cause (two place (walk tables variables a) (walk tables variables b) >>= (λ both. expr.if_null both.0 both.1))
    unfolding expr.if_null
    if_null_by a b first second bad = two_by a b _ first second (λ x y is are. met_caused _ TypeClash _ (λ e. bad (x, y, is, are, e)) (λ _. ok_caused _))

    pub compare_by : (operator : Comparison) (a b : Expr) → Caused Cause (walk tables variables a place) → Caused Cause (walk tables variables b place) → (Differ tables variables place a b → Cause TypeClash)
        → Caused Cause (two place (walk tables variables a) (walk tables variables b) >>= (λ both. expr.compare operator both.0 both.1))
    unfolding expr.compare
    compare_by operator a b first second bad = two_by a b _ first second (λ x y is are. met_caused _ TypeClash _ (λ e. bad (x, y, is, are, e)) (λ _. ok_caused _))

    pub property_by : (a b c : Expr) → Caused Cause (walk tables variables a place) → Caused Cause (walk tables variables b place) → Caused Cause (walk tables variables c place)
        → (NoOperand Number a → Cause TypeClash) → (NoOperand Text b → Cause TypeClash) → (NoOperand Text c → Cause TypeClash)
        → Caused Cause (expr.property place (walk tables variables a) (walk tables variables b) (walk tables variables c))
    unfolding expr.property expr.column_property
    property_by a b c first second third bad worse worst =
        two_by a b _ first second (λ x y is are. after_caused (walk tables variables c place) _ third (λ z comes.
        then_caused _ _ (of_kind_by Number a x is bad) (λ _. then_caused _ _ (of_kind_by Text b y are worse) (λ _. then_caused _ _ (of_kind_by Text c z comes worst) (λ _. ok_caused _)))))

    -- ---- chains

    both_by : (wanted : Kind) (a b : Expr) (x y : Typed) → Comes a x → Comes b y → (NoOperand wanted a → Cause TypeClash) → (NoOperand wanted b → Cause TypeClash) → Caused Cause (both_of_kind wanted x y)
    unfolding both_of_kind
    both_by wanted a b x y is are bad worse = then_caused _ _ (of_kind_by wanted a x is bad) (λ _. then_caused _ _ (of_kind_by wanted b y are worse) (λ _. ok_caused _))

    each_operand_by : (wanted : Kind) (ys : List Expr) → AllByRecursion (IsFine Cause wanted) ys → Caused Cause (each (operand wanted place) (map (walk tables variables) ys))
    each_operand_by wanted [] all = ok_caused []
    each_operand_by wanted (y ∷ ys) all = then_caused _ _ (operand_by wanted y all.0.0 all.0.1) (λ _. then_caused _ _ (each_operand_by wanted ys all.1) (λ _. ok_caused _))

    pub chain_by : (wanted : Kind) (ys : List Expr) → AllByRecursion (IsFine Cause wanted) ys → Caused Cause (chain wanted place (map (walk tables variables) ys))
    unfolding chain
    chain_by wanted [] all = ok_caused []
    chain_by wanted (y ∷ []) all = then_caused _ _ (operand_by wanted y all.0.0 all.0.1) (λ _. ok_caused _)
    chain_by wanted (a ∷ b ∷ ys) all =
        two_by a b _ all.0.0 all.1.0.0
        (λ x y is are. then_caused _ _ (both_by wanted a b x y is are all.0.1 all.1.0.1) (λ _. then_caused _ _ (each_operand_by wanted ys all.1.1) (λ _. ok_caused _)))

    -- ---- sums

    further_by : (walked : TermWalk) → IsFineTerm Cause walked → Caused Cause (further_term place walked)
    unfolding further_term
    further_by walked it =
        then_caused _ _ (subst (λ (w : Walk). Caused Cause (operand Number place w)) (sym it.is) (operand_by Number it.value it.fine.0 it.fine.1)) (λ _. ok_caused _)

    each_further_by : (terms : List TermWalk) → AllByRecursion (IsFineTerm Cause) terms → Caused Cause (each (further_term place) terms)
    each_further_by [] all = ok_caused []
    each_further_by (walked ∷ terms) all = then_caused _ _ (further_by walked all.0) (λ _. then_caused _ _ (each_further_by terms all.1) (λ _. ok_caused _))

    pub sum_by : (first : Expr) (terms : List TermWalk) → IsFine Cause Number first → AllByRecursion (IsFineTerm Cause) terms → Caused Cause (sum place (walk tables variables first) terms)
    unfolding sum
    sum_by first [] fine all = then_caused _ _ (operand_by Number first fine.0 fine.1) (λ _. ok_caused _)
    sum_by first (second ∷ terms) fine all =
        let it = all.0 in
        let step : Caused {A = BoundExpr × List BoundTerm} Cause (two place (walk tables variables first) (walk tables variables it.value) >>= (λ walked. both_of_kind Number walked.0 walked.1 >>= (λ both.
        each (further_term place) terms >>= (λ more. Ok (both.0, expr.term second.0 both.1 ∷ more))))) =
        two_by first it.value _ fine.0 it.fine.0
        (λ x y is are. then_caused _ _ (both_by Number first it.value x y is are fine.1 it.fine.1) (λ both. then_caused _ _ (each_further_by terms all.1) (λ _. ok_caused _))) in
        subst (λ (w : Walk). Caused {A = BoundExpr × List BoundTerm} Cause (two place (walk tables variables first) w >>= (λ walked. both_of_kind Number walked.0 walked.1 >>= (λ both.
        each (further_term place) terms >>= (λ more. Ok (both.0, expr.term second.0 both.1 ∷ more)))))) (sym it.is) step
