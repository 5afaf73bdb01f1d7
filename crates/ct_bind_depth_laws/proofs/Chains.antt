-- The operands of a chain and of a sum are at most as deep as those that are walked.
use Rattle.std.proofs.Common.{◌≡◌, ℕ, ◌≤◌, Bool, List, [], ◌∷◌, arith}
use Rattle.std.specs.List.{AllByRecursion}
use Rattle.ct_types.specs.declared.bound.BoundExpr.{BoundExpr}
use Rattle.ct_types.specs.declared.bound.BoundTerm.{BoundTerm}
use Rattle.ct_bind_kinds.specs.declared.kind.Kind.{Kind}
use Rattle.ct_bind_kinds.specs.declared.kind.Kind.TheVariants.{Number}
use Rattle.ct_types.specs.Answers.{each}
use Rattle.ct_bind_expr.specs.declared.place.Typed.{Typed}
use Rattle.ct_bind_expr.specs.declared.place.Place.{Place}
use Rattle.ct_bind_expr.specs.Places.{of_kind}
use Rattle.ct_bind_expr.specs.Versions.{Walk, operand}
use Rattle.ct_bind_expr.specs.Walk.{TermWalk, two, both_of_kind, chain, term, further_term, sum}
use Rattle.ct_types.proofs.AnswersKept.{Kept, ok_kept, then_kept}
use Rattle.ct_bind_depth_laws.specs.Depth.{bound_depth_of}
use Rattle.ct_bind_depth_laws.proofs.Given.{each_given}
use Rattle.ct_bind_depth_laws.proofs.Layers.{bound_term_depth_of, opened_bound_term}
use Rattle.ct_bind_depth_laws.proofs.Operators.{NoDeeper, TypedNoDeeper, Bounded, kind_kept, BothNoDeeper, two_kept}

-- all of them are at most n deep
abbrev pub NoneDeeper : ℕ → List BoundExpr → Type 0
NoneDeeper n xs = AllByRecursion (NoDeeper n) xs

-- what each of them comes to at a place is at most n deep
abbrev pub AllBounded : ℕ → Place → List Walk → Type 0
AllBounded n place walks = AllByRecursion (λ walk. Bounded n (walk place)) walks

-- ---- sums

abbrev pub TermNoDeeper : ℕ → BoundTerm → Type 0
TermNoDeeper n it = bound_term_depth_of it ≤ n

abbrev pub TermBounded : ℕ → Place → TermWalk → Type 0
TermBounded n place walk = Bounded n (walk.1 place)

-- an operand with its sign is as deep as without
signed : (n : ℕ) (subtracts : Bool) (value : BoundExpr) → NoDeeper n value → TermNoDeeper n (term subtracts value)
signed n subtracts value below =
    let same : bound_term_depth_of (term subtracts value) ≡ bound_depth_of value = opened_bound_term (term subtracts value) in
    omega arith

module _ (n : ℕ) (place : Place) where
  pub operand_kept : (wanted : Kind) (walk : Walk) → Bounded n (walk place) → Kept (NoDeeper n) (operand wanted place walk)
  unfolding operand
  operand_kept wanted walk bounded = then_kept (TypedNoDeeper n) (NoDeeper n) (walk place) (of_kind wanted) bounded (kind_kept n wanted)

  -- ---- the first two

  abbrev pub PairNoDeeper : BoundExpr × BoundExpr → Type 0
  PairNoDeeper both = NoDeeper n both.0 × NoDeeper n both.1

  both_kept : (wanted : Kind) (left right : Typed) → TypedNoDeeper n left → TypedNoDeeper n right → Kept PairNoDeeper (both_of_kind wanted left right)
  unfolding both_of_kind
  both_kept wanted left right first second =
      then_kept (NoDeeper n) PairNoDeeper (of_kind wanted left) _ (kind_kept n wanted left first)
      (λ a of_a. then_kept (NoDeeper n) PairNoDeeper (of_kind wanted right) _ (kind_kept n wanted right second) (λ b of_b. ok_kept PairNoDeeper (a, b) (of_a, of_b)))

  -- ---- chains

  pub chain_kept : (wanted : Kind) (walks : List Walk) → AllBounded n place walks → Kept (NoneDeeper n) (chain wanted place walks)
  unfolding chain
  chain_kept wanted [] all = ok_kept (NoneDeeper n) [] tt
  chain_kept wanted (only ∷ []) all =
      then_kept (NoDeeper n) (NoneDeeper n) (operand wanted place only) _ (operand_kept wanted only all.0) (λ x below. ok_kept (NoneDeeper n) (x ∷ []) (below, tt))
  chain_kept wanted (left ∷ right ∷ more) all =
      then_kept (BothNoDeeper n) (NoneDeeper n) (two place left right) _ (two_kept n place left right all.0 all.1.0)
      (λ walked are. then_kept PairNoDeeper (NoneDeeper n) (both_of_kind wanted walked.0 walked.1) _ (both_kept wanted walked.0 walked.1 are.0 are.1)
      (λ both below. then_kept (NoneDeeper n) (NoneDeeper n) (each (operand wanted place) more) _ (each_given (λ walk. Bounded n (walk place)) (NoDeeper n) (operand wanted place) (operand_kept wanted) more all.1.1)
      (λ made rest. ok_kept (NoneDeeper n) (both.0 ∷ both.1 ∷ made) (below.0, (below.1, rest)))))

  -- ---- sums

  further_kept : (walk : TermWalk) → TermBounded n place walk → Kept (TermNoDeeper n) (further_term place walk)
  unfolding further_term
  further_kept walk bounded =
      then_kept (NoDeeper n) (TermNoDeeper n) (operand Number place walk.1) _ (operand_kept Number walk.1 bounded)
      (λ value below. ok_kept (TermNoDeeper n) (term walk.0 value) (signed n walk.0 value below))

  abbrev pub SumNoDeeper : BoundExpr × List BoundTerm → Type 0
  SumNoDeeper made = NoDeeper n made.0 × AllByRecursion (TermNoDeeper n) made.1

  pub sum_kept : (first : Walk) (more : List TermWalk) → Bounded n (first place) → AllByRecursion (TermBounded n place) more → Kept SumNoDeeper (sum place first more)
  unfolding sum
  sum_kept first [] bounded all =
      then_kept (NoDeeper n) SumNoDeeper (operand Number place first) _ (operand_kept Number first bounded) (λ x below. ok_kept SumNoDeeper (x, []) (below, tt))
  sum_kept first (second ∷ more) bounded all =
      then_kept (BothNoDeeper n) SumNoDeeper (two place first second.1) _ (two_kept n place first second.1 bounded all.0)
      (λ walked are. then_kept PairNoDeeper SumNoDeeper (both_of_kind Number walked.0 walked.1) _ (both_kept Number walked.0 walked.1 are.0 are.1)
      (λ both below. then_kept (AllByRecursion (TermNoDeeper n)) SumNoDeeper (each (further_term place) more) _ (each_given (TermBounded n place) (TermNoDeeper n) (further_term place) further_kept more all.1)
      (λ made rest. ok_kept SumNoDeeper (both.0, term second.0 both.1 ∷ made) (below.0, (signed n second.0 both.1 below.1, rest)))))
