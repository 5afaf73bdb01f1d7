-- Expressions of a statement that are at most n deep come to such bound expressions.
use Rattle.std.proofs.Common.{ℕ, ◌≤◌, List, [], ◌∷◌, map, Option, Some, None}
use Rattle.std.specs.List.{AllByRecursion}
use Rattle.std.specs.Option.{option_to_list}
use Rattle.ct_types.specs.declared.bound.BoundExpr.{BoundExpr}
use Rattle.ct_types.specs.declared.catalogue.Catalogued.{Catalogued}
use Rattle.ct_types.specs.declared.catalogue.Variable.{Variable}
use Rattle.ct_types.specs.declared.expr.Expr.{Expr}
use Rattle.ct_bind_kinds.specs.declared.kind.Kind.{Kind}
use Rattle.ct_bind_kinds.specs.declared.kind.Kind.TheVariants.{Condition}
use Rattle.ct_types.specs.Answers.{Answer, ◌>>=◌, optional}
use Rattle.ct_bind_expr.specs.declared.place.Place.{Place}
use Rattle.ct_bind_expr.specs.Places.{of_kind}
use Rattle.ct_bind_expr.specs.Walk.{walk}
use Rattle.ct_bind.specs.Sources.{condition}
use Rattle.ct_types.proofs.AnswersKept.{Kept, ok_kept, then_kept}
use Rattle.ct_bind_depth_laws.specs.Depth.{depth_of}
use Rattle.ct_bind_depth_laws.proofs.Operators.{NoDeeper, TypedNoDeeper, Bounded, raised, kind_kept}
use Rattle.ct_bind_depth_laws.proofs.Chains.{NoneDeeper, AllBounded}
use Rattle.ct_bind_depth_laws.proofs.Walks.{every}

-- what is written is at most n deep
abbrev pub Within : ℕ → Expr → Type 0
Within n x = depth_of x ≤ n

abbrev pub AllWithin : ℕ → List Expr → Type 0
AllWithin n xs = AllByRecursion (Within n) xs

-- what is there is at most n deep
abbrev pub GivenNoDeeper : ℕ → Option BoundExpr → Type 0
GivenNoDeeper n found = NoneDeeper n (option_to_list found)

module _ (tables : List Catalogued) (variables : List Variable) (n : ℕ) where
  pub walked : (place : Place) (x : Expr) → Within n x → Bounded n (walk tables variables x place)
  walked place x within = raised (depth_of x) n (walk tables variables x place) within (every tables variables place x)

  pub all_walked : (place : Place) (xs : List Expr) → AllWithin n xs → AllBounded n place (map (walk tables variables) xs)
  all_walked place [] within = tt
  all_walked place (x ∷ xs) within = (walked place x within.0, all_walked place xs within.1)

  pub operand_kept : (wanted : Kind) (place : Place) (x : Expr) → Within n x → Kept (NoDeeper n) (walk tables variables x place >>= of_kind wanted)
  operand_kept wanted place x within = then_kept (TypedNoDeeper n) (NoDeeper n) (walk tables variables x place) (of_kind wanted) (walked place x within) (kind_kept n wanted)

  pub condition_kept : (place : Place) (x : Expr) → Within n x → Kept (NoDeeper n) (condition tables variables place x)
  unfolding condition
  condition_kept place x within = operand_kept Condition place x within

  pub given_kept : (step : Expr → Answer BoundExpr) → ((x : Expr) → Within n x → Kept (NoDeeper n) (step x)) → (given : Option Expr) → AllWithin n (option_to_list given) → Kept (GivenNoDeeper n) (optional step given)
  given_kept step go None within = ok_kept (GivenNoDeeper n) None tt
  given_kept step go (Some x) within = then_kept (NoDeeper n) (GivenNoDeeper n) (step x) _ (go x within.0) (λ made below. ok_kept (GivenNoDeeper n) (Some made) (below, tt))
