-- Where a number leaves 64 bits: at a part of an expression that is a sum, a difference, a product or a sign.
use Rattle.std.specs.Prelude.{◌≡◌, ℤ, pos, ◌+ℤ◌, ◌-ℤ◌, ◌*ℤ◌, if◌then◌else◌, List, ◌∷◌, ◌++◌, Ok}
use Rattle.ct_types.specs.ColumnFit.{IsBigInt}
use Rattle.ct_types.specs.declared.bound.BoundExpr.{BoundExpr, roll-BoundExpr}
use Rattle.ct_types.specs.declared.bound.BoundExpr.TheOpen as e
use Rattle.ct_types.specs.declared.bound.BoundTerm.{BoundTerm}
use Rattle.ct_types.specs.declared.value.Value.{Value}
use Rattle.ct_types.specs.declared.value.Value.TheVariants.{Int}
use Rattle.ct_expr.specs.Meaning.{Scene, value, product, sum}
use Rattle.ct_refusal_laws.specs.Parts.{Form, HasPart}

-- the sign of a number does
pub record NegativeLeaves (s : Scene) (x : BoundExpr) : Type 0 where
  pub number : ℤ
  pub comes : value s x ≡ Ok (Int number)
  pub leaves : ¬ IsBigInt (pos 0 -ℤ number)

-- the product of a factor and those before it does
pub record ProductLeaves (s : Scene) (factors : List BoundExpr) : Type 0 where
  pub before : List BoundExpr
  pub factor : BoundExpr
  pub after : List BoundExpr
  pub are : factors ≡ before ++ factor ∷ after
  pub made : ℤ
  pub number : ℤ
  pub made_is : product s before ≡ Ok (Int made)
  pub comes : value s factor ≡ Ok (Int number)
  pub leaves : ¬ IsBigInt (made *ℤ number)

-- an operand and those before it do, added or taken away
pub record SumLeaves (s : Scene) (first : BoundExpr) (terms : List BoundTerm) : Type 0 where
  pub before : List BoundTerm
  pub term : BoundTerm
  pub after : List BoundTerm
  pub are : terms ≡ before ++ term ∷ after
  pub begun : Value
  pub made : ℤ
  pub number : ℤ
  pub begins : value s first ≡ Ok begun
  pub made_is : sum s begun before ≡ Ok (Int made)
  pub comes : value s term.value ≡ Ok (Int number)
  pub leaves : ¬ IsBigInt (if term.subtracts then made -ℤ number else made +ℤ number)

-- what a form makes of its operands has no 64 bits
abbrev pub Leaves : Scene → Form → Type 0
Leaves s (e.Negative x) = NegativeLeaves s x
Leaves s (e.Product factors) = ProductLeaves s factors
Leaves s (e.Sum first terms) = SumLeaves s first terms
Leaves s _ = ⊥

-- a part of the expression is such a form
abbrev pub Overflows : Scene → BoundExpr → Type 0
Overflows s x = (part : BoundExpr) × HasPart x part × ((form : Form) × (part ≡ roll-BoundExpr form) × Leaves s form)
