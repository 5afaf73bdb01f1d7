-- The parts of a bound expression: itself, and the parts of its operands.
use Rattle.std.specs.Prelude.{◌≡◌, ◌⊎◌}
use Rattle.std.specs.List.{Contains}
use Rattle.ct_types.specs.declared.bound.BoundExpr.{BoundExpr, roll-BoundExpr}
use Rattle.ct_types.specs.declared.bound.BoundExpr.TheOpen as e
use Rattle.ct_types.specs.declared.bound.BoundExpr.TheOpen.{BoundExpr-F}
use Rattle.ct_types.specs.declared.bound.BoundRowVersion.{BoundRowVersion}
use Rattle.ct_types.specs.declared.bound.BoundScalar.{BoundScalar}
use Rattle.ct_types.specs.declared.bound.BoundTerm.{BoundTerm}

-- the form of an expression, with its operands
abbrev pub Form : Type 0
Form = BoundExpr-F BoundExpr BoundRowVersion BoundScalar BoundTerm

-- an operand of a form
abbrev pub IsOperand : Form → BoundExpr → Type 0
IsOperand (e.MinValidVersion table) y = y ≡ table
IsOperand (e.IsColumnInMask column mask) y = (y ≡ column) ⊎ (y ≡ mask)
IsOperand (e.ObjectId name) y = y ≡ name
IsOperand (e.ColumnProperty table column property) y = (y ≡ table) ⊎ ((y ≡ column) ⊎ (y ≡ property))
IsOperand (e.IfNull value instead) y = (y ≡ value) ⊎ (y ≡ instead)
IsOperand (e.Scalar scalar) y = Contains scalar.version.values y
IsOperand (e.Negative value) y = y ≡ value
IsOperand (e.Product factors) y = Contains factors y
IsOperand (e.Sum first more) y = (y ≡ first) ⊎ ((term : BoundTerm) × Contains more term × (y ≡ term.value))
IsOperand (e.Compare operator left right) y = (y ≡ left) ⊎ (y ≡ right)
IsOperand (e.IsNull value) y = y ≡ value
IsOperand (e.IsNotNull value) y = y ≡ value
IsOperand (e.Not value) y = y ≡ value
IsOperand (e.And operands) y = Contains operands y
IsOperand (e.Or operands) y = Contains operands y
IsOperand _ y = ⊥

-- the second expression is a part of the first
pub data HasPart : BoundExpr → BoundExpr → Type 0 where
  itself : {x : BoundExpr} → HasPart x x
  inside : {y part : BoundExpr} (form : Form) → IsOperand form y → HasPart y part → HasPart (roll-BoundExpr form) part
