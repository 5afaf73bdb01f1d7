-- The parts of an expression: itself, and the parts of its operands. All stand at one place of the statement.
use Rattle.std.specs.Prelude.{◌≡◌, ◌⊎◌}
use Rattle.std.specs.List.{Contains}
use Rattle.ct_types.specs.declared.expr.Expr.{Expr, roll-Expr}
use Rattle.ct_types.specs.declared.expr.Expr.TheOpen as e
use Rattle.ct_types.specs.declared.expr.Expr.TheOpen.{Expr-F}
use Rattle.ct_types.specs.declared.expr.RowVersion.{RowVersion}
use Rattle.ct_types.specs.declared.expr.Scalar.{Scalar}
use Rattle.ct_types.specs.declared.expr.Term.{Term}

-- the form of an expression, with its operands
abbrev pub Form : Type 0
Form = Expr-F Expr RowVersion Scalar Term

-- an operand of a form
abbrev pub IsOperand : Form → Expr → Type 0
IsOperand (e.MinValidVersion table) y = y ≡ table
IsOperand (e.IsColumnInMask column mask) y = (y ≡ column) ⊎ (y ≡ mask)
IsOperand (e.ObjectId name) y = y ≡ name
IsOperand (e.ColumnProperty table column name) y = (y ≡ table) ⊎ ((y ≡ column) ⊎ (y ≡ name))
IsOperand (e.IfNull value instead) y = (y ≡ value) ⊎ (y ≡ instead)
IsOperand (e.Scalar scalar) y = Contains scalar.version.values y
IsOperand (e.Negative value) y = y ≡ value
IsOperand (e.Product factors) y = Contains factors y
IsOperand (e.Sum first more) y = (y ≡ first) ⊎ ((term : Term) × Contains more term × (y ≡ term.value))
IsOperand (e.Compare operator left right) y = (y ≡ left) ⊎ (y ≡ right)
IsOperand (e.IsNull value) y = y ≡ value
IsOperand (e.IsNotNull value) y = y ≡ value
IsOperand (e.Not value) y = y ≡ value
IsOperand (e.And operands) y = Contains operands y
IsOperand (e.Or operands) y = Contains operands y
IsOperand _ y = ⊥

-- the second expression is a part of the first
pub data HasPart : Expr → Expr → Type 0 where
  itself : {x : Expr} → HasPart x x
  inside : {y part : Expr} (form : Form) → IsOperand form y → HasPart y part → HasPart (roll-Expr form) part
