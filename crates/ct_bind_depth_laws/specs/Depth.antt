-- How deep an expression is: one without operands is 0 deep, and every other is one deeper than the deepest of its operands.
-- A chain of one operator is one form, with all its operands. The operands of a scalar form are the values of its
-- CHANGETABLE(VERSION ..). The levels of a text, of which there may be 64, are another thing: they count brackets, which leave
-- no trace in a tree, NOT and minus signs. This project's own.
--
-- Each rule stands on one line: it tells the depth of a form by those of its parts, which stand in their places.
use Rattle.std.specs.Prelude.{ℕ, ◌+◌, max, List, [], ◌∷◌}
use Rattle.ct_types.specs.declared.bound.BoundExpr.{BoundExpr}
use Rattle.ct_types.specs.declared.bound.BoundExpr.TheOpen as b
use Rattle.ct_types.specs.declared.bound.BoundExpr.TheOpen.{BoundExpr-F, BoundRowVersion-F, BoundScalar-F, BoundTerm-F}
use Rattle.ct_types.specs.declared.bound.BoundExpr.TheFolds.{fold-BoundExpr}
use Rattle.ct_types.specs.declared.expr.Expr.{Expr}
use Rattle.ct_types.specs.declared.expr.Expr.TheOpen as e
use Rattle.ct_types.specs.declared.expr.Expr.TheOpen.{Expr-F, RowVersion-F, Scalar-F, Term-F}
use Rattle.ct_types.specs.declared.expr.Expr.TheFolds.{fold-Expr}

-- the most of them, and 0 of none
abbrev pub deepest : List ℕ → ℕ
deepest [] = 0
deepest (depth ∷ more) = max depth (deepest more)

-- ---- expressions as they are written

abbrev pub expr_depth : Expr-F ℕ ℕ ℕ ℕ → ℕ
expr_depth e.Null = 0
expr_depth (e.Number digits) = 0
expr_depth (e.Text text) = 0
expr_depth (e.Bytes bytes) = 0
expr_depth (e.Variable name) = 0
expr_depth (e.Column name) = 0
expr_depth e.CurrentVersion = 0
expr_depth (e.MinValidVersion table) = 1 + table
expr_depth (e.IsColumnInMask column mask) = 1 + max column mask
expr_depth (e.ObjectId name) = 1 + name
expr_depth (e.ColumnProperty table column property) = 1 + max table (max column property)
expr_depth (e.IfNull value instead) = 1 + max value instead
expr_depth (e.Scalar values) = 1 + values
expr_depth (e.Negative value) = 1 + value
expr_depth (e.Product factors) = 1 + deepest factors
expr_depth (e.Sum first more) = 1 + max first (deepest more)
expr_depth (e.Compare operator left right) = 1 + max left right
expr_depth (e.IsNull value) = 1 + value
expr_depth (e.IsNotNull value) = 1 + value
expr_depth (e.Not value) = 1 + value
expr_depth (e.And operands) = 1 + deepest operands
expr_depth (e.Or operands) = 1 + deepest operands

-- CHANGETABLE(VERSION ..) is as deep as the deepest of its values
abbrev pub version_depth : {B C D : Type 0} → RowVersion-F ℕ B C D → ℕ
version_depth version = deepest version.values

-- the SELECT over it is as deep, and the scalar form in which it stands is one deeper
abbrev pub scalar_depth : {A C D : Type 0} → Scalar-F A ℕ C D → ℕ
scalar_depth scalar = scalar.version

-- an operand of a sum is as deep as its value
abbrev pub term_depth : {B C D : Type 0} → Term-F ℕ B C D → ℕ
term_depth term = term.value

-- how deep an expression is
unfoldable pub depth_of : Expr → ℕ
depth_of = fold-Expr ℕ ℕ ℕ ℕ expr_depth version_depth scalar_depth term_depth

-- ---- bound expressions, by the same rules

abbrev pub bound_expr_depth : BoundExpr-F ℕ ℕ ℕ ℕ → ℕ
bound_expr_depth b.Null = 0
bound_expr_depth (b.Number n) = 0
bound_expr_depth (b.Text text) = 0
bound_expr_depth (b.Bytes bytes) = 0
bound_expr_depth (b.Column at) = 0
bound_expr_depth (b.Variable at) = 0
bound_expr_depth b.CurrentVersion = 0
bound_expr_depth (b.MinValidVersion table) = 1 + table
bound_expr_depth (b.IsColumnInMask column mask) = 1 + max column mask
bound_expr_depth (b.ObjectId name) = 1 + name
bound_expr_depth (b.ColumnProperty table column property) = 1 + max table (max column property)
bound_expr_depth (b.IfNull value instead) = 1 + max value instead
bound_expr_depth (b.Scalar values) = 1 + values
bound_expr_depth (b.Negative value) = 1 + value
bound_expr_depth (b.Product factors) = 1 + deepest factors
bound_expr_depth (b.Sum first more) = 1 + max first (deepest more)
bound_expr_depth (b.Compare operator left right) = 1 + max left right
bound_expr_depth (b.IsNull value) = 1 + value
bound_expr_depth (b.IsNotNull value) = 1 + value
bound_expr_depth (b.Not value) = 1 + value
bound_expr_depth (b.And operands) = 1 + deepest operands
bound_expr_depth (b.Or operands) = 1 + deepest operands

abbrev pub bound_version_depth : {B C D : Type 0} → BoundRowVersion-F ℕ B C D → ℕ
bound_version_depth version = deepest version.values

abbrev pub bound_scalar_depth : {A C D : Type 0} → BoundScalar-F A ℕ C D → ℕ
bound_scalar_depth scalar = scalar.version

abbrev pub bound_term_depth : {B C D : Type 0} → BoundTerm-F ℕ B C D → ℕ
bound_term_depth term = term.value

-- how deep a bound expression is
unfoldable pub bound_depth_of : BoundExpr → ℕ
bound_depth_of = fold-BoundExpr ℕ ℕ ℕ ℕ bound_expr_depth bound_version_depth bound_scalar_depth bound_term_depth
