-- The depth of an expression by those of its parts.
use Rattle.std.proofs.Common.{◌≡◌, ℕ, ◌+◌, max, List, map, sym, ap, ◌∙◌}
use Rattle.ct_types.specs.declared.bound.BoundExpr.{BoundExpr, roll-BoundExpr, map-BoundExpr}
use Rattle.ct_types.specs.declared.bound.BoundExpr.TheVariants as bound
use Rattle.ct_types.specs.declared.bound.BoundExpr.TheOpen as b
use Rattle.ct_types.specs.declared.bound.BoundExpr.TheFolds.{fold-BoundRowVersion, fold-BoundScalar, fold-BoundTerm, fold-roll-BoundExpr, fold_out-BoundRowVersion, fold_out-BoundScalar, fold_out-BoundTerm}
use Rattle.ct_types.specs.declared.bound.BoundRowVersion.{BoundRowVersion}
use Rattle.ct_types.specs.declared.bound.BoundScalar.{BoundScalar}
use Rattle.ct_types.specs.declared.bound.BoundTerm.{BoundTerm}
use Rattle.ct_types.specs.declared.expr.Comparison.{Comparison}
use Rattle.ct_types.specs.declared.expr.Expr.{Expr, roll-Expr, map-Expr}
use Rattle.ct_types.specs.declared.expr.Expr.TheOpen as e
use Rattle.ct_types.specs.declared.expr.Expr.TheFolds.{fold-RowVersion, fold-Scalar, fold-Term, fold-roll-Expr, fold_out-RowVersion, fold_out-Scalar, fold_out-Term}
use Rattle.ct_types.specs.declared.expr.RowVersion.{RowVersion}
use Rattle.ct_types.specs.declared.expr.Scalar.{Scalar}
use Rattle.ct_types.specs.declared.expr.Term.{Term}
use Rattle.ct_bind_depth_laws.specs.Depth.{deepest, expr_depth, version_depth, scalar_depth, term_depth, depth_of, bound_expr_depth, bound_version_depth, bound_scalar_depth, bound_term_depth, bound_depth_of}

-- ---- expressions as they are written

unfoldable pub version_depth_of : RowVersion → ℕ
version_depth_of = fold-RowVersion ℕ ℕ ℕ ℕ expr_depth version_depth scalar_depth term_depth

unfoldable pub scalar_depth_of : Scalar → ℕ
scalar_depth_of = fold-Scalar ℕ ℕ ℕ ℕ expr_depth version_depth scalar_depth term_depth

unfoldable pub term_depth_of : Term → ℕ
term_depth_of = fold-Term ℕ ℕ ℕ ℕ expr_depth version_depth scalar_depth term_depth

pub layer : (x : e.Expr-F Expr RowVersion Scalar Term)
    → depth_of (roll-Expr x) ≡ expr_depth (map-Expr Expr RowVersion Scalar Term ℕ ℕ ℕ ℕ depth_of version_depth_of scalar_depth_of term_depth_of x)
unfolding depth_of version_depth_of scalar_depth_of term_depth_of
layer x = fold-roll-Expr ℕ ℕ ℕ ℕ expr_depth version_depth scalar_depth term_depth x

pub opened_version : (v : RowVersion) → version_depth_of v ≡ deepest (map depth_of v.values)
unfolding depth_of version_depth_of
opened_version v = fold_out-RowVersion ℕ ℕ ℕ ℕ expr_depth version_depth scalar_depth term_depth v

pub opened_scalar : (s : Scalar) → scalar_depth_of s ≡ version_depth_of s.version
unfolding version_depth_of scalar_depth_of
opened_scalar s = fold_out-Scalar ℕ ℕ ℕ ℕ expr_depth version_depth scalar_depth term_depth s

pub opened_term : (t : Term) → term_depth_of t ≡ depth_of t.value
unfolding depth_of term_depth_of
opened_term t = fold_out-Term ℕ ℕ ℕ ℕ expr_depth version_depth scalar_depth term_depth t

-- ---- bound expressions

unfoldable pub bound_version_depth_of : BoundRowVersion → ℕ
bound_version_depth_of = fold-BoundRowVersion ℕ ℕ ℕ ℕ bound_expr_depth bound_version_depth bound_scalar_depth bound_term_depth

unfoldable pub bound_scalar_depth_of : BoundScalar → ℕ
bound_scalar_depth_of = fold-BoundScalar ℕ ℕ ℕ ℕ bound_expr_depth bound_version_depth bound_scalar_depth bound_term_depth

unfoldable pub bound_term_depth_of : BoundTerm → ℕ
bound_term_depth_of = fold-BoundTerm ℕ ℕ ℕ ℕ bound_expr_depth bound_version_depth bound_scalar_depth bound_term_depth

bound_layer : (x : b.BoundExpr-F BoundExpr BoundRowVersion BoundScalar BoundTerm)
    → bound_depth_of (roll-BoundExpr x) ≡ bound_expr_depth (map-BoundExpr BoundExpr BoundRowVersion BoundScalar BoundTerm ℕ ℕ ℕ ℕ bound_depth_of bound_version_depth_of bound_scalar_depth_of bound_term_depth_of x)
unfolding bound_depth_of bound_version_depth_of bound_scalar_depth_of bound_term_depth_of
bound_layer x = fold-roll-BoundExpr ℕ ℕ ℕ ℕ bound_expr_depth bound_version_depth bound_scalar_depth bound_term_depth x

pub opened_bound_version : (v : BoundRowVersion) → bound_version_depth_of v ≡ deepest (map bound_depth_of v.values)
unfolding bound_depth_of bound_version_depth_of
opened_bound_version v = fold_out-BoundRowVersion ℕ ℕ ℕ ℕ bound_expr_depth bound_version_depth bound_scalar_depth bound_term_depth v

pub opened_bound_scalar : (s : BoundScalar) → bound_scalar_depth_of s ≡ bound_version_depth_of s.version
unfolding bound_version_depth_of bound_scalar_depth_of
opened_bound_scalar s = fold_out-BoundScalar ℕ ℕ ℕ ℕ bound_expr_depth bound_version_depth bound_scalar_depth bound_term_depth s

pub opened_bound_term : (t : BoundTerm) → bound_term_depth_of t ≡ bound_depth_of t.value
unfolding bound_depth_of bound_term_depth_of
opened_bound_term t = fold_out-BoundTerm ℕ ℕ ℕ ℕ bound_expr_depth bound_version_depth bound_scalar_depth bound_term_depth t

-- ---- each bound form

pub of_Null : bound_depth_of bound.Null ≡ 0
of_Null = ap bound_depth_of (sym bound.rolls-Null) ∙ bound_layer b.Null

pub of_Number : (n : _) → bound_depth_of (bound.Number n) ≡ 0
of_Number n = ap bound_depth_of (sym (bound.rolls-Number n)) ∙ bound_layer (b.Number n)

pub of_Text : (text : List ℕ) → bound_depth_of (bound.Text text) ≡ 0
of_Text text = ap bound_depth_of (sym (bound.rolls-Text text)) ∙ bound_layer (b.Text text)

pub of_Bytes : (bytes : List ℕ) → bound_depth_of (bound.Bytes bytes) ≡ 0
of_Bytes bytes = ap bound_depth_of (sym (bound.rolls-Bytes bytes)) ∙ bound_layer (b.Bytes bytes)

pub of_Column : (at : ℕ) → bound_depth_of (bound.Column at) ≡ 0
of_Column at = ap bound_depth_of (sym (bound.rolls-Column at)) ∙ bound_layer (b.Column at)

pub of_Variable : (at : ℕ) → bound_depth_of (bound.Variable at) ≡ 0
of_Variable at = ap bound_depth_of (sym (bound.rolls-Variable at)) ∙ bound_layer (b.Variable at)

pub of_CurrentVersion : bound_depth_of bound.CurrentVersion ≡ 0
of_CurrentVersion = ap bound_depth_of (sym bound.rolls-CurrentVersion) ∙ bound_layer b.CurrentVersion

pub of_MinValidVersion : (x : BoundExpr) → bound_depth_of (bound.MinValidVersion x) ≡ 1 + bound_depth_of x
of_MinValidVersion x = ap bound_depth_of (sym (bound.rolls-MinValidVersion x)) ∙ bound_layer (b.MinValidVersion x)

pub of_IsColumnInMask : (x y : BoundExpr) → bound_depth_of (bound.IsColumnInMask x y) ≡ 1 + max (bound_depth_of x) (bound_depth_of y)
of_IsColumnInMask x y = ap bound_depth_of (sym (bound.rolls-IsColumnInMask x y)) ∙ bound_layer (b.IsColumnInMask x y)

pub of_ObjectId : (x : BoundExpr) → bound_depth_of (bound.ObjectId x) ≡ 1 + bound_depth_of x
of_ObjectId x = ap bound_depth_of (sym (bound.rolls-ObjectId x)) ∙ bound_layer (b.ObjectId x)

pub of_ColumnProperty : (x y z : BoundExpr) → bound_depth_of (bound.ColumnProperty x y z) ≡ 1 + max (bound_depth_of x) (max (bound_depth_of y) (bound_depth_of z))
of_ColumnProperty x y z = ap bound_depth_of (sym (bound.rolls-ColumnProperty x y z)) ∙ bound_layer (b.ColumnProperty x y z)

pub of_IfNull : (x y : BoundExpr) → bound_depth_of (bound.IfNull x y) ≡ 1 + max (bound_depth_of x) (bound_depth_of y)
of_IfNull x y = ap bound_depth_of (sym (bound.rolls-IfNull x y)) ∙ bound_layer (b.IfNull x y)

pub of_Scalar : (s : BoundScalar) → bound_depth_of (bound.Scalar s) ≡ 1 + bound_version_depth_of s.version
of_Scalar s = ap bound_depth_of (sym (bound.rolls-Scalar s)) ∙ bound_layer (b.Scalar s) ∙ ap (λ n. 1 + n) (opened_bound_scalar s)

pub of_Negative : (x : BoundExpr) → bound_depth_of (bound.Negative x) ≡ 1 + bound_depth_of x
of_Negative x = ap bound_depth_of (sym (bound.rolls-Negative x)) ∙ bound_layer (b.Negative x)

pub of_Product : (xs : List BoundExpr) → bound_depth_of (bound.Product xs) ≡ 1 + deepest (map bound_depth_of xs)
of_Product xs = ap bound_depth_of (sym (bound.rolls-Product xs)) ∙ bound_layer (b.Product xs)

pub of_Sum : (x : BoundExpr) (ts : List BoundTerm) → bound_depth_of (bound.Sum x ts) ≡ 1 + max (bound_depth_of x) (deepest (map bound_term_depth_of ts))
of_Sum x ts = ap bound_depth_of (sym (bound.rolls-Sum x ts)) ∙ bound_layer (b.Sum x ts)

pub of_Compare : (operator : Comparison) (x y : BoundExpr) → bound_depth_of (bound.Compare operator x y) ≡ 1 + max (bound_depth_of x) (bound_depth_of y)
of_Compare operator x y = ap bound_depth_of (sym (bound.rolls-Compare operator x y)) ∙ bound_layer (b.Compare operator x y)

pub of_IsNull : (x : BoundExpr) → bound_depth_of (bound.IsNull x) ≡ 1 + bound_depth_of x
of_IsNull x = ap bound_depth_of (sym (bound.rolls-IsNull x)) ∙ bound_layer (b.IsNull x)

pub of_IsNotNull : (x : BoundExpr) → bound_depth_of (bound.IsNotNull x) ≡ 1 + bound_depth_of x
of_IsNotNull x = ap bound_depth_of (sym (bound.rolls-IsNotNull x)) ∙ bound_layer (b.IsNotNull x)

pub of_Not : (x : BoundExpr) → bound_depth_of (bound.Not x) ≡ 1 + bound_depth_of x
of_Not x = ap bound_depth_of (sym (bound.rolls-Not x)) ∙ bound_layer (b.Not x)

pub of_And : (xs : List BoundExpr) → bound_depth_of (bound.And xs) ≡ 1 + deepest (map bound_depth_of xs)
of_And xs = ap bound_depth_of (sym (bound.rolls-And xs)) ∙ bound_layer (b.And xs)

pub of_Or : (xs : List BoundExpr) → bound_depth_of (bound.Or xs) ≡ 1 + deepest (map bound_depth_of xs)
of_Or xs = ap bound_depth_of (sym (bound.rolls-Or xs)) ∙ bound_layer (b.Or xs)
