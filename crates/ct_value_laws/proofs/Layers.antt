-- The text literals of an expression by those of its parts.
use Rattle.std.proofs.Common.{◌≡◌, map}
use Rattle.ct_types.specs.declared.expr.Expr.{Expr, roll-Expr, map-Expr}
use Rattle.ct_types.specs.declared.expr.Expr.TheOpen as e
use Rattle.ct_types.specs.declared.expr.Expr.TheFolds.{fold-RowVersion, fold-Scalar, fold-Term, fold-roll-Expr, fold_out-RowVersion, fold_out-Scalar, fold_out-Term}
use Rattle.ct_types.specs.declared.expr.RowVersion.{RowVersion}
use Rattle.ct_types.specs.declared.expr.Scalar.{Scalar}
use Rattle.ct_types.specs.declared.expr.Term.{Term}
use Rattle.ct_value_laws.specs.Texts.{Texts, joined, expr_texts, version_texts, scalar_texts, term_texts, texts_of}

unfoldable pub version_texts_of : RowVersion → Texts
version_texts_of = fold-RowVersion Texts Texts Texts Texts expr_texts version_texts scalar_texts term_texts

unfoldable pub scalar_texts_of : Scalar → Texts
scalar_texts_of = fold-Scalar Texts Texts Texts Texts expr_texts version_texts scalar_texts term_texts

unfoldable pub term_texts_of : Term → Texts
term_texts_of = fold-Term Texts Texts Texts Texts expr_texts version_texts scalar_texts term_texts

-- of a form whose parts stand in their places
abbrev pub texts_at : e.Expr-F Expr RowVersion Scalar Term → Texts
texts_at x = expr_texts (map-Expr Expr RowVersion Scalar Term Texts Texts Texts Texts texts_of version_texts_of scalar_texts_of term_texts_of x)

pub layer : (x : e.Expr-F Expr RowVersion Scalar Term) → texts_of (roll-Expr x) ≡ texts_at x
unfolding texts_of version_texts_of scalar_texts_of term_texts_of
layer x = fold-roll-Expr Texts Texts Texts Texts expr_texts version_texts scalar_texts term_texts x

pub opened_version : (v : RowVersion) → version_texts_of v ≡ joined (map texts_of v.values)
unfolding texts_of version_texts_of
opened_version v = fold_out-RowVersion Texts Texts Texts Texts expr_texts version_texts scalar_texts term_texts v

pub opened_scalar : (s : Scalar) → scalar_texts_of s ≡ version_texts_of s.version
unfolding version_texts_of scalar_texts_of
opened_scalar s = fold_out-Scalar Texts Texts Texts Texts expr_texts version_texts scalar_texts term_texts s

pub opened_term : (t : Term) → term_texts_of t ≡ texts_of t.value
unfolding texts_of term_texts_of
opened_term t = fold_out-Term Texts Texts Texts Texts expr_texts version_texts scalar_texts term_texts t
