-- The text literals that are written in an expression, from left to right. Each rule tells those of a form by those of its parts,
-- which stand in their places. This project's own.
use Rattle.std.specs.Prelude.{ℕ, List, [], ◌∷◌, ◌++◌}
use Rattle.std.specs.List.{AllByRecursion, flat_map}
use Rattle.std.specs.Option.{option_to_list}
use Rattle.std.specs.Str.{IsUtf8}
use Rattle.ct_types.specs.declared.expr.Expr.{Expr}
use Rattle.ct_types.specs.declared.expr.Expr.TheOpen as e
use Rattle.ct_types.specs.declared.expr.Expr.TheOpen.{Expr-F, RowVersion-F, Scalar-F, Term-F}
use Rattle.ct_types.specs.declared.expr.Expr.TheFolds.{fold-Expr}
use Rattle.ct_types.specs.declared.stmt.Stmt.{Stmt}
use Rattle.ct_types.specs.declared.stmt.Stmt.TheVariants as stmt
use Rattle.ct_types.specs.declared.stmt.WriteStmt.{WriteStmt}
use Rattle.ct_types.specs.declared.stmt.WriteStmt.TheVariants as write

abbrev pub Texts : Type 0
Texts = List (List ℕ)

abbrev pub joined : List Texts → Texts
joined parts = flat_map (λ part. part) parts

abbrev pub expr_texts : Expr-F Texts Texts Texts Texts → Texts
expr_texts e.Null = []
expr_texts (e.Number digits) = []
expr_texts (e.Text text) = text ∷ []
expr_texts (e.Bytes bytes) = []
expr_texts (e.Variable name) = []
expr_texts (e.Column name) = []
expr_texts e.CurrentVersion = []
expr_texts (e.MinValidVersion table) = table
expr_texts (e.IsColumnInMask column mask) = column ++ mask
expr_texts (e.ObjectId name) = name
expr_texts (e.ColumnProperty table column property) = table ++ column ++ property
expr_texts (e.IfNull value instead) = value ++ instead
expr_texts (e.Scalar scalar) = scalar
expr_texts (e.Negative value) = value
expr_texts (e.Product factors) = joined factors
expr_texts (e.Sum first more) = first ++ joined more
expr_texts (e.Compare operator left right) = left ++ right
expr_texts (e.IsNull value) = value
expr_texts (e.IsNotNull value) = value
expr_texts (e.Not value) = value
expr_texts (e.And operands) = joined operands
expr_texts (e.Or operands) = joined operands

abbrev pub version_texts : {B C D : Type 0} → RowVersion-F Texts B C D → Texts
version_texts version = joined version.values

abbrev pub scalar_texts : {A C D : Type 0} → Scalar-F A Texts C D → Texts
scalar_texts scalar = scalar.version

abbrev pub term_texts : {B C D : Type 0} → Term-F Texts B C D → Texts
term_texts term = term.value

-- those of an expression
unfoldable pub texts_of : Expr → Texts
texts_of = fold-Expr Texts Texts Texts Texts expr_texts version_texts scalar_texts term_texts

-- each of them is a text of code points
abbrev pub IsOfCodePoints : Expr → Type 0
IsOfCodePoints expr = AllByRecursion IsUtf8 (texts_of expr)

abbrev pub AreOfCodePoints : List Expr → Type 0
AreOfCodePoints exprs = AllByRecursion IsOfCodePoints exprs

-- so are those of the values that a statement writes, or gives a variable
abbrev pub WritesCodePoints : WriteStmt → Type 0
WritesCodePoints (write.Insert table columns tuples) = AllByRecursion AreOfCodePoints tuples
WritesCodePoints (write.Update table sets from filter) = AllByRecursion (λ set. IsOfCodePoints set.value) sets
WritesCodePoints (write.Delete table filter) = Unit {0}

abbrev pub GivesCodePoints : Stmt → Type 0
GivesCodePoints (stmt.Write context write) = WritesCodePoints write
GivesCodePoints (stmt.SetVariable variable value) = IsOfCodePoints value
GivesCodePoints (stmt.Declare variable kind value) = AreOfCodePoints (option_to_list value)
GivesCodePoints other = Unit {0}
