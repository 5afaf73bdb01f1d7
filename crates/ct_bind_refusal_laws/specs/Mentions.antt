-- What a statement mentions: the tables and the variables that are to be there for it, the numbers of its expressions, and how long its
-- tuples of values are. The name that CREATE TABLE or DECLARE gives is new, and no mention.
use Rattle.std.specs.Prelude.{ℕ, List, [], ◌∷◌, ◌++◌, length, flat_map, Option, Some, None}
use Rattle.std.specs.Option.{option_map}
use Rattle.ct_types.specs.declared.expr.Expr.{Expr}
use Rattle.ct_types.specs.declared.expr.Expr.TheOpen as e
use Rattle.ct_types.specs.declared.expr.Expr.TheOpen.{Expr-F, RowVersion-F, Scalar-F, Term-F}
use Rattle.ct_types.specs.declared.expr.Expr.TheFolds.{fold-Expr, fold-RowVersion, fold-Scalar, fold-Term}
use Rattle.ct_types.specs.declared.expr.ObjectName.{ObjectName}
use Rattle.ct_types.specs.declared.expr.RowVersion.{RowVersion}
use Rattle.ct_types.specs.declared.expr.Scalar.{Scalar}
use Rattle.ct_types.specs.declared.expr.Term.{Term}
use Rattle.ct_types.specs.declared.stmt.FromClause.{FromClause}
use Rattle.ct_types.specs.declared.stmt.JoinClause.{JoinClause}
use Rattle.ct_types.specs.declared.stmt.JoinClause.TheVariants as clause
use Rattle.ct_types.specs.declared.stmt.Select.{Select}
use Rattle.ct_types.specs.declared.stmt.SelectItem.{SelectItem}
use Rattle.ct_types.specs.declared.stmt.SelectItem.TheVariants as wanted
use Rattle.ct_types.specs.declared.stmt.Source.{Source}
use Rattle.ct_types.specs.declared.stmt.Source.TheVariants as source
use Rattle.ct_types.specs.declared.stmt.Stmt.{Stmt}
use Rattle.ct_types.specs.declared.stmt.Stmt.TheVariants as stmt
use Rattle.ct_types.specs.declared.stmt.TableSource.{TableSource}
use Rattle.ct_types.specs.declared.stmt.WriteStmt.{WriteStmt}
use Rattle.ct_types.specs.declared.stmt.WriteStmt.TheVariants as write
use Rattle.ct_bind_names.specs.Names.{table_name}

-- A table that is written to, truncated, enabled or named in the FROM of an UPDATE; one that CHANGETABLE or DISABLE names; one that stands by
-- its name in the FROM of a SELECT; a variable; a number of these digits; a tuple of so many values, for a list of so many columns where one
-- is written.
pub data Mention : Type 0 where
  OfTable OfTracked OfSource OfVariable OfNumber : List ℕ → Mention
  OfTuple : Option ℕ → ℕ → Mention

-- a table by its name as it is written
abbrev pub of_table : ObjectName → Mention
of_table name = OfTable (table_name name)

-- a table that is to be tracked
abbrev pub of_tracked : ObjectName → Mention
of_tracked name = OfTracked (table_name name)

-- those of all parts
abbrev pub of_each : List (List Mention) → List Mention
of_each parts = flat_map (λ part. part) parts

-- ---- expressions, by what their parts mention

abbrev pub of_expr : Expr-F (List Mention) (List Mention) (List Mention) (List Mention) → List Mention
of_expr (e.Number digits) = OfNumber digits ∷ []
of_expr (e.Variable name) = OfVariable name ∷ []
of_expr (e.MinValidVersion table) = table
of_expr (e.IsColumnInMask column mask) = column ++ mask
of_expr (e.ObjectId name) = name
of_expr (e.ColumnProperty table column name) = (table ++ column) ++ name
of_expr (e.IfNull value instead) = value ++ instead
of_expr (e.Scalar scalar) = scalar
of_expr (e.Negative value) = value
of_expr (e.Product factors) = of_each factors
of_expr (e.Sum first more) = first ++ of_each more
of_expr (e.Compare operator left right) = left ++ right
of_expr (e.IsNull value) = value
of_expr (e.IsNotNull value) = value
of_expr (e.Not value) = value
of_expr (e.And operands) = of_each operands
of_expr (e.Or operands) = of_each operands
of_expr _ = []

-- the table, the tuple and the values of CHANGETABLE(VERSION ..)
abbrev pub of_version : {B C D : Type 0} → RowVersion-F (List Mention) B C D → List Mention
of_version version = of_tracked version.table ∷ OfTuple (Some (length version.columns)) (length version.values) ∷ of_each version.values

abbrev pub of_scalar : {A C D : Type 0} → Scalar-F A (List Mention) C D → List Mention
of_scalar scalar = scalar.version

abbrev pub of_term : {B C D : Type 0} → Term-F (List Mention) B C D → List Mention
of_term term = term.value

-- what an expression mentions
unfoldable pub mentions : Expr → List Mention
mentions = fold-Expr (List Mention) (List Mention) (List Mention) (List Mention) of_expr of_version of_scalar of_term

-- and what its parts do
unfoldable pub version_mentions : RowVersion → List Mention
version_mentions = fold-RowVersion (List Mention) (List Mention) (List Mention) (List Mention) of_expr of_version of_scalar of_term

unfoldable pub scalar_mentions : Scalar → List Mention
scalar_mentions = fold-Scalar (List Mention) (List Mention) (List Mention) (List Mention) of_expr of_version of_scalar of_term

unfoldable pub term_mentions : Term → List Mention
term_mentions = fold-Term (List Mention) (List Mention) (List Mention) (List Mention) of_expr of_version of_scalar of_term

abbrev pub of_values : List Expr → List Mention
of_values values = flat_map mentions values

abbrev pub of_optional : Option Expr → List Mention
of_optional None = []
of_optional (Some value) = mentions value

-- ---- statements

-- a tuple of values, for a list of so many columns
abbrev pub of_tuple : Option ℕ → List Expr → List Mention
of_tuple columns values = OfTuple columns (length values) ∷ of_values values

abbrev pub of_source : Source → List Mention
of_source (source.Table from) = OfSource (table_name from.table) ∷ []
of_source (source.Changes name since alias) = of_tracked name ∷ mentions since
of_source (source.Version from) = version_mentions from.version

abbrev pub of_join : Option JoinClause → List Mention
of_join None = []
of_join (Some (clause.On kind other on)) = of_source other ++ mentions on
of_join (Some (clause.Apply other)) = version_mentions other.version

abbrev pub of_from : Option FromClause → List Mention
of_from None = []
of_from (Some from) = of_source from.source ++ of_join from.join

abbrev pub of_item : SelectItem → List Mention
of_item (wanted.One value alias) = mentions value
of_item _ = []

abbrev pub of_select : Select → List Mention
of_select query = of_from query.from ++ (flat_map of_item query.items ++ (of_optional query.condition ++ flat_map (λ it. mentions it.value) query.order))

-- the FROM of an UPDATE
abbrev pub of_updated : Option TableSource → List Mention
of_updated None = []
of_updated (Some from) = of_table from.table ∷ []

abbrev pub of_write : WriteStmt → List Mention
of_write (write.Insert name columns tuples) = of_table name ∷ flat_map (of_tuple (option_map length columns)) tuples
of_write (write.Update name sets from filter) = of_table name ∷ (of_updated from ++ (flat_map (λ set. mentions set.value) sets ++ of_optional filter))
of_write (write.Delete name filter) = of_table name ∷ of_optional filter

-- what a statement mentions
abbrev pub of_statement : Stmt → List Mention
of_statement (stmt.EnableTracking name masks) = of_table name ∷ []
of_statement (stmt.DisableTracking name) = of_tracked name ∷ []
of_statement (stmt.TruncateTable name) = of_table name ∷ []
of_statement (stmt.Write context write) = of_optional context ++ of_write write
of_statement (stmt.Select query) = of_select query
of_statement (stmt.SetVariable name value) = OfVariable name ∷ mentions value
of_statement (stmt.Declare name kind value) = of_optional value
of_statement _ = []
