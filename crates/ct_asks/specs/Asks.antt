-- Whether a CHANGETABLE(VERSION ..) stands in a statement, as a source or in a SELECT in brackets. This project's own.
use Rattle.std.specs.Prelude.{Bool, true, false, ◌||◌, List, Option, None, Some}
use Rattle.std.specs.List.{list_any}
use Rattle.ct_types.specs.declared.command.Command.{Command}
use Rattle.ct_types.specs.declared.command.Command.TheVariants.{Sql}
use Rattle.ct_types.specs.declared.expr.Expr.{Expr}
use Rattle.ct_types.specs.declared.expr.Expr.TheOpen as e
use Rattle.ct_types.specs.declared.expr.Expr.TheOpen.{Expr-F, RowVersion-F, Scalar-F, Term-F}
use Rattle.ct_types.specs.declared.expr.Expr.TheFolds.{fold-Expr}
use Rattle.ct_types.specs.declared.expr.Term.{Term}
use Rattle.ct_types.specs.declared.stmt.FromClause.{FromClause}
use Rattle.ct_types.specs.declared.stmt.JoinClause.{JoinClause}
use Rattle.ct_types.specs.declared.stmt.JoinClause.TheVariants as clause
use Rattle.ct_types.specs.declared.stmt.Select.{Select}
use Rattle.ct_types.specs.declared.stmt.SelectItem.{SelectItem}
use Rattle.ct_types.specs.declared.stmt.SelectItem.TheVariants as wanted
use Rattle.ct_types.specs.declared.stmt.Source.{Source}
use Rattle.ct_types.specs.declared.stmt.Source.TheVariants as source
use Rattle.ct_types.specs.declared.stmt.Stmt.{Stmt}
use Rattle.ct_types.specs.declared.stmt.Stmt.TheVariants as stmt
use Rattle.ct_types.specs.declared.stmt.WriteStmt.{WriteStmt}
use Rattle.ct_types.specs.declared.stmt.WriteStmt.TheVariants as write

-- one of these
abbrev pub some : List Bool → Bool
some = list_any (λ it. it)

-- ---- expressions: a SELECT in brackets is of one, and any other form has one where a part of it has

abbrev pub of_expr : Expr-F Bool Bool Bool Bool → Bool
of_expr (e.Scalar scalar) = true
of_expr (e.MinValidVersion table) = table
of_expr (e.IsColumnInMask column mask) = column || mask
of_expr (e.ObjectId name) = name
of_expr (e.ColumnProperty table column name) = table || (column || name)
of_expr (e.IfNull value instead) = value || instead
of_expr (e.Negative value) = value
of_expr (e.Product factors) = some factors
of_expr (e.Sum first more) = first || some more
of_expr (e.Compare operator left right) = left || right
of_expr (e.IsNull value) = value
of_expr (e.IsNotNull value) = value
of_expr (e.Not value) = value
of_expr (e.And operands) = some operands
of_expr (e.Or operands) = some operands
of_expr _ = false

abbrev pub of_version : {A B C D : Type 0} → RowVersion-F A B C D → Bool
of_version version = true

abbrev pub of_scalar : {A B C D : Type 0} → Scalar-F A B C D → Bool
of_scalar scalar = true

abbrev pub of_term : {B C D : Type 0} → Term-F Bool B C D → Bool
of_term term = term.value

-- whether one stands in an expression
unfoldable pub asks : Expr → Bool
asks = fold-Expr Bool Bool Bool Bool of_expr of_version of_scalar of_term

abbrev pub term_asks : Term → Bool
term_asks term = asks term.value

abbrev pub optional_asks : Option Expr → Bool
optional_asks None = false
optional_asks (Some value) = asks value

-- ---- statements

abbrev pub source_asks : Source → Bool
source_asks (source.Table from) = false
source_asks (source.Changes name since alias) = asks since
source_asks (source.Version from) = true

abbrev pub join_asks : Option JoinClause → Bool
join_asks None = false
join_asks (Some (clause.On kind other on)) = source_asks other || asks on
join_asks (Some (clause.Apply other)) = true

abbrev pub from_asks : Option FromClause → Bool
from_asks None = false
from_asks (Some from) = source_asks from.source || join_asks from.join

abbrev pub item_asks : SelectItem → Bool
item_asks (wanted.One value alias) = asks value
item_asks _ = false

abbrev pub select_asks : Select → Bool
select_asks query = from_asks query.from || (list_any item_asks query.items || (optional_asks query.condition || list_any (λ it. asks it.value) query.order))

abbrev pub write_asks : WriteStmt → Bool
write_asks (write.Insert name columns tuples) = list_any (list_any asks) tuples
write_asks (write.Update name sets from condition) = list_any (λ set. asks set.value) sets || optional_asks condition
write_asks (write.Delete name condition) = optional_asks condition

abbrev pub statement_asks : Stmt → Bool
statement_asks (stmt.Write context write) = optional_asks context || write_asks write
statement_asks (stmt.Select query) = select_asks query
statement_asks (stmt.SetVariable name value) = asks value
statement_asks (stmt.Declare name kind value) = optional_asks value
statement_asks _ = false

-- whether one stands in a sentence; what is none has none
abbrev pub asks_versions : Command → Bool
asks_versions (Sql statement) = statement_asks statement
asks_versions _ = false
