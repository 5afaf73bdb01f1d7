-- The expressions that stand in a statement, and how deep it is: as deep as the deepest of them. This project's own.
use Rattle.std.specs.Prelude.{ℕ, List, [], ◌∷◌, ◌++◌, map, Option, Some, None}
use Rattle.std.specs.List.{flat_map}
use Rattle.std.specs.Option.{option_to_list}
use Rattle.ct_types.specs.declared.bound.Bound.{Bound}
use Rattle.ct_types.specs.declared.bound.Bound.TheVariants as bound
use Rattle.ct_types.specs.declared.bound.BoundExpr.{BoundExpr}
use Rattle.ct_types.specs.declared.bound.BoundSelect.{BoundSelect}
use Rattle.ct_types.specs.declared.bound.BoundSource.{BoundSource}
use Rattle.ct_types.specs.declared.bound.BoundSource.TheVariants as bound_source
use Rattle.ct_types.specs.declared.bound.Plan.{Plan}
use Rattle.ct_types.specs.declared.bound.RowChange.{RowChange}
use Rattle.ct_types.specs.declared.bound.RowChange.TheVariants as change
use Rattle.ct_types.specs.declared.expr.Expr.{Expr}
use Rattle.ct_types.specs.declared.stmt.FromClause.{FromClause}
use Rattle.ct_types.specs.declared.stmt.JoinClause.{JoinClause}
use Rattle.ct_types.specs.declared.stmt.JoinClause.TheVariants as join
use Rattle.ct_types.specs.declared.stmt.Select.{Select}
use Rattle.ct_types.specs.declared.stmt.SelectItem.{SelectItem}
use Rattle.ct_types.specs.declared.stmt.SelectItem.TheVariants as item
use Rattle.ct_types.specs.declared.stmt.Source.{Source}
use Rattle.ct_types.specs.declared.stmt.Source.TheVariants as source
use Rattle.ct_types.specs.declared.stmt.Stmt.{Stmt}
use Rattle.ct_types.specs.declared.stmt.Stmt.TheVariants as stmt
use Rattle.ct_types.specs.declared.stmt.WriteStmt.{WriteStmt}
use Rattle.ct_types.specs.declared.stmt.WriteStmt.TheVariants as write
use Rattle.ct_bind_depth_laws.specs.Depth.{deepest, depth_of, bound_depth_of}

-- those of what is given, and none where nothing is
abbrev pub if_given : {A B : Type 0} → (A → List B) → Option A → List B
if_given parts None = []
if_given parts (Some a) = parts a

-- ---- as they are written

abbrev pub item_expressions : SelectItem → List Expr
item_expressions item.All = []
item_expressions (item.AllOf name) = []
item_expressions (item.One value alias) = value ∷ []

-- the second argument of CHANGETABLE(CHANGES ..), and the values of CHANGETABLE(VERSION ..)
abbrev pub source_expressions : Source → List Expr
source_expressions (source.Table from) = []
source_expressions (source.Changes table since alias) = since ∷ []
source_expressions (source.Version from) = from.version.values

abbrev pub join_expressions : JoinClause → List Expr
join_expressions (join.On kind other condition) = source_expressions other ++ condition ∷ []
join_expressions (join.Apply other) = other.version.values

abbrev pub from_expressions : FromClause → List Expr
from_expressions from = source_expressions from.source ++ if_given join_expressions from.join

abbrev pub select_expressions : Select → List Expr
select_expressions it =
    if_given from_expressions it.from ++ flat_map item_expressions it.items ++ option_to_list it.condition ++ map (λ order. order.value) it.order

abbrev pub write_expressions : WriteStmt → List Expr
write_expressions (write.Insert table columns tuples) = flat_map (λ tuple. tuple) tuples
write_expressions (write.Update table sets from filter) = map (λ set. set.value) sets ++ option_to_list filter
write_expressions (write.Delete table filter) = option_to_list filter

-- the expressions of a statement; a form that is not told here has none
abbrev pub expressions : Stmt → List Expr
expressions (stmt.Write context write) = option_to_list context ++ write_expressions write
expressions (stmt.Select query) = select_expressions query
expressions (stmt.SetVariable variable value) = value ∷ []
expressions (stmt.Declare variable kind value) = option_to_list value
expressions statement = []

-- how deep a statement is
unfoldable pub statement_depth : Stmt → ℕ
statement_depth statement = deepest (map depth_of (expressions statement))

-- ---- bound

abbrev pub bound_source_expressions : BoundSource → List BoundExpr
bound_source_expressions (bound_source.Table id) = []
bound_source_expressions (bound_source.Changes table since) = since ∷ []
bound_source_expressions (bound_source.Version version) = version.values
bound_source_expressions bound_source.CommitTable = []
bound_source_expressions bound_source.TrackingTables = []

abbrev pub plan_expressions : Plan → List BoundExpr
plan_expressions plan = plan.items ++ option_to_list plan.on ++ option_to_list plan.filter ++ map (λ order. order.expr) plan.order

abbrev pub bound_select_expressions : BoundSelect → List BoundExpr
bound_select_expressions it = if_given bound_source_expressions it.left ++ if_given bound_source_expressions it.right ++ plan_expressions it.plan

abbrev pub change_expressions : RowChange → List BoundExpr
change_expressions (change.Insert columns tuples) = flat_map (λ tuple. tuple) tuples
change_expressions (change.Update sets filter) = map (λ set. set.value) sets ++ option_to_list filter
change_expressions (change.Delete filter) = option_to_list filter

-- the expressions of a bound statement; a form that is not told here has none
abbrev pub bound_expressions : Bound → List BoundExpr
bound_expressions (bound.Write write) = option_to_list write.context ++ change_expressions write.change
bound_expressions (bound.Select query) = bound_select_expressions query
bound_expressions (bound.SetVariable variable value) = value ∷ []
bound_expressions (bound.Declare variable kind value) = option_to_list value
bound_expressions statement = []

-- how deep a bound statement is
unfoldable pub bound_statement_depth : Bound → ℕ
bound_statement_depth statement = deepest (map bound_depth_of (bound_expressions statement))
