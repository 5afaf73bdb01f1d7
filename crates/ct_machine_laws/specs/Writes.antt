-- The laws that what a write statement comes to suits its table, and SET and DECLARE their variable: columns of the table are set, and
-- to values of their kinds. This project's own.
use Rattle.std.specs.Prelude.{◌≡◌, ℕ, List, map, Option, Some, Ok}
use Rattle.ct_types.specs.declared.bound.Bound.TheVariants.{Declare, SetVariable, Write}
use Rattle.ct_types.specs.declared.bound.BoundExpr.{BoundExpr}
use Rattle.ct_types.specs.declared.bound.BoundWrite.{BoundWrite}
use Rattle.ct_types.specs.declared.entry.Keep.{Keep}
use Rattle.ct_types.specs.declared.expr.Expr.{Expr}
use Rattle.ct_types.specs.declared.schema.ColType.{ColType}
use Rattle.ct_types.specs.declared.stmt.Stmt.TheVariants as stmt
use Rattle.ct_types.specs.declared.stmt.TypeName.{TypeName}
use Rattle.ct_types.specs.declared.stmt.WriteStmt.{WriteStmt}
use Rattle.ct_types.specs.declared.value.Value.{Value}
use Rattle.ct_model.specs.declared.db.Table.{Table}
use Rattle.ct_model.specs.Tables.{catalogued, table_of}
use Rattle.ct_model.specs.Valid.{IsValid}
use Rattle.ct_bind.specs.Binding.{binding}
use Rattle.ct_bind_kind_laws.specs.Laws.{SetsSome}
use Rattle.ct_bind_kinds.specs.Kinds.{kind_of_type, AreOfTheirTypes, IsOfKind}
use Rattle.ct_expr.specs.Meaning.{on, value}
use Rattle.ct_session.specs.SetDeclare.{with_value}
use Rattle.ct_write.specs.Laws.{IsOfTable, IsOfKinds}
use Rattle.ct_write.specs.Rows.{no_row}
use Rattle.ct_machine.specs.Reads.{world_of}
use Rattle.ct_state.specs.Seen.{Seen}

-- In the catalogue of a valid database, among variables of the kinds of their types, the SET list of a bound write names columns of
-- its table, one at least and none of the key, and each value that is put into a column is of the column's kind.
abbrev pub WritesSuitTheirTable : Type 0
WritesSuitTheirTable =
    (seen : Seen) (keep : Option Keep) (context : Option Expr) (write : WriteStmt) (bound : BoundWrite) (table : Table)
    → IsValid seen.db → AreOfTheirTypes seen.variables → SetsSome write
    → binding (map catalogued seen.db.tables) keep seen.variables (stmt.Write context write) ≡ Ok (Write bound)
    → table_of seen.db.tables bound.table ≡ Some table
    → IsOfTable table.schema bound.change × IsOfKinds (world_of seen) table.schema table.rows bound.change

-- In the same way SET gives the variable that it names a value of the variable's kind, where it comes to a value at all.
abbrev pub SetsSuitTheirVariable : Type 0
SetsSuitTheirVariable =
    (seen : Seen) (keep : Option Keep) (name : List ℕ) (expr : Expr) (place : ℕ) (bound : BoundExpr) (v : Value)
    → IsValid seen.db → AreOfTheirTypes seen.variables
    → binding (map catalogued seen.db.tables) keep seen.variables (stmt.SetVariable name expr) ≡ Ok (SetVariable place bound)
    → value (on (world_of seen) no_row) bound ≡ Ok v
    → AreOfTheirTypes (with_value seen.variables name v)

-- And so does DECLARE.
abbrev pub DeclaresSuitTheirVariable : Type 0
DeclaresSuitTheirVariable =
    (seen : Seen) (keep : Option Keep) (name written : List ℕ) (type : TypeName) (expr : Option Expr) (kind : ColType) (bound : BoundExpr) (v : Value)
    → IsValid seen.db → AreOfTheirTypes seen.variables
    → binding (map catalogued seen.db.tables) keep seen.variables (stmt.Declare name type expr) ≡ Ok (Declare written kind (Some bound))
    → value (on (world_of seen) no_row) bound ≡ Ok v
    → IsOfKind (kind_of_type kind) v
