-- The laws that expressions come to representable values, and that the rows which a write comes to fit their table.
use Rattle.std.specs.Prelude.{◌≡◌, List, Option, Ok}
use Rattle.std.specs.List.{AllByRecursion}
use Rattle.ct_types.specs.declared.bound.BoundWrite.{BoundWrite}
use Rattle.ct_types.specs.declared.catalogue.Catalogued.{Catalogued}
use Rattle.ct_types.specs.declared.catalogue.Variable.{Variable}
use Rattle.ct_types.specs.declared.entry.Write.{Write}
use Rattle.ct_types.specs.declared.expr.Expr.{Expr}
use Rattle.ct_types.specs.declared.stmt.WriteStmt.{WriteStmt}
use Rattle.ct_types.specs.declared.value.Value.{Value}
use Rattle.ct_model.specs.declared.db.Table.{Table}
use Rattle.ct_model.specs.Tables.{catalogued}
use Rattle.ct_expr.specs.Meaning.{Scene, World, value}
use Rattle.ct_bind_expr.specs.declared.place.Typed.{Typed}
use Rattle.ct_bind_expr.specs.declared.place.Place.{Place}
use Rattle.ct_bind_expr.specs.Walk.{walk}
use Rattle.ct_bind.specs.Writes.{write_of}
use Rattle.ct_write.specs.Fitting.{IsFit}
use Rattle.ct_write.specs.Writes.{writes_of}
use Rattle.ct_value_laws.specs.Values.{IsRepresentable, AreRepresentable, HaveRepresentable, HoldRepresentable}
use Rattle.ct_value_laws.specs.Texts.{IsOfCodePoints, WritesCodePoints}

-- What an expression is bound to comes to a representable value, where its text literals are texts of code points, and where the row and
-- the variables have such values: arithmetic refuses what leaves 64 bits.
abbrev pub WalkedAreRepresentable : Type 0
WalkedAreRepresentable = (tables : List Catalogued) (variables : List Variable) (place : Place) (expr : Expr) (it : Typed) (scene : Scene) (v : Value)
    → IsOfCodePoints expr → AreRepresentable scene.row.0 → HoldRepresentable scene.env.variables.0
    → walk tables variables expr place ≡ Ok it → value scene it.expr ≡ Ok v → IsRepresentable v

-- So the rows that a write comes to fit the columns of the table.
abbrev pub BoundWritesFit : Type 0
BoundWritesFit = (tables : List Catalogued) (variables : List Variable) (w : World) (table : Table) (given : WriteStmt) (context : Option Expr) (bound : BoundWrite) (writes : List Write)
    → WritesCodePoints given → HaveRepresentable table.rows → HoldRepresentable w.env.variables.0
    → write_of tables variables context given ≡ Ok bound → writes_of w (catalogued table) bound table.rows ≡ Ok writes
    → AllByRecursion (λ one. IsFit table.schema.columns one.row) writes
