-- The laws of the causes of NoColumn, Ambiguous and TypeClash, at an expression and in a statement.
use Rattle.std.specs.Prelude.{◌≡◌, List, Option, Err}
use Rattle.ct_types.specs.declared.catalogue.Catalogued.{Catalogued}
use Rattle.ct_types.specs.declared.catalogue.Variable.{Variable}
use Rattle.ct_types.specs.declared.entry.Keep.{Keep}
use Rattle.ct_types.specs.declared.expr.Expr.{Expr}
use Rattle.ct_types.specs.declared.refusal.Refusal.{Refusal}
use Rattle.ct_types.specs.declared.stmt.Stmt.{Stmt}
use Rattle.ct_bind.specs.Binding.{binding}
use Rattle.ct_bind_expr.specs.declared.place.Place.{Place}
use Rattle.ct_bind_expr.specs.Walk.{walk}
use Rattle.ct_bind_place_laws.specs.Causes.{HasCause}
use Rattle.ct_bind_place_laws.specs.Statements.{IsOfPlaces, StatementRefuses}

-- where an expression is refused at a place, a part of it has the cause
abbrev pub ExpressionsHaveCauses : Type 0
ExpressionsHaveCauses =
    (tables : List Catalogued) (variables : List Variable) (place : Place) (x : Expr) (refusal : Refusal)
    → walk tables variables x place ≡ Err refusal → HasCause tables variables place x refusal

-- where a statement is refused one of these three, it has the cause
abbrev pub StatementsHaveCauses : Type 0
StatementsHaveCauses =
    (tables : List Catalogued) (keep : Option Keep) (variables : List Variable) (statement : Stmt) (refusal : Refusal)
    → binding tables keep variables statement ≡ Err refusal → IsOfPlaces refusal → StatementRefuses tables variables statement refusal
