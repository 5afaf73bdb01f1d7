-- The laws that binding makes nothing deeper.
use Rattle.std.specs.Prelude.{◌≡◌, ◌≤◌, List, Option, Ok}
use Rattle.ct_types.specs.declared.bound.Bound.{Bound}
use Rattle.ct_types.specs.declared.catalogue.Catalogued.{Catalogued}
use Rattle.ct_types.specs.declared.catalogue.Variable.{Variable}
use Rattle.ct_types.specs.declared.entry.Keep.{Keep}
use Rattle.ct_types.specs.declared.expr.Expr.{Expr}
use Rattle.ct_types.specs.declared.stmt.Stmt.{Stmt}
use Rattle.ct_bind_expr.specs.declared.place.Typed.{Typed}
use Rattle.ct_bind_expr.specs.declared.place.Place.{Place}
use Rattle.ct_bind_expr.specs.Walk.{walk}
use Rattle.ct_bind.specs.Binding.{binding}
use Rattle.ct_bind_depth_laws.specs.Depth.{depth_of, bound_depth_of}
use Rattle.ct_bind_depth_laws.specs.Statements.{statement_depth, bound_statement_depth}

-- what an expression comes to is at most as deep as the expression
abbrev pub WalkedAreNoDeeper : Type 0
WalkedAreNoDeeper = (tables : List Catalogued) (variables : List Variable) (place : Place) (e : Expr) (it : Typed)
    → walk tables variables e place ≡ Ok it → bound_depth_of it.expr ≤ depth_of e

-- a bound statement is at most as deep as the statement
abbrev pub BoundAreNoDeeper : Type 0
BoundAreNoDeeper = (tables : List Catalogued) (keep : Option Keep) (variables : List Variable) (statement : Stmt) (bound : Bound)
    → binding tables keep variables statement ≡ Ok bound → bound_statement_depth bound ≤ statement_depth statement
