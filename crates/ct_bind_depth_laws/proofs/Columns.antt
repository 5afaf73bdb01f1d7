-- A name comes to what has no operands: a column of a row, or a variable.
use Rattle.std.proofs.Common.{◌≡◌, ℕ, ◌≤◌, Bool, true, false, List, [], ◌∷◌, if◌then◌else◌, Option, Some, None, arith}
use Rattle.ct_types.specs.declared.bound.BoundExpr.TheVariants as bound
use Rattle.ct_types.specs.declared.catalogue.Catalogued.{Catalogued}
use Rattle.ct_types.specs.declared.catalogue.Variable.{Variable}
use Rattle.ct_types.specs.declared.expr.ColumnName.{ColumnName}
use Rattle.ct_types.specs.declared.refusal.Refusal.TheVariants.{NoColumn, Ambiguous, TypeClash}
use Rattle.ct_bind_kinds.specs.Kinds.{kind_of_type}
use Rattle.ct_types.specs.Answers.{Answer}
use Rattle.ct_bind_names.specs.Numbers.{literal}
use Rattle.ct_bind_names.specs.Catalogue.{declared_variable}
use Rattle.ct_bind_expr.specs.declared.place.Typed.{Typed}
use Rattle.ct_bind_expr.specs.declared.place.Output.{Output}
use Rattle.ct_bind_expr.specs.declared.place.Spot.{Spot}
use Rattle.ct_bind_expr.specs.declared.place.Place.{Place}
use Rattle.ct_bind_expr.specs.Places.{typed, column_at, named_in, named_of, only, output_at, plain_by, plain_column, column_of_source, column_in, column}
use Rattle.ct_bind_expr.specs.Walk as spec
use Rattle.ct_types.proofs.AnswersKept.{ok_kept, err_kept, after_kept}
use Rattle.ct_bind_depth_laws.proofs.Layers.{of_Number, of_Column, of_Variable}
use Rattle.ct_bind_depth_laws.proofs.Operators.{TypedNoDeeper, Bounded}

-- what has no operands is 0 deep
pub flat : (depth : ℕ) → depth ≡ 0 → depth ≤ 0
flat depth is = omega arith

pub column_flat : (it : Spot) → TypedNoDeeper 0 (column_at it)
column_flat it = flat _ (of_Column it.place)

only_kept : (name : List ℕ) (spots : List Spot) → Bounded 0 (only name spots)
unfolding only
only_kept name [] = err_kept (TypedNoDeeper 0) (NoColumn name)
only_kept name (one ∷ []) = ok_kept (TypedNoDeeper 0) (column_at one) (column_flat one)
only_kept name (one ∷ other ∷ more) = err_kept (TypedNoDeeper 0) (Ambiguous name)

plain_kept : (place : Place) (name : List ℕ) (found : Option Output) → Bounded 0 (plain_by place name found)
plain_kept place name (Some output) = ok_kept (TypedNoDeeper 0) (column_at output.spot) (column_flat output.spot)
plain_kept place name None = only_kept name (named_in name 0 place.sources)

column_in_kept : (place : Place) (source : Option (List ℕ)) (name : List ℕ) → Bounded 0 (column_in place source name)
unfolding plain_column column_of_source
column_in_kept place None name = plain_kept place name (output_at name place.outputs)
column_in_kept place (Some source) name = after_kept (TypedNoDeeper 0) (named_of source name 0 place.sources) (only name) (only_kept name)

either_kept : (test : Bool) (one other : Answer Typed) → Bounded 0 one → Bounded 0 other → Bounded 0 (if test then one else other)
either_kept true one other first second = first
either_kept false one other first second = second

pub column_kept : (place : Place) (name : ColumnName) → Bounded 0 (column place name)
unfolding column
column_kept place name = either_kept place.is_closed _ (column_in place name.source name.column) (err_kept (TypedNoDeeper 0) TypeClash) (column_in_kept place name.source name.column)

pub variable_kept : (tables : List Catalogued) (variables : List Variable) (name : List ℕ) → Bounded 0 (spec.variable tables variables name)
unfolding spec.variable
variable_kept tables variables name =
    after_kept (TypedNoDeeper 0) (declared_variable variables name) _ (λ at. ok_kept (TypedNoDeeper 0) (typed (bound.Variable at.0) (kind_of_type at.1)) (flat _ (of_Variable at.0)))

pub number_kept : (digits : List ℕ) → Bounded 0 (spec.number_literal digits)
unfolding spec.number_literal
number_kept digits = after_kept (TypedNoDeeper 0) (literal digits) _ (λ n. ok_kept (TypedNoDeeper 0) (spec.number_typed n) (flat _ (of_Number n)))
