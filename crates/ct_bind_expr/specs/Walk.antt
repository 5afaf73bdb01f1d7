-- Binding an expression: its operands from left to right, then the operator itself. The forms are those of T-SQL's
-- expressions and of the functions of change tracking; their kinds, and which fault comes first, are this project's own.
--
-- Each rule tells what a form comes to, by what its parts, which stand in their places, come to.
use Rattle.std.specs.Prelude.{ℕ, Bool, List, [], ◌∷◌, ℤ, Ok}
use Rattle.ct_types.specs.declared.bound.BoundExpr.{BoundExpr}
use Rattle.ct_types.specs.declared.bound.BoundExpr.TheVariants as bound
use Rattle.ct_types.specs.declared.bound.BoundTerm.{BoundTerm, roll-BoundTerm}
use Rattle.ct_types.specs.declared.bound.BoundScalar.{roll-BoundScalar}
use Rattle.ct_types.specs.declared.bound.BoundRowVersion.{BoundRowVersion}
use Rattle.ct_types.specs.declared.catalogue.Catalogued.{Catalogued}
use Rattle.ct_types.specs.declared.catalogue.Variable.{Variable}
use Rattle.ct_types.specs.declared.expr.Comparison.{Comparison}
use Rattle.ct_types.specs.declared.expr.Expr.{Expr}
use Rattle.ct_types.specs.declared.expr.Expr.TheOpen as e
use Rattle.ct_types.specs.declared.expr.Expr.TheOpen.{Expr-F, RowVersion-F, Scalar-F, Term-F}
use Rattle.ct_types.specs.declared.expr.Expr.TheFolds.{fold-Expr, fold-RowVersion, fold-Scalar, fold-Term}
use Rattle.ct_types.specs.declared.expr.RowVersion.{RowVersion}
use Rattle.ct_types.specs.declared.expr.Scalar.{Scalar}
use Rattle.ct_types.specs.declared.expr.Term.{Term}
use Rattle.ct_types.specs.declared.schema.Schema.{Schema}
use Rattle.ct_types.specs.declared.refusal.Refusal.TheVariants.{NoColumn, TypeClash}
use Rattle.ct_bind_kinds.specs.declared.kind.Kind.{Kind}
use Rattle.ct_bind_kinds.specs.declared.kind.Kind.TheVariants.{Number, Text, Bytes, Condition, Null}
use Rattle.ct_bind_kinds.specs.Kinds.{kind_of_type, either}
use Rattle.ct_types.specs.Answers.{Answer, ◌>>=◌, ◌>>◌, demand, each}
use Rattle.ct_bind_names.specs.Names.{same}
use Rattle.ct_bind_names.specs.Numbers.{literal}
use Rattle.ct_bind_names.specs.Catalogue.{tracked_table, declared_variable}
use Rattle.ct_bind_expr.specs.declared.place.Typed.{Typed}
use Rattle.ct_bind_expr.specs.declared.place.Place.{Place}
use Rattle.ct_bind_expr.specs.Places.{typed, of_kind, any_value, go_together, column}
use Rattle.ct_bind_expr.specs.Versions.{Walk, operand, version_of, version_column}

-- ---- operators, on operands that are walked

unfoldable pub min_valid_version : Typed → Answer Typed
min_valid_version table = do
  table ← of_kind Number table
  Ok (typed (bound.MinValidVersion table) Number)

unfoldable pub is_column_in_mask : Typed → Typed → Answer Typed
is_column_in_mask column mask = do
  column ← of_kind Number column
  mask ← of_kind Bytes mask
  Ok (typed (bound.IsColumnInMask column mask) Number)

unfoldable pub object_id : Typed → Answer Typed
object_id name = do
  name ← of_kind Text name
  Ok (typed (bound.ObjectId name) Number)

unfoldable pub column_property : Typed → Typed → Typed → Answer Typed
column_property table column property = do
  table ← of_kind Number table
  column ← of_kind Text column
  property ← of_kind Text property
  Ok (typed (bound.ColumnProperty table column property) Number)

unfoldable pub if_null : Typed → Typed → Answer Typed
if_null value instead = do
  demand (go_together value.kind instead.kind) TypeClash
  Ok (typed (bound.IfNull value.expr instead.expr) (either value.kind instead.kind))

unfoldable pub negative : Typed → Answer Typed
negative it = do
  it ← of_kind Number it
  Ok (typed (bound.Negative it) Number)

unfoldable pub compare : Comparison → Typed → Typed → Answer Typed
compare operator left right = do
  demand (go_together left.kind right.kind) TypeClash
  Ok (typed (bound.Compare operator left.expr right.expr) Condition)

unfoldable pub is_null : Typed → Answer Typed
is_null it = do
  it ← any_value it
  Ok (typed (bound.IsNull it) Condition)

unfoldable pub is_not_null : Typed → Answer Typed
is_not_null it = do
  it ← any_value it
  Ok (typed (bound.IsNotNull it) Condition)

unfoldable pub negated : Typed → Answer Typed
negated it = do
  it ← of_kind Condition it
  Ok (typed (bound.Not it) Condition)

-- ---- operands that are still to be walked, from left to right

unfoldable pub two : Place → Walk → Walk → Answer (Typed × Typed)
two place left right = do
  left ← left place
  right ← right place
  Ok (left, right)

unfoldable pub property : Place → Walk → Walk → Walk → Answer Typed
property place table named asked = do
  both ← two place table named
  asked ← asked place
  column_property both.0 both.1 asked

-- ---- chains of one operator: each operator is tested after the operand on its right

-- the first two operands, before the first operator is tested
unfoldable pub both_of_kind : Kind → Typed → Typed → Answer (BoundExpr × BoundExpr)
both_of_kind wanted left right = do
  left ← of_kind wanted left
  right ← of_kind wanted right
  Ok (left, right)

unfoldable pub chain : Kind → Place → List Walk → Answer (List BoundExpr)
chain wanted place [] = Ok []
chain wanted place (only ∷ []) = do
  only ← operand wanted place only
  Ok (only ∷ [])
chain wanted place (left ∷ right ∷ more) = do
  walked ← two place left right
  both ← both_of_kind wanted walked.0 walked.1
  more ← each (operand wanted place) more
  Ok (both.0 ∷ both.1 ∷ more)

-- the operands of a sum after the first, each with its sign
abbrev pub TermWalk : Type 0
TermWalk = Bool × Walk

abbrev pub term : Bool → BoundExpr → BoundTerm
term subtracts value = roll-BoundTerm (record { subtracts = subtracts; value = value })

unfoldable pub further_term : Place → TermWalk → Answer BoundTerm
further_term place walk = do
  value ← operand Number place walk.1
  Ok (term walk.0 value)

unfoldable pub sum : Place → Walk → List TermWalk → Answer (BoundExpr × List BoundTerm)
sum place first [] = do
  first ← operand Number place first
  Ok (first, [])
sum place first (second ∷ more) = do
  walked ← two place first second.1
  both ← both_of_kind Number walked.0 walked.1
  more ← each (further_term place) more
  Ok (both.0, term second.0 both.1 ∷ more)

-- ---- the scalar form

-- the first name is the alias of its own source; then the column
unfoldable pub scalar_column : Schema → List ℕ → List ℕ → List ℕ → BoundRowVersion → Answer Typed
scalar_column table source alias column version = do
  demand (same source alias) (NoColumn source)
  shown ← version_column table column
  Ok (typed (bound.Scalar (roll-BoundScalar (record { version = version; column = shown.0 }))) shown.1)

-- CHANGETABLE(VERSION ..) with its table
abbrev pub VersionWalk : Type 0
VersionWalk = Place → Answer (Schema × BoundRowVersion)

-- ---- what has a kind by itself

abbrev pub number_typed : ℤ → Typed
number_typed n = typed (bound.Number n) Number

abbrev pub text_typed : List ℕ → Typed
text_typed text = typed (bound.Text text) Text

abbrev pub bytes_typed : List ℕ → Typed
bytes_typed bytes = typed (bound.Bytes bytes) Bytes

abbrev pub sum_typed : BoundExpr → List BoundTerm → Typed
sum_typed first more = typed (bound.Sum first more) Number

unfoldable pub number_literal : List ℕ → Answer Typed
number_literal digits = literal digits >>= (λ n. Ok (number_typed n))

-- ---- the rules

module _ (tables : List Catalogued) (variables : List Variable) where
  unfoldable pub variable : List ℕ → Answer Typed
  variable name = do
    at ← declared_variable variables name
    Ok (typed (bound.Variable at.0) (kind_of_type at.1))

  abbrev pub expr_rule : Expr-F Walk VersionWalk Walk TermWalk → Walk
  expr_rule e.Null place = Ok (typed bound.Null Null)
  expr_rule (e.Number digits) place = number_literal digits
  expr_rule (e.Text text) place = Ok (text_typed text)
  expr_rule (e.Bytes bytes) place = Ok (bytes_typed bytes)
  expr_rule (e.Variable name) place = variable name
  expr_rule (e.Column name) place = column place name
  expr_rule e.CurrentVersion place = Ok (typed bound.CurrentVersion Number)
  expr_rule (e.MinValidVersion table) place = table place >>= min_valid_version
  expr_rule (e.IsColumnInMask column mask) place = two place column mask >>= (λ both. is_column_in_mask both.0 both.1)
  expr_rule (e.ObjectId name) place = name place >>= object_id
  expr_rule (e.ColumnProperty table column name) place = property place table column name
  expr_rule (e.IfNull value instead) place = two place value instead >>= (λ both. if_null both.0 both.1)
  expr_rule (e.Scalar scalar) place = scalar place
  expr_rule (e.Negative value) place = value place >>= negative
  expr_rule (e.Product factors) place = do
    factors ← chain Number place factors
    Ok (typed (bound.Product factors) Number)
  expr_rule (e.Sum first more) place = do
    operands ← sum place first more
    Ok (sum_typed operands.0 operands.1)
  expr_rule (e.Compare operator left right) place = two place left right >>= (λ both. compare operator both.0 both.1)
  expr_rule (e.IsNull value) place = value place >>= is_null
  expr_rule (e.IsNotNull value) place = value place >>= is_not_null
  expr_rule (e.Not value) place = value place >>= negated
  expr_rule (e.And operands) place = do
    operands ← chain Condition place operands
    Ok (typed (bound.And operands) Condition)
  expr_rule (e.Or operands) place = do
    operands ← chain Condition place operands
    Ok (typed (bound.Or operands) Condition)

  -- the table, the list, the tuple
  abbrev pub version_rule : {B C D : Type 0} → RowVersion-F Walk B C D → VersionWalk
  version_rule version place = do
    table ← tracked_table tables version.table
    bound ← version_of table.schema version.columns version.values place
    Ok (table.schema, bound)

  -- and then the column
  abbrev pub scalar_rule : {A C D : Type 0} → Scalar-F A VersionWalk C D → Walk
  scalar_rule scalar place = do
    version ← scalar.version place
    scalar_column version.0 scalar.source scalar.alias scalar.column version.1

  abbrev pub term_rule : {B C D : Type 0} → Term-F Walk B C D → TermWalk
  term_rule it = (it.subtracts, it.value)

  -- what an expression comes to at a place
  unfoldable pub walk : Expr → Walk
  walk = fold-Expr Walk VersionWalk Walk TermWalk expr_rule version_rule scalar_rule term_rule

  -- and what its parts come to
  unfoldable pub version_walk : RowVersion → VersionWalk
  version_walk = fold-RowVersion Walk VersionWalk Walk TermWalk expr_rule version_rule scalar_rule term_rule

  unfoldable pub scalar_walk : Scalar → Walk
  scalar_walk = fold-Scalar Walk VersionWalk Walk TermWalk expr_rule version_rule scalar_rule term_rule

  unfoldable pub term_walk : Term → TermWalk
  term_walk = fold-Term Walk VersionWalk Walk TermWalk expr_rule version_rule scalar_rule term_rule
