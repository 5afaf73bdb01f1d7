-- What an expression means on a row: a value, or, of a condition, a truth. Each form has one rule, which gives its meaning by
-- those of its parts, in their places. Every part is evaluated, whatever the others give, so an expression comes to
-- Overflow exactly where a sum, difference, product or sign anywhere in it does not fit 64 bits.
--
-- A condition has no value, and a value is no truth; where an expression is well formed, neither is asked for.
use Rattle.std.specs.Prelude.{ℕ, pos, Bool, true, false, not, List, [], ◌∷◌, ◌++◌, map, slice_get, Option, Some, None, Ok, if◌then◌else◌}
use Rattle.std.specs.Option.{option_map}
use Rattle.ct_types.specs.declared.bound.BoundExpr.{BoundExpr}
use Rattle.ct_types.specs.declared.bound.BoundExpr.TheOpen as e
use Rattle.ct_types.specs.declared.bound.BoundExpr.TheOpen.{BoundExpr-F, BoundTerm-F, BoundScalar-F, BoundRowVersion-F}
use Rattle.ct_types.specs.declared.bound.BoundExpr.TheFolds.{fold-BoundExpr, fold-BoundRowVersion, fold-BoundScalar, fold-BoundTerm}
use Rattle.ct_types.specs.declared.bound.BoundRowVersion.{BoundRowVersion}
use Rattle.ct_types.specs.declared.bound.BoundScalar.{BoundScalar}
use Rattle.ct_types.specs.declared.bound.BoundTerm.{BoundTerm}
use Rattle.ct_types.specs.declared.tracked.VersionRow.{VersionRow}
use Rattle.ct_types.specs.declared.value.Key.{Key}
use Rattle.ct_types.specs.declared.value.Row.{Row}
use Rattle.ct_types.specs.declared.value.Value.{Value}
use Rattle.ct_types.specs.declared.value.Value.TheVariants as v
use Rattle.ct_types.specs.Answers.{Answer, ◌>>=◌}
use Rattle.ct_expr.specs.Environment.{Environment}
use Rattle.ct_expr.specs.Logic.{Truth, is_true, not3, and3, or3}
use Rattle.ct_expr.specs.Numbers.{plus, minus, times, negative, compare, is_null}
use Rattle.ct_expr.specs.Functions.{or_null, counted_or_null, if_null, object_id, column_property, min_valid_version, is_column_in_mask, version_column}

-- on what an expression is evaluated; `versions` has one row for each table, by its id, and each key
pub record Scene : Type 0 where
  pub row : Row
  pub env : Environment
  pub versions : ℕ → Key → VersionRow

abbrev pub scene : Row → Environment → (ℕ → Key → VersionRow) → Scene
scene row env versions = record { row = row; env = env; versions = versions }

-- what the expressions of a statement may read beside a row
pub record World : Type 0 where
  pub env : Environment
  pub versions : ℕ → Key → VersionRow

abbrev pub on : World → Row → Scene
on world row = scene row world.env world.versions

pub record Meaning : Type 0 where
  pub value : Answer Value
  pub truth : Answer Truth

-- ---- what is made of the parts

abbrev pub of_one : {A : Type 0} → (Value → A) → Meaning → Answer A
of_one f a = a.value >>= (λ x. Ok (f x))

abbrev pub of_two : {A : Type 0} → (Value → Value → A) → Meaning → Meaning → Answer A
of_two f a b = a.value >>= (λ x. b.value >>= (λ y. Ok (f x y)))

abbrev pub of_three : {A : Type 0} → (Value → Value → Value → A) → Meaning → Meaning → Meaning → Answer A
of_three f a b c = a.value >>= (λ x. b.value >>= (λ y. c.value >>= (λ z. Ok (f x y z))))

-- a chain, from left to right, behind what it has come to so far
abbrev pub chain : {A X : Type 0} → (A → X → Answer A) → A → List X → Answer A
chain step so_far [] = Ok so_far
chain step so_far (x ∷ more) = step so_far x >>= (λ made. chain step made more)

-- the product of no factors
abbrev pub one : Value
one = v.Int (pos 1)

abbrev pub multiplied : Value → Meaning → Answer Value
multiplied so_far factor = factor.value >>= times so_far

-- an operand of a sum: whether it is taken away, and what it means
pub record Operand : Type 0 where
  pub subtracts : Bool
  pub meaning : Meaning

abbrev pub added : Value → Operand → Answer Value
added so_far operand = operand.meaning.value >>= (λ x. if operand.subtracts then minus so_far x else plus so_far x)

abbrev pub conjoined : Truth → Meaning → Answer Truth
conjoined so_far operand = operand.truth >>= (λ t. Ok (and3 so_far t))

abbrev pub disjoined : Truth → Meaning → Answer Truth
disjoined so_far operand = operand.truth >>= (λ t. Ok (or3 so_far t))

-- a value more
abbrev pub listed : List Value → Meaning → Answer (List Value)
listed so_far part = part.value >>= (λ x. Ok (so_far ++ x ∷ []))

-- ---- the rules

abbrev pub Form : Type 0
Form = BoundExpr-F Meaning (Answer (Key × VersionRow)) (Answer Value) Operand

abbrev pub value_rule : Scene → Form → Answer Value
value_rule s e.Null = Ok v.Null
value_rule s (e.Number n) = Ok (v.Int n)
value_rule s (e.Text t) = Ok (v.Text t)
value_rule s (e.Bytes b) = Ok (v.Bytes b)
value_rule s (e.Column at) = Ok (or_null (slice_get s.row.0 at))
value_rule s (e.Variable at) = Ok (or_null (option_map (λ variable. variable.value) (slice_get s.env.variables.0 at)))
value_rule s e.CurrentVersion = Ok (counted_or_null s.env.current)
value_rule s (e.MinValidVersion table) = of_one (min_valid_version s.env.tables) table
value_rule s (e.IsColumnInMask column mask) = of_two is_column_in_mask column mask
value_rule s (e.ObjectId name) = of_one (object_id s.env.tables) name
value_rule s (e.ColumnProperty table column property) = of_three (column_property s.env.tables) table column property
value_rule s (e.IfNull a b) = of_two if_null a b
value_rule s (e.Scalar value) = value
value_rule s (e.Negative a) = a.value >>= negative
value_rule s (e.Product factors) = chain multiplied one factors
value_rule s (e.Sum first more) = first.value >>= (λ x. chain added x more)
value_rule s (e.Compare operator a b) = Ok v.Null
value_rule s (e.IsNull a) = Ok v.Null
value_rule s (e.IsNotNull a) = Ok v.Null
value_rule s (e.Not a) = Ok v.Null
value_rule s (e.And operands) = Ok v.Null
value_rule s (e.Or operands) = Ok v.Null

abbrev pub truth_rule : Form → Answer Truth
truth_rule (e.Compare operator a b) = of_two (compare operator) a b
truth_rule (e.IsNull a) = of_one (λ x. Some (is_null x)) a
truth_rule (e.IsNotNull a) = of_one (λ x. Some (not (is_null x))) a
truth_rule (e.Not a) = a.truth >>= (λ t. Ok (not3 t))
truth_rule (e.And operands) = chain conjoined (Some true) operands
truth_rule (e.Or operands) = chain disjoined (Some false) operands
truth_rule form = Ok None

abbrev pub meaning_rule : Scene → Form → Meaning
meaning_rule s form = record { value = value_rule s form; truth = truth_rule form }

abbrev pub operand_rule : {A B C : Type 0} → BoundTerm-F Meaning A B C → Operand
operand_rule term = record { subtracts = term.subtracts; meaning = term.value }

-- CHANGETABLE(VERSION ..): the key that its values make, and the row at that key
abbrev pub key_of : List Value → Key
key_of values = record { 0 = values }

abbrev pub keyed : List Meaning → Answer Key
keyed parts = chain listed [] parts >>= (λ values. Ok (key_of values))

abbrev pub row_version_rule : {A B C : Type 0} → Scene → BoundRowVersion-F Meaning A B C → Answer (Key × VersionRow)
row_version_rule s version = keyed version.values >>= (λ key. Ok (key, s.versions version.table key))

abbrev pub scalar_rule : {A B C : Type 0} → BoundScalar-F A (Answer (Key × VersionRow)) B C → Answer Value
scalar_rule scalar = scalar.version >>= (λ found. Ok (version_column scalar.column found.0 found.1))

abbrev pub meaning : Scene → BoundExpr → Meaning
meaning s = fold-BoundExpr Meaning (Answer (Key × VersionRow)) (Answer Value) Operand (meaning_rule s) (row_version_rule s) scalar_rule operand_rule

abbrev pub row_version : Scene → BoundRowVersion → Answer (Key × VersionRow)
row_version s = fold-BoundRowVersion Meaning (Answer (Key × VersionRow)) (Answer Value) Operand (meaning_rule s) (row_version_rule s) scalar_rule operand_rule

abbrev pub scalar : Scene → BoundScalar → Answer Value
scalar s = fold-BoundScalar Meaning (Answer (Key × VersionRow)) (Answer Value) Operand (meaning_rule s) (row_version_rule s) scalar_rule operand_rule

abbrev pub operand : Scene → BoundTerm → Operand
operand s = fold-BoundTerm Meaning (Answer (Key × VersionRow)) (Answer Value) Operand (meaning_rule s) (row_version_rule s) scalar_rule operand_rule

-- chains of whole expressions
abbrev pub product : Scene → List BoundExpr → Answer Value
product s factors = chain multiplied one (map (meaning s) factors)

abbrev pub sum : Scene → Value → List BoundTerm → Answer Value
sum s first more = chain added first (map (operand s) more)

abbrev pub conjunction : Scene → List BoundExpr → Answer Truth
conjunction s operands = chain conjoined (Some true) (map (meaning s) operands)

abbrev pub disjunction : Scene → List BoundExpr → Answer Truth
disjunction s operands = chain disjoined (Some false) (map (meaning s) operands)

abbrev pub key : Scene → List BoundExpr → Answer Key
key s parts = keyed (map (meaning s) parts)

-- the value of an expression on a row, and the truth of a condition
abbrev pub value : Scene → BoundExpr → Answer Value
value s expr = (meaning s expr).value

abbrev pub truth : Scene → BoundExpr → Answer Truth
truth s expr = (meaning s expr).truth

-- ---- ON and WHERE

-- whether a condition is true on a row; one that is not written is true
abbrev pub holds : World → Option BoundExpr → Row → Answer Bool
holds world None row = Ok true
holds world (Some condition) row = truth (on world row) condition >>= (λ t. Ok (is_true t))
