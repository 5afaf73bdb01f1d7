-- What an expression tells before its row is known: whether it comes to a value and a truth on every row, the value that it has on
-- each of them, and the value that one column has on every row on which it is true. This project's own.
use Rattle.std.specs.Prelude.{ℕ, ◌==◌, Bool, true, false, ◌&&◌, List, [], ◌∷◌, slice_get, Option, Some, None, if◌then◌else◌}
use Rattle.std.specs.List.{list_all}
use Rattle.std.specs.Option.{is_some, option_and_then, option_map, option_or}
use Rattle.std.specs.Result.{result_ok}
use Rattle.ct_types.specs.declared.bound.BoundExpr.{BoundExpr}
use Rattle.ct_types.specs.declared.bound.BoundExpr.TheOpen as e
use Rattle.ct_types.specs.declared.bound.BoundExpr.TheOpen.{BoundExpr-F, BoundTerm-F, BoundScalar-F, BoundRowVersion-F}
use Rattle.ct_types.specs.declared.bound.BoundExpr.TheFolds.{fold-BoundExpr, fold-BoundRowVersion, fold-BoundScalar, fold-BoundTerm}
use Rattle.ct_types.specs.declared.bound.BoundRowVersion.{BoundRowVersion}
use Rattle.ct_types.specs.declared.bound.BoundScalar.{BoundScalar}
use Rattle.ct_types.specs.declared.bound.BoundTerm.{BoundTerm}
use Rattle.ct_types.specs.declared.expr.Comparison.TheVariants as comparison
use Rattle.ct_types.specs.declared.value.Value.{Value}
use Rattle.ct_types.specs.declared.value.Value.TheVariants as v
use Rattle.ct_expr.specs.Environment.{Environment}
use Rattle.ct_expr.specs.Functions.{or_null, counted_or_null}
use Rattle.ct_expr.specs.Numbers.{negative}
use Rattle.ct_scan.specs.Seen.{Seen, value_at}

pub record Reading : Type 0 where
  -- it comes to a value and a truth on every row
  pub quiet : Bool
  -- it is the column
  pub is_column : Bool
  -- the value that it has on every row
  pub known : Option Value
  -- the value that the column has on every row on which it is true
  pub pins : Option Value

abbrev pub Form : Type 0
Form = BoundExpr-F Reading Bool Bool (Unit {0})

-- ---- known values

-- a sign before a known value, where what it makes fits 64 bits
abbrev pub negated : Option Value → Option Value
negated known = option_and_then (λ x. result_ok (negative x)) known

-- literals, variables, the current version, columns that are seen, and signs before these
abbrev pub known_rule : Environment → Seen → Form → Option Value
known_rule env seen e.Null = Some v.Null
known_rule env seen (e.Number n) = Some (v.Int n)
known_rule env seen (e.Text t) = Some (v.Text t)
known_rule env seen (e.Bytes b) = Some (v.Bytes b)
known_rule env seen (e.Column place) = value_at seen place
known_rule env seen (e.Variable place) = Some (or_null (option_map (λ variable. variable.value) (slice_get env.variables.0 place)))
known_rule env seen e.CurrentVersion = Some (counted_or_null env.current)
known_rule env seen (e.Negative a) = negated a.known
known_rule env seen form = None

-- ---- quiet expressions

abbrev pub all_quiet : List Reading → Bool
all_quiet parts = list_all (λ part. part.quiet) parts

-- Sums and products may not fit 64 bits on some row, and a sign may not but before a known value. Any other form is quiet where its
-- parts are.
abbrev pub quiet_rule : Form → Bool
quiet_rule (e.Negative a) = is_some (negated a.known)
quiet_rule (e.Product factors) = false
quiet_rule (e.Sum first more) = false
quiet_rule (e.MinValidVersion table) = table.quiet
quiet_rule (e.IsColumnInMask column mask) = column.quiet && mask.quiet
quiet_rule (e.ObjectId name) = name.quiet
quiet_rule (e.ColumnProperty table column property) = table.quiet && (column.quiet && property.quiet)
quiet_rule (e.IfNull a b) = a.quiet && b.quiet
quiet_rule (e.Scalar quiet) = quiet
quiet_rule (e.Compare operator a b) = a.quiet && b.quiet
quiet_rule (e.IsNull a) = a.quiet
quiet_rule (e.IsNotNull a) = a.quiet
quiet_rule (e.Not a) = a.quiet
quiet_rule (e.And operands) = all_quiet operands
quiet_rule (e.Or operands) = all_quiet operands
quiet_rule form = true

-- ---- the column, and the value that it is compared with

abbrev pub column_rule : ℕ → Form → Bool
column_rule at (e.Column place) = place == at
column_rule at form = false

-- the column stands on one side, a known value on the other
abbrev pub pinned_by : Reading → Reading → Option Value
pinned_by a b = if a.is_column then b.known else (if b.is_column then a.known else None)

-- the first of those that pin
abbrev pub first_pin : List Reading → Option Value
first_pin [] = None
first_pin (part ∷ more) = option_or part.pins (first_pin more)

abbrev pub pins_rule : Form → Option Value
pins_rule (e.Compare comparison.Equal a b) = pinned_by a b
pins_rule (e.And operands) = first_pin operands
pins_rule form = None

-- ---- the whole; `at` is the place of the column

abbrev pub reading_rule : Environment → Seen → ℕ → Form → Reading
reading_rule env seen at form = record {
  quiet = quiet_rule form;
  is_column = column_rule at form;
  known = known_rule env seen form;
  pins = pins_rule form;
}

-- CHANGETABLE(VERSION ..) is quiet where the values of its key are
abbrev pub version_rule : {B C D : Type 0} → BoundRowVersion-F Reading B C D → Bool
version_rule version = all_quiet version.values

abbrev pub scalar_rule : {A C D : Type 0} → BoundScalar-F A Bool C D → Bool
scalar_rule scalar = scalar.version

abbrev pub term_rule : {A B C D : Type 0} → BoundTerm-F A B C D → Unit {0}
term_rule term = tt

abbrev pub reading : Environment → Seen → ℕ → BoundExpr → Reading
reading env seen at = fold-BoundExpr Reading Bool Bool (Unit {0}) (reading_rule env seen at) version_rule scalar_rule term_rule

abbrev pub version_quiet : Environment → Seen → ℕ → BoundRowVersion → Bool
version_quiet env seen at = fold-BoundRowVersion Reading Bool Bool (Unit {0}) (reading_rule env seen at) version_rule scalar_rule term_rule

abbrev pub scalar_quiet : Environment → Seen → ℕ → BoundScalar → Bool
scalar_quiet env seen at = fold-BoundScalar Reading Bool Bool (Unit {0}) (reading_rule env seen at) version_rule scalar_rule term_rule

abbrev pub of_term : Environment → Seen → ℕ → BoundTerm → Unit {0}
of_term env seen at = fold-BoundTerm Reading Bool Bool (Unit {0}) (reading_rule env seen at) version_rule scalar_rule term_rule

-- ---- pinned columns

abbrev pub pin_of : Reading → Option Value
pin_of told = if told.quiet then told.pins else None

-- The value that a condition pins a column to: the column has it on every row on which the condition is true, and on every other row
-- the condition comes to a truth, so the rows with this value are all that need be asked.
abbrev pub pinned : Environment → Seen → ℕ → BoundExpr → Option Value
pinned env seen at condition = pin_of (reading env seen at condition)
