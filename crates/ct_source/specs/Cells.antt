-- The values of a row by the places of its columns, from 0 on. This project's own.
use Rattle.std.specs.Prelude.{ℕ, Bool, Option, None, Some, slice_get}
use Rattle.std.specs.Ordering.{is_eq}
use Rattle.ct_types.specs.Order.{value_cmp}
use Rattle.ct_types.specs.declared.value.Value.{Value}
use Rattle.ct_types.specs.declared.value.Value.TheVariants.{Null}
use Rattle.ct_types.specs.declared.value.Row.{Row}

-- a value, NULL where there is none
abbrev pub or_null : Option Value → Value
or_null None = Null
or_null (Some value) = value

-- the value at a place, NULL past the last one
abbrev pub cell : ℕ → Row → Value
cell at row = or_null (slice_get row.0 at)

-- whether a row has this value at a place, in the order of values, where NULL equals itself
abbrev pub has_value : ℕ → Value → Row → Bool
has_value at value row = is_eq (value_cmp (cell at row) value)
