-- Values of a joined row that are known before it is joined: the other row of a pair has them. This project's own.
use Rattle.std.specs.Prelude.{◌≡◌, ℕ, ◌-◌, nat_lt, List, [], slice_get, Option, Some, None, if◌then◌else◌}
use Rattle.ct_types.specs.declared.value.Row.{Row}
use Rattle.ct_types.specs.declared.value.Value.{Value}
use Rattle.ct_source.specs.Cells.{cell}

-- these values stand in the joined row from this place on
pub record Seen : Type 0 where
  pub from : ℕ
  pub values : List Value

abbrev pub nothing : Seen
nothing = record { from = 0; values = [] }

-- the value at a place of the joined row, if it is one of these
abbrev pub value_at : Seen → ℕ → Option Value
value_at seen place = if nat_lt place seen.from then None else slice_get seen.values (place - seen.from)

-- a joined row has these values in their places
abbrev pub Agrees : Seen → Row → Type 0
Agrees seen row = (place : ℕ) (v : Value) → value_at seen place ≡ Some v → cell place row ≡ v
