-- Rows that rise from a row on. This project's own.
use Rattle.std.specs.Prelude.{◌≡◌, List, [], ◌∷◌}
use Rattle.std.specs.declared.cmp.Ordering.TheVariants.{Less}
use Rattle.ct_types.specs.Order.{key_cmp}
use Rattle.ct_types.specs.declared.value.Row.{Row}
use Rattle.ct_types.specs.declared.schema.Schema.{Schema}
use Rattle.ct_model.specs.Tables.{key_of}

-- each row has a key above that of the one before it, and the first above that of this row
abbrev pub ClimbsFrom : Schema → Row → List Row → Type 0
ClimbsFrom schema last [] = Unit {0}
ClimbsFrom schema last (row ∷ rows) = (key_cmp (key_of schema last) (key_of schema row) ≡ Less) × ClimbsFrom schema row rows
