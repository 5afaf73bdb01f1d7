-- The rows of a table by key, and the tables of a database by id. This project's own.
use Rattle.std.specs.Prelude.{ℕ, ◌-◌, Bool, false, nat_lt, ◌==◌, List, ◌++◌, filter, Option, None, Some, slice_get}
use Rattle.std.specs.List.{list_any, filter_map, find}
use Rattle.std.specs.Option.{option_to_list}
use Rattle.std.specs.Ordering.{is_lt, is_eq, is_gt}
use Rattle.ct_types.specs.Order.{key_cmp}
use Rattle.ct_types.specs.declared.catalogue.Catalogued.{Catalogued}
use Rattle.ct_types.specs.declared.value.Key.{Key}
use Rattle.ct_types.specs.declared.value.Row.{Row}
use Rattle.ct_types.specs.declared.schema.Schema.{Schema}
use Rattle.ct_types.specs.declared.tracked.Tracked.{Tracked}
use Rattle.ct_model.specs.declared.db.Table.{Table}

-- the key of a row: its values in the columns of the key
abbrev pub key_of : Schema → Row → Key
key_of schema row = record { 0 = filter_map (λ id. slice_get row.0 (id - 1)) schema.key }

-- whether a row has this key
abbrev pub has_that_key : Schema → Key → Row → Bool
has_that_key schema key row = is_eq (key_cmp (key_of schema row) key)

-- the row of a key, if there is one
abbrev pub row_at : Schema → List Row → Key → Option Row
row_at schema rows key = find (has_that_key schema key) rows

-- whether some row has this key
abbrev pub has_row : Schema → List Row → Key → Bool
has_row schema rows key = list_any (has_that_key schema key) rows

-- the rows with this row, or none, at the key
abbrev pub rows_with : Schema → List Row → Key → Option Row → List Row
rows_with schema rows key row =
    filter (λ old. is_lt (key_cmp (key_of schema old) key)) rows ++ option_to_list row ++ filter (λ old. is_gt (key_cmp (key_of schema old) key)) rows

-- the table of an id, if there is one
abbrev pub table_of : List Table → ℕ → Option Table
table_of tables id = find (λ table. table.schema.id == id) tables

-- a table as the catalogue has it, without its rows
abbrev pub catalogued : Table → Catalogued
catalogued table = record { schema = table.schema; tracked = table.tracked }

-- whether a version is above the minimum of a table; of one that is not tracked, none is
abbrev pub is_above : ℕ → Option Tracked → Bool
is_above version None = false
is_above version (Some tracked) = nat_lt tracked.min version

-- whether updates of a table record their columns
abbrev pub has_masks : Option Tracked → Bool
has_masks None = false
has_masks (Some tracked) = tracked.masks
