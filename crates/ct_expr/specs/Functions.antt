-- The functions of expressions, by the values of their arguments: T-SQL's OBJECT_ID, COLUMNPROPERTY and ISNULL, and those
-- of change tracking. An argument of another kind than the function takes gives NULL, which happens in no expression
-- that is well formed.
use Rattle.std.specs.Prelude.{ℕ, ◌+◌, ◌^◌, ℤ, pos, Bool, true, false, nat_lt, codes, List, slice_get, find, Option, Some, None, if◌then◌else◌}
use Rattle.std.specs.List.{position}
use Rattle.std.specs.Option.{option_map, option_and_then}
use Rattle.std.specs.Ordering.{int_eq}
use Rattle.ct_types.specs.declared.bound.VersionColumn.{VersionColumn}
use Rattle.ct_types.specs.declared.bound.VersionColumn.TheVariants as shown
use Rattle.ct_types.specs.declared.catalogue.Catalogued.{Catalogued}
use Rattle.ct_types.specs.declared.tracked.VersionRow.{VersionRow}
use Rattle.ct_types.specs.declared.value.Key.{Key}
use Rattle.ct_types.specs.declared.value.Value.{Value}
use Rattle.ct_types.specs.declared.value.Value.TheVariants.{Null, Int, Text, Bytes}
use Rattle.ct_bind_names.specs.Names.{same}
use Rattle.ct_mask.specs.Masks.{reads}
use Rattle.ct_expr.specs.Numbers.{is_null}
use Rattle.ct_expr.specs.Tables.{table_named}

-- ---- values

abbrev pub or_null : Option Value → Value
or_null None = Null
or_null (Some v) = v

-- a number that is counted; one of 2^63 or more, which no version and no id is, has no value
abbrev pub counted : ℕ → Value
counted n = if nat_lt n (2 ^ 63) then Int (pos n) else Null

abbrev pub counted_or_null : Option ℕ → Value
counted_or_null None = Null
counted_or_null (Some n) = counted n

abbrev pub bytes_or_null : Option (List ℕ) → Value
bytes_or_null None = Null
bytes_or_null (Some bytes) = Bytes bytes

-- ---- ISNULL

abbrev pub if_null : Value → Value → Value
if_null a b = if is_null a then b else a

-- ---- tables and columns by name and by id

-- OBJECT_ID
abbrev pub object_id : List Catalogued → Value → Value
object_id tables (Text name) = counted_or_null (option_map (λ table. table.schema.id) (table_named tables name))
object_id tables v = Null

abbrev pub table_of : List Catalogued → ℤ → Option Catalogued
table_of tables id = find (λ table. int_eq (pos table.schema.id) id) tables

-- columns are numbered from 1
abbrev pub column_id : List ℕ → Catalogued → Option ℕ
column_id name table = option_map (λ place. place + 1) (position (λ column. same column.name name) table.schema.columns)

-- COLUMNPROPERTY, which tells one property
abbrev pub column_property : List Catalogued → Value → Value → Value → Value
column_property tables (Int table) (Text column) (Text property) =
    if same property (codes "ColumnId") then counted_or_null (option_and_then (column_id column) (table_of tables table)) else Null
column_property tables table column property = Null

-- ---- change tracking

-- the least version that a client of a table may hold; none where the table is not tracked
abbrev pub minimum_of : Catalogued → Option ℕ
minimum_of table = option_map (λ tracked. tracked.min) table.tracked

-- CHANGE_TRACKING_MIN_VALID_VERSION: NULL where there is no such table, or it is not tracked
abbrev pub min_valid_version : List Catalogued → Value → Value
min_valid_version tables (Int id) = counted_or_null (option_and_then minimum_of (table_of tables id))
min_valid_version tables v = Null

abbrev pub one_or_zero : Bool → Value
one_or_zero true = Int (pos 1)
one_or_zero false = Int (pos 0)

-- CHANGE_TRACKING_IS_COLUMN_IN_MASK: a NULL mask has each column
abbrev pub is_column_in_mask : Value → Value → Value
is_column_in_mask (Int id) Null = one_or_zero (reads None id)
is_column_in_mask (Int id) (Bytes mask) = one_or_zero (reads (Some mask) id)
is_column_in_mask column mask = Null

-- a column of CHANGETABLE(VERSION ..): the row's version and context, or the value that was given for a key column
abbrev pub version_column : VersionColumn → Key → VersionRow → Value
version_column shown.Version key row = counted_or_null row.version
version_column shown.Context key row = bytes_or_null row.context
version_column (shown.Key at) key row = or_null (slice_get key.0 at)
