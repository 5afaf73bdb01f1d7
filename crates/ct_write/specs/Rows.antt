-- What INSERT, UPDATE and DELETE of T-SQL make of the rows of a table, before anything is fitted.
use Rattle.std.specs.Prelude.{ℕ, ◌-◌, Bool, true, false, List, [], ◌∷◌, map, slice_set, Option, Some, None, Ok, if◌then◌else◌}
use Rattle.ct_types.specs.declared.bound.BoundExpr.{BoundExpr}
use Rattle.ct_types.specs.declared.bound.BoundSet.{BoundSet}
use Rattle.ct_types.specs.declared.bound.RowChange.{RowChange}
use Rattle.ct_types.specs.declared.bound.RowChange.TheVariants.{Insert, Update, Delete}
use Rattle.ct_types.specs.declared.schema.Column.{Column}
use Rattle.ct_types.specs.declared.schema.Schema.{Schema}
use Rattle.ct_types.specs.declared.value.Row.{Row}
use Rattle.ct_types.specs.declared.value.Value.{Value}
use Rattle.ct_types.specs.declared.value.Value.TheVariants.{Null}
use Rattle.ct_model.specs.Tables.{key_of}
use Rattle.ct_expr.specs.Meaning.{World, on, value, holds}
use Rattle.ct_expr.specs.Conditions.{only}
use Rattle.ct_types.specs.Answers.{Answer, ◌>>=◌, each}
use Rattle.ct_write.specs.declared.changes.Changed.{Changed}

-- VALUES and the context name no column
abbrev pub no_row : Row
no_row = record { 0 = [] }

-- ---- which rows

-- those on which WHERE is true, in the order of the rows; where it is not written, each row
abbrev pub targets : World → Option BoundExpr → List Row → Answer (List Row)
targets w filter rows = only (holds w filter) rows

-- ---- what is made of them

-- values go into the columns of these ids, in their order; every other column keeps what it has
abbrev pub assigned : List ℕ → List Value → List Value → List Value
assigned (id ∷ ids) (v ∷ values) row = assigned ids values (slice_set row (id - 1) v)
assigned ids values row = row

abbrev pub nulls : List Column → List Value
nulls columns = map (λ column. Null) columns

abbrev pub with_its_key : Schema → List Value → Changed
with_its_key schema values = record { key = key_of schema (record { 0 = values }); row = Some (record { 0 = values }) }

-- the row of a tuple: columns that the list does not name get NULL
abbrev pub inserted : World → Schema → List ℕ → List BoundExpr → Answer Changed
inserted w schema columns tuple = each (value (on w no_row)) tuple >>= (λ values. Ok (with_its_key schema (assigned columns values (nulls schema.columns))))

abbrev pub with_key_of : Schema → Row → List Value → Changed
with_key_of schema before values = record { key = key_of schema before; row = Some (record { 0 = values }) }

abbrev pub set_columns : List BoundSet → List ℕ
set_columns sets = map (λ set. set.column) sets

-- each value of the SET list is that on the row before the update
abbrev pub updated : World → Schema → List BoundSet → Row → Answer Changed
updated w schema sets row = each (λ set. value (on w row) set.value) sets >>= (λ values. Ok (with_key_of schema row (assigned (set_columns sets) values row.0)))

abbrev pub deleted : Schema → Row → Changed
deleted schema row = record { key = key_of schema row; row = None }

-- in the order of VALUES, or in that of the rows
abbrev pub changes_of : World → Schema → RowChange → List Row → Answer (List Changed)
changes_of w schema (Insert columns tuples) rows = each (inserted w schema columns) tuples
changes_of w schema (Update sets filter) rows = targets w filter rows >>= (λ chosen. each (updated w schema sets) chosen)
changes_of w schema (Delete filter) rows = targets w filter rows >>= (λ chosen. Ok (map (deleted schema) chosen))
