-- The writes of a statement. The context is evaluated and fitted first; then all rows are evaluated; then all are
-- fitted. That order is this project's own.
use Rattle.std.specs.Prelude.{◌≢◌, ◌≤◌, ℕ, Bool, ◌-◌, ◌^◌, nat_le, codes, bit_or, List, [], ◌∷◌, length, map, Option, Some, None, is_some, Ok, Err, if◌then◌else◌}
use Rattle.std.specs.List.{All, AllByRecursion}
use Rattle.ct_types.specs.declared.bound.BoundExpr.{BoundExpr}
use Rattle.ct_types.specs.declared.bound.BoundWrite.{BoundWrite}
use Rattle.ct_types.specs.declared.bound.RowChange.{RowChange}
use Rattle.ct_types.specs.declared.bound.RowChange.TheVariants.{Insert, Update, Delete}
use Rattle.ct_types.specs.declared.catalogue.Catalogued.{Catalogued}
use Rattle.ct_types.specs.declared.entry.Op.{Op}
use Rattle.ct_types.specs.declared.entry.Op.TheVariants as op
use Rattle.ct_types.specs.declared.entry.Write.{Write}
use Rattle.ct_types.specs.declared.refusal.Refusal.TheVariants.{TooLong}
use Rattle.ct_types.specs.declared.schema.Schema.{Schema}
use Rattle.ct_types.specs.declared.tracked.Tracked.{Tracked}
use Rattle.ct_types.specs.declared.value.Row.{Row}
use Rattle.ct_types.specs.declared.value.Value.{Value}
use Rattle.ct_types.specs.declared.value.Value.TheVariants.{Bytes}
use Rattle.ct_model.specs.Tables.{has_masks}
use Rattle.ct_mask.specs.Masks.{IsId}
use Rattle.ct_expr.specs.Meaning.{World, on, value}
use Rattle.ct_types.specs.Answers.{Answer, ◌>>=◌}
use Rattle.ct_write.specs.declared.changes.Changed.{Changed}
use Rattle.ct_write.specs.Fitting.{fit_row}
use Rattle.ct_write.specs.Rows.{no_row, set_columns, changes_of}
use Rattle.ct_write.specs.Steps.{in_turn}

-- ---- WITH CHANGE_TRACKING_CONTEXT

abbrev pub Context : Type 0
Context = Option (List ℕ)

-- at most 128 bytes; NULL is no context
abbrev pub fit_context : Value → Answer Context
fit_context (Bytes b) = if nat_le (length b) 128 then Ok (Some b) else Err (TooLong (codes "CHANGE_TRACKING_CONTEXT"))
fit_context v = Ok None

abbrev pub context_of : World → Option BoundExpr → Answer Context
context_of w None = Ok None
context_of w (Some expr) = value (on w no_row) expr >>= fit_context

-- ---- what a write records

abbrev pub op_of : RowChange → Op
op_of (Insert columns tuples) = op.Insert
op_of (Update sets filter) = op.Update
op_of (Delete filter) = op.Delete

-- the number that has the bit c - 1 for each id c of the list
abbrev pub mask_of_ids : List ℕ → ℕ
mask_of_ids [] = 0
mask_of_ids (id ∷ ids) = bit_or (2 ^ (id - 1)) (mask_of_ids ids)

-- each column of a SET list is one that a table may have
abbrev pub NamesIds : RowChange → Type 0
NamesIds (Update sets filter) = All IsId (set_columns sets)
NamesIds (Insert columns tuples) = Unit {0}
NamesIds (Delete filter) = Unit {0}

-- the columns of a SET list have ids from 1 on, and none is one of the key
abbrev pub SparesKey : Schema → RowChange → Type 0
SparesKey schema (Update sets filter) = AllByRecursion (λ id. (1 ≤ id) × AllByRecursion (λ key. key ≢ id) schema.key) (set_columns sets)
SparesKey schema (Insert columns tuples) = Unit {0}
SparesKey schema (Delete filter) = Unit {0}

-- the columns that the SET list names, where the table records them
abbrev pub mask_of : Option Tracked → RowChange → ℕ
mask_of tracked (Update sets filter) = if has_masks tracked then mask_of_ids (set_columns sets) else 0
mask_of tracked (Insert columns tuples) = 0
mask_of tracked (Delete filter) = 0

-- a write that is not tracked has no context
abbrev pub kept_context : Bool → Context → Context
kept_context tracked context = if tracked then context else None

abbrev pub recorded : Catalogued → Op → ℕ → Context → Changed → Write
recorded table op mask context changed = record {
  table = table.schema.id;
  op = op;
  key = changed.key;
  row = changed.row;
  tracked = is_some table.tracked;
  mask = mask;
  context = context;
}

abbrev pub write_of : Catalogued → RowChange → Context → Changed → Write
write_of table change context = recorded table (op_of change) (mask_of table.tracked change) (kept_context (is_some table.tracked) context)

-- ---- the statement

-- once all rows are evaluated, all are fitted, row by row
abbrev pub fitted : Schema → List Changed → Answer (Unit {0})
fitted schema changes = in_turn (λ changed. fit_row schema.columns changed.row) changes

unfoldable pub writes_of : World → Catalogued → BoundWrite → List Row → Answer (List Write)
writes_of w table bound rows =
    context_of w bound.context
    >>= (λ context. changes_of w table.schema bound.change rows
    >>= (λ changes. fitted table.schema changes
    >>= (λ passed. Ok (map (write_of table bound.change context) changes))))
