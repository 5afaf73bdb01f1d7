-- What a write that fits says of its key, its row, its mask and its context.
use Rattle.std.proofs.Common.{◌≡◌, ℕ, zero, suc, ◌-◌, Bool, true, false, ◌||◌, List, [], ◌∷◌, Option, None, Some, refl, sym, subst}
use Rattle.std.specs.Prelude.{slice_get}
use Rattle.std.specs.List.{AllByRecursion, filter_map, cons_option}
use Rattle.std.specs.Option.{option_to_list}
use Rattle.ct_types.specs.ColumnFit.{Holds}
use Rattle.ct_types.proofs.Orders.{key_cmp_exact}
use Rattle.ct_types.specs.declared.value.Value.{Value}
use Rattle.ct_types.specs.declared.value.Key.{Key}
use Rattle.ct_types.specs.declared.value.Row.{Row}
use Rattle.ct_types.specs.declared.schema.Column.{Column}
use Rattle.ct_types.specs.declared.schema.Schema.{Schema}
use Rattle.ct_types.specs.declared.entry.Op.{Op}
use Rattle.ct_types.specs.declared.entry.Op.TheVariants.{Insert, Update, Delete}
use Rattle.ct_model.specs.declared.db.Table.{Table}
use Rattle.ct_model.specs.Applies.{is_present_before, RowIsOf, ContextIsOf}
use Rattle.ct_model.specs.Schemas.{AllHold, RowFits, KeyFits}
use Rattle.ct_model.specs.Tables.{key_of, has_row, has_that_key, has_masks}
use Rattle.ct_model.specs.Valid.{MaskFits, ContextFits}
use Rattle.ct_model.proofs.Rising.{equal_of}

-- a column and its value are there together, or neither
abbrev HoldTogether : Option Column → Option Value → Type 0
HoldTogether None None = Unit {0}
HoldTogether None (Some value) = ⊥
HoldTogether (Some column) None = ⊥
HoldTogether (Some column) (Some value) = Holds column value

hold_at : (columns : List Column) (values : List Value) → AllHold columns values → (i : ℕ)
    → HoldTogether (slice_get columns i) (slice_get values i)
hold_at [] [] hold i = tt
hold_at [] (value ∷ values) hold i = elim hold [ ]
hold_at (column ∷ columns) [] hold i = elim hold [ ]
hold_at (column ∷ columns) (value ∷ values) hold zero = hold.0
hold_at (column ∷ columns) (value ∷ values) hold (suc i) = hold_at columns values hold.1 i

cons_hold : (column : Option Column) (value : Option Value) (columns : List Column) (values : List Value) → HoldTogether column value
    → AllHold columns values → AllHold (cons_option column columns) (cons_option value values)
cons_hold None None columns values one more = more
cons_hold None (Some value) columns values one more = elim one [ ]
cons_hold (Some column) None columns values one more = elim one [ ]
cons_hold (Some column) (Some value) columns values one more = (one, more)

picked_hold : (columns : List Column) (values : List Value) → AllHold columns values → (ids : List ℕ)
    → AllHold (filter_map (λ id. slice_get columns (id - 1)) ids) (filter_map (λ id. slice_get values (id - 1)) ids)
picked_hold columns values hold [] = tt
picked_hold columns values hold (id ∷ ids) =
    cons_hold (slice_get columns (id - 1)) (slice_get values (id - 1)) _ _ (hold_at columns values hold (id - 1)) (picked_hold columns values hold ids)

-- the key of a row that fits is one that fits
pub key_of_fits : (schema : Schema) (row : Row) → RowFits schema row → KeyFits schema (key_of schema row)
key_of_fits schema row fits = picked_hold schema.columns row.0 fits schema.key

-- a key that is present among rows that fit is one that fits
present_fits : (schema : Schema) (rows : List Row) (key : Key) → AllByRecursion (RowFits schema) rows → has_row schema rows key ≡ true
    → KeyFits schema key
present_fits schema [] key fit present = cc
present_fits schema (row ∷ rows) key fit present =
    let step : (b : Bool) → b ≡ has_that_key schema key row → (b || has_row schema rows key) ≡ true → KeyFits schema key =
    elim [
      | true ↦ (λ e p. subst (KeyFits schema) (key_cmp_exact (key_of schema row) key (equal_of _ (sym e))) (key_of_fits schema row fit.0))
      | false ↦ (λ e p. present_fits schema rows key fit.1 p)
    ] in
    step (has_that_key schema key row) refl present

pub write_key_fits : (schema : Schema) (rows : List Row) (op : Op) (key : Key) (row : Option Row) → AllByRecursion (RowFits schema) rows
    → has_row schema rows key ≡ is_present_before op → RowIsOf schema op key row → KeyFits schema key
write_key_fits schema rows Insert key None fit present is = elim is [ ]
write_key_fits schema rows Insert key (Some row) fit present is = subst (KeyFits schema) is.1 (key_of_fits schema row is.0)
write_key_fits schema rows Update key row fit present is = present_fits schema rows key fit present
write_key_fits schema rows Delete key row fit present is = present_fits schema rows key fit present

pub written_row : (schema : Schema) (op : Op) (key : Key) (row : Option Row) → RowIsOf schema op key row
    → AllByRecursion (λ r. RowFits schema r × (key_of schema r ≡ key)) (option_to_list row)
written_row schema Insert key None is = elim is [ ]
written_row schema Insert key (Some row) is = (is, tt)
written_row schema Update key None is = elim is [ ]
written_row schema Update key (Some row) is = (is, tt)
written_row schema Delete key None is = tt
written_row schema Delete key (Some row) is = elim is [ ]

-- whether a mask fits depends on the schema and on whether there are masks
pub mask_fits_on : (a b : Table) (op : Op) (mask : ℕ) → b.schema ≡ a.schema → has_masks b.tracked ≡ has_masks a.tracked → MaskFits a op mask
    → MaskFits b op mask
mask_fits_on a b Insert mask same masks fits = fits
mask_fits_on a b Update mask same masks fits =
    rw (same, masks) fits
mask_fits_on a b Delete mask same masks fits = fits

pub tracked_context : (tracked : Bool) (context : Option (List ℕ)) → tracked ≡ true → ContextIsOf tracked context → ContextFits context
tracked_context true context e is = is
tracked_context false context e is = cc
