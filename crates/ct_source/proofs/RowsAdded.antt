-- A row whose key is above all others goes last.
use Rattle.std.proofs.Common.{◌≡◌, List, [], ◌∷◌, ◌++◌, filter, Some, refl, ap, ap₂, ◌∙◌}
use Rattle.std.specs.Ordering.{is_lt, is_gt}
use Rattle.std.specs.declared.cmp.Ordering.TheVariants.{Less}
use Rattle.std.proofs.lemmas.List.{append-nil}
use Rattle.ct_types.specs.Order.{key_cmp}
use Rattle.ct_types.specs.declared.value.Row.{Row}
use Rattle.ct_types.specs.declared.schema.Schema.{Schema}
use Rattle.ct_types.proofs.Lists.{all_back}
use Rattle.ct_model.specs.Tables.{key_of, rows_with}
use Rattle.ct_model.specs.Valid.{AreRising}
use Rattle.ct_source.specs.Plain.{AreBelow}

lows : (schema : Schema) (row : Row) (rows : List Row) → AreBelow schema row rows → filter (λ old. is_lt (key_cmp (key_of schema old) (key_of schema row))) rows ≡ rows
lows schema row [] below = refl
lows schema row (old ∷ rows) below = rw below.0 (ap (λ (rest : List Row). old ∷ rest) (lows schema row rows below.1))

highs : (schema : Schema) (row : Row) (rows : List Row) → AreBelow schema row rows → filter (λ old. is_gt (key_cmp (key_of schema old) (key_of schema row))) rows ≡ []
highs schema row [] below = refl
highs schema row (old ∷ rows) below = rw below.0 (highs schema row rows below.1)

pub goes_last : (schema : Schema) (row : Row) (rows : List Row) → AreBelow schema row rows → rows_with schema rows (key_of schema row) (Some row) ≡ rows ++ row ∷ []
goes_last schema row rows below =
    ap₂ (λ (low high : List Row). (low ++ row ∷ []) ++ high) (lows schema row rows below) (highs schema row rows below) ∙ append-nil (rows ++ row ∷ [])

pub are_below : (schema : Schema) (rows : List Row) (row : Row) (rest : List Row) → AreRising schema (rows ++ row ∷ rest) → AreBelow schema row rows
are_below schema [] row rest rising = tt
are_below schema (old ∷ rows) row rest rising =
    ((all_back (λ later. key_cmp (key_of schema old) (key_of schema later) ≡ Less) rows (row ∷ rest) rising.0).0, are_below schema rows row rest rising.1)
