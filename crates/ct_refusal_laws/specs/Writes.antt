-- What INSERT, UPDATE and DELETE refuse, by the parts of a statement: its context, what is evaluated, and the rows that it makes.
use Rattle.std.specs.Prelude.{◌≡◌, ◌⊎◌, ℕ, ◌<◌, codes, List, length, map, Option, Some, None, Ok}
use Rattle.std.specs.List.{Contains}
use Rattle.ct_types.specs.declared.bound.BoundExpr.{BoundExpr}
use Rattle.ct_types.specs.declared.bound.BoundSet.{BoundSet}
use Rattle.ct_types.specs.declared.bound.BoundWrite.{BoundWrite}
use Rattle.ct_types.specs.declared.bound.RowChange.{RowChange}
use Rattle.ct_types.specs.declared.bound.RowChange.TheVariants.{Insert, Update, Delete}
use Rattle.ct_types.specs.declared.catalogue.Catalogued.{Catalogued}
use Rattle.ct_types.specs.declared.refusal.Refusal.{Refusal}
use Rattle.ct_types.specs.declared.refusal.Refusal.TheVariants.{Overflow, TooLong}
use Rattle.ct_types.specs.declared.schema.Schema.{Schema}
use Rattle.ct_types.specs.declared.value.Row.{Row}
use Rattle.ct_types.specs.declared.value.Value.TheVariants.{Bytes}
use Rattle.ct_types.specs.Answers.{Answer, ◌>>=◌}
use Rattle.ct_expr.specs.Meaning.{World, on, value}
use Rattle.ct_write.specs.Rows.{no_row, targets, changes_of}
use Rattle.ct_refusal_laws.specs.Misfits.{FirstMisfit}
use Rattle.ct_refusal_laws.specs.Overflows.{Overflows}
use Rattle.ct_refusal_laws.specs.Queries.{FilterOverflows, SomeOverflows}

-- the context of more than 128 bytes
abbrev pub IsTooLongContext : World → BoundExpr → Type 0
IsTooLongContext w expr = (bytes : List ℕ) × (value (on w no_row) expr ≡ Ok (Bytes bytes)) × (128 < length bytes)

-- the context, where one is written
abbrev pub ContextRefuses : World → Option BoundExpr → Refusal → Type 0
ContextRefuses w None refusal = ⊥
ContextRefuses w (Some expr) refusal =
    ((refusal ≡ Overflow) × Overflows (on w no_row) expr) ⊎ ((refusal ≡ TooLong (codes "CHANGE_TRACKING_CONTEXT")) × IsTooLongContext w expr)

-- a value of the SET list, on a row for which WHERE is true
abbrev pub SetOverflows : World → List BoundSet → Option BoundExpr → List Row → Type 0
SetOverflows w sets filter rows =
    (chosen : List Row) × (targets w filter rows ≡ Ok chosen) × ((row : Row) × Contains chosen row × ((set : BoundSet) × Contains sets set × Overflows (on w row) set.value))

-- a value of VALUES; WHERE on a row, or a value of the SET list
abbrev pub ChangeOverflows : World → RowChange → List Row → Type 0
ChangeOverflows w (Insert columns tuples) rows = (tuple : List BoundExpr) × Contains tuples tuple × SomeOverflows w no_row tuple
ChangeOverflows w (Update sets filter) rows = FilterOverflows w filter rows ⊎ SetOverflows w sets filter rows
ChangeOverflows w (Delete filter) rows = FilterOverflows w filter rows

-- the rows that a statement makes, before they are fitted; none for a key that is deleted
abbrev pub rows_made : World → Schema → RowChange → List Row → Answer (List (Option Row))
rows_made w schema change rows = changes_of w schema change rows >>= (λ changes. Ok (map (λ changed. changed.row) changes))

-- a row that is made has a value that does not fit, and this is the first
abbrev pub MadeMisfits : World → Schema → RowChange → List Row → Refusal → Type 0
MadeMisfits w schema change rows refusal = (made : List (Option Row)) × (rows_made w schema change rows ≡ Ok made) × FirstMisfit schema.columns made refusal

-- the whole
abbrev pub WriteRefuses : World → Catalogued → BoundWrite → List Row → Refusal → Type 0
WriteRefuses w table bound rows refusal =
    ContextRefuses w bound.context refusal
    ⊎ (((refusal ≡ Overflow) × ChangeOverflows w bound.change rows) ⊎ MadeMisfits w table.schema bound.change rows refusal)
