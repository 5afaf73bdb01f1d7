-- What one more change makes of what the changes before it came to. This project's own.
use Rattle.std.specs.Prelude.{ℕ, Bool, List, bit_or, Option, None, Some, if◌then◌else◌}
use Rattle.std.specs.Option.{option_and_then}
use Rattle.ct_types.specs.declared.schema.Schema.{Schema}
use Rattle.ct_model.specs.declared.db.Dated.{Dated}
use Rattle.ct_model.specs.Net.{is_insert, is_whole}
use Rattle.ct_ptree.specs.declared.pair.Pair.{Pair}
use Rattle.ct_ptree.specs.Pairs.{value_at, set_pair}
use Rattle.ct_net.specs.Standings.{Standing}

-- an insert creates the row anew
abbrev pub creation_after : Option ℕ → Dated → Option ℕ
creation_after creation dated = if is_insert dated.change.op then Some dated.version else creation

-- no column at first, where columns are told at all
abbrev pub columns_before : Bool → Option ℕ
columns_before masks = if masks then Some 0 else None

-- the columns that were set and those of one more mask; they are told no more once a mask has every column outside the key
abbrev pub columns_after : Schema → Option ℕ → ℕ → Option ℕ
columns_after schema columns mask = option_and_then (λ set. if is_whole schema mask then None else Some (bit_or set mask)) columns

-- one more change of a key
abbrev pub standing_after : Schema → Bool → Option Standing → Dated → Standing
standing_after schema masks None dated =
    record { last = dated; creation = creation_after None dated; columns = columns_after schema (columns_before masks) dated.change.mask }
standing_after schema masks (Some it) dated =
    record { last = dated; creation = creation_after it.creation dated; columns = columns_after schema it.columns dated.change.mask }

-- one more change of a table
abbrev pub with_change : Schema → Bool → List (Pair Standing) → Dated → List (Pair Standing)
with_change schema masks pairs dated = set_pair pairs dated.change.key (standing_after schema masks (value_at pairs dated.change.key) dated)
