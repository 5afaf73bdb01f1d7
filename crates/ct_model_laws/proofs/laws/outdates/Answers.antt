use Rattle.std.proofs.Common.{◌≡◌, ℕ, Bool, true, false, cond, eq-eqb, Option, None, Some, refl}
use Rattle.std.specs.Option.{IsSomeAnd, is_some, option_and_then, option_map}
use Rattle.ct_types.specs.declared.tracked.Tracked.{Tracked}
use Rattle.ct_types.specs.declared.entry.Act.{Act}
use Rattle.ct_types.specs.declared.entry.Act.TheVariants.{Commit, Define, Truncate, Enable, Disable, Database, Raise}
use Rattle.ct_model.specs.declared.db.Table.{Table}
use Rattle.ct_model.specs.declared.db.Db.{Db}
use Rattle.ct_model.specs.Applies.{ActApplies}
use Rattle.ct_model.specs.Apply.{apply, tables_after, truncated, tracked_as, with_min}
use Rattle.ct_model_laws.specs.Laws.{StartsAnew}
use Rattle.ct_model.specs.Tables.{table_of}
use Rattle.ct_model.proofs.Found.{found_itself, found_map}
use Rattle.ct_model_laws.proofs.Following.{truncation_keeps, tracked_as_schema}
use Rattle.ct_model_laws.proofs.Rises.{drawn_rises}
use Rattle.ct_model_laws.proofs.laws.outdates.Goals as goal

-- a table has this minimum
abbrev HasMin : ℕ → Table → Type 0
HasMin min table = option_map (λ tracked. tracked.min) table.tracked ≡ Some min

minimum_is : (min : ℕ) (o : Option Table) → IsSomeAnd o (HasMin min)
    → option_and_then (λ table. option_map (λ tracked. tracked.min) table.tracked) o ≡ Some min
minimum_is min None found = elim found [ ]
minimum_is min (Some table) has = has

with_min_has : (min : ℕ) (draws : Bool) (tracked : Option Tracked) → draws ≡ true → draws ≡ is_some tracked
    → option_map (λ t. t.min) (cond draws (with_min min tracked) tracked) ≡ Some min
with_min_has min true (Some tracked) drawn is = refl
with_min_has min true None drawn is = cc
with_min_has min false tracked drawn is = cc

truncated_has : (id version : ℕ) (draws : Bool) (t : Table) → draws ≡ true → t.schema.id ≡ id → draws ≡ is_some t.tracked
    → HasMin version (truncated id version draws t)
truncated_has id version draws t drawn same is = rw (eq-eqb t.schema.id id same) (with_min_has version draws t.tracked drawn is)

enabled_has : (id version : ℕ) (masks : Bool) (t : Table) → t.schema.id ≡ id
    → HasMin version (tracked_as id (Some (record { min = version; masks = masks })) t)
enabled_has id version masks t same = rw (eq-eqb t.schema.id id same) refl

has_version : (db : Db) (version id : ℕ) (draws : Bool) (act : Act) → ActApplies db version draws act → draws ≡ true → StartsAnew act id
    → IsSomeAnd (table_of (tables_after act version draws db.tables) id) (HasMin version)
has_version db version id draws (Truncate of) applies drawn starts =
    rw (← starts) (found_map _ (HasMin version) (truncated of version draws) (truncation_keeps of version draws).schema (λ t both. truncated_has of version draws t drawn both.0 both.1) db.tables of
    (found_itself (λ t. draws ≡ is_some t.tracked) db.tables of applies))
has_version db version id draws (Enable of masks) applies drawn starts =
    rw (← starts) (found_map _ (HasMin version) (tracked_as of (Some (record { min = version; masks = masks }))) (tracked_as_schema of (Some (record { min = version; masks = masks }))) (λ t both. enabled_has of version masks t both.0) db.tables of
    (found_itself (λ t. t.tracked ≡ None) db.tables of applies.1))
has_version db version id draws (Commit writes) applies drawn starts = elim starts [ ]
has_version db version id draws (Define schema) applies drawn starts = elim starts [ ]
has_version db version id draws (Disable of) applies drawn starts = elim starts [ ]
has_version db version id draws (Database keep) applies drawn starts = elim starts [ ]
has_version db version id draws (Raise minima) applies drawn starts = elim starts [ ]

pub returns : goal.returns
unfolding apply
returns c = λ db entry id applies drawn starts. (
  drawn_rises entry.draws db.version entry.version applies.version drawn,
  minimum_is entry.version _ (has_version db entry.version id entry.draws entry.act applies.act drawn starts),
)
