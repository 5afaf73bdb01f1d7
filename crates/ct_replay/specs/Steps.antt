-- What one step of a replay answers.
use Rattle.std.specs.Prelude.{◌≡◌, ℕ, Bool, true, false, List}
use Rattle.ct_types.specs.declared.entry.Entry.{Entry}
use Rattle.ct_model.specs.declared.db.Db.{Db}
use Rattle.ct_model.specs.Apply.{apply}
use Rattle.ct_replay.specs.Replay.{Adds}

-- where a payload adds an entry to a database, the entry is applied; where it adds none, that is told
abbrev pub IsTried : Db → List ℕ → Bool → Db → Type 0
IsTried db payload true after = (entry : Entry) × Adds db payload entry × (after ≡ apply db entry)
IsTried db payload false after = (entry : Entry) → Adds db payload entry → ⊥
