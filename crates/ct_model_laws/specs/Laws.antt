-- Laws about entries that apply. This project's own.
use Rattle.std.specs.Prelude.{◌≡◌, ℕ, ◌≤◌, ◌<◌, true, List, Some}
use Rattle.std.specs.Option.{IfSome}
use Rattle.ct_types.specs.declared.value.Row.{Row}
use Rattle.ct_types.specs.declared.entry.Act.{Act}
use Rattle.ct_types.specs.declared.entry.Act.TheVariants.{Commit, Define, Truncate, Enable, Disable, Database, Raise}
use Rattle.ct_types.specs.declared.entry.Entry.{Entry}
use Rattle.ct_model.specs.declared.db.Db.{Db}
use Rattle.ct_model_laws.specs.Agrees.{Agrees}
use Rattle.ct_model.specs.Applies.{Applies, ApplyInTurn}
use Rattle.ct_model.specs.Apply.{apply, no_db, replay}
use Rattle.ct_model.specs.Tables.{table_of}
use Rattle.ct_model.specs.Valid.{IsValid}
use Rattle.ct_model.specs.Versions.{minimum}

-- an entry that applies leaves a valid database valid
abbrev pub StaysValid : Type 0
StaysValid = (db : Db) (entry : Entry) → IsValid db → Applies db entry → IsValid (apply db entry)

-- an entry that applies lowers neither the version nor the time nor the greatest transaction number
abbrev pub NeverLowers : Type 0
NeverLowers =
    (db : Db) (entry : Entry) → Applies db entry → (db.version ≤ (apply db entry).version) × (db.time ≤ (apply db entry).time) × (db.last_xdes ≤ (apply db entry).last_xdes)

-- the table that an act truncates or tracks anew
abbrev pub StartsAnew : Act → ℕ → Type 0
StartsAnew (Truncate id) table = id ≡ table
StartsAnew (Enable id masks) table = id ≡ table
StartsAnew (Commit writes) table = ⊥
StartsAnew (Define schema) table = ⊥
StartsAnew (Disable id) table = ⊥
StartsAnew (Database keep) table = ⊥
StartsAnew (Raise minima) table = ⊥

-- a table that is truncated while it is tracked, or that goes tracked, has a minimum above every version before: each
-- client has to initialise its copy again
abbrev pub Outdates : Type 0
Outdates =
    (db : Db) (entry : Entry) (id : ℕ) → Applies db entry → entry.draws ≡ true → StartsAnew entry.act id
    → (db.version < (apply db entry).version) × (minimum (apply db entry) id ≡ Some (apply db entry).version)

-- a copy that agrees with a valid database agrees with what an entry that applies makes of it
abbrev pub GoesOnAgreeing : Type 0
GoesOnAgreeing =
    (db : Db) (entry : Entry) (id noted : ℕ) (copied : List Row) → IsValid db → Applies db entry → Agrees db id noted copied → Agrees (apply db entry) id noted copied

-- the rows of a table, noted with the version of the database, agree with it
abbrev pub RowsAgree : Type 0
RowsAgree = (db : Db) (id : ℕ) → IfSome (table_of db.tables id) (λ table. Agrees db id db.version table.rows)

-- the empty database is valid
abbrev pub EmptyIsValid : Type 0
EmptyIsValid = IsValid no_db

-- entries that apply in turn leave a valid database valid
abbrev pub ReplayStaysValid : Type 0
ReplayStaysValid = (db : Db) (entries : List Entry) → IsValid db → ApplyInTurn db entries → IsValid (replay db entries)
