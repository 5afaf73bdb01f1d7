-- What a disk stands for. This project's own.
--
-- The current slot of area 0 names the area of a checkpoint, or none, and those of one log or two. The database of the
-- disk is that of the checkpoint, or the empty one, to which the entries of the logs were applied, those of the first log
-- before those of the second. A disk whose area 0 is unfinished stands for the empty database.
use Rattle.std.specs.Prelude.{◌≡◌, ◌⊎◌, ◌==◌, if◌then◌else◌, ℕ, zero, suc, ◌+◌, List}
use Rattle.ct_faults.specs.Disk.{Image}
use Rattle.ct_model.specs.declared.db.Db.{Db}
use Rattle.ct_model.specs.Apply.{no_db}
use Rattle.ct_pages.specs.declared.slot.Super.{Super}
use Rattle.ct_pages.specs.Slots.{IsUnfinished, Names}
use Rattle.ct_replay.specs.Replay.{Replays}
use Rattle.ct_found.specs.Checkpoint.{IsCheckpoint}

-- the log to which entries are appended: the second one, or the first where there is no second
abbrev pub last_of : Super → ℕ
last_of slot = if slot.second == 0 then slot.first else slot.second

-- the database of the checkpoint in this area, or the empty one where there is none (0)
abbrev pub BeginsIn : ℕ → ℕ → Image → Db → Type 0
BeginsIn zero size image db = db ≡ no_db
BeginsIn (suc area) size image db = IsCheckpoint (image (suc area)) size db

-- the database with which a slot begins
abbrev pub Begins : Super → Image → Db → Type 0
Begins slot image db = BeginsIn slot.checkpoint slot.length image db

-- the database before the last log, with so many records before it: where there is a second log, what the first one makes of
-- the beginning
abbrev pub EarlierBy : ℕ → List ℕ → Db → Db → ℕ → Type 0
EarlierBy zero bytes start before records = (before ≡ start) × (records ≡ 0)
EarlierBy (suc second) bytes start before records = (used : ℕ) × Replays start bytes before records used

abbrev pub Earlier : Super → Image → Db → Db → ℕ → Type 0
Earlier slot image start before records = EarlierBy slot.second (image slot.first) start before records

-- the areas that a slot names make a database, by so many records; of its last log so many bytes are used
pub record Makes (slot : Super) (image : Image) (db : Db) (records used : ℕ) : Type 0 where
  pub start : Db
  pub begins : Begins slot image start
  pub before : Db
  pub earlier_records : ℕ
  pub earlier : Earlier slot image start before earlier_records
  pub last_records : ℕ
  pub last : Replays before (image (last_of slot)) db last_records used
  pub records_is : records ≡ earlier_records + last_records

-- this slot is current, and the areas that it names make a database
pub record Stands (slot : Super) (image : Image) (db : Db) (records used : ℕ) : Type 0 where
  pub names : Names (image 0) slot
  pub makes : Makes slot image db records used

-- an unfinished disk: the empty database
pub record IsFresh (image : Image) (db : Db) : Type 0 where
  pub unfinished : IsUnfinished (image 0)
  pub db_is : db ≡ no_db

-- a disk stands for a database
abbrev pub StandsFor : Image → Db → Type 0
StandsFor image db = IsFresh image db ⊎ ((slot : Super) × (records : ℕ) × (used : ℕ) × Stands slot image db records used)

-- a disk stands for a database, and an opening goes on with so many used bytes: those of its one log, or 1 where there are
-- two, since the opening writes a checkpoint then and begins an empty log
abbrev pub Finds : Image → Db → ℕ → Type 0
Finds image db used =
    (IsFresh image db × (used ≡ 1)) ⊎ ((slot : Super) × (records : ℕ) × (last : ℕ) × Stands slot image db records last × (used ≡ (if slot.second == 0 then last else 1)))
