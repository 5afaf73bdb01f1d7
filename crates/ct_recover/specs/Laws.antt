-- The laws of what a disk stands for, beside those of its readers.
use Rattle.std.specs.Prelude.{ℕ}
use Rattle.ct_faults.specs.Disk.{Image}
use Rattle.ct_model.specs.declared.db.Db.{Db}
use Rattle.ct_model.specs.Valid.{IsValid}
use Rattle.ct_pages.specs.declared.slot.Super.{Super}
use Rattle.ct_found.specs.Found.{Stands, StandsFor}
use Rattle.ct_recover.specs.Settling.{MaySettle, IsSettled}

-- what a disk stands for is a valid database
abbrev pub StandsIsValid : Type 0
StandsIsValid = (image : Image) (db : Db) → StandsFor image db → IsValid db

-- a disk that is settled stands for what it stood for, by its slot
abbrev pub SettledStands : Type 0
SettledStands = (old new : Image) (slot : Super) (db : Db) → IsSettled old new slot → StandsFor old db → (records : ℕ) × (used : ℕ) × Stands slot new db records used

-- and where a slot was current, by the same records, with the same used bytes in its last log
abbrev pub SettledKeeps : Type 0
SettledKeeps =
    (old new : Image) (slot other : Super) (db : Db) (records used : ℕ) → IsSettled old new slot → Stands other old db records used → Stands slot new db records used

-- what a crash may leave of that from its sync on stands for what reads gave
abbrev pub SettlingStands : Type 0
SettlingStands = (content image : Image) (db : Db) → StandsFor content db → MaySettle content image → StandsFor image db
