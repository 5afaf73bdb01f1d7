-- What the opening of a disk answers, and what a crash may leave of it. This project's own.
use Rattle.std.specs.Prelude.{◌≡◌, ◌≢◌, ℕ, Result, Ok, Err}
use Rattle.ct_faults.specs.Disk.{Image}
use Rattle.ct_model.specs.declared.db.Db.{Db}
use Rattle.ct_log.specs.declared.fault.OpenFault.{OpenFault}
use Rattle.ct_log.specs.declared.fault.OpenFault.TheVariants.{Foreign, DiskFault, Memory}
use Rattle.ct_pages.specs.declared.slot.Super.{Super}
use Rattle.ct_pages.specs.Fresh.{IsFinished}
use Rattle.ct_pages.specs.Slots.{IsUnfinished, Names}
use Rattle.ct_found.specs.Found.{Stands, StandsFor}
use Rattle.ct_found.specs.Foreign.{IsForeign}
use Rattle.ct_recover.specs.Condensing.{KeepsNamedBy}
use Rattle.ct_recover.specs.Volume.{IsSteady}
use Rattle.ct_recover.specs.declared.opening.Ready.{Ready}

-- a disk stands for this database by this slot
pub record StandsBy (slot : Super) (image : Image) (db : Db) : Type 0 where
  pub records : ℕ
  pub used : ℕ
  pub stands : Stands slot image db records used

-- what a crash may leave: a disk that stands for the database
abbrev pub StaysFor : Db → Image → Image → Type 0
StaysFor db old new = StandsFor new db

-- what an opening leaves as it was: an unfinished disk is finished; where the current slot names one log, nothing changes;
-- where it names two, every area that it names stays but area 0
pub record KeepsAreas (old new : Image) : Type 0 where
  pub unfinished : IsUnfinished (old 0) → IsFinished old new
  pub one_log : (slot : Super) → Names (old 0) slot → slot.second ≡ 0 → new ≡ old
  pub two_logs : (slot : Super) → Names (old 0) slot → slot.second ≢ 0 → KeepsNamedBy slot old new

-- the answer, by what reads gave before and give now, and by what a crash may leave now: the database for which the disk
-- stood, at which it is steady now; or where it is foreign. A fault of the disk and want of memory tell nothing
abbrev pub Opens : Image → Image → (Image → Type 0) → Result Ready OpenFault → Type 0
Opens old new images (Ok ready) = StandsFor old ready.db × IsSteady ready.current ready.used new images ready.db
Opens old new images (Err (Foreign area offset)) = IsForeign old area offset × (new ≡ old)
Opens old new images (Err DiskFault) = Unit {0}
Opens old new images (Err Memory) = Unit {0}
