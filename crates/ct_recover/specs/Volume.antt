-- What a volume keeps, and what an append to it may leave. This project's own.
use Rattle.std.specs.Prelude.{◌≡◌, ◌⊎◌, ℕ, ◌+◌, ◌<◌, ◌≤◌, List, length, Some, Result, Ok, Err}
use Rattle.ct_types.specs.declared.entry.Entry.{Entry}
use Rattle.ct_faults.specs.Disk.{Image}
use Rattle.ct_model.specs.declared.db.Db.{Db}
use Rattle.ct_model.specs.Applies.{Applies}
use Rattle.ct_model.specs.Apply.{apply}
use Rattle.ct_codec.specs.EntryReaders.{entry_of}
use Rattle.ct_codec.specs.Spellings.{bare}
use Rattle.ct_log.specs.Append.{IsFrame, payload_in, most_bytes}
use Rattle.ct_log.specs.declared.fault.LogError.{LogError}
use Rattle.ct_log.specs.declared.fault.LogError.TheVariants as log
use Rattle.ct_pages.specs.declared.slot.Super.{Super}
use Rattle.ct_pages.specs.Slots.{IsNamed}
use Rattle.ct_found.specs.Found.{Stands, StandsFor}
use Rattle.ct_recover.specs.declared.fault.VolumeError.{VolumeError}
use Rattle.ct_recover.specs.declared.fault.VolumeError.TheVariants.{LogFull, DiskFault, Memory}

-- a disk is steady at a database: what reads give stands for it, by this slot and with so many used bytes in its last log;
-- and each image that a crash may leave has the same bytes in every area that the slot names
pub record IsSteady (slot : Super) (used : ℕ) (content : Image) (images : Image → Type 0) (db : Db) : Type 0 where
  pub records : ℕ
  pub stands : Stands slot content db records used
  pub same : (image : Image) → images image → (area : ℕ) → IsNamed slot area → image area ≡ content area

-- it is so at a database to which the entry applies
pub record MayTake (slot : Super) (used : ℕ) (content : Image) (images : Image → Type 0) (entry : Entry) : Type 0 where
  pub db : Db
  pub steady : IsSteady slot used content images db
  pub applies : Applies db entry

-- what a crash may leave of an append: a disk that stands for the database before it, or with the entry applied
abbrev pub MayAppendTo : Db → Entry → Image → Image → Type 0
MayAppendTo db entry old new = StandsFor new db ⊎ StandsFor new (apply db entry)

-- LogFull is answered exactly where the bytes that are needed would make the log larger than it may be
abbrev pub IsFullExactly : ℕ → ℕ → Result (Unit {0}) VolumeError → Type 0
IsFullExactly used needed (Ok done) = used + needed ≤ most_bytes
IsFullExactly used needed (Err (LogFull was needs)) = (was ≡ used) × (needs ≡ needed) × (most_bytes < used + needed)
IsFullExactly used needed (Err DiskFault) = used + needed ≤ most_bytes
IsFullExactly used needed (Err Memory) = used + needed ≤ most_bytes

-- an answer for which no call of the disk was made that writes
abbrev pub IsRefusal : VolumeError → Type 0
IsRefusal (LogFull used needed) = Unit {0}
IsRefusal Memory = Unit {0}
IsRefusal DiskFault = ⊥

-- the frame of a record whose payload spells an entry, in so many bytes
pub record IsFrameOf (entry : Entry) (size : ℕ) (body : List ℕ) : Type 0 where
  pub frame : IsFrame body
  pub spells : entry_of (payload_in body) ≡ Some (bare entry)
  pub size_is : length body ≡ size

-- what an append to a log answers, as an append to a volume
abbrev pub of_log : LogError → VolumeError
of_log (log.LogFull used needed) = LogFull used needed
of_log log.DiskFault = DiskFault
