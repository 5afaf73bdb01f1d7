-- How a disk is settled at its opening, and what a crash may leave of that. This project's own.
--
-- A sync comes first, so that a crash leaves what reads give. Then an unfinished disk is finished. Any other one stays as it is.
use Rattle.std.specs.Prelude.{◌≡◌, ◌⊎◌, ◌+◌, ◌<◌, ◌≤◌, ℕ, Result, Ok, Err}
use Rattle.ct_faults.specs.Disk.{Image}
use Rattle.ct_log.specs.declared.fault.OpenFault.{OpenFault}
use Rattle.ct_log.specs.declared.fault.OpenFault.TheVariants.{Foreign, DiskFault, Memory}
use Rattle.ct_pages.specs.declared.slot.Super.{Super}
use Rattle.ct_pages.specs.Fresh.{IsFinished, MayFinish}
use Rattle.ct_pages.specs.Slots.{IsUnfinished, Names, IsForeignAt}

-- what a crash may leave, from one moment to a later one, of calls of which the first that changes anything is a sync: up to
-- the moment at which it is done what it may have left at the first, and from it on such an image. It is done at the moment
-- `last` or before; where this lies behind the later one, it may be that it was never done. The images of the moments up to
-- the first stay what they were
pub record RunsFromSync (before now last : ℕ) (past images : ℕ → Image → Type 0) (Such : Image → Type 0) : Type 0 where
  pub later : before ≤ now
  pub keeps : (m : ℕ) (image : Image) → m ≤ before → past m image → images m image
  pub kept : (m : ℕ) (image : Image) → m ≤ before → images m image → past m image
  pub synced : ℕ
  pub behind : before < synced
  pub within : synced ≤ last
  pub waits : (m : ℕ) (image : Image) → before < m → m < synced → m ≤ now → images m image → past before image
  pub holds : (m : ℕ) (image : Image) → synced ≤ m → m ≤ now → images m image → Such image

-- the last moment at which that sync may be done, by the answer and the moment of the answer: after Ok it was done; else it
-- may be that it was not, and this is the moment behind
abbrev pub synced_by : {T E : Type 0} → Result T E → ℕ → ℕ
synced_by (Ok done) now = now
synced_by (Err e) now = now + 1

-- what a crash may leave from the sync on: what reads gave, or, of an unfinished disk, what the finishing may leave of it
abbrev pub MaySettle : Image → Image → Type 0
MaySettle content image = (image ≡ content) ⊎ (IsUnfinished (content 0) × MayFinish content image)

-- this slot is current, and either nothing changed, or an unfinished disk was finished
pub record IsSettled (old new : Image) (slot : Super) : Type 0 where
  pub names : Names (new 0) slot
  pub change : (new ≡ old) ⊎ (IsUnfinished (old 0) × IsFinished old new)

-- the answer: the slot, or the offset of a fault in area 0, with no change. A fault of the disk and want of memory tell nothing
abbrev pub Settles : Image → Image → Result Super OpenFault → Type 0
Settles old new (Ok slot) = IsSettled old new slot
Settles old new (Err (Foreign area offset)) = (area ≡ 0) × IsForeignAt offset (old 0) × (new ≡ old)
Settles old new (Err DiskFault) = Unit {0}
Settles old new (Err Memory) = Unit {0}
