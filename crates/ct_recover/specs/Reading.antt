-- What the calls that read a disk answer. This project's own.
use Rattle.std.specs.Prelude.{◌≡◌, ◌⊎◌, ℕ, List, Result, Ok, Err}
use Rattle.ct_faults.specs.Disk.{Image}
use Rattle.ct_model.specs.declared.db.Db.{Db}
use Rattle.ct_log.specs.declared.fault.OpenFault.{OpenFault}
use Rattle.ct_log.specs.declared.fault.OpenFault.TheVariants.{Foreign, DiskFault, Memory}
use Rattle.ct_pages.specs.declared.slot.Super.{Super}
use Rattle.ct_replay.specs.Replay.{Replays, BreaksOff}
use Rattle.ct_replay.specs.declared.reading.Replayed.{Replayed}
use Rattle.ct_found.specs.Checkpoint.{IsCheckpoint, IsNoCheckpoint}
use Rattle.ct_found.specs.Found.{IsFresh, Begins, Makes, Stands}
use Rattle.ct_found.specs.Foreign.{CheckpointFails, AreaFails, IsForeign}
use Rattle.ct_recover.specs.declared.reading.Found.{Found}

-- the replay of the log in an area of these bytes. A fault of the disk and want of memory tell nothing of bytes, here and
-- below
abbrev pub ReplaysArea : ℕ → Db → List ℕ → Result Replayed OpenFault → Type 0
ReplaysArea area start bytes (Ok made) = Replays start bytes made.db made.records made.used
ReplaysArea area start bytes (Err (Foreign at offset)) = (at ≡ area) × BreaksOff start bytes offset
ReplaysArea area start bytes (Err DiskFault) = Unit {0}
ReplaysArea area start bytes (Err Memory) = Unit {0}

-- the reading of a checkpoint of this length, in an area of these bytes
abbrev pub ReadsCheckpoint : ℕ → ℕ → List ℕ → Result Db OpenFault → Type 0
ReadsCheckpoint area size bytes (Ok db) = IsCheckpoint bytes size db
ReadsCheckpoint area size bytes (Err (Foreign at offset)) = (at ≡ area) × IsNoCheckpoint bytes size offset
ReadsCheckpoint area size bytes (Err DiskFault) = ⊥
ReadsCheckpoint area size bytes (Err Memory) = Unit {0}

-- the reading of the database with which a slot begins
abbrev pub ReadsBeginning : Super → Image → Result Db OpenFault → Type 0
ReadsBeginning slot image (Ok start) = Begins slot image start
ReadsBeginning slot image (Err (Foreign area offset)) = CheckpointFails slot image area offset
ReadsBeginning slot image (Err DiskFault) = Unit {0}
ReadsBeginning slot image (Err Memory) = Unit {0}

-- the reading of the areas that a slot names
abbrev pub ReadsNamed : Super → Image → Result Found OpenFault → Type 0
ReadsNamed slot image (Ok found) = Makes slot image found.db found.entries found.used
ReadsNamed slot image (Err (Foreign area offset)) = AreaFails slot image area offset
ReadsNamed slot image (Err DiskFault) = Unit {0}
ReadsNamed slot image (Err Memory) = Unit {0}

-- an unfinished disk has the empty database, with no entry and no used byte; any other one what it stands for
abbrev pub IsFound : Image → Found → Type 0
IsFound image found =
    (IsFresh image found.db × (found.entries ≡ 0) × (found.used ≡ 0)) ⊎ ((slot : Super) × Stands slot image found.db found.entries found.used)

-- the reading of a disk
abbrev pub ReadsDisk : Image → Result Found OpenFault → Type 0
ReadsDisk image (Ok found) = IsFound image found
ReadsDisk image (Err (Foreign area offset)) = IsForeign image area offset
ReadsDisk image (Err DiskFault) = Unit {0}
ReadsDisk image (Err Memory) = Unit {0}
