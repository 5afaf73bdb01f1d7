-- When a disk stands for nothing, and where its reading meets the first fault. This project's own.
--
-- The reading goes from area 0 to the checkpoint, and then through the logs, record by record.
use Rattle.std.specs.Prelude.{◌≡◌, ◌≢◌, ◌⊎◌, ℕ}
use Rattle.ct_faults.specs.Disk.{Image}
use Rattle.ct_model.specs.declared.db.Db.{Db}
use Rattle.ct_pages.specs.declared.slot.Super.{Super}
use Rattle.ct_pages.specs.Slots.{Names, IsForeignAt}
use Rattle.ct_replay.specs.Replay.{Replays, BreaksOff}
use Rattle.ct_found.specs.Checkpoint.{IsNoCheckpoint}
use Rattle.ct_found.specs.Found.{Begins}

-- the checkpoint that the slot names is none
pub record CheckpointFails (slot : Super) (image : Image) (area offset : ℕ) : Type 0 where
  pub some : slot.checkpoint ≢ 0
  pub area_is : area ≡ slot.checkpoint
  pub fault : IsNoCheckpoint (image slot.checkpoint) slot.length offset

-- the replay of the first log breaks off
pub record FirstFails (slot : Super) (image : Image) (area offset : ℕ) : Type 0 where
  pub start : Db
  pub begins : Begins slot image start
  pub area_is : area ≡ slot.first
  pub fault : BreaksOff start (image slot.first) offset

-- that of the second log does, where there is one
pub record SecondFails (slot : Super) (image : Image) (area offset : ℕ) : Type 0 where
  pub start : Db
  pub begins : Begins slot image start
  pub some : slot.second ≢ 0
  pub before : Db
  pub records : ℕ
  pub used : ℕ
  pub first : Replays start (image slot.first) before records used
  pub area_is : area ≡ slot.second
  pub fault : BreaksOff before (image slot.second) offset

-- a fault in the areas that a slot names
abbrev pub AreaFails : Super → Image → ℕ → ℕ → Type 0
AreaFails slot image area offset = CheckpointFails slot image area offset ⊎ (FirstFails slot image area offset ⊎ SecondFails slot image area offset)

-- a disk is foreign, by this area and this offset: area 0 is, or it names a slot and the areas of that have a fault
abbrev pub IsForeign : Image → ℕ → ℕ → Type 0
IsForeign image area offset = ((area ≡ 0) × IsForeignAt offset (image 0)) ⊎ ((slot : Super) × Names (image 0) slot × AreaFails slot image area offset)
