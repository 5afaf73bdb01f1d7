-- How an unfinished disk is finished, and what a crash may leave of that. This project's own.
--
-- Mark and slots are laid out in area 0, as zeros behind the mark. The last byte has a write of its own, so that the area is
-- unfinished while it is torn. Area 3 is made an empty log. Then slot 0 is written behind its closed gate, which is opened
-- last. Each of these writes is synced before the next. So at each moment area 0 is unfinished, or it names that slot and
-- the log is empty.
use Rattle.std.specs.Prelude.{◌≡◌, ◌⊎◌, ◌++◌, ℕ, List, [], ◌∷◌, replicate}
use Rattle.ct_faults.specs.Disk.{Image}
use Rattle.ct_pages.specs.declared.slot.Super.{Super}
use Rattle.ct_pages.specs.Slots.{mark, IsLaidOut, IsUnfinished, Names}

-- the slot of a disk that was just finished: no checkpoint, and its one log in area 3
abbrev pub fresh_slot : Super
fresh_slot = record { format = 1; turn = 0; checkpoint = 0; first = 3; second = 0; length = 0 }

-- areas 0 and 3 of such a disk: the slot is current, and the log empty
pub record IsFresh (image : Image) : Type 0 where
  pub names : Names (image 0) fresh_slot
  pub log : image 3 ≡ 0 ∷ []

-- areas 1, 2, 4 and 5, and what else there is, stay
abbrev pub KeepsOthers : Image → Image → Type 0
KeepsOthers old new = (area : ℕ) → (area ≡ 0 → ⊥) → (area ≡ 3 → ⊥) → new area ≡ old area

-- a disk after it was finished
pub record IsFinished (old new : Image) : Type 0 where
  pub fresh : IsFresh new
  pub others : KeepsOthers old new

-- what a crash may leave of the finishing: an unfinished disk, or a finished one
pub record MayFinish (old new : Image) : Type 0 where
  pub stage : IsUnfinished (new 0) ⊎ IsFresh new
  pub others : KeepsOthers old new

-- ---- the layout of area 0

-- all of the mark and two closed slots but the last byte, in zeros
abbrev pub head_without_end : List ℕ
head_without_end = mark ++ replicate 31 0

-- area 0 after the layout
abbrev pub BecomesLaidOut : List ℕ → List ℕ → Type 0
BecomesLaidOut old new = IsLaidOut new

-- what a crash may leave of the layout
abbrev pub StaysUnfinished : List ℕ → List ℕ → Type 0
StaysUnfinished old new = IsUnfinished new
