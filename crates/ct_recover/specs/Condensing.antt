-- How the database of a disk with two logs is written as a checkpoint at its opening. This project's own.
--
-- The checkpoint goes to the area that the slot does not name, 1 where it names none, and a new log to the one log area that it
-- does not name. When both are synced, a slot that names these two becomes current.
use Rattle.std.specs.Prelude.{◌≡◌, ◌⊎◌, ◌+◌, ◌-◌, ◌%◌, ◌==◌, ◌≤◌, if◌then◌else◌, ℕ, List, [], ◌∷◌}
use Rattle.ct_faults.specs.Disk.{Image}
use Rattle.ct_pages.specs.declared.slot.Super.{Super}
use Rattle.ct_pages.specs.Slots.{Names, IsNamed}

-- that slot, for a checkpoint of this length
abbrev pub next_slot : Super → ℕ → Super
next_slot slot size = record {
  format = 1;
  turn = (slot.turn + 1) % 4;
  checkpoint = if slot.checkpoint == 1 then 2 else 1;
  first = 12 - slot.first - slot.second;
  second = 0;
  length = size;
}

-- the areas of one slot are not named by another
pub record IsApart (slot next : Super) : Type 0 where
  pub checkpoint : ¬ IsNamed slot next.checkpoint
  pub log : ¬ IsNamed slot next.first
  pub some : 1 ≤ next.checkpoint
  pub low : next.checkpoint ≤ 2
  pub above : 3 ≤ next.first
  pub within : next.first ≤ 5

-- the slot is current, and the areas that it names have these bytes and an empty log
pub record IsCondensed (next : Super) (bytes : List ℕ) (image : Image) : Type 0 where
  pub names : Names (image 0) next
  pub checkpoint : image next.checkpoint ≡ bytes
  pub log : image next.first ≡ 0 ∷ []

-- the areas that a slot names stay, but for area 0
abbrev pub KeepsNamedBy : Super → Image → Image → Type 0
KeepsNamedBy slot old new = (area : ℕ) → IsNamed slot area → (area ≡ 0 → ⊥) → new area ≡ old area

-- what a crash may leave of that: the areas that the old slot names stay, but for area 0, in which the one slot is current or
-- the other with what it names
pub record MayCondense (slot next : Super) (bytes : List ℕ) (old new : Image) : Type 0 where
  pub kept : KeepsNamedBy slot old new
  pub stage : Names (new 0) slot ⊎ IsCondensed next bytes new
