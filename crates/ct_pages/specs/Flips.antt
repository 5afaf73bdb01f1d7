-- How another slot becomes the current one, and what a crash may leave of that. This project's own.
--
-- A flip writes the slot that is not current. Where its gate is open, it is closed and synced first. Then the bytes behind
-- the gate are written and synced, and only then the gate is opened. So at each moment the old slot is current or the
-- new.
use Rattle.std.specs.Prelude.{◌≡◌, ◌⊎◌, ℕ, ◌+◌, List, ◌++◌, length, take, drop}
use Rattle.ct_faults.specs.Disk.{Image}
use Rattle.ct_log.specs.Reading.{IsOpen}
use Rattle.ct_pages.specs.declared.slot.Super.{Super}
use Rattle.ct_pages.specs.Slots.{spelled, offset_of, Names}

-- area 0 has the same bytes in each of these images as in this content
abbrev pub SameHead : Image → (Image → Type 0) → Type 0
SameHead content images = (image : Image) → images image → image 0 ≡ content 0

-- area 0 after a flip: the new slot is current
abbrev pub IsFlipped : Super → List ℕ → List ℕ → Type 0
IsFlipped slot old new = Names new slot

-- what a crash may leave of a flip: the one slot is current, or the other
abbrev pub MayFlip : Super → Super → List ℕ → List ℕ → Type 0
MayFlip before after old new = Names new before ⊎ Names new after

-- ---- one slot

-- area 0 with other bytes for slot 0 or 1
abbrev pub with_slot : ℕ → List ℕ → List ℕ → List ℕ
with_slot place slot bytes = take (offset_of place) bytes ++ (slot ++ drop (offset_of place + 16) bytes)

-- sixteen bytes of a closed slot
pub record IsClosedSlot (bytes : List ℕ) : Type 0 where
  pub size : length bytes ≡ 16
  pub closed : ¬ IsOpen bytes

-- the slot is closed, and the rest of area 0 stays
abbrev pub IsShut : ℕ → List ℕ → List ℕ → Type 0
IsShut place old new = (slot : List ℕ) × IsClosedSlot slot × (new ≡ with_slot place slot old)

-- what a crash may leave of the closing of a slot: area 0 as it was, or with the slot closed
abbrev pub MayShut : ℕ → List ℕ → List ℕ → Type 0
MayShut place old new = (new ≡ old) ⊎ IsShut place old new

-- this slot stands there, open
abbrev pub IsPut : ℕ → Super → List ℕ → List ℕ → Type 0
IsPut place slot old new = new ≡ with_slot place (spelled slot) old

-- what a crash may leave of that: the slot is closed, or it is this one, open
abbrev pub MayPut : ℕ → Super → List ℕ → List ℕ → Type 0
MayPut place slot old new = IsShut place old new ⊎ IsPut place slot old new
