-- What the bytes of area 0 say: in which areas the database of a disk stands. This project's own.
--
-- Area 0 begins with a mark of eight bytes. Two slots of sixteen bytes each follow it, slot 0 and slot 1, and what stands
-- behind them is ignored. A slot begins with a gate, a byte that is open where it is 1 and closed otherwise. Of a closed
-- slot nothing but its gate is read.
use Rattle.std.specs.Prelude.{◌≡◌, ◌≢◌, ◌⊎◌, ◌↔◌, ◌==◌, if◌then◌else◌, ℕ, ◌+◌, ◌*◌, ◌%◌, ◌^◌, ◌<◌, ◌≤◌, List, [], ◌∷◌, length, take, drop, Option, Some, None}
use Rattle.byteorder.specs.Endian.{little_bytes}
use Rattle.ct_log.specs.Reading.{IsOpen}
use Rattle.ct_pages.specs.declared.slot.Super.{Super}

-- ---- one slot

-- an area for logs: 3, 4 or 5
abbrev pub IsLogArea : ℕ → Type 0
IsLogArea area = (3 ≤ area) × (area ≤ 5)

-- an area for a second log beside the first, or 0 for none
abbrev pub IsSecondLog : ℕ → ℕ → Type 0
IsSecondLog first second = (second ≡ 0) ⊎ (IsLogArea second × (second ≢ first))

-- an area for a checkpoint, 1 or 2, or 0 for none, which is so exactly where its length is 0
abbrev pub IsCheckpointArea : ℕ → ℕ → Type 0
IsCheckpointArea area size = (area ≤ 2) × ((size ≡ 0) ↔ (area ≡ 0))

-- what a slot may say: format 1; a turn below 4; the area of a checkpoint, or none, and its length, which fits eight bytes;
-- the area of a first log; that of a second log, or none
pub record IsCanonical (slot : Super) : Type 0 where
  pub format : slot.format ≡ 1
  pub turn : slot.turn < 4
  pub checkpoint : IsCheckpointArea slot.checkpoint slot.length
  pub fits : slot.length < 2 ^ 64
  pub first : IsLogArea slot.first
  pub second : IsSecondLog slot.first slot.second

-- slot 0 or 1 may say it: in slot 0 turns are even, in slot 1 odd
pub record MayStand (place : ℕ) (slot : Super) : Type 0 where
  pub canonical : IsCanonical slot
  pub in_place : slot.turn % 2 ≡ place

-- the bytes of an open slot: its gate, the fields of a byte each, two zeros, and the length, the least byte first
unfoldable pub spelled : Super → List ℕ
spelled slot = 1 ∷ slot.format ∷ slot.turn ∷ slot.checkpoint ∷ slot.first ∷ slot.second ∷ 0 ∷ 0 ∷ little_bytes 8 slot.length

-- the bytes of slot 0 or 1 are those of this one, which may stand there
pub record IsSlot (place : ℕ) (bytes : List ℕ) (slot : Super) : Type 0 where
  pub spells : bytes ≡ spelled slot
  pub stands : MayStand place slot

-- what the bytes of slot 0 or 1 say: nothing where it is closed, and else what they spell, if that may stand there
abbrev pub Says : ℕ → List ℕ → Option Super → Type 0
Says place bytes None = ¬ IsOpen bytes
Says place bytes (Some slot) = IsSlot place bytes slot

-- they say neither: the slot is open, and not one that may stand there
pub record IsForeignSlot (place : ℕ) (bytes : List ℕ) : Type 0 where
  pub opened : IsOpen bytes
  pub none : (slot : Super) → ¬ IsSlot place bytes slot

-- ---- both slots

-- the current slot, by what slot 0 and slot 1 say: the one that is open; of two that are, the one whose turn is that of
-- the other plus 1, modulo 4
abbrev pub current_of : Option Super → Option Super → Option Super
current_of None other = other
current_of (Some slot) None = Some slot
current_of (Some slot) (Some other) = if slot.turn == (other.turn + 1) % 4 then Some slot else Some other

-- the mark: CTDISK, a line feed and a zero
abbrev pub mark : List ℕ
mark = 67 ∷ 84 ∷ 68 ∷ 73 ∷ 83 ∷ 75 ∷ 10 ∷ 0 ∷ []

-- the offset of slot 0 or 1 in area 0
abbrev pub offset_of : ℕ → ℕ
offset_of place = 8 + 16 * place

-- its bytes
abbrev pub slot_at : ℕ → List ℕ → List ℕ
slot_at place bytes = take 16 (drop (offset_of place) bytes)

-- area 0 has the mark, and both slots
pub record IsMarked (bytes : List ℕ) : Type 0 where
  pub long : 40 ≤ length bytes
  pub marked : take 8 bytes ≡ mark

-- area 0 names a slot: it has its mark, each of its two slots is closed or says what may stand there, and of what they say
-- this is current
pub record Names (bytes : List ℕ) (slot : Super) : Type 0 where
  pub marked : IsMarked bytes
  pub zero : Option Super
  pub one : Option Super
  pub says_zero : Says 0 (slot_at 0 bytes) zero
  pub says_one : Says 1 (slot_at 1 bytes) one
  pub current : current_of zero one ≡ Some slot

-- area 0 is laid out: it has its mark, and no slot is open
pub record IsLaidOut (bytes : List ℕ) : Type 0 where
  pub marked : IsMarked bytes
  pub zero : ¬ IsOpen (slot_at 0 bytes)
  pub one : ¬ IsOpen (slot_at 1 bytes)

-- area 0 is unfinished, and its disk stands for the empty database: it is shorter than mark and slots, or it is laid out
abbrev pub IsUnfinished : List ℕ → Type 0
IsUnfinished bytes = (length bytes < 40) ⊎ IsLaidOut bytes

-- area 0 is that of no disk, at this offset: at 0 where it is long enough and has another mark; else at that of slot 0
-- where this is open and may not stand there; else at that of slot 1 for the same cause
abbrev pub IsForeignAt : ℕ → List ℕ → Type 0
IsForeignAt offset bytes =
    ((offset ≡ 0) × (40 ≤ length bytes) × (take 8 bytes ≢ mark))
    ⊎ (((offset ≡ 8) × IsMarked bytes × IsForeignSlot 0 (slot_at 0 bytes))
    ⊎ ((offset ≡ 24) × IsMarked bytes × ((said : Option Super) × Says 0 (slot_at 0 bytes) said) × IsForeignSlot 1 (slot_at 1 bytes)))

-- a slot names area 0, in which it stands, and those of its checkpoint and its logs
abbrev pub IsNamed : Super → ℕ → Type 0
IsNamed slot area = (area ≡ 0) ⊎ ((area ≡ slot.checkpoint) ⊎ ((area ≡ slot.first) ⊎ (area ≡ slot.second)))
