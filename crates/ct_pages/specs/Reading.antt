-- What the call that reads area 0 answers.
use Rattle.std.specs.Prelude.{◌≡◌, ℕ, List, ◌∷◌, slice_index, Option, Some, None, Result, Ok, Err}
use Rattle.byteorder.specs.Endian.{little_bytes}
use Rattle.ct_log.specs.declared.fault.OpenFault.{OpenFault}
use Rattle.ct_log.specs.declared.fault.OpenFault.TheVariants.{Foreign, DiskFault, Memory}
use Rattle.ct_pages.specs.declared.slot.Super.{Super}
use Rattle.ct_pages.specs.Slots.{IsForeignSlot, Says, offset_of, IsUnfinished, Names, IsForeignAt}

-- the answer, by the bytes of area 0: the current slot, or nothing where the area is unfinished, or the offset where it is
-- foreign. A fault of the disk tells nothing of bytes, and memory is never wanting
abbrev pub Reads : List ℕ → Result (Option Super) OpenFault → Type 0
Reads bytes (Ok None) = IsUnfinished bytes
Reads bytes (Ok (Some slot)) = Names bytes slot
Reads bytes (Err (Foreign area offset)) = (area ≡ 0) × IsForeignAt offset bytes
Reads bytes (Err DiskFault) = Unit {0}
Reads bytes (Err Memory) = ⊥

-- the fields that the bytes of a slot spell, whatever its gate and the two zeros are
abbrev pub SpellFields : List ℕ → Super → Type 0
SpellFields bytes slot =
    bytes ≡ slice_index bytes 0 ∷ slot.format ∷ slot.turn ∷ slot.checkpoint ∷ slot.first ∷ slot.second ∷ slice_index bytes 6 ∷ slice_index bytes 7 ∷ little_bytes 8 slot.length

-- the two zeros of a slot are there
abbrev pub HasZeros : List ℕ → Type 0
HasZeros bytes = (slice_index bytes 6 ≡ 0) × (slice_index bytes 7 ≡ 0)

-- the answer of the reading of slot 0 or 1, by its bytes
abbrev pub ReadsSlot : ℕ → List ℕ → Result (Option Super) OpenFault → Type 0
ReadsSlot place bytes (Ok said) = Says place bytes said
ReadsSlot place bytes (Err (Foreign area offset)) = (area ≡ 0) × (offset ≡ offset_of place) × IsForeignSlot place bytes
ReadsSlot place bytes (Err DiskFault) = ⊥
ReadsSlot place bytes (Err Memory) = ⊥
