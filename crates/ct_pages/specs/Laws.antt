-- The laws of area 0: bytes say one thing, and what is not current plays no part.
use Rattle.std.specs.Prelude.{◌≡◌, ◌+◌, ◌-◌, ◌%◌, ◌++◌, ℕ, List, length, Option, Result}
use Rattle.ct_log.specs.declared.fault.OpenFault.{OpenFault}
use Rattle.ct_pages.specs.declared.slot.Super.{Super}
use Rattle.ct_pages.specs.Slots.{IsCanonical, spelled, IsLaidOut, IsUnfinished, Names, IsForeignAt}
use Rattle.ct_pages.specs.Reading.{Reads}
use Rattle.ct_pages.specs.Flips.{with_slot, IsClosedSlot}
use Rattle.ct_pages.specs.Fresh.{fresh_slot}

-- area 0 names one slot at most
abbrev pub OneSlot : Type 0
OneSlot = (bytes : List ℕ) (slot other : Super) → Names bytes slot → Names bytes other → slot ≡ other

-- and is foreign at one offset at most
abbrev pub OneOffset : Type 0
OneOffset = (bytes : List ℕ) (offset other : ℕ) → IsForeignAt offset bytes → IsForeignAt other bytes → offset ≡ other

-- it is one of the three at most: unfinished, or naming a slot, or foreign
pub record OneOfThree : Type 0 where
  pub unfinished_names_none : (bytes : List ℕ) (slot : Super) → IsUnfinished bytes → ¬ Names bytes slot
  pub unfinished_is_not_foreign : (bytes : List ℕ) (offset : ℕ) → IsUnfinished bytes → ¬ IsForeignAt offset bytes
  pub foreign_names_none : (bytes : List ℕ) (offset : ℕ) (slot : Super) → IsForeignAt offset bytes → ¬ Names bytes slot

-- the slot that it names may stand there
abbrev pub NamedIsCanonical : Type 0
NamedIsCanonical = (bytes : List ℕ) (slot : Super) → Names bytes slot → IsCanonical slot

-- what stands behind the slots is ignored
abbrev pub RestIsIgnored : Type 0
RestIsIgnored = (bytes rest : List ℕ) (answer : Result (Option Super) OpenFault) → length bytes ≡ 40 → Reads bytes answer → Reads (bytes ++ rest) answer

-- the other slot plays no part while it is closed
abbrev pub ClosedIsIgnored : Type 0
ClosedIsIgnored = (bytes other : List ℕ) (slot : Super) → IsClosedSlot other → Names bytes slot → Names (with_slot (1 - slot.turn % 2) other bytes) slot

-- and is the current one where it is open with the next turn
abbrev pub NextIsCurrent : Type 0
NextIsCurrent = (bytes : List ℕ) (slot next : Super) → IsCanonical next → next.turn ≡ (slot.turn + 1) % 4 → Names bytes slot → Names (with_slot (1 - slot.turn % 2) (spelled next) bytes) next

-- of a disk that is laid out, with the fresh slot in slot 0, that slot is current
abbrev pub FreshIsCurrent : Type 0
FreshIsCurrent = (bytes : List ℕ) → IsLaidOut bytes → Names (with_slot 0 (spelled fresh_slot) bytes) fresh_slot
