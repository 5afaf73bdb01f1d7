-- The areas that are written while no slot names them. This project's own.
use Rattle.std.specs.Prelude.{◌≡◌, ◌<◌, ◌≤◌, ℕ, List, [], ◌∷◌}
use Rattle.ct_faults.specs.Disk.{Image}
use Rattle.ct_pages.specs.declared.slot.Super.{Super}
use Rattle.ct_pages.specs.Slots.{Names, IsNamed}

-- in none of these images the current slot, if there is one, names the area
abbrev pub IsSpare : ℕ → (Image → Type 0) → Type 0
IsSpare area images = (image : Image) (slot : Super) → images image → Names (image 0) slot → ¬ IsNamed slot area

-- area 0 and each area that its current slot names stay
pub record KeepsNamed (old new : Image) : Type 0 where
  pub head : new 0 ≡ old 0
  pub named : (slot : Super) (area : ℕ) → Names (old 0) slot → IsNamed slot area → new area ≡ old area

-- an area may have any bytes
abbrev pub Anything : List ℕ → List ℕ → Type 0
Anything old new = Unit {0}

-- an area as `start` leaves it: one of a log is the closed gate of an empty log, and one of a checkpoint is empty
pub record IsStarted (area : ℕ) (old new : List ℕ) : Type 0 where
  pub log : 3 ≤ area → new ≡ 0 ∷ []
  pub checkpoint : area < 3 → new ≡ []
