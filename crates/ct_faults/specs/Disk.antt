-- The model of a disk: what its calls do to the bytes that reads give, and which bytes a crash may leave. This project's
-- own.
use Rattle.std.specs.Prelude.{◌≡◌, ℕ, ◌+◌, ◌<◌, ◌≤◌, min, max, List, ◌++◌, length, take, drop}

-- the bytes of each area, by its number
abbrev pub Image : Type 0
Image = ℕ → List ℕ

-- one area goes this way, and all others stay
pub record Changes (area : ℕ) (way : List ℕ → List ℕ → Type 0) (old new : Image) : Type 0 where
  pub here : way (old area) (new area)
  pub elsewhere : (other : ℕ) → (other ≡ area → ⊥) → new other ≡ old other

-- no area changes
abbrev pub Same : Image → Image → Type 0
Same old new = new ≡ old

-- the bytes of an area after a write at an offset: it goes over what stands there, and past the end
abbrev pub overwritten : ℕ → List ℕ → List ℕ → List ℕ
overwritten at bytes old = take at old ++ bytes ++ drop (at + length bytes) old

-- an area was written
abbrev pub IsWritten : ℕ → List ℕ → List ℕ → List ℕ → Type 0
IsWritten at bytes old new = new ≡ overwritten at bytes old

-- an area was cut to its first bytes
abbrev pub IsCut : ℕ → List ℕ → List ℕ → Type 0
IsCut len old new = new ≡ take len old

-- what a crash may leave of a write of n bytes at an offset: any bytes in its range and past the old end, the old ones
-- elsewhere, and any length from the old one to the new one
pub record MayTear (at n : ℕ) (old new : List ℕ) : Type 0 where
  pub before : (k : ℕ) → k ≤ at → k ≤ length old → take k new ≡ take k old
  pub behind : drop (at + n) new ≡ drop (at + n) old
  pub shortest : length old ≤ length new
  pub longest : length new ≤ max (length old) (at + n)

-- what a crash may leave of a cut: the old bytes, the first ones that the cut leaves, or a length between
pub record MayCut (len : ℕ) (old new : List ℕ) : Type 0 where
  pub front : new ≡ take (length new) old
  pub shortest : min len (length old) ≤ length new

-- what a crash may leave, from one moment to a later one: the images of the moments up to the first stay what they were,
-- and each image of a moment after it comes by a step from an image of the first
pub record Runs (before now : ℕ) (past images : ℕ → Image → Type 0) (step : Image → Image → Type 0) : Type 0 where
  pub later : before ≤ now
  pub keeps : (m : ℕ) (image : Image) → m ≤ before → past m image → images m image
  pub kept : (m : ℕ) (image : Image) → m ≤ before → images m image → past m image
  pub during : (m : ℕ) (image : Image) → before < m → m ≤ now → images m image → (old : Image) × past before old × step old image

-- a crash leaves this content alone
abbrev pub LeavesOnly : Image → (Image → Type 0) → Type 0
LeavesOnly content images = (image : Image) → images image → image ≡ content

-- a read of n bytes at an offset of an area, into a buffer: it gives what stands there, and something where there is
-- something
pub record ReadsAt (at : ℕ) (area old new : List ℕ) (n : ℕ) : Type 0 where
  pub fits : n ≤ length old
  pub within : at + n ≤ length area
  pub some : 0 < length old → at < length area → 0 < n
  pub bytes : take n new ≡ take n (drop at area)

-- a call takes so many calls and bytes of the room
pub record TakesRoom (calls bytes : ℕ) (old_calls old_bytes new_calls new_bytes : ℕ) : Type 0 where
  pub calls_left : old_calls ≡ new_calls + calls
  pub bytes_left : old_bytes ≡ new_bytes + bytes
