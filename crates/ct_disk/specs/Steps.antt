-- What the calls of a disk in memory make of its areas, and what a crash may leave after them.
use Rattle.std.specs.Prelude.{◌≡◌, ℕ, List, [], ◌∷◌, length, take, Bool, true, if◌then◌else◌, ◌==◌}
use Rattle.ct_faults.specs.Disk.{Image, Changes, Same, overwritten, MayTear, MayCut}

-- a call that was made
pub data Step : Type 0 where
  -- a write: the area, the offset, the bytes
  Wrote : ℕ → ℕ → List ℕ → Step
  -- a cut: the area, its new length
  WasCut : ℕ → ℕ → Step
  -- a sync, and whether it was one: one that failed is none
  EndedSync : Bool → Step

-- an image with other bytes in one area
abbrev pub with_area : Image → ℕ → List ℕ → Image
with_area image area bytes = λ other. if other == area then bytes else image other

-- what a call makes of the areas
abbrev pub done : Image → Step → Image
done image (Wrote area at bytes) = with_area image area (overwritten at bytes (image area))
done image (WasCut area len) = with_area image area (take len (image area))
done image (EndedSync ok) = image

-- what a crash may leave of a call, but for a sync that was one
abbrev pub MayDo : Step → Image → Image → Type 0
MayDo (Wrote area at bytes) = Changes area (MayTear at (length bytes))
MayDo (WasCut area len) = Changes area (MayCut len)
MayDo (EndedSync ok) = Same

-- a moment: what reads give, and what a crash may leave
pub record Moment : Type 1 where
  pub content : Image
  pub images : Image → Type 0

-- before the first call a crash leaves what reads give
abbrev pub first_moment : Image → Moment
first_moment first = record { content = first; images = λ image. image ≡ first }

-- after a sync that was one a crash leaves what reads give; after any other call, what it may do to each image before
abbrev pub next_moment : Moment → Step → Moment
next_moment m (EndedSync true) = record { content = m.content; images = λ image. image ≡ m.content }
next_moment m step = record { content = done m.content step; images = λ image. (old : Image) × m.images old × MayDo step old image }

abbrev pub moment_after : Moment → List Step → Moment
moment_after m [] = m
moment_after m (step ∷ steps) = moment_after (next_moment m step) steps

-- what reads give after calls, from the first contents on
abbrev pub content_after : Image → List Step → Image
content_after first steps = (moment_after (first_moment first) steps).content

-- the images that a crash after the first m calls may leave
abbrev pub images_after : Image → List Step → ℕ → Image → Type 0
images_after first steps m = (moment_after (first_moment first) (take m steps)).images
