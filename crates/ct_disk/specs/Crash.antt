-- The image that a crash of a disk in memory leaves, where the bytes that were not synced are taken from a list, round
-- and round.
use Rattle.std.specs.Prelude.{ℕ, ◌+◌, List, [], ◌∷◌, length, true, if◌then◌else◌, ◌==◌, slice_index}
use Rattle.ct_faults.specs.Disk.{Image}
use Rattle.ct_disk.specs.Steps.{Step, done}
use Rattle.ct_disk.specs.Steps.Step.{Wrote, EndedSync}

-- the place after a place, round and round; an empty list has the place 0 alone
abbrev pub place_after : List ℕ → ℕ → ℕ
place_after torn next = if next + 1 == length torn then 0 else next + 1

-- as many bytes as were written, from a place of `torn` on; those that were written, where `torn` is empty
abbrev pub torn_bytes : List ℕ → ℕ → List ℕ → List ℕ
torn_bytes [] next bytes = bytes
torn_bytes (t ∷ torn) next [] = []
torn_bytes (t ∷ torn) next (b ∷ bytes) = slice_index (t ∷ torn) next ∷ torn_bytes (t ∷ torn) (place_after (t ∷ torn) next) bytes

-- the place after these
abbrev pub torn_place : List ℕ → ℕ → List ℕ → ℕ
torn_place [] next bytes = next
torn_place (t ∷ torn) next [] = next
torn_place (t ∷ torn) next (b ∷ bytes) = torn_place (t ∷ torn) (place_after (t ∷ torn) next) bytes

-- an image, and the place of `torn` that is next
pub record Torn : Type 0 where
  pub image : Image
  pub next : ℕ

abbrev pub torn_at : Image → ℕ → Torn
torn_at image next = record { image = image; next = next }

-- a call that was not synced: a write wrote torn bytes, and a cut was made
abbrev pub tear : List ℕ → Torn → Step → Torn
tear torn t (Wrote area at bytes) = torn_at (done t.image (Wrote area at (torn_bytes torn t.next bytes))) (torn_place torn t.next bytes)
tear torn t step = torn_at (done t.image step) t.next

abbrev pub tear_all : List ℕ → Torn → List Step → Torn
tear_all torn t [] = t
tear_all torn t (step ∷ steps) = tear_all torn (tear torn t step) steps

-- what reads give, and what the crash leaves
pub record Crashing : Type 0 where
  pub content : Image
  pub left : Torn

-- after a sync that was one a crash leaves what reads give
abbrev pub crash_after : List ℕ → Crashing → Step → Crashing
crash_after torn c (EndedSync true) = record { content = c.content; left = torn_at c.content 0 }
crash_after torn c step = record { content = done c.content step; left = tear torn c.left step }

abbrev pub crash_all : List ℕ → Crashing → List Step → Crashing
crash_all torn c [] = c
crash_all torn c (step ∷ steps) = crash_all torn (crash_after torn c step) steps

abbrev pub uncrashed : Image → Crashing
uncrashed first = record { content = first; left = torn_at first 0 }

-- the image that a crash leaves after these calls
abbrev pub crashed : List ℕ → Image → List Step → Image
crashed torn first steps = (crash_all torn (uncrashed first) steps).left.image
