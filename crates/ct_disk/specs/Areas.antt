-- The areas of a disk in memory.
use Rattle.std.specs.Prelude.{ℕ, zero, suc, ◌+◌, ◌≤◌, List, [], ◌∷◌, length, map, Vec, vec_capacity}
use Rattle.std.specs.declared.alloc.Global.{Global}

-- the bytes of each area of a list; an area past its end is empty
abbrev pub image_of : List (List ℕ) → ℕ → List ℕ
image_of [] area = []
image_of (bytes ∷ areas) zero = bytes
image_of (bytes ∷ areas) (suc area) = image_of areas area

-- the bytes that vectors hold
abbrev pub contents_of : List (Vec ℕ Global) → List (List ℕ)
contents_of areas = map (λ (bytes : Vec ℕ Global). bytes.items) areas

-- the bytes of each area, of a list of vectors
abbrev pub area_at : List (Vec ℕ Global) → ℕ → List ℕ
area_at areas = image_of (contents_of areas)

-- each area can take so many bytes more without new memory
abbrev pub HaveRoom : ℕ → List (Vec ℕ Global) → Type 0
HaveRoom n [] = Unit {0}
HaveRoom n (bytes ∷ areas) = (length bytes.items + n ≤ vec_capacity bytes) × HaveRoom n areas
