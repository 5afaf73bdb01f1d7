-- Reading the bytes of a set answers whether the set has the id.
use Rattle.std.specs.Prelude.{◌≡◌, ℕ, ℤ, pos, negsuc, nat_lt, nat_le, ◌&&◌, Bool, false}
use Rattle.ct_mask.specs.Masks.{has_id, bytes_of, has_group}

-- whether a number is an id of the set
abbrev pub is_in : ℕ → ℤ → Bool
is_in mask (pos id) = nat_lt 0 id && nat_le id 64 && has_id mask id
is_in mask (negsuc n) = false

abbrev pub ReadsWhatItHas : Type 0
ReadsWhatItHas = (mask : ℕ) (id : ℤ) → has_group (bytes_of mask) id ≡ is_in mask id
