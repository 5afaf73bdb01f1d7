-- Names of two parts. This project's own.
use Rattle.std.specs.Prelude.{◌≡◌, ℕ, ◌+◌, codes, List, ◌++◌, take, drop, slice_get, Some}
use Rattle.ct_model.specs.Names.{IsName}

-- two names with a full stop between them
abbrev pub IsTwoNames : List ℕ → Type 0
IsTwoNames name = (first : List ℕ) × (second : List ℕ) × (name ≡ first ++ codes "." ++ second) × IsName first × IsName second

-- a full stop at this place has a name on each side
abbrev pub IsCut : List ℕ → ℕ → Type 0
IsCut name at = (slice_get name at ≡ Some 46) × IsName (take at name) × IsName (drop (at + 1) name)
