-- What begins with `sys.`.
use Rattle.std.proofs.Common.{◌≡◌, ◌↔◌, ◌<◌, ◌≤◌, ℕ, Bool, true, codes, List, [], ◌∷◌, take, length, map, arith}
use Rattle.std.specs.Char.{to_ascii_lowercase}
use Rattle.ct_model.specs.Names.{folded, IsInSys}

sys_goes_on : (f : ℕ → ℕ) (a b c d : ℕ) (name : List ℕ) → 4 < length name → map f (take 4 name) ≡ a ∷ b ∷ c ∷ d ∷ [] → (rest : List ℕ) × (map f name ≡ a ∷ b ∷ c ∷ d ∷ rest) × (1 ≤ length rest)
sys_goes_on f a b c d [] long e = absurd (omega arith)
sys_goes_on f a b c d (p ∷ []) long e = absurd (omega arith)
sys_goes_on f a b c d (p ∷ q ∷ []) long e = absurd (omega arith)
sys_goes_on f a b c d (p ∷ q ∷ r ∷ []) long e = absurd (omega arith)
sys_goes_on f a b c d (p ∷ q ∷ r ∷ s ∷ []) long e = absurd (omega arith)
sys_goes_on f a b c d (p ∷ q ∷ r ∷ s ∷ t ∷ more) long e = (f t ∷ map f more, cc, omega arith)

sys_begins : (f : ℕ → ℕ) (a b c d : ℕ) (name rest : List ℕ) → map f name ≡ a ∷ b ∷ c ∷ d ∷ rest → map f (take 4 name) ≡ a ∷ b ∷ c ∷ d ∷ []
sys_begins f a b c d [] rest e = cc
sys_begins f a b c d (p ∷ []) rest e = cc
sys_begins f a b c d (p ∷ q ∷ []) rest e = cc
sys_begins f a b c d (p ∷ q ∷ r ∷ []) rest e = cc
sys_begins f a b c d (p ∷ q ∷ r ∷ s ∷ more) rest e = cc

pub in_sys : (name : List ℕ) (b : Bool) → 4 < length name → (b ≡ true) ↔ (folded (take 4 name) ≡ codes "sys.") → (b ≡ true) ↔ IsInSys name
in_sys name b long told = (
  (λ e. sys_goes_on to_ascii_lowercase 115 121 115 46 name long (told.0 e)),
  (λ s. told.1 (sys_begins to_ascii_lowercase 115 121 115 46 name s.0 s.1)),
)
