-- What ties readers to spellings, and the laws of entries and pieces.
use Rattle.std.specs.Prelude.{◌≡◌, ◌↔◌, ℕ, List, ◌++◌, Option, Some}
use Rattle.ct_codec.specs.Readers.{Reader}

-- a reader takes what is spelled so, and nothing else:
-- * what it reads was spelled, and could be;
-- * what can be spelled is read back, whatever follows.
pub record IsCode {A : Type 0} (reader : Reader A) (spell : A → List ℕ) (fits : A → Type 0) : Type 0 where
  pub sound : (bytes rest : List ℕ) (a : A) → reader bytes ≡ Some (a, rest) → (bytes ≡ spell a ++ rest) × fits a
  pub complete : (a : A) (rest : List ℕ) → fits a → reader (spell a ++ rest) ≡ Some (a, rest)

-- the spelling of one begins the spelling of no other
abbrev pub BeginsNoOther : {A : Type 0} → (A → List ℕ) → (A → Type 0) → Type 0
BeginsNoOther {A = A} spell fits = (a b : A) (more other : List ℕ) → fits a → fits b → spell a ++ more ≡ spell b ++ other → (a ≡ b) × (more ≡ other)

-- a value is found in bytes exactly where they are the spelling of one
abbrev pub IsExact : {A : Type 0} → (List ℕ → Option A) → (A → List ℕ) → (A → Type 0) → Type 0
IsExact {A = A} found spell fits = (bytes : List ℕ) (a : A) → (found bytes ≡ Some a) ↔ ((bytes ≡ spell a) × fits a)
