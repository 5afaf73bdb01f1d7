-- What grammars are made of. A rule says which lexemes spell which value.
use Rattle.std.specs.Prelude.{◌≡◌, ◌⊎◌, true, ℕ, zero, suc, List, [], ◌∷◌, ◌++◌, Option, Some, None}
use Rattle.ct_grammar.specs.declared.kind.Kind.{Kind}
use Rattle.ct_grammar.specs.declared.kind.Kind.TheVariants as k
use Rattle.ct_grammar.specs.declared.repeats.Turn.{Turn}
use Rattle.ct_grammar.specs.declared.repeats.Turn.TheVariants.{More, Last}
use Rattle.ct_grammar.specs.Kinds.{Set, has, names}
use Rattle.ct_grammar.specs.Lexemes.{Lexeme}
use Rattle.ct_grammar.specs.Words.{name_in, text_in, bytes_in}

abbrev pub Rule : Type 0 → Type 1
Rule A = A → List Lexeme → Type 0

-- one lexeme of the set
pub record Single (s : Set) (x : Lexeme) (xs : List Lexeme) : Type 0 where
  pub one : xs ≡ x ∷ []
  pub kind : has s x.kind ≡ true

abbrev pub token : Set → Rule Lexeme
token s = Single s

-- the first, and then the second
pub record Joined {A B : Type 0} (L : A → List Lexeme → Type 0) (M : B → List Lexeme → Type 0) (p : A × B) (xs : List Lexeme) : Type 0 where
  pub front : List Lexeme
  pub back : List Lexeme
  pub cut : xs ≡ front ++ back
  pub first : L p.0 front
  pub second : M p.1 back

infixr 6 ◌and◌
abbrev pub ◌and◌ : {A B : Type 0} → Rule A → Rule B → Rule (A × B)
L and M = Joined L M

-- either
infixr 5 ◌or◌
abbrev pub ◌or◌ : {A : Type 0} → Rule A → Rule A → Rule A
L or M = λ a xs. L a xs ⊎ M a xs

-- the value that f makes
pub record Made {A B : Type 0} (f : A → B) (L : A → List Lexeme → Type 0) (b : B) (xs : List Lexeme) : Type 0 where
  pub from : A
  pub is : b ≡ f from
  pub spelled : L from xs

infixr 4 ◌of◌
abbrev pub ◌of◌ : {A B : Type 0} → (A → B) → Rule A → Rule B
f of L = Made f L

-- once or not at all
abbrev pub maybe : {A : Type 0} → Rule A → Rule (Option A)
maybe L None xs = xs ≡ []
maybe L (Some a) xs = L a xs

-- any number of times
abbrev pub many : {A : Type 0} → Rule A → Rule (List A)
many L [] xs = xs ≡ []
many L (a ∷ more) xs = (front : List Lexeme) × (back : List Lexeme) × (xs ≡ front ++ back) × L a front × many L more back

-- turns of the one, any number of times, and at last, or not at all, one of the other
abbrev pub until_of : {A B : Type 0} → Rule (Turn A B) → Option B → List A → List Lexeme → Type 0
until_of L None [] xs = xs ≡ []
until_of L (Some b) [] xs = L (Last b) xs
until_of L last (a ∷ more) xs = (front : List Lexeme) × (back : List Lexeme) × (xs ≡ front ++ back) × L (More a) front × until_of L last more back

abbrev pub until : {A B : Type 0} → Rule (Turn A B) → Rule (List A × Option B)
until L p xs = until_of L p.1 p.0 xs

-- nothing is spelled so
abbrev pub never : {A : Type 0} → Rule A
never a xs = ⊥

-- only where a level is left
abbrev pub below : {A : Type 0} → ℕ → Rule A → Rule A
below zero L = never
below (suc n) L = L

-- ---- single lexemes by what they stand for

-- a word or a sign of the rules
abbrev pub one : Kind → Rule Unit
one kind = (λ x. tt) of token (kind ∷ [])

abbrev pub kind : Set → Rule Kind
kind s = (λ x. x.kind) of token s

abbrev pub name : Rule (List ℕ)
name = (λ x. name_in x.kind x.word) of token names

abbrev pub numbers : Set
numbers = k.Number ∷ k.Zero ∷ []

abbrev pub number : Rule (List ℕ)
number = (λ x. x.word) of token numbers

abbrev pub variable : Rule (List ℕ)
variable = (λ x. x.word) of token (k.Variable ∷ [])

abbrev pub text : Rule (List ℕ)
text = (λ x. text_in x.word) of token (k.Text ∷ [])

abbrev pub bytes : Rule (List ℕ)
bytes = (λ x. bytes_in x.word) of token (k.Bytes ∷ [])
