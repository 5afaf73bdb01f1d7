-- How rules are read, from the left, with no step back: a reader answers the value and the lexemes that are left, or
-- the first fault.
use Rattle.std.specs.Prelude.{◌≡◌, ◌≢◌, ℕ, zero, suc, Bool, true, if◌then◌else◌, List, [], ◌∷◌, ◌++◌, length, Option, Some, None, Result, Ok, Err}
use denote.Ref.{MutBor}
use Rattle.ct_grammar.specs.declared.kind.Kind.{Kind}
use Rattle.ct_grammar.specs.declared.kind.Kind.TheVariants as k
use Rattle.ct_grammar.specs.declared.fault.Fault.{Fault}
use Rattle.ct_grammar.specs.declared.fault.Fault.TheVariants.{Memory, Syntax, TooDeep}
use Rattle.ct_grammar.specs.declared.repeats.Turn.{Turn}
use Rattle.ct_grammar.specs.declared.repeats.Turn.TheVariants.{More, Last}
use Rattle.ct_grammar.specs.Kinds.{Set, names}
use Rattle.ct_grammar.specs.Lexemes.{Lexeme, sees, matches}
use Rattle.ct_grammar.specs.Rules.{numbers}
use Rattle.ct_grammar.specs.Words.{name_in, text_in, bytes_in}

abbrev pub Outcome : Type 0 → Type 0
Outcome A = Result (A × List Lexeme) Fault

abbrev pub Reader : Type 0 → Type 0
Reader A = List Lexeme → Outcome A

abbrev pub and_then : {A B : Type 0} → Outcome A → (A → Reader B) → Outcome B
and_then (Ok p) f = f p.0 p.1
and_then (Err e) f = Err e

infixl 10 ◌>>=◌
abbrev pub ◌>>=◌ : {A B : Type 0} → Reader A → (A → Reader B) → Reader B
p >>= f = λ i. and_then (p i) f

abbrev pub pure : {A : Type 0} → A → Reader A
pure a = λ i. Ok (a, i)

abbrev pub take_from : Set → Bool → List Lexeme → Outcome Lexeme
take_from s true (x ∷ xs) = Ok (x, xs)
take_from s _ xs = Err (Syntax (length xs))

-- one lexeme of the set
unfoldable pub expect : Set → Reader Lexeme
expect s = λ i. take_from s (sees s i) i

abbrev pub both : {A B : Type 0} → Reader A → Reader B → Reader (A × B)
both p q = p >>= (λ a. q >>= (λ b. pure (a, b)))

abbrev pub making : {A B : Type 0} → (A → B) → Reader A → Reader B
making f p = p >>= (λ a. pure (f a))

-- the first, where the next lexeme is one of the set
abbrev pub pick : {A : Type 0} → Set → Reader A → Reader A → Reader A
pick s p q = λ i. if sees s i then p i else q i

-- the first, where the next lexemes are of these sets
abbrev pub ahead : {A : Type 0} → List Set → Reader A → Reader A → Reader A
ahead ss p q = λ i. if matches ss i then p i else q i

abbrev pub option : {A : Type 0} → Set → Reader A → Reader (Option A)
option s p = λ i. if sees s i then making Some p i else Ok (None, i)

-- the number bounds the turns
unfoldable pub repeat_from : {A : Type 0} → Set → Reader A → ℕ → List A → Reader (List A)
repeat_from s p zero found = λ i. Ok (found, i)
repeat_from s p (suc n) found = λ i. if sees s i then (p >>= (λ a. repeat_from s p n (found ++ a ∷ []))) i else Ok (found, i)

abbrev pub repeat : {A : Type 0} → Set → Reader A → Reader (List A)
repeat s p = λ i. repeat_from s p (length i) [] i

abbrev pub until_next : {A B : Type 0} → (List A → Reader (List A × Option B)) → List A → Turn A B → Reader (List A × Option B)
until_next go found (More a) = go (found ++ a ∷ [])
until_next go found (Last b) = pure (found, Some b)

unfoldable pub until_from : {A B : Type 0} → Set → Reader (Turn A B) → ℕ → List A → Reader (List A × Option B)
until_from s p zero found = λ i. Ok ((found, None), i)
until_from s p (suc n) found = λ i. if sees s i then (p >>= until_next (until_from s p n) found) i else Ok ((found, None), i)

abbrev pub until_last : {A B : Type 0} → Set → Reader (Turn A B) → Reader (List A × Option B)
until_last s p = λ i. until_from s p (length i) [] i

-- the fault of depth, where no level is left
abbrev pub guard : {A : Type 0} → ℕ → Reader A → Reader A
guard zero p = λ i. Err TooDeep
guard (suc n) p = p

-- the value, where no lexeme is left
abbrev pub ended : {A : Type 0} → A → List Lexeme → Option A
ended a [] = Some a
ended a (x ∷ xs) = None

abbrev pub whole : {A : Type 0} → Outcome A → Option A
whole (Ok p) = ended p.0 p.1
whole (Err fault) = None

-- ---- single lexemes by what they stand for

abbrev pub need : Kind → Reader Unit
need kind = making (λ x. tt) (expect (kind ∷ []))

abbrev pub kind : Set → Reader Kind
kind s = making (λ x. x.kind) (expect s)

abbrev pub name : Reader (List ℕ)
name = making (λ x. name_in x.kind x.word) (expect names)

abbrev pub number : Reader (List ℕ)
number = making (λ x. x.word) (expect numbers)

abbrev pub variable : Reader (List ℕ)
variable = making (λ x. x.word) (expect (k.Variable ∷ []))

abbrev pub text : Reader (List ℕ)
text = making (λ x. text_in x.word) (expect (k.Text ∷ []))

abbrev pub bytes : Reader (List ℕ)
bytes = making (λ x. bytes_in x.word) (expect (k.Bytes ∷ []))

-- ---- what a function that reads ensures: the outcome, unless memory fails

abbrev pub Reads : {A : Type 0} → Outcome A → Result A Fault → List Lexeme → Type 0
Reads outcome (Ok a) new = outcome ≡ Ok (a, new)
Reads outcome (Err e) new = e ≢ Memory → outcome ≡ Err e

-- the result alone
abbrev pub Gives : {A : Type 0} → Result A Fault → Result A Fault → Type 0
Gives outcome (Ok a) = outcome ≡ Ok a
Gives outcome (Err e) = e ≢ Memory → outcome ≡ Err e

-- a function value that may be called
abbrev pub Callable : (MutBor (List Lexeme) → Type 0) → Type 0
Callable pre = (old : MutBor (List Lexeme)) → pre old

-- a function value that reads as p does
pub record Follows {A : Type 0} (p : Reader A) (post : MutBor (List Lexeme) → Result A Fault → MutBor (List Lexeme) → Type 0) : Type 0 where
  pub reads : (old new : MutBor (List Lexeme)) (r : Result A Fault) → post old r new → Reads (p old.now) r new.now
