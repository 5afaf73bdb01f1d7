-- What rules make of lexemes that all have something: a property of what a rule makes follows from those of its parts.
use Rattle.std.proofs.Common.{◌≡◌, ℕ, zero, suc, ◌⊎◌, inl, inr, true, List, [], ◌∷◌, ◌++◌, Option, Some, None, IfSome, sym, subst}
use Rattle.std.specs.List.{AllByRecursion}
use Rattle.ct_types.proofs.Lists.{all_front, all_back}
use Rattle.ct_grammar.specs.declared.repeats.Turn.{Turn}
use Rattle.ct_grammar.specs.declared.repeats.Turn.TheVariants.{More, Last}
use Rattle.ct_grammar.specs.Kinds.{Set, has}
use Rattle.ct_grammar.specs.Lexemes.{Lexeme}
use Rattle.ct_grammar.specs.Rules.{Rule, token, ◌and◌, ◌or◌, ◌of◌, maybe, many, until_of, until, below, never}

-- each value that the rule reads from lexemes that all have it has the property
pub record Yields (Has : Lexeme → Type 0) {A : Type 0} (L : A → List Lexeme → Type 0) (P : A → Type 0) : Type 0 where
  pub holds : (value : A) (xs : List Lexeme) → AllByRecursion Has xs → L value xs → P value

pub yields_token : {Has : Lexeme → Type 0} (s : Set) → Yields Has (token s) (λ x. Has x × (has s x.kind ≡ true))
yields_token {Has = Has} s = record { holds = λ x xs all h. (let one : AllByRecursion Has (x ∷ []) = subst (AllByRecursion Has) h.one all in one.0, h.kind) }

-- ---- one rule after another

pub yields_both : {Has : Lexeme → Type 0} {A B : Type 0} {L : Rule A} {M : Rule B} {P : A → Type 0} {Q : B → Type 0} → Yields Has L P → Yields Has M Q → Yields Has (L and M) (λ p. P p.0 × Q p.1)
yields_both {Has = Has} first second = record {
  holds = λ p xs all h.
      let parts : AllByRecursion Has (h.front ++ h.back) = subst (AllByRecursion Has) h.cut all in
      (first.holds p.0 h.front (all_front Has h.front h.back parts) h.first, second.holds p.1 h.back (all_back Has h.front h.back parts) h.second);
}

pub yields_first : {Has : Lexeme → Type 0} {A B : Type 0} {L : Rule A} {M : Rule B} {P : A → Type 0} → Yields Has L P → Yields Has (L and M) (λ p. P p.0)
yields_first {Has = Has} first = record {
  holds = λ p xs all h. first.holds p.0 h.front (all_front Has h.front h.back (subst (AllByRecursion Has) h.cut all)) h.first;
}

pub yields_second : {Has : Lexeme → Type 0} {A B : Type 0} {L : Rule A} {M : Rule B} {Q : B → Type 0} → Yields Has M Q → Yields Has (L and M) (λ p. Q p.1)
yields_second {Has = Has} second = record {
  holds = λ p xs all h. second.holds p.1 h.back (all_back Has h.front h.back (subst (AllByRecursion Has) h.cut all)) h.second;
}

-- ---- one rule or another, and what is made

pub yields_either : {Has : Lexeme → Type 0} {A : Type 0} {L M : Rule A} {P : A → Type 0} → Yields Has L P → Yields Has M P → Yields Has (L or M) P
yields_either {Has = Has} {A = A} {L = L} {M = M} {P = P} left right = record { holds = λ a xs all h. at a xs all h }
  where
    at : (a : A) (xs : List Lexeme) → AllByRecursion Has xs → L a xs ⊎ M a xs → P a
    at a xs all (inl h) = left.holds a xs all h
    at a xs all (inr h) = right.holds a xs all h

pub yields_of : {Has : Lexeme → Type 0} {A B : Type 0} {f : A → B} {L : Rule A} {P : A → Type 0} {Q : B → Type 0} → Yields Has L P → ((a : A) → P a → Q (f a)) → Yields Has (f of L) Q
yields_of {Has = Has} {f = f} {Q = Q} part made = record { holds = λ b xs all h. subst Q (sym h.is) (made h.from (part.holds h.from xs all h.spelled)) }

-- whatever it is made from
pub yields_made : {Has : Lexeme → Type 0} {A B : Type 0} {f : A → B} {L : Rule A} {Q : B → Type 0} → ((a : A) → Q (f a)) → Yields Has (f of L) Q
yields_made {Has = Has} {Q = Q} made = record { holds = λ b xs all h. subst Q (sym h.is) (made h.from) }

-- ---- one rule, once or not at all, or many times

pub yields_maybe : {Has : Lexeme → Type 0} {A : Type 0} {L : Rule A} {P : A → Type 0} → Yields Has L P → Yields Has (maybe L) (λ o. IfSome o P)
yields_maybe {Has = Has} {A = A} {L = L} {P = P} part = record { holds = at }
  where
    at : (o : Option A) (xs : List Lexeme) → AllByRecursion Has xs → maybe L o xs → IfSome o P
    at None xs all h = tt
    at (Some a) xs all h = part.holds a xs all h

-- a turn that goes on has the property
abbrev pub IfMore : {A B : Type 0} → (A → Type 0) → Turn A B → Type 0
IfMore P (More a) = P a
IfMore P (Last b) = Unit {0}

pub yields_until : {Has : Lexeme → Type 0} {A B : Type 0} {L : Rule (Turn A B)} {P : A → Type 0} → Yields Has L (IfMore P) → Yields Has (until L) (λ p. AllByRecursion P p.0)
yields_until {Has = Has} {A = A} {B = B} {L = L} {P = P} turn = record { holds = λ p xs all h. at p.1 p.0 xs all h }
  where
    at : (last : Option B) (turns : List A) (xs : List Lexeme) → AllByRecursion Has xs → until_of L last turns xs → AllByRecursion P turns
    at last [] xs all h = tt
    at last (a ∷ more) xs all h =
        let parts : AllByRecursion Has (h.0 ++ h.1) = subst (AllByRecursion Has) h.2 all in
        (turn.holds (More a) h.0 (all_front Has h.0 h.1 parts) h.3, at last more h.1 (all_back Has h.0 h.1 parts) h.4)

pub yields_many : {Has : Lexeme → Type 0} {A : Type 0} {L : Rule A} {P : A → Type 0} → Yields Has L P → Yields Has (many L) (AllByRecursion P)
yields_many {Has = Has} {A = A} {L = L} {P = P} part = record { holds = λ made xs all h. at made xs all h }
  where
    at : (made : List A) (xs : List Lexeme) → AllByRecursion Has xs → many L made xs → AllByRecursion P made
    at [] xs all h = tt
    at (a ∷ more) xs all h =
        let parts : AllByRecursion Has (h.0 ++ h.1) = subst (AllByRecursion Has) h.2 all in
        (part.holds a h.0 (all_front Has h.0 h.1 parts) h.3, at more h.1 (all_back Has h.0 h.1 parts) h.4)

-- ---- levels

pub yields_below : {Has : Lexeme → Type 0} {A : Type 0} {L : Rule A} {P : A → Type 0} (n : ℕ) → Yields Has L P → Yields Has (below n L) P
yields_below zero part = record { holds = λ a xs all h. absurd h }
yields_below (suc n) part = part

pub yields_never : {Has : Lexeme → Type 0} {A : Type 0} {P : A → Type 0} → Yields Has (never {A = A}) P
yields_never = record { holds = λ a xs all h. absurd h }
