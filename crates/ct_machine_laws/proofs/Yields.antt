-- What rules make of lexemes that stand for names: a property of what a rule makes follows from those of its parts.
use Rattle.std.proofs.Common.{◌≡◌, ◌⊎◌, inl, inr, true, List, [], ◌∷◌, ◌++◌, Option, Some, None, IfSome, sym, subst}
use Rattle.std.specs.List.{AllByRecursion}
use Rattle.ct_types.proofs.Lists.{all_front, all_back}
use Rattle.ct_grammar.specs.declared.repeats.Turn.{Turn}
use Rattle.ct_grammar.specs.declared.repeats.Turn.TheVariants.{More, Last}
use Rattle.ct_grammar.specs.Kinds.{Set, has}
use Rattle.ct_grammar.specs.Lexemes.{Lexeme}
use Rattle.ct_grammar.specs.Rules.{Rule, token, ◌and◌, ◌or◌, ◌of◌, maybe, until_of, until}
use Rattle.ct_machine_laws.proofs.Lexemes.{StandsForName, AllStand}

-- each value that the rule reads from lexemes that stand for names has the property
pub record Yields {A : Type 0} (L : A → List Lexeme → Type 0) (P : A → Type 0) : Type 0 where
  pub holds : (value : A) (xs : List Lexeme) → AllStand xs → L value xs → P value

pub yields_token : (s : Set) → Yields (token s) (λ x. StandsForName x × (has s x.kind ≡ true))
yields_token s = record { holds = λ x xs all h. (let one : AllStand (x ∷ []) = subst AllStand h.one all in one.0, h.kind) }

-- ---- one rule after another

pub yields_both : {A B : Type 0} {L : Rule A} {M : Rule B} {P : A → Type 0} {Q : B → Type 0} → Yields L P → Yields M Q → Yields (L and M) (λ p. P p.0 × Q p.1)
yields_both first second = record {
  holds = λ p xs all h.
      let parts : AllStand (h.front ++ h.back) = subst AllStand h.cut all in
      (first.holds p.0 h.front (all_front StandsForName h.front h.back parts) h.first, second.holds p.1 h.back (all_back StandsForName h.front h.back parts) h.second);
}

pub yields_first : {A B : Type 0} {L : Rule A} {M : Rule B} {P : A → Type 0} → Yields L P → Yields (L and M) (λ p. P p.0)
yields_first first = record {
  holds = λ p xs all h. first.holds p.0 h.front (all_front StandsForName h.front h.back (subst AllStand h.cut all)) h.first;
}

pub yields_second : {A B : Type 0} {L : Rule A} {M : Rule B} {Q : B → Type 0} → Yields M Q → Yields (L and M) (λ p. Q p.1)
yields_second second = record {
  holds = λ p xs all h. second.holds p.1 h.back (all_back StandsForName h.front h.back (subst AllStand h.cut all)) h.second;
}

-- ---- one rule or another, and what is made

pub yields_either : {A : Type 0} {L M : Rule A} {P : A → Type 0} → Yields L P → Yields M P → Yields (L or M) P
yields_either {A = A} {L = L} {M = M} {P = P} left right = record { holds = λ a xs all h. at a xs all h }
  where
    at : (a : A) (xs : List Lexeme) → AllStand xs → L a xs ⊎ M a xs → P a
    at a xs all (inl h) = left.holds a xs all h
    at a xs all (inr h) = right.holds a xs all h

pub yields_of : {A B : Type 0} {f : A → B} {L : Rule A} {P : A → Type 0} {Q : B → Type 0} → Yields L P → ((a : A) → P a → Q (f a)) → Yields (f of L) Q
yields_of {f = f} {Q = Q} part made = record { holds = λ b xs all h. subst Q (sym h.is) (made h.from (part.holds h.from xs all h.spelled)) }

-- whatever it is made from
pub yields_made : {A B : Type 0} {f : A → B} {L : Rule A} {Q : B → Type 0} → ((a : A) → Q (f a)) → Yields (f of L) Q
yields_made {Q = Q} made = record { holds = λ b xs all h. subst Q (sym h.is) (made h.from) }

-- ---- one rule, once or not at all, or many times

pub yields_maybe : {A : Type 0} {L : Rule A} {P : A → Type 0} → Yields L P → Yields (maybe L) (λ o. IfSome o P)
yields_maybe {A = A} {L = L} {P = P} part = record { holds = at }
  where
    at : (o : Option A) (xs : List Lexeme) → AllStand xs → maybe L o xs → IfSome o P
    at None xs all h = tt
    at (Some a) xs all h = part.holds a xs all h

-- a turn that goes on has the property
abbrev pub IfMore : {A B : Type 0} → (A → Type 0) → Turn A B → Type 0
IfMore P (More a) = P a
IfMore P (Last b) = Unit {0}

pub yields_until : {A B : Type 0} {L : Rule (Turn A B)} {P : A → Type 0} → Yields L (IfMore P) → Yields (until L) (λ p. AllByRecursion P p.0)
yields_until {A = A} {B = B} {L = L} {P = P} turn = record { holds = λ p xs all h. at p.1 p.0 xs all h }
  where
    at : (last : Option B) (turns : List A) (xs : List Lexeme) → AllStand xs → until_of L last turns xs → AllByRecursion P turns
    at last [] xs all h = tt
    at last (a ∷ more) xs all h =
        let parts : AllStand (h.0 ++ h.1) = subst AllStand h.2 all in
        (turn.holds (More a) h.0 (all_front StandsForName h.0 h.1 parts) h.3, at last more h.1 (all_back StandsForName h.0 h.1 parts) h.4)
