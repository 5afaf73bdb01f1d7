-- A list that something else may end, as columns that a key may end.
use Rattle.std.proofs.Common.{◌≡◌, ℕ, suc, inl, true, false, List, [], ◌∷◌, ◌++◌, length, Option, Some, None, refl, sym, ◌∙◌, subst, append_assoc, append-nil, arith}
use Rattle.ct_grammar.specs.Kinds.{Set, apart}
use Rattle.ct_grammar.specs.Lexemes.{Lexeme}
use Rattle.ct_grammar.specs.Rules.{Rule, until, until_of}
use Rattle.ct_grammar.specs.declared.repeats.Turn.{Turn}
use Rattle.ct_grammar.specs.declared.repeats.Turn.TheVariants.{More, Last}
use Rattle.ct_grammar.specs.Reading.{Reader, until_next, until_from, until_last}
use Rattle.ct_grammar.proofs.FirstSets.{SameNext, BeginsIn, NotNext, neither_next, begins_or_empty, elsewhere_or_behind}
use Rattle.ct_grammar.proofs.Outcomes.{Input, Prefix, Includes, whole_prefix, Accepted, Justified, Finds, Opening, ReadsRule, HasSpelling, accepted_as, Replaces, replaced, Resumes, resumed}
use Rattle.ct_grammar.proofs.Repetitions.{Loop, LoopSpells, all_turns, turns_end, turn_finds, loop_justified, uses_lexeme}

abbrev nothing_last : {A B : Type 0} → List A → List A × Option B
nothing_last found = (found, None)

-- ---- what is spelled behind the values that were found so far

record Continued {A B : Type 0} (L : Turn A B → List Lexeme → Type 0) (found : List A) (all : List A × Option B) (xs : List Lexeme) : Type 0 where
  pub added : List A
  pub is : all.0 ≡ found ++ added
  pub spelled : until_of L all.1 added xs

one_more_spelled : {A B : Type 0} (L : Rule (Turn A B)) (last : Option B) (a : A) (more : List A) (xs ys : Input) → L (More a) xs → until_of L last more ys → until_of L last (a ∷ more) (xs ++ ys)
one_more_spelled L None a more xs ys h rest = (xs, ys, refl, h, rest)
one_more_spelled L (Some b) a more xs ys h rest = (xs, ys, refl, h, rest)

continue_first : {A B : Type 0} (L : Rule (Turn A B)) (found : List A) (a : A) (xs : Input) → L (More a) xs → (all : List A × Option B) (ys : Input) → Continued L (found ++ a ∷ []) all ys → Continued L found all (xs ++ ys)
continue_first L found a xs h all ys g = record {
  added = a ∷ g.added;
  is = g.is ∙ append_assoc found (a ∷ []) g.added;
  spelled = one_more_spelled L all.1 a g.added xs ys h g.spelled;
}

continue_opens : {A B : Type 0} (L : Rule (Turn A B)) (found : List A) (x : Turn A B) (xs : Input) → L x xs → Prefix (Continued L found) xs
continue_opens L found (More a) xs h =
    whole_prefix (Continued L found) (found ++ a ∷ [], None) xs (record { added = a ∷ []; is = refl; spelled = (xs, [], sym (append-nil xs), h, refl) })
continue_opens L found (Last b) xs h = whole_prefix (Continued L found) (found, Some b) xs (record { added = []; is = sym (append-nil found); spelled = h })

all_continued : {A B : Type 0} (L : Rule (Turn A B)) (all : List A × Option B) (xs : Input) → Continued L [] all xs → until L all xs
all_continued L all xs g = subst (λ z. until_of L all.1 z xs) (sym g.is) g.spelled

-- ---- the loop

until_next_alike : {A B : Type 0} (f g : List A → Reader (List A × Option B)) (found : List A) (x : Turn A B) (rest : Input) → ((a : A) → f (found ++ a ∷ []) rest ≡ g (found ++ a ∷ []) rest)
    → until_next f found x rest ≡ until_next g found x rest
until_next_alike f g found (More a) rest same = same a
until_next_alike f g found (Last b) rest same = refl

until_loop : {A B : Type 0} (L : ℕ → Rule (Turn A B)) (d : ℕ) (p : Reader (Turn A B)) (s g : Set) → ReadsRule L d p s false g → Loop s p nothing_last until_next (until_from s p)
unfolding until_from
until_loop L d p s g w = record {
  spent = λ found input. refl;
  turn = λ n found input. refl;
  alike = until_next_alike;
  uses = uses_lexeme (L d) (L (suc d)) s p (w.opening d) w.justified;
}

until_onward : {A B : Type 0} (L U : Rule (Turn A B)) (p : Reader (Turn A B)) (go : List A → Reader (List A × Option B)) → Includes L U → (found : List A) (input : Input) (x : Turn A B) (rest : Input) (w : Accepted L p input x rest)
    → ((other : Input) → SameNext rest other → go found (w.used ++ other) ≡ until_next go found x other)
    → ((a : A) → Justified (Continued L (found ++ a ∷ [])) (Continued U (found ++ a ∷ [])) (go (found ++ a ∷ [])) rest (go (found ++ a ∷ []) rest))
    → Justified (Continued L found) (Continued U found) (go found) input (until_next go found x rest)
until_onward L U p go wider found input (More a) rest w same behind =
    let resumes : Resumes (Continued L (found ++ a ∷ [])) (Continued U (found ++ a ∷ [])) (Continued L found) (Continued U found) (go (found ++ a ∷ [])) (go found) input rest = record {
      used = w.used;
      split = w.split;
      same = same;
      spells = λ all ys g. continue_first L found a w.used w.spelled all ys g;
      spells_deeper = λ all ys g. continue_first U found a w.used (wider (More a) w.used w.spelled) all ys g;
      begun = continue_opens L found (More a) w.used w.spelled;
    } in
    resumed resumes (go (found ++ a ∷ []) rest) (behind a)
until_onward L U p go wider found input (Last b) rest w same behind =
    accepted_as w (record { added = []; is = sym (append-nil found); spelled = w.spelled }) (λ other next _. same other next)

until_spells : {A B : Type 0} (L U : Rule (Turn A B)) (p : Reader (Turn A B)) (go : List A → Reader (List A × Option B)) → Includes L U → LoopSpells L U (Continued L) (Continued U) p nothing_last until_next go
until_spells L U p go wider = record {
  nothing = λ found. record { added = []; is = sym (append-nil found); spelled = refl };
  opens = continue_opens L;
  opens_deeper = continue_opens U;
  onward = until_onward L U p go wider;
}

-- ---- how spellings begin, and that they are read

until_begins : {A B : Type 0} (L U : Rule (Turn A B)) (s : Set) → Opening L U s false → (last : Option B) (all : List A) (xs : Input) → until_of L last all xs → BeginsIn s true xs
until_begins L U s w None [] xs h = rw h refl
until_begins L U s w (Some b) [] xs h = rw (sym (append-nil xs)) (begins_or_empty s xs [] (w.begins (Last b) xs h))
until_begins L U s w None (a ∷ all) xs h = rw h.2 (begins_or_empty s h.0 h.1 (w.begins (More a) h.0 h.3))
until_begins L U s w (Some b) (a ∷ all) xs h = rw h.2 (begins_or_empty s h.0 h.1 (w.begins (More a) h.0 h.3))

until_wider : {A B : Type 0} (L U : Rule (Turn A B)) → Includes L U → (last : Option B) (all : List A) (xs : Input) → until_of L last all xs → until_of U last all xs
until_wider L U wider None [] xs h = h
until_wider L U wider (Some b) [] xs h = wider (Last b) xs h
until_wider L U wider None (a ∷ all) xs h = (h.0, h.1, h.2, wider (More a) h.0 h.3, until_wider L U wider None all h.1 h.4)
until_wider L U wider (Some b) (a ∷ all) xs h = (h.0, h.1, h.2, wider (More a) h.0 h.3, until_wider L U wider (Some b) all h.1 h.4)

-- a turn that is not the last, where the rest is found
more_found : {A B : Type 0} (L : ℕ → Rule (Turn A B)) (d : ℕ) (p : Reader (Turn A B)) (s g : Set) → apart g s ≡ true → ReadsRule L d p s false g → Loop s p nothing_last until_next (until_from s p)
    → (n : ℕ) (last : Option B) (a : A) (all found : List A) (xs front back rest : Input) → xs ≡ front ++ back → L n (More a) front → until_of (L n) last all back → NotNext (g ++ s) rest
    → Finds d n (all_turns (until_from s p) (found ++ a ∷ []) (back ++ rest)) ((found ++ a ∷ []) ++ all, last) rest → Finds d n (all_turns (until_from s p) found (xs ++ rest)) (found ++ a ∷ all, last) rest
more_found L d p s g clear w loop n last a all found xs front back rest cut h behind next others =
    turn_finds loop w n found (More a) front back xs rest (found ++ a ∷ all, last) h cut (elsewhere_or_behind g s back rest clear (until_begins (L n) (L (suc n)) s (w.opening n) last all back behind) next)
    (subst (λ z. Finds d n (all_turns (until_from s p) (found ++ a ∷ []) (back ++ rest)) (z, last) rest) (append_assoc found (a ∷ []) all) others)

until_finds : {A B : Type 0} (L : ℕ → Rule (Turn A B)) (d : ℕ) (p : Reader (Turn A B)) (s g : Set) → apart g s ≡ true → ReadsRule L d p s false g → Loop s p nothing_last until_next (until_from s p)
    → (n : ℕ) (last : Option B) (all found : List A) (xs rest : Input) → until_of (L n) last all xs → NotNext (g ++ s) rest → Finds d n (all_turns (until_from s p) found (xs ++ rest)) (found ++ all, last) rest
until_finds L d p s g clear w loop n None [] found xs rest h next = inl (rw (h, append-nil found) (turns_end loop found rest ((neither_next g s rest next).1)))
until_finds L d p s g clear w loop n (Some b) [] found xs rest h next =
    turn_finds loop w n found (Last b) xs [] xs rest (found ++ [], Some b) h (sym (append-nil xs)) ((neither_next g s rest next).0) (inl (rw (append-nil found) refl))
until_finds L d p s g clear w loop n None (a ∷ all) found xs rest h next =
    more_found L d p s g clear w loop n None a all found xs h.0 h.1 rest h.2 h.3 h.4 next (until_finds L d p s g clear w loop n None all (found ++ a ∷ []) h.1 rest h.4 next)
until_finds L d p s g clear w loop n (Some b) (a ∷ all) found xs rest h next =
    more_found L d p s g clear w loop n (Some b) a all found xs h.0 h.1 rest h.2 h.3 h.4 next (until_finds L d p s g clear w loop n (Some b) all (found ++ a ∷ []) h.1 rest h.4 next)

pub some_until : {A B : Type 0} {d : ℕ} (L : ℕ → Rule (Turn A B)) → HasSpelling d (λ n. until (L n))
some_until L n _ = record { value = ([], None); further = []; spelled = refl }

pub law_until : {A B : Type 0} {L : ℕ → Rule (Turn A B)} {d : ℕ} {p : Reader (Turn A B)} {s g : Set} → apart g s ≡ true → ReadsRule L d p s false g → ReadsRule (λ n. until (L n)) d (until_last s p) s true (g ++ s)
law_until {L = L} {d} {p} {s} {g} clear w =
    let loop = until_loop L d p s g w in
    record {
      opening = λ n. record { begins = λ x xs h. until_begins (L n) (L (suc n)) s (w.opening n) x.1 x.0 xs h; wider = λ x xs h. until_wider (L n) (L (suc n)) ((w.opening n).wider) x.1 x.0 xs h };
      justified = λ input. (
          let whole : Replaces (Continued (L d) []) (Continued (L (suc d)) []) (until (L d)) (until (L (suc d))) (until_last s p) (until_last s p) input = record {
            spells = all_continued (L d);
            spells_deeper = all_continued (L (suc d));
            same = λ other _. refl;
          } in
          replaced whole (until_last s p input) (loop_justified loop (until_spells (L d) (L (suc d)) p (all_turns (until_from s p)) ((w.opening d).wider)) w.justified (suc (length input)) [] input (omega arith)));
      complete = λ n x xs rest h next. until_finds L d p s g clear w loop n x.1 x.0 [] xs rest h next;
    }
