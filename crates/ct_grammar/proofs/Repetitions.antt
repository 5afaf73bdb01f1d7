-- A rule any number of times: the next lexeme tells whether there is another turn.
use Rattle.std.proofs.Common.{◌≡◌, ℕ, zero, suc, ◌<◌, ◌≤◌, inl, inr, Bool, true, false, if◌then◌else◌, List, [], ◌∷◌, ◌++◌, length, Ok, Err, refl, ap, sym, ◌∙◌, subst, append_assoc, append-nil, length-append, arith}
use Rattle.ct_grammar.specs.Kinds.{Set, apart}
use Rattle.ct_grammar.specs.Lexemes.{Lexeme, sees}
use Rattle.ct_grammar.specs.Rules.{Rule, many}
use Rattle.ct_grammar.specs.Reading.{Outcome, Reader, and_then, repeat_from, repeat}
use Rattle.ct_grammar.proofs.FirstSets.{SameNext, same_next, sees_alike, true_or_false, BeginsIn, NotNext, neither_next, begins_sees, begins_or_empty, elsewhere_or_behind}
use Rattle.ct_grammar.proofs.Outcomes.{Input, Prefix, Opens, Includes, whole_prefix, Accepted, Justified, Finds, Opening, ReadsRule, HasSpelling, next_of_split, Replaces, replaced, Binds, bound, Resumes, resumed, finds_then, finds_equal}

-- ---- a loop of turns

-- `from` takes at most so many turns of the reader p. A turn goes on as `next` says, with the values that were found so far.
pub record Loop {A T R : Type 0} (s : Set) (p : Reader T) (done : List A → R) (next : (List A → Reader R) → List A → T → Reader R) (from : ℕ → List A → Reader R) : Type 0 where
  pub spent : (found : List A) (input : List Lexeme) → from 0 found input ≡ Ok (done found, input)
  pub turn : (n : ℕ) (found : List A) (input : List Lexeme) → from (suc n) found input ≡ (if sees s input then and_then (p input) (next (from n) found) else Ok (done found, input))
  pub alike : (f g : List A → Reader R) (found : List A) (x : T) (rest : List Lexeme) → ((a : A) → f (found ++ a ∷ []) rest ≡ g (found ++ a ∷ []) rest) → next f found x rest ≡ next g found x rest
  pub uses : (input : List Lexeme) (x : T × List Lexeme) → p input ≡ Ok x → length x.1 < length input

-- with as many turns as there are lexemes
abbrev pub all_turns : {A R : Type 0} → (ℕ → List A → Reader R) → List A → Reader R
all_turns from found = λ input. from (length input) found input

and_then_alike : {A B : Type 0} (o : Outcome A) (f g : A → Reader B) → ((x : A × Input) → o ≡ Ok x → f x.0 x.1 ≡ g x.0 x.1) → and_then o f ≡ and_then o g
and_then_alike (Ok x) f g h = h x refl
and_then_alike (Err fault) f g h = refl

turn_alike : {A T R : Type 0} {s : Set} {p : Reader T} {done : List A → R} {next : (List A → Reader R) → List A → T → Reader R} {from : ℕ → List A → Reader R} (loop : Loop s p done next from)
    (f g : List A → Reader R) (found : List A) (input : Input) → ((x : T × Input) → p input ≡ Ok x → (a : A) → f (found ++ a ∷ []) x.1 ≡ g (found ++ a ∷ []) x.1) → (b : Bool)
    → (if b then and_then (p input) (next f found) else Ok (done found, input)) ≡ (if b then and_then (p input) (next g found) else Ok (done found, input))
turn_alike {p = p} {next = next} loop f g found input h true = and_then_alike (p input) (next f found) (next g found) (λ x e. loop.alike f g found x.0 x.1 (h x e))
turn_alike loop f g found input h false = refl

at_the_end : {A T R : Type 0} {s : Set} {p : Reader T} {done : List A → R} {next : (List A → Reader R) → List A → T → Reader R} {from : ℕ → List A → Reader R} (loop : Loop s p done next from)
    (n : ℕ) (found : List A) → from n found [] ≡ Ok (done found, [])
unfolding sees
at_the_end loop zero found = loop.spent found []
at_the_end loop (suc n) found = loop.turn n found []

-- more turns than there are lexemes change nothing
enough_turns : {A T R : Type 0} {s : Set} {p : Reader T} {done : List A → R} {next : (List A → Reader R) → List A → T → Reader R} {from : ℕ → List A → Reader R} (loop : Loop s p done next from)
    (n m : ℕ) (found : List A) (input : Input) → length input ≤ n → length input ≤ m → from n found input ≡ from m found input
enough_turns loop n m found [] few fewer = at_the_end loop n found ∙ sym (at_the_end loop m found)
enough_turns loop zero m found (t ∷ input) few fewer = absurd (omega arith)
enough_turns loop (suc n) zero found (t ∷ input) few fewer = absurd (omega arith)
enough_turns {s = s} {from = from} loop (suc n) (suc m) found (t ∷ input) few fewer =
    loop.turn n found (t ∷ input)
    ∙ turn_alike loop (from n) (from m) found (t ∷ input) (λ x e a. (let less : length x.1 < length (t ∷ input) = loop.uses (t ∷ input) x e in enough_turns loop n m (found ++ a ∷ []) x.1 (omega arith) (omega arith))) (sees s (t ∷ input))
    ∙ sym (loop.turn m found (t ∷ input))

pub one_turn : {A T R : Type 0} {s : Set} {p : Reader T} {done : List A → R} {next : (List A → Reader R) → List A → T → Reader R} {from : ℕ → List A → Reader R} (loop : Loop s p done next from)
    (found : List A) (input : Input) → all_turns from found input ≡ (if sees s input then and_then (p input) (next (all_turns from) found) else Ok (done found, input))
unfolding sees
one_turn loop found [] = loop.spent found []
one_turn {s = s} {from = from} loop found (t ∷ input) =
    loop.turn (length input) found (t ∷ input)
    ∙ turn_alike loop (from (length input)) (all_turns from) found (t ∷ input)
    (λ x e a. (let less : length x.1 < length (t ∷ input) = loop.uses (t ∷ input) x e in enough_turns loop (length input) (length x.1) (found ++ a ∷ []) x.1 (omega arith) (omega arith))) (sees s (t ∷ input))

pub turn_taken : {A T R : Type 0} {s : Set} {p : Reader T} {done : List A → R} {next : (List A → Reader R) → List A → T → Reader R} {from : ℕ → List A → Reader R} (loop : Loop s p done next from)
    (found : List A) (input : Input) → sees s input ≡ true → all_turns from found input ≡ and_then (p input) (next (all_turns from) found)
turn_taken {p = p} {done} {next} {from} loop found input goes = one_turn loop found input ∙ ap (λ b. if b then and_then (p input) (next (all_turns from) found) else Ok (done found, input)) goes

pub turns_end : {A T R : Type 0} {s : Set} {p : Reader T} {done : List A → R} {next : (List A → Reader R) → List A → T → Reader R} {from : ℕ → List A → Reader R} (loop : Loop s p done next from)
    (found : List A) (input : Input) → NotNext s input → all_turns from found input ≡ Ok (done found, input)
turns_end {p = p} {done} {next} {from} loop found input ends = one_turn loop found input ∙ ap (λ b. if b then and_then (p input) (next (all_turns from) found) else Ok (done found, input)) ends

-- ---- what the outcome of a loop says

-- N and W say what is spelled behind the values that were found so far
pub record LoopSpells {A T R : Type 0} (L U : T → List Lexeme → Type 0) (N W : List A → R → List Lexeme → Type 0) (p : Reader T) (done : List A → R) (next : (List A → Reader R) → List A → T → Reader R)
    (go : List A → Reader R) : Type 0 where
  pub nothing : (found : List A) → N found (done found) []
  pub opens : (found : List A) (x : T) (xs : List Lexeme) → L x xs → Prefix (N found) xs
  pub opens_deeper : (found : List A) (x : T) (xs : List Lexeme) → U x xs → Prefix (W found) xs
  pub onward : (found : List A) (input : List Lexeme) (x : T) (rest : List Lexeme) (w : Accepted L p input x rest) → ((other : List Lexeme) → SameNext rest other → go found (w.used ++ other) ≡ next go found x other)
      → ((a : A) → Justified (N (found ++ a ∷ [])) (W (found ++ a ∷ [])) (go (found ++ a ∷ [])) rest (go (found ++ a ∷ []) rest)) → Justified (N found) (W found) (go found) input (next go found x rest)

pub loop_justified : {A T R : Type 0} {s : Set} {p : Reader T} {done : List A → R} {next : (List A → Reader R) → List A → T → Reader R} {from : ℕ → List A → Reader R} {L U : Rule T} {N W : List A → Rule R}
    → Loop s p done next from → LoopSpells L U N W p done next (all_turns from) → ((input : Input) → Justified L U p input (p input)) → (n : ℕ) (found : List A) (input : Input) → length input < n
    → Justified (N found) (W found) (all_turns from found) input (all_turns from found input)
loop_justified loop spells justified zero found input few = absurd (omega arith)
loop_justified {s = s} {p} {done} {next} {from} {L} {U} {N} {W} loop spells justified (suc n) found input few =
    elim (true_or_false (sees s input)) [
      | inl goes ↦ (
          let same : (other : Input) → SameNext input other → all_turns from found other ≡ and_then (p other) (next (all_turns from) found) = λ other alike. turn_taken loop found other (sym (sees_alike s input other alike) ∙ goes) in
          let binds : Binds L U (N found) (W found) p (all_turns from found) (next (all_turns from) found) input = record { opens = spells.opens found; opens_deeper = spells.opens_deeper found; same = same } in
          subst (Justified (N found) (W found) (all_turns from found) input) (sym (same input (same_next input)))
          (bound binds (p input) (justified input) (λ x e w.
          let less : length x.1 < length input = loop.uses input x e in
          spells.onward found input x.0 x.1 w
          (λ other alike. same (w.used ++ other) (next_of_split input w.used x.1 other w.split alike) ∙ ap (λ o. and_then o (next (all_turns from) found)) (w.stable other alike))
          (λ a. loop_justified loop spells justified n (found ++ a ∷ []) x.1 (omega arith)))))
      | inr ends ↦ (
          let same : (other : Input) → SameNext input other → all_turns from found other ≡ Ok (done found, other) = λ other alike. turns_end loop found other (sym (sees_alike s input other alike) ∙ ends) in
          subst (Justified (N found) (W found) (all_turns from found) input) (sym (same input (same_next input))) (record { used = []; split = refl; spelled = spells.nothing found; stable = same }))
    ]

fewer_left : (s : Set) (used input rest : Input) → input ≡ used ++ rest → BeginsIn s false used → length rest < length input
fewer_left s [] input rest split begins = absurd cc
fewer_left s (u ∷ used) input rest split begins = omega (arith, ap length split, length-append used rest)

-- a reader of a rule that is not empty uses a lexeme
pub uses_lexeme : {T : Type 0} (L U : Rule T) (s : Set) (p : Reader T) → Opening L U s false → ((input : Input) → Justified L U p input (p input)) → (input : Input) (x : T × Input) → p input ≡ Ok x → length x.1 < length input
uses_lexeme L U s p opening justified input x e =
    let w : Accepted L p input x.0 x.1 = subst (Justified L U p input) e (justified input) in
    fewer_left s w.used input x.1 w.split (opening.begins x.0 w.used w.spelled)

-- the value of a turn is found, and then what its turn goes on with
pub turn_finds : {A T R : Type 0} {s : Set} {p : Reader T} {done : List A → R} {next : (List A → Reader R) → List A → T → Reader R} {from : ℕ → List A → Reader R} {L : ℕ → Rule T} {d : ℕ} {g : Set}
    → Loop s p done next from → ReadsRule L d p s false g → (n : ℕ) (found : List A) (x : T) (xs more all rest : Input) (result : R) → L n x xs → all ≡ xs ++ more → NotNext g (more ++ rest)
    → Finds d n (next (all_turns from) found x (more ++ rest)) result rest → Finds d n (all_turns from found (all ++ rest)) result rest
turn_finds {s = s} {p} {next = next} {from} {d = d} loop w n found x xs more all rest result h cut apart_behind found_then =
    let joined : all ++ rest ≡ xs ++ (more ++ rest) = ap (λ z. z ++ rest) cut ∙ append_assoc xs more rest in
    let goes : sees s (xs ++ (more ++ rest)) ≡ true = begins_sees s xs (more ++ rest) ((w.opening n).begins x xs h) in
    finds_equal d n (and_then (p (xs ++ (more ++ rest))) (next (all_turns from) found)) (all_turns from found (all ++ rest)) result rest (ap (all_turns from found) joined ∙ turn_taken loop found (xs ++ (more ++ rest)) goes)
    (finds_then d n (p (xs ++ (more ++ rest))) x (more ++ rest) (next (all_turns from) found) result rest (w.complete n x xs (more ++ rest) h apart_behind) found_then)

-- ---- the same rule each time

-- the values behind those that were found so far are spelled
record Appended {A : Type 0} (L : A → List Lexeme → Type 0) (found all : List A) (xs : List Lexeme) : Type 0 where
  pub added : List A
  pub is : all ≡ found ++ added
  pub spelled : many L added xs

append_first : {A : Type 0} (L : Rule A) (found : List A) (a : A) (xs : Input) → L a xs → (all : List A) (ys : Input) → Appended L (found ++ a ∷ []) all ys → Appended L found all (xs ++ ys)
append_first L found a xs h all ys g = record { added = a ∷ g.added; is = g.is ∙ append_assoc found (a ∷ []) g.added; spelled = (xs, ys, refl, h, g.spelled) }

append_one : {A : Type 0} (L : Rule A) (found : List A) (a : A) (xs : Input) → L a xs → Appended L found (found ++ a ∷ []) xs
append_one L found a xs h = record { added = a ∷ []; is = refl; spelled = (xs, [], sym (append-nil xs), h, refl) }

append_opens : {A : Type 0} (L : Rule A) (found : List A) → Opens L (Appended L found)
append_opens L found a xs h = whole_prefix (Appended L found) (found ++ a ∷ []) xs (append_one L found a xs h)

abbrev next_of_many : {A : Type 0} → (List A → Reader (List A)) → List A → A → Reader (List A)
next_of_many go found a = go (found ++ a ∷ [])

many_onward : {A : Type 0} (L U : Rule A) (p : Reader A) (go : List A → Reader (List A)) → Includes L U → (found : List A) (input : Input) (a : A) (rest : Input) (w : Accepted L p input a rest)
    → ((other : Input) → SameNext rest other → go found (w.used ++ other) ≡ go (found ++ a ∷ []) other)
    → Justified (Appended L (found ++ a ∷ [])) (Appended U (found ++ a ∷ [])) (go (found ++ a ∷ [])) rest (go (found ++ a ∷ []) rest)
    → Justified (Appended L found) (Appended U found) (go found) input (go (found ++ a ∷ []) rest)
many_onward L U p go wider found input a rest w same behind =
    let resumes : Resumes (Appended L (found ++ a ∷ [])) (Appended U (found ++ a ∷ [])) (Appended L found) (Appended U found) (go (found ++ a ∷ [])) (go found) input rest = record {
      used = w.used;
      split = w.split;
      same = same;
      spells = λ all ys g. append_first L found a w.used w.spelled all ys g;
      spells_deeper = λ all ys g. append_first U found a w.used (wider a w.used w.spelled) all ys g;
      begun = append_opens L found a w.used w.spelled;
    } in
    resumed resumes (go (found ++ a ∷ []) rest) behind

many_begins : {A : Type 0} (L U : Rule A) (s : Set) → Opening L U s false → (all : List A) (xs : Input) → many L all xs → BeginsIn s true xs
many_begins L U s w [] xs h = rw h refl
many_begins L U s w (a ∷ all) xs h = rw h.2 (begins_or_empty s h.0 h.1 (w.begins a h.0 h.3))

many_wider : {A : Type 0} (L U : Rule A) → Includes L U → (all : List A) (xs : Input) → many L all xs → many U all xs
many_wider L U wider [] xs h = h
many_wider L U wider (a ∷ all) xs h = (h.0, h.1, h.2, wider a h.0 h.3, many_wider L U wider all h.1 h.4)

many_finds : {A : Type 0} (L : ℕ → Rule A) (d : ℕ) (p : Reader A) (s g : Set) → apart g s ≡ true → ReadsRule L d p s false g → Loop s p (λ found. found) next_of_many (repeat_from s p)
    → (n : ℕ) (all found : List A) (xs rest : Input) → many (L n) all xs → NotNext (g ++ s) rest → Finds d n (all_turns (repeat_from s p) found (xs ++ rest)) (found ++ all) rest
many_finds L d p s g clear w loop n [] found xs rest h next = inl (rw (h, append-nil found) (turns_end loop found rest ((neither_next g s rest next).1)))
many_finds L d p s g clear w loop n (a ∷ all) found xs rest h next =
    turn_finds loop w n found a h.0 h.1 xs rest (found ++ a ∷ all) h.3 h.2 (elsewhere_or_behind g s h.1 rest clear (many_begins (L n) (L (suc n)) s (w.opening n) all h.1 h.4) next)
    (subst (λ z. Finds d n (all_turns (repeat_from s p) (found ++ a ∷ []) (h.1 ++ rest)) z rest) (append_assoc found (a ∷ []) all) (many_finds L d p s g clear w loop n all (found ++ a ∷ []) h.1 rest h.4 next))

pub shape_many : {A : Type 0} {L U : Rule A} {s : Set} → Opening L U s false → Opening (many L) (many U) s true
shape_many {L = L} {U} {s} w = record { begins = many_begins L U s w; wider = many_wider L U w.wider }

pub some_many : {A : Type 0} {d : ℕ} (L : ℕ → Rule A) → HasSpelling d (λ n. many (L n))
some_many L n _ = record { value = []; further = []; spelled = refl }

many_loop : {A : Type 0} (L : ℕ → Rule A) (d : ℕ) (p : Reader A) (s g : Set) → ReadsRule L d p s false g → Loop s p (λ found. found) next_of_many (repeat_from s p)
unfolding repeat_from
many_loop L d p s g w = record {
  spent = λ found input. refl;
  turn = λ n found input. refl;
  alike = λ f h found x rest same. same x;
  uses = uses_lexeme (L d) (L (suc d)) s p (w.opening d) w.justified;
}

many_spells : {A : Type 0} (L U : Rule A) (p : Reader A) (go : List A → Reader (List A)) → Includes L U → LoopSpells L U (Appended L) (Appended U) p (λ found. found) next_of_many go
many_spells L U p go wider = record {
  nothing = λ found. record { added = []; is = sym (append-nil found); spelled = refl };
  opens = append_opens L;
  opens_deeper = append_opens U;
  onward = λ found input a rest w same behind. many_onward L U p go wider found input a rest w same (behind a);
}

all_appended : {A : Type 0} (L : Rule A) (all : List A) (xs : Input) → Appended L [] all xs → many L all xs
all_appended L all xs g = rw g.is g.spelled

pub law_repeat : {A : Type 0} {L : ℕ → Rule A} {d : ℕ} {p : Reader A} {s g : Set} → apart g s ≡ true → ReadsRule L d p s false g → ReadsRule (λ n. many (L n)) d (repeat s p) s true (g ++ s)
law_repeat {L = L} {d} {p} {s} {g} clear w =
    let loop = many_loop L d p s g w in
    record {
      opening = λ n. shape_many (w.opening n);
      justified = λ input. (
          let whole : Replaces (Appended (L d) []) (Appended (L (suc d)) []) (many (L d)) (many (L (suc d))) (repeat s p) (repeat s p) input = record {
            spells = all_appended (L d);
            spells_deeper = all_appended (L (suc d));
            same = λ other _. refl;
          } in
          replaced whole (repeat s p input) (loop_justified loop (many_spells (L d) (L (suc d)) p (all_turns (repeat_from s p)) ((w.opening d).wider)) w.justified (suc (length input)) [] input (omega arith)));
      complete = λ n all xs rest h next. many_finds L d p s g clear w loop n all [] xs rest h next;
    }
