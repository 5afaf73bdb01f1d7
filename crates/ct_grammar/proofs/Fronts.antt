-- The laws of rules that begin with a lexeme which is read as some value of it.
use Rattle.std.proofs.Common.{◌≡◌, ℕ, suc, inl, inr, Bool, true, false, List, [], ◌∷◌, ◌++◌, Ok, Err, refl, ap, sym, ◌∙◌, subst}
use Rattle.ct_grammar.specs.Kinds.{Set, has}
use Rattle.ct_grammar.specs.Lexemes.{Lexeme, matches}
use Rattle.ct_grammar.specs.Rules.{token, ◌and◌, ◌or◌, ◌of◌}
use Rattle.ct_grammar.specs.Reading.{Outcome, Reader, and_then, ◌>>=◌, pure, expect, both, making}
use Rattle.ct_grammar.proofs.Outcomes.{Prefix, Justified, Opening, ReadsRule, Replaces, replaced, finds_equal}
use Rattle.ct_grammar.proofs.Sequences.{law_of}
use Rattle.ct_grammar.proofs.Levels.{NextLevel, law_nested}
use Rattle.ct_grammar.proofs.Lookahead.{ReadsRuleAhead, Traverses, ReachesEnd}
use Rattle.ct_grammar.proofs.Calls.{Call, reads_call}

-- ---- the same spellings, read by an equal reader

-- M spells what L does, and q reads as p does
record Restates {A : Type 0} (L M : ℕ → A → List Lexeme → Type 0) (p q : Reader A) : Type 0 where
  pub spells : (n : ℕ) (a : A) (xs : List Lexeme) → L n a xs → M n a xs
  pub spelled : (n : ℕ) (a : A) (xs : List Lexeme) → M n a xs → L n a xs
  pub same : (input : List Lexeme) → q input ≡ p input

same_opening : {A : Type 0} {L M : ℕ → A → List Lexeme → Type 0} {p q : Reader A} {s : Set} {e : Bool} → Restates L M p q → (n : ℕ) → Opening (L n) (L (suc n)) s e → Opening (M n) (M (suc n)) s e
same_opening r n w = record {
  begins = λ a xs h. w.begins a xs (r.spelled n a xs h);
  wider = λ a xs h. r.spells (suc n) a xs (w.wider a xs (r.spelled n a xs h));
}

law_same : {A : Type 0} {L M : ℕ → A → List Lexeme → Type 0} {d : ℕ} {p q : Reader A} {s : Set} {e : Bool} {g : Set} → Restates L M p q → ReadsRule L d p s e g → ReadsRule M d q s e g
law_same {L = L} {M} {d} {p} {q} r w = record {
  opening = λ n. same_opening r n (w.opening n);
  justified = λ input. (
      let same : Replaces (L d) (L (suc d)) (M d) (M (suc d)) p q input = record { spells = r.spells d; spells_deeper = r.spells (suc d); same = λ other _. r.same other } in
      subst (Justified (M d) (M (suc d)) q input) (sym (r.same input)) (replaced same (p input) (w.justified input)));
  complete = λ n a xs rest h next. finds_equal d n (p (xs ++ rest)) (q (xs ++ rest)) a rest (r.same (xs ++ rest)) (w.complete n a xs rest (r.spelled n a xs h) next);
}

same_end : {A : Type 0} (p q : Reader A) (xs : List Lexeme) → q xs ≡ p xs → ReachesEnd p xs → ReachesEnd q xs
same_end p q xs same (inl whole) = inl (whole.0, same ∙ whole.1)
same_end p q xs same (inr at_end) = inr (same ∙ at_end)

ahead_same : {A : Type 0} (sets : List Set) (L M N : ℕ → A → List Lexeme → Type 0) (d : ℕ) (p q : Reader A) (s g : Set) → Restates L M p q → ReadsRuleAhead sets L N d p s g → ReadsRuleAhead sets M N d q s g
ahead_same sets L M N d p q s g r w = record {
  opening = λ n. same_opening r n (w.opening n);
  justified = λ input hit. (
      let same : Replaces (L d or N d) (L (suc d) or N (suc d)) (M d or N d) (M (suc d) or N (suc d)) p q input = record {
        spells = λ a xs h. elim h [ inl l ↦ inl (r.spells d a xs l) | inr n ↦ inr n ];
        spells_deeper = λ a xs h. elim h [ inl l ↦ inl (r.spells (suc d) a xs l) | inr n ↦ inr n ];
        same = λ other _. r.same other;
      } in
      subst (Justified (M d or N d) (M (suc d) or N (suc d)) q input) (sym (r.same input)) (replaced same (p input) (w.justified input hit)));
  complete = λ n a xs rest h next. finds_equal d n (p (xs ++ rest)) (q (xs ++ rest)) a rest (r.same (xs ++ rest)) (w.complete n a xs rest (r.spelled n a xs h) next);
  traverses = λ xs some fewer agreed. same_end p q xs (r.same xs) (w.traverses xs some fewer agreed);
  matched = λ n a xs rest h. w.matched n a xs rest (r.spelled n a xs h);
}

-- ---- one lexeme in front

front_there : {A B : Type 0} (f : Lexeme → A) (k : Set) (M : B → List Lexeme → Type 0) (x : A × B) (ts : List Lexeme) → ((λ p. (f p.0, p.1)) of (token k and M)) x ts → ((f of token k) and M) x ts
front_there f k M x ts h = rw h.is (record {
  front = h.spelled.front;
  back = h.spelled.back;
  cut = h.spelled.cut;
  first = record { from = h.from.0; is = refl; spelled = h.spelled.first };
  second = h.spelled.second;
})

front_back : {A B : Type 0} (f : Lexeme → A) (k : Set) (M : B → List Lexeme → Type 0) (x : A × B) (ts : List Lexeme) → ((f of token k) and M) x ts → ((λ p. (f p.0, p.1)) of (token k and M)) x ts
front_back f k M x ts j = record {
  from = (j.first.from, x.1);
  is = ap (λ a. (a, x.1)) j.first.is;
  spelled = record { front = j.front; back = j.back; cut = j.cut; first = j.first.spelled; second = j.second };
}

second_reads : {A B C : Type 0} (f : A → C) (a : A) (o : Outcome B) → and_then {B = C × B} o (λ b. pure (f a, b)) ≡ and_then {B = C × B} (and_then {B = A × B} o (λ b. pure (a, b))) (λ p. pure (f p.0, p.1))
second_reads f a (Ok y) = refl
second_reads f a (Err e) = refl

front_reads : {A B : Type 0} (f : Lexeme → A) (q : Reader B) (o : Outcome Lexeme)
    → and_then {B = A × B} (and_then {B = A} o (λ x. pure (f x))) (λ a. q >>= (λ b. pure (a, b))) ≡ and_then {B = A × B} (and_then {B = Lexeme × B} o (λ a. q >>= (λ b. pure (a, b)))) (λ p. pure (f p.0, p.1))
front_reads f q (Ok x) = second_reads f x.0 (q x.1)
front_reads f q (Err e) = refl

pub law_front : {A B : Type 0} (f : Lexeme → A) (k : Set) {M : ℕ → B → List Lexeme → Type 0} {d : ℕ} (q : Reader B) {s : Set} {e : Bool} {g : Set}
    → ReadsRule (λ n. token k and M n) d (both (expect k) q) s e g → ReadsRule (λ n. (f of token k) and M n) d (both (making f (expect k)) q) s e g
law_front f k {M} q w =
    let restates : Restates (λ n. (λ p. (f p.0, p.1)) of (token k and M n)) (λ n. (f of token k) and M n) (making (λ p. (f p.0, p.1)) (both (expect k) q)) (both (making f (expect k)) q) = record {
      spells = λ n a xs h. front_there f k (M n) a xs h;
      spelled = λ n a xs h. front_back f k (M n) a xs h;
      same = λ input. front_reads f q (expect k input);
    } in
    law_same restates (law_of w)

-- what goes one level deeper behind a lexeme
pub law_deeper : {A B : Type 0} (f : Lexeme → A) (k : Set) {M : ℕ → B → List Lexeme → Type 0} {c : ℕ} {q : Reader B} {s g : Set} → ((n : ℕ) → Opening (M n) (M (suc n)) s false)
    → ((b : B) (ts : List Lexeme) → M 0 b ts → ⊥) → ((n : ℕ) → Prefix (M (suc n)) []) → NextLevel M c q s g
    → ReadsRule (λ n. (f of token k) and M n) c (both (making f (expect k)) q) k false g
law_deeper f k {q = q} opening none some step = law_front f k q (law_nested k opening none some step)

-- ---- two lexemes in front, of which the second goes one level deeper

call_there : {A B C D : Type 0} (m : A × (B × C) → D) (f : Lexeme → A) (g : Lexeme → B) (s k : Set) (M : C → List Lexeme → Type 0) (d : D) (ts : List Lexeme)
    → ((λ p. m (f p.0, (g p.1.0, p.1.1))) of (token s and (token k and M))) d ts → (m of ((f of token s) and (g of token k) and M)) d ts
call_there m f g s k M d ts h = record {
  from = (f h.from.0, (g h.from.1.0, h.from.1.1));
  is = h.is;
  spelled = record {
    front = h.spelled.front;
    back = h.spelled.back;
    cut = h.spelled.cut;
    first = record { from = h.from.0; is = refl; spelled = h.spelled.first };
    second = record {
      front = h.spelled.second.front;
      back = h.spelled.second.back;
      cut = h.spelled.second.cut;
      first = record { from = h.from.1.0; is = refl; spelled = h.spelled.second.first };
      second = h.spelled.second.second;
    };
  };
}

call_back : {A B C D : Type 0} (m : A × (B × C) → D) (f : Lexeme → A) (g : Lexeme → B) (s k : Set) (M : C → List Lexeme → Type 0) (d : D) (ts : List Lexeme)
    → (m of ((f of token s) and (g of token k) and M)) d ts → ((λ p. m (f p.0, (g p.1.0, p.1.1))) of (token s and (token k and M))) d ts
call_back m f g s k M d ts h =
    let j = h.spelled in
    record {
      from = (j.first.from, (j.second.first.from, h.from.1.1));
      is = h.is ∙ ap (λ a. m (a, h.from.1)) j.first.is ∙ ap (λ b. m (f j.first.from, (b, h.from.1.1))) j.second.first.is;
      spelled = record {
        front = j.front;
        back = j.back;
        cut = j.cut;
        first = j.first.spelled;
        second = record { front = j.second.front; back = j.second.back; cut = j.second.cut; first = j.second.first.spelled; second = j.second.second };
      };
    }

third_reads : {A B C D : Type 0} (m : A × (B × C) → D) (f : Lexeme → A) (g : Lexeme → B) (x y : Lexeme) (o : Outcome C)
    → and_then {B = D} (and_then {B = A × (B × C)} (and_then {B = B × C} o (λ c. pure (g y, c))) (λ b. pure (f x, b))) (λ z. pure (m z))
    ≡ and_then {B = D} (and_then {B = Lexeme × (Lexeme × C)} (and_then {B = Lexeme × C} o (λ c. pure (y, c))) (λ b. pure (x, b))) (λ p. pure (m (f p.0, (g p.1.0, p.1.1))))
third_reads m f g x y (Ok z) = refl
third_reads m f g x y (Err e) = refl

call_second : {A B C D : Type 0} (m : A × (B × C) → D) (f : Lexeme → A) (g : Lexeme → B) (q : Reader C) (x : Lexeme) (o : Outcome Lexeme)
    → and_then {B = D} (and_then {B = A × (B × C)} (and_then {B = B × C} (and_then {B = B} o (λ y. pure (g y))) (λ a. q >>= (λ b. pure (a, b)))) (λ b. pure (f x, b))) (λ z. pure (m z))
    ≡ and_then {B = D} (and_then {B = Lexeme × (Lexeme × C)} (and_then {B = Lexeme × C} o (λ a. q >>= (λ b. pure (a, b)))) (λ b. pure (x, b))) (λ p. pure (m (f p.0, (g p.1.0, p.1.1))))
call_second m f g q x (Ok y) = third_reads m f g x y.0 (q y.1)
call_second m f g q x (Err e) = refl

call_reads : {A B C D : Type 0} (m : A × (B × C) → D) (f : Lexeme → A) (g : Lexeme → B) (k : Set) (q : Reader C) (o : Outcome Lexeme)
    → and_then {B = D} (and_then {B = A × (B × C)} (and_then {B = A} o (λ x. pure (f x))) (λ a. both (making g (expect k)) q >>= (λ b. pure (a, b)))) (λ z. pure (m z))
    ≡ and_then {B = D} (and_then {B = Lexeme × (Lexeme × C)} o (λ a. both (expect k) q >>= (λ b. pure (a, b)))) (λ p. pure (m (f p.0, (g p.1.0, p.1.1))))
call_reads m f g k q (Ok x) = call_second m f g q x.0 (expect k x.1)
call_reads m f g k q (Err e) = refl

-- a word, and what goes one level deeper behind its bracket, beside other rules in which the word alone may stand
pub law_call : {A B C D : Type 0} (m : A × (B × C) → D) (f : Lexeme → A) (g : Lexeme → B) (s k : Set) (M : ℕ → C → List Lexeme → Type 0) (c : ℕ) (q : Reader C) (r h : Set) (L : ℕ → D → List Lexeme → Type 0)
    → ((n : ℕ) → Opening (M n) (M (suc n)) r false) → ((b : C) (ts : List Lexeme) → M 0 b ts → ⊥) → ((n : ℕ) → Prefix (M (suc n)) []) → NextLevel M c q r h
    → ((t : Lexeme) → has s t.kind ≡ true → Prefix (L c) (t ∷ [])) → Prefix (token k) []
    → Traverses (s ∷ k ∷ []) (making (λ p. m (f p.0, (g p.1.0, p.1.1))) (both (expect s) (both (expect k) q)))
    → ((n : ℕ) (a : D) (ts rest : List Lexeme) → ((λ p. m (f p.0, (g p.1.0, p.1.1))) of Call s k M n) a ts → matches (s ∷ k ∷ []) (ts ++ rest) ≡ true)
    → ReadsRuleAhead (s ∷ k ∷ []) (λ n. m of ((f of token s) and (g of token k) and M n)) L c (making m (both (making f (expect s)) (both (making g (expect k)) q))) s h
law_call m f g s k M c q r h L opening none some step near bracket traverses matched =
    let restates : Restates (λ n. (λ p. m (f p.0, (g p.1.0, p.1.1))) of Call s k M n) (λ n. m of ((f of token s) and (g of token k) and M n))
    (making (λ p. m (f p.0, (g p.1.0, p.1.1))) (both (expect s) (both (expect k) q))) (making m (both (making f (expect s)) (both (making g (expect k)) q))) = record {
      spells = λ n a xs j. call_there m f g s k (M n) a xs j;
      spelled = λ n a xs j. call_back m f g s k (M n) a xs j;
      same = λ input. call_reads m f g k q (expect s input);
    } in
    ahead_same (s ∷ k ∷ []) (λ n. (λ p. m (f p.0, (g p.1.0, p.1.1))) of Call s k M n) (λ n. m of ((f of token s) and (g of token k) and M n)) L c
    (making (λ p. m (f p.0, (g p.1.0, p.1.1))) (both (expect s) (both (expect k) q))) (making m (both (making f (expect s)) (both (making g (expect k)) q))) s h restates
    (reads_call (λ p. m (f p.0, (g p.1.0, p.1.1))) s k M c q r h L opening none some step near bracket traverses matched)
