-- A function: its word, an opening bracket, and what goes one level deeper. The word alone may stand for something else.
use Rattle.std.proofs.Common.{◌≡◌, ℕ, zero, suc, inl, inr, true, false, ◌&&◌, List, [], ◌∷◌, ◌++◌, Err, refl, sym, subst, arith}
use Rattle.ct_grammar.specs.declared.fault.Fault.TheVariants.{TooDeep}
use Rattle.ct_grammar.specs.Kinds.{Set, has}
use Rattle.ct_grammar.specs.Lexemes.{Lexeme, matches}
use Rattle.ct_grammar.specs.Rules.{Rule, token, ◌and◌, ◌or◌, ◌of◌}
use Rattle.ct_grammar.specs.Reading.{Reader, expect, both, making}
use Rattle.ct_grammar.proofs.FirstSets.{both_true}
use Rattle.ct_grammar.proofs.Outcomes.{Input, Prefix, Includes, OutOfLevels, Justified, Finds, Opening, ReadsRule, Replaces, replaced}
use Rattle.ct_grammar.proofs.Sequences.{expect_takes, shape_token, shape_of, shape_then, law_token, prefix_then, making_justified, making_finds, both_justified, both_finds, making_fails, second_fails}
use Rattle.ct_grammar.proofs.Choices.{prefix_right, spelled_left}
use Rattle.ct_grammar.proofs.Levels.{NextLevel, law_nested}
use Rattle.ct_grammar.proofs.Lookahead.{Traverses, ReadsRuleAhead}

abbrev pub Call : {B : Type 0} → Set → Set → (ℕ → B → List Lexeme → Type 0) → ℕ → Lexeme × (Lexeme × B) → List Lexeme → Type 0
Call word bracket M n = token word and (token bracket and M n)

abbrev call_reader : {A B : Type 0} → (Lexeme × (Lexeme × B) → A) → Set → Set → Reader B → Reader A
call_reader f word bracket q = making f (both (expect word) (both (expect bracket) q))

call_too_deep : {A B : Type 0} (f : Lexeme × (Lexeme × B) → A) (word bracket : Set) (q : Reader B) → ((input : Input) → q input ≡ Err TooDeep) → (x y : Lexeme) (other : Input) → has word x.kind ≡ true → has bracket y.kind ≡ true
    → call_reader f word bracket q (x ∷ y ∷ other) ≡ Err TooDeep
call_too_deep f word bracket q too_deep x y other first second =
    let behind : both (expect bracket) q (y ∷ other) ≡ Err TooDeep = second_fails (expect bracket) q (y ∷ other) other y TooDeep (expect_takes bracket y other second) (too_deep other) in
    making_fails f (both (expect word) (both (expect bracket) q)) (x ∷ y ∷ other) TooDeep
    (second_fails (expect word) (both (expect bracket) q) (x ∷ y ∷ other) (y ∷ other) x TooDeep (expect_takes word x (y ∷ other) first) behind)

call_prefix : {A B : Type 0} (f : Lexeme × (Lexeme × B) → A) (word bracket : Set) (M : ℕ → Rule B) (n : ℕ) → Prefix (M n) [] → (x y : Lexeme) → has word x.kind ≡ true → has bracket y.kind ≡ true
    → Prefix (f of Call word bracket M n) (x ∷ y ∷ [])
call_prefix f word bracket M n some x y first second = record {
  value = f (x, (y, some.value));
  further = some.further;
  spelled = record {
    from = (x, (y, some.value));
    is = refl;
    spelled = record {
      front = x ∷ [];
      back = y ∷ some.further;
      cut = refl;
      first = record { one = refl; kind = first };
      second = record { front = y ∷ []; back = some.further; cut = refl; first = record { one = refl; kind = second }; second = some.spelled };
    };
  };
}

-- no level is left: the word begins something else, and the bracket is too deep
no_level_call : {A B : Type 0} (f : Lexeme × (Lexeme × B) → A) (word bracket : Set) (M : ℕ → Rule B) (q : Reader B) (N V : Rule A) → Prefix (M 1) [] → ((input : Input) → q input ≡ Err TooDeep)
    → Includes (f of Call word bracket M 1) V → ((x : Lexeme) → has word x.kind ≡ true → Prefix N (x ∷ [])) → (input : Input) → matches (word ∷ bracket ∷ []) input ≡ true
    → Justified N V (call_reader f word bracket q) input (call_reader f word bracket q input)
unfolding matches
no_level_call f word bracket M q N V some too_deep includes alone [] hit = absurd cc
no_level_call f word bracket M q N V some too_deep includes alone (x ∷ []) hit = absurd (let two = both_true (has word x.kind) false hit in let no : false ≡ true = two.1 in cc)
no_level_call f word bracket M q N V some too_deep includes alone (x ∷ y ∷ rest) hit =
    let first = both_true (has word x.kind) (has bracket y.kind && true) hit in
    let second = both_true (has bracket y.kind) true first.1 in
    let call = call_prefix f word bracket M 1 some x y first.0 second.0 in
    let deep : OutOfLevels N V (call_reader f word bracket q) (x ∷ y ∷ rest) = record {
      used = x ∷ [];
      next = y;
      rest = rest;
      split = refl;
      begun = inr (alone x first.0);
      deeper = record { value = call.value; further = call.further; spelled = includes call.value (x ∷ y ∷ call.further) call.spelled };
      stable = λ other. call_too_deep f word bracket q too_deep x y other first.0 second.0;
    } in
    subst (Justified N V (call_reader f word bracket q) (x ∷ y ∷ rest)) (sym (call_too_deep f word bracket q too_deep x y rest first.0 second.0)) deep

call_justified : {A B : Type 0} (f : Lexeme × (Lexeme × B) → A) (word bracket : Set) (M : ℕ → Rule B) (c : ℕ) (q : Reader B) (r g : Set) (L : ℕ → Rule A) → ((n : ℕ) → Prefix (M (suc n)) []) → NextLevel M c q r g
    → ReadsRule (λ n. token bracket and M n) c (both (expect bracket) q) bracket false g → ((x : Lexeme) → has word x.kind ≡ true → Prefix (L c) (x ∷ [])) → Prefix (token bracket) []
    → (input : Input) → matches (word ∷ bracket ∷ []) input ≡ true
    → Justified ((f of Call word bracket M c) or L c) ((f of Call word bracket M (suc c)) or L (suc c)) (call_reader f word bracket q) input (call_reader f word bracket q input)
call_justified f word bracket M c q r g L some (inl none) nested alone opened input hit =
    let zero_left : c ≡ 0 = none.0 in
    no_level_call f word bracket M q ((f of Call word bracket M c) or L c) ((f of Call word bracket M (suc c)) or L (suc c)) (some 0) none.1
    (λ a xs h. inl (subst (λ n. (f of Call word bracket M (suc n)) a xs) (sym zero_left) h)) (λ x h. prefix_right (f of Call word bracket M c) (L c) (x ∷ []) (alone x h)) input hit
call_justified f word bracket M zero q r g L some (inr left) nested alone opened input hit = absurd (omega (arith, left.0))
call_justified f word bracket M (suc c) q r g L some (inr left) nested alone opened input hit =
    let p = both (expect word) (both (expect bracket) q) in
    let call = f of Call word bracket M (suc c) in
    let deeper_call = f of Call word bracket M (suc (suc c)) in
    let among : Replaces call deeper_call (call or L (suc c)) (deeper_call or L (suc (suc c))) (making f p) (making f p) input = record {
      spells = spelled_left call (L (suc c));
      spells_deeper = spelled_left deeper_call (L (suc (suc c)));
      same = λ other _. refl;
    } in
    let pair = both_justified (token word) (token word) (token bracket and M (suc c)) (token bracket and M (suc (suc c))) (expect word) (both (expect bracket) q) input (λ a xs h. h)
    (prefix_then (token bracket) (M (suc c)) opened (some c)) (prefix_then (token bracket) (M (suc (suc c))) opened (some (suc c))) nested.justified ((law_token word {d = suc c}).justified input) in
    replaced among (making f p input) (making_justified f (Call word bracket M (suc c)) (Call word bracket M (suc (suc c))) p input (p input) pair)

-- beside a rule L, by which the word alone begins a spelling
pub reads_call : {A B : Type 0} (f : Lexeme × (Lexeme × B) → A) (word bracket : Set) (M : ℕ → B → List Lexeme → Type 0) (c : ℕ) (q : Reader B) (r g : Set) (L : ℕ → A → List Lexeme → Type 0)
    → ((n : ℕ) → Opening (M n) (M (suc n)) r false) → ((b : B) (xs : List Lexeme) → M 0 b xs → ⊥) → ((n : ℕ) → Prefix (M (suc n)) []) → NextLevel M c q r g
    → ((x : Lexeme) → has word x.kind ≡ true → Prefix (L c) (x ∷ [])) → Prefix (token bracket) []
    → Traverses (word ∷ bracket ∷ []) (making f (both (expect word) (both (expect bracket) q)))
    → ((n : ℕ) (a : A) (xs rest : List Lexeme) → (f of Call word bracket M n) a xs → matches (word ∷ bracket ∷ []) (xs ++ rest) ≡ true)
    → ReadsRuleAhead (word ∷ bracket ∷ []) (λ n. f of Call word bracket M n) L c (making f (both (expect word) (both (expect bracket) q))) word g
reads_call f word bracket M c q r g L opening none some level alone opened traverses matched =
    let nested : ReadsRule (λ n. token bracket and M n) c (both (expect bracket) q) bracket false g = law_nested bracket opening none some level in
    record {
      opening = λ n. shape_of (shape_then (shape_token word) (nested.opening n));
      justified = call_justified f word bracket M c q r g L some level nested alone opened;
      complete = λ n a xs rest h next. (
          let j = h.spelled in
          let first : Finds c n (expect word (j.front ++ (j.back ++ rest))) h.from.0 (j.back ++ rest) = inl (rw j.first.one (expect_takes word h.from.0 (j.back ++ rest) j.first.kind)) in
          let both_found = both_finds (expect word) (both (expect bracket) q) c n h.from.0 h.from.1 j.front j.back rest first (nested.complete n h.from.1 j.back rest j.second next) in
          rw (h.is, j.cut) (making_finds f c n (both (expect word) (both (expect bracket) q) ((j.front ++ j.back) ++ rest)) h.from rest both_found));
      traverses = traverses;
      matched = matched;
    }
