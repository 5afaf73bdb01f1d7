-- What stands one level deeper, behind a token.
use Rattle.std.proofs.Common.{◌≡◌, ◌⊎◌, ℕ, zero, suc, ◌<◌, inl, inr, Bool, true, false, List, [], ◌∷◌, ◌++◌, length, Err, refl, ap, sym, ◌∙◌, subst, arith}
use Rattle.ct_grammar.specs.declared.fault.Fault.TheVariants.{Syntax, TooDeep}
use Rattle.ct_grammar.specs.Kinds.{Set, has, apart}
use Rattle.ct_grammar.specs.Lexemes.{Lexeme, sees}
use Rattle.ct_grammar.specs.Rules.{Rule, token, ◌and◌, below}
use Rattle.ct_grammar.specs.Reading.{Reader, and_then, ◌>>=◌, pure, take_from, expect, both, guard}
use Rattle.ct_grammar.proofs.FirstSets.{sees_alike, NotNext}
use Rattle.ct_grammar.proofs.Outcomes.{Input, Prefix, Rejected, OutOfLevels, Justified, Finds, Opening, ReadsRule, HasSpelling}
use Rattle.ct_grammar.proofs.Sequences.{expect_takes, expect_misses, shape_token, law_token, starts_of, followed, both_justified, both_finds, shape_then, law_then, first_fails, second_fails}

-- With c levels left, q reads the rule M exactly, or no level is left and each input is too deep.
abbrev pub NextLevel : {A : Type 0} → (ℕ → A → List Lexeme → Type 0) → ℕ → Reader A → Set → Set → Type 0
NextLevel M c q starts goes = ((c ≡ 0) × ((input : List Lexeme) → q input ≡ Err TooDeep)) ⊎ ((0 < c) × ReadsRule M c q starts false goes)

-- ---- behind a token

other_token : {B : Type 0} (k : Set) (M : Rule B) (q : Reader B) (input : Input) → NotNext k input → Rejected (token k and M) (both (expect k) q) input (length input)
other_token k M q input miss = record {
  used = [];
  rest = input;
  split = refl;
  count_is = refl;
  begun = inl refl;
  stable = λ other next. first_fails (expect k) q other (Syntax (length other)) (expect_misses k other (sym (sees_alike k input other next) ∙ miss));
}

token_too_deep : {B : Type 0} (k : Set) (M V : Rule B) (q : Reader B) → Prefix V [] → ((input : Input) → q input ≡ Err TooDeep) → (x : Lexeme) (xs : Input) → has k x.kind ≡ true
    → OutOfLevels (token k and M) (token k and V) (both (expect k) q) (x ∷ xs)
token_too_deep k M V q some too_deep x xs hit = record {
  used = [];
  next = x;
  rest = xs;
  split = refl;
  begun = inl refl;
  deeper = followed (token k) V x (x ∷ []) (record { one = refl; kind = hit }) some;
  stable = λ other. second_fails (expect k) q (x ∷ other) other x TooDeep (expect_takes k x other hit) (too_deep other);
}

no_level_justified : {B : Type 0} (k : Set) (M V : Rule B) (q : Reader B) → Prefix V [] → ((input : Input) → q input ≡ Err TooDeep) → (input : Input) (b : Bool) → sees k input ≡ b
    → Justified (token k and M) (token k and V) (both (expect k) q) input (and_then (take_from k b input) (λ a. q >>= (λ b. pure (a, b))))
unfolding sees
no_level_justified k M V q some too_deep [] true hit = absurd cc
no_level_justified k M V q some too_deep [] false miss = other_token k M q [] miss
no_level_justified k M V q some too_deep (x ∷ xs) false miss = other_token k M q (x ∷ xs) miss
no_level_justified k M V q some too_deep (x ∷ xs) true hit =
    subst (Justified (token k and M) (token k and V) (both (expect k) q) (x ∷ xs)) (sym (ap (λ o. and_then o (λ b. pure (x, b))) (too_deep xs))) (token_too_deep k M V q some too_deep x xs hit)

nested_justified : {B : Type 0} (k : Set) (M : ℕ → Rule B) (c : ℕ) (q : Reader B) (s g : Set) → ((n : ℕ) → Prefix (M (suc n)) []) → NextLevel M c q s g → (input : Input)
    → Justified (token k and M c) (token k and M (suc c)) (both (expect k) q) input (both (expect k) q input)
unfolding expect
nested_justified k M c q s g some (inl none) input = no_level_justified k (M c) (M (suc c)) q (some c) none.1 input (sees k input) refl
nested_justified k M zero q s g some (inr left) input = absurd (omega (arith, left.0))
nested_justified k M (suc c) q s g some (inr left) input =
    both_justified (token k) (token k) (M (suc c)) (M (suc (suc c))) (expect k) q input (λ a xs h. h) (some c) (some (suc c)) left.1.justified ((law_token k {d = suc c}).justified input)

nested_finds : {B : Type 0} (M : ℕ → Rule B) (c : ℕ) (q : Reader B) (s g : Set) → ((b : B) (xs : Input) → M 0 b xs → ⊥) → NextLevel M c q s g → (n : ℕ) (b : B) (xs rest : Input) → M n b xs → NotNext g rest
    → Finds c n (q (xs ++ rest)) b rest
nested_finds M c q s g none (inl dead) zero b xs rest h next = absurd (none b xs h)
nested_finds M c q s g none (inl dead) (suc n) b xs rest h next = inr (omega (arith, dead.0), dead.1 (xs ++ rest))
nested_finds M c q s g none (inr left) n b xs rest h next = left.1.complete n b xs rest h next

-- M has no spelling without a level, and some with any number of them
pub law_nested : {B : Type 0} (k : Set) {M : ℕ → Rule B} {c : ℕ} {q : Reader B} {s g : Set} → ((n : ℕ) → Opening (M n) (M (suc n)) s false) → ((b : B) (xs : List Lexeme) → M 0 b xs → ⊥)
    → ((n : ℕ) → Prefix (M (suc n)) []) → NextLevel M c q s g → ReadsRule (λ n. token k and M n) c (both (expect k) q) k false g
law_nested k {M} {c} {q} {s} {g} opening none some level = record {
  opening = λ n. shape_then (shape_token k) (opening n);
  justified = nested_justified k M c q s g some level;
  complete = λ n x xs rest j next.
      rw j.cut (both_finds (expect k) q c n x.0 x.1 j.front j.back rest (inl (rw j.first.one (expect_takes k x.0 (j.back ++ rest) j.first.kind)))
      (nested_finds M c q s g none level n x.1 j.back rest j.second next));
}

-- what goes one level deeper, and then a rule
pub step_then : {A B : Type 0} {L : ℕ → Rule A} {M : ℕ → Rule B} {c : ℕ} {q : Reader A} {p : Reader B} {s r : Set} {f : Bool} {g h : Set}
    → apart g r ≡ true → NextLevel L c q s g → (0 < c → HasSpelling c M × ReadsRule M c p r f h) → NextLevel (λ n. L n and M n) c (both q p) s (starts_of f h g)
step_then {q = q} {p} clear (inl none) behind = inl (none.0, λ input. first_fails q p input TooDeep (none.1 input))
step_then clear (inr left) behind = let two = behind left.0 in inr (left.0, law_then clear two.0 left.1 two.1)

-- ---- only where a level is left

below_opening : {A : Type 0} (L : ℕ → Rule A) (s : Set) → ((n : ℕ) → Opening (L n) (L (suc n)) s false) → (n : ℕ) → Opening (below n (L n)) (below (suc n) (L (suc n))) s false
below_opening L s opening zero = record { begins = λ a xs h. absurd h; wider = λ a xs h. absurd h }
below_opening L s opening (suc n) = opening (suc n)

below_finds : {A : Type 0} (L : ℕ → Rule A) (c : ℕ) (p : Reader A) (s g : Set) → ReadsRule L c p s false g → (n : ℕ) (a : A) (xs rest : Input) → below n (L n) a xs → NotNext g rest → Finds c n (p (xs ++ rest)) a rest
below_finds L c p s g w zero a xs rest h next = absurd h
below_finds L c p s g w (suc n) a xs rest h next = w.complete (suc n) a xs rest h next

pub guarded : {A : Type 0} (L : ℕ → Rule A) (c : ℕ) (p : Reader A) (s g : Set) → (0 < c → ReadsRule L c p s false g) → NextLevel (λ n. below n (L n)) c (guard c p) s g
guarded L zero p s g w = inl (refl, λ input. refl)
guarded L (suc c) p s g w =
    let v : ReadsRule L (suc c) p s false g = w (omega arith) in
    inr (omega arith, record { opening = below_opening L s v.opening; justified = v.justified; complete = below_finds L (suc c) p s g v })
