-- One token, a value made of what was read, and one rule after another.
use Rattle.std.proofs.Common.{◌≡◌, ℕ, suc, inl, Bool, true, false, ◌&&◌, [], ◌∷◌, ◌++◌, length, Ok, Err, refl, ap, sym, ◌∙◌, append_assoc, arith}
use Rattle.std.proofs.Math.Bool.{or-true}
use Rattle.ct_grammar.specs.declared.fault.Fault.{Fault}
use Rattle.ct_grammar.specs.declared.fault.Fault.TheVariants.{Syntax}
use Rattle.ct_grammar.specs.Kinds.{Set, has, apart, within}
use Rattle.ct_grammar.specs.Lexemes.{Lexeme, sees}
use Rattle.ct_grammar.specs.Rules.{Rule, token, ◌and◌, ◌of◌}
use Rattle.ct_grammar.specs.Reading.{Outcome, Reader, and_then, ◌>>=◌, pure, take_from, expect, both, making}
use Rattle.ct_grammar.proofs.FirstSets.{sees_alike, has_either, BeginsIn, NotNext, neither_next, apart_excludes, smaller_not_next}
use Rattle.ct_grammar.proofs.Outcomes.{Input, Prefix, Opens, whole_prefix, Accepted, Rejected, Justified, Finds, Opening, ReadsRule, HasSpelling, accepted_as, Binds, bound, Resumes, resumed, finds_then, finds_equal}

-- ---- one token

pub expect_misses : (set : Set) (input : Input) → NotNext set input → expect set input ≡ Err (Syntax (length input))
unfolding expect
expect_misses set [] miss = ap (λ b. take_from set b []) miss
expect_misses set (x ∷ xs) miss = ap (λ b. take_from set b (x ∷ xs)) miss

pub expect_takes : (set : Set) (x : Lexeme) (xs : Input) → has set x.kind ≡ true → expect set (x ∷ xs) ≡ Ok (x, xs)
unfolding expect sees
expect_takes set x xs hit = ap (λ b. take_from set b (x ∷ xs)) hit

token_rejected : (set : Set) (input : Input) → NotNext set input → Rejected (token set) (expect set) input (length input)
token_rejected set input miss = record {
  used = [];
  rest = input;
  split = refl;
  count_is = refl;
  begun = inl refl;
  stable = λ other next. expect_misses set other (sym (sees_alike set input other next) ∙ miss);
}

token_justified : (set : Set) (input : Input) (b : Bool) → sees set input ≡ b → Justified (token set) (token set) (expect set) input (take_from set b input)
unfolding sees
token_justified set [] true hit = absurd (cc)
token_justified set [] false miss = token_rejected set [] miss
token_justified set (x ∷ xs) false miss = token_rejected set (x ∷ xs) miss
token_justified set (x ∷ xs) true hit = record {
  used = x ∷ [];
  split = refl;
  spelled = record { one = refl; kind = hit };
  stable = λ other next. expect_takes set x other hit;
}

pub shape_token : (set : Set) → Opening (token set) (token set) set false
shape_token set = record { begins = λ x xs h. rw h.one h.kind; wider = λ x xs h. h }

pub some_token : {d : ℕ} (set : Set) (x : Lexeme) → has set x.kind ≡ true → HasSpelling d (λ _. token set)
some_token set x held n _ = record { value = x; further = x ∷ []; spelled = record { one = refl; kind = held } }

pub law_token : (set : Set) {d : ℕ} → ReadsRule (λ _. token set) d (expect set) set false []
unfolding expect
law_token set = record {
  opening = λ n. shape_token set;
  justified = λ input. token_justified set input (sees set input) refl;
  complete = λ n x xs rest h _. inl (rw h.one (expect_takes set x rest h.kind));
}

-- ---- a value made of what was read

made_opens : {A B : Type 0} (f : A → B) (L : Rule A) → Opens L (f of L)
made_opens f L a xs h = whole_prefix (f of L) (f a) xs (record { from = a; is = refl; spelled = h })

pub making_justified : {A B : Type 0} (f : A → B) (L U : Rule A) (p : Reader A) (input : Input) (o : Outcome A) → Justified L U p input o → Justified (f of L) (f of U) (making f p) input (and_then o (λ a. pure (f a)))
making_justified f L U p input o w =
    let binds : Binds L U (f of L) (f of U) p (making f p) (λ a. pure (f a)) input = record { opens = made_opens f L; opens_deeper = made_opens f U; same = λ other _. refl } in
    bound binds o w (λ x _ v. accepted_as v (record { from = x.0; is = refl; spelled = v.spelled }) (λ other _ e. ap (λ o. and_then o (λ a. pure (f a))) e))

pub making_finds : {A B : Type 0} (f : A → B) (d n : ℕ) (o : Outcome A) (a : A) (rest : Input) → Finds d n o a rest → Finds d n (and_then o (λ a. pure (f a))) (f a) rest
making_finds f d n o a rest h = finds_then d n o a rest (λ a. pure (f a)) (f a) rest h (inl refl)

pub shape_of : {A B : Type 0} {f : A → B} {L U : Rule A} {s : Set} {e : Bool} → Opening L U s e → Opening (f of L) (f of U) s e
shape_of w = record {
  begins = λ b xs h. w.begins h.from xs h.spelled;
  wider = λ b xs h. record { from = h.from; is = h.is; spelled = w.wider h.from xs h.spelled };
}

pub some_of : {A B : Type 0} {d : ℕ} {f : A → B} {L : ℕ → Rule A} → HasSpelling d L → HasSpelling d (λ n. f of L n)
some_of {f = f} some n enough = let v = some n enough in record { value = f v.value; further = v.further; spelled = record { from = v.value; is = refl; spelled = v.spelled } }

pub law_of : {A B : Type 0} {f : A → B} {L : ℕ → Rule A} {d : ℕ} {p : Reader A} {s : Set} {e : Bool} {g : Set} → ReadsRule L d p s e g → ReadsRule (λ n. f of L n) d (making f p) s e g
law_of {f = f} {L} {d} {p} w = record {
  opening = λ n. shape_of (w.opening n);
  justified = λ input. making_justified f (L d) (L (suc d)) p input (p input) (w.justified input);
  complete = λ n b xs rest h next. rw h.is (making_finds f d n (p (xs ++ rest)) h.from rest (w.complete n h.from xs rest h.spelled next));
}

-- ---- one rule after another

pub followed : {A B : Type 0} (L : Rule A) (M : Rule B) (a : A) (xs : Input) → L a xs → Prefix M [] → Prefix (L and M) xs
followed L M a xs h some = record {
  value = (a, some.value);
  further = some.further;
  spelled = record { front = xs; back = some.further; cut = refl; first = h; second = some.spelled };
}

-- the first was read; the second says what the whole does
second_justified : {A B : Type 0} (L U : Rule A) (M V : Rule B) (p : Reader A) (q : Reader B) (input : Input) (a : A) (rest : Input) → ((xs : Input) → L a xs → U a xs) → Prefix M []
    → Accepted L p input a rest → Justified M V q rest (q rest) → Justified (L and M) (U and V) (both p q) input (and_then (q rest) (λ b. pure (a, b)))
second_justified {A} {B} L U M V p q input a rest wider some w v =
    let pair : B → A × B = λ b. (a, b) in
    let resumes : Resumes (pair of M) (pair of V) (L and M) (U and V) (making pair q) (both p q) input rest = record {
      used = w.used;
      split = w.split;
      same = λ other next. ap (λ o. and_then o (λ a. q >>= (λ b. pure (a, b)))) (w.stable other next);
      spells = λ c xs h. rw h.is (record { front = w.used; back = xs; cut = refl; first = w.spelled; second = h.spelled });
      spells_deeper = λ c xs h. rw h.is (record { front = w.used; back = xs; cut = refl; first = wider w.used w.spelled; second = h.spelled });
      begun = followed L M a w.used w.spelled some;
    } in
    resumed resumes (making pair q rest) (making_justified pair M V q rest (q rest) v)

pub both_justified : {A B : Type 0} (L U : Rule A) (M V : Rule B) (p : Reader A) (q : Reader B) (input : Input) → ((a : A) (xs : Input) → L a xs → U a xs) → Prefix M [] → Prefix V []
    → ((rest : Input) → Justified M V q rest (q rest)) → Justified L U p input (p input) → Justified (L and M) (U and V) (both p q) input (both p q input)
both_justified L U M V p q input wider some some_deeper second first =
    let binds : Binds L U (L and M) (U and V) p (both p q) (λ a. q >>= (λ b. pure (a, b))) input = record {
      opens = λ a xs h. followed L M a xs h some;
      opens_deeper = λ a xs h. followed U V a xs h some_deeper;
      same = λ other _. refl;
    } in
    bound binds (p input) first (λ x _ w. second_justified L U M V p q input x.0 x.1 (wider x.0) some w (second x.1))

-- the starts of the second belong to those of the whole, where the first may be empty
abbrev pub starts_of : Bool → Set → Set → Set
starts_of true first second = first ++ second
starts_of false first second = first

joined_begins : (s r : Set) (e f : Bool) (xs ys : Input) → BeginsIn s e xs → BeginsIn r f ys → BeginsIn (starts_of e s r) (e && f) (xs ++ ys)
joined_begins s r false f [] ys first second = absurd cc
joined_begins s r false f (x ∷ xs) ys first second = first
joined_begins s r true f [] [] first second = second
joined_begins s r true f [] (y ∷ ys) first second = has_either s r y.kind ∙ rw second (or-true (has s y.kind))
joined_begins s r true f (x ∷ xs) ys first second = has_either s r x.kind ∙ rw first refl

-- what does not go on with the whole goes on neither with the second, nor with the first in front of it
joined_not_next : (g r h : Set) (f : Bool) (ys rest : Input) → apart g r ≡ true → BeginsIn r f ys → NotNext (starts_of f h g) rest → NotNext g (ys ++ rest) × NotNext h rest
unfolding sees
joined_not_next g r h false [] rest clear second next = absurd cc
joined_not_next g r h false (y ∷ ys) rest clear second next = (apart_excludes g r y.kind clear second, next)
joined_not_next g r h true [] rest clear second next = let two = neither_next h g rest next in (two.1, two.0)
joined_not_next g r h true (y ∷ ys) rest clear second next = (apart_excludes g r y.kind clear second, (neither_next h g rest next).0)

pub both_finds : {A B : Type 0} (p : Reader A) (q : Reader B) (d n : ℕ) (a : A) (b : B) (xs ys rest : Input) → Finds d n (p (xs ++ (ys ++ rest))) a (ys ++ rest) → Finds d n (q (ys ++ rest)) b rest
    → Finds d n (both p q ((xs ++ ys) ++ rest)) (a, b) rest
both_finds p q d n a b xs ys rest first second =
    let pair = making_finds (λ b. (a, b)) d n (q (ys ++ rest)) b rest second in
    finds_equal d n (both p q (xs ++ (ys ++ rest))) (both p q ((xs ++ ys) ++ rest)) (a, b) rest (ap (both p q) (append_assoc xs ys rest))
    (finds_then d n (p (xs ++ (ys ++ rest))) a (ys ++ rest) (λ a. q >>= (λ b. pure (a, b))) (a, b) rest first pair)

pub shape_then : {A B : Type 0} {L U : Rule A} {M V : Rule B} {s r : Set} {e f : Bool} → Opening L U s e → Opening M V r f → Opening (L and M) (U and V) (starts_of e s r) (e && f)
shape_then {s = s} {r} {e} {f} w v = record {
  begins = λ c xs j. rw j.cut (joined_begins s r e f j.front j.back (w.begins c.0 j.front j.first) (v.begins c.1 j.back j.second));
  wider = λ c xs j. record { front = j.front; back = j.back; cut = j.cut; first = w.wider c.0 j.front j.first; second = v.wider c.1 j.back j.second };
}

pub prefix_then : {A B : Type 0} (L : Rule A) (M : Rule B) → Prefix L [] → Prefix M [] → Prefix (L and M) []
prefix_then L M first second =
    let both_of = followed L M first.value first.further first.spelled second in
    record { value = both_of.value; further = first.further ++ both_of.further; spelled = both_of.spelled }

pub some_then : {A B : Type 0} {d : ℕ} {L : ℕ → Rule A} {M : ℕ → Rule B} → HasSpelling d L → HasSpelling d M → HasSpelling d (λ n. L n and M n)
some_then {L = L} {M} first second n enough = prefix_then (L n) (M n) (first n enough) (second n enough)

pub law_then : {A B : Type 0} {L : ℕ → Rule A} {M : ℕ → Rule B} {d : ℕ} {p : Reader A} {q : Reader B} {s r : Set} {e f : Bool} {g h : Set}
    → apart g r ≡ true → HasSpelling d M → ReadsRule L d p s e g → ReadsRule M d q r f h → ReadsRule (λ n. L n and M n) d (both p q) (starts_of e s r) (e && f) (starts_of f h g)
law_then {L = L} {M} {d} {p} {q} {s} {r} {e} {f} {g} {h} clear some w v = record {
  opening = λ n. shape_then (w.opening n) (v.opening n);
  justified = λ input. both_justified (L d) (L (suc d)) (M d) (M (suc d)) p q input ((w.opening d).wider) (some d (omega arith)) (some (suc d) (omega arith)) v.justified (w.justified input);
  complete = λ n c xs rest j next.
      let two = joined_not_next g r h f j.back rest clear ((v.opening n).begins c.1 j.back j.second) next in
      rw j.cut (both_finds p q d n c.0 c.1 j.front j.back rest (w.complete n c.0 j.front (j.back ++ rest) j.first two.0) (v.complete n c.1 j.back rest j.second two.1));
}

-- ---- more tokens by which a rule may go on

pub law_weaken : {A : Type 0} {L : ℕ → Rule A} {d : ℕ} {p : Reader A} {s : Set} {e : Bool} {g : Set} (goes : Set) → within g goes ≡ true → ReadsRule L d p s e g → ReadsRule L d p s e goes
law_weaken {g = g} goes inside w = record {
  opening = w.opening;
  justified = w.justified;
  complete = λ n a xs rest h next. w.complete n a xs rest h (smaller_not_next g goes rest inside next);
}

-- ---- how faults go through

pub making_reads : {A B : Type 0} (f : A → B) (p : Reader A) (xs ys : Input) (a : A) → p xs ≡ Ok (a, ys) → making f p xs ≡ Ok (f a, ys)
making_reads f p xs ys a e = ap (λ o. and_then o (λ a. pure (f a))) e

pub making_fails : {A B : Type 0} (f : A → B) (p : Reader A) (xs : Input) (fault : Fault) → p xs ≡ Err fault → making f p xs ≡ Err fault
making_fails f p xs fault e = ap (λ o. and_then o (λ a. pure (f a))) e

pub first_fails : {A B : Type 0} (p : Reader A) (q : Reader B) (xs : Input) (fault : Fault) → p xs ≡ Err fault → both p q xs ≡ Err fault
first_fails p q xs fault e = ap (λ o. and_then o (λ a. q >>= (λ b. pure (a, b)))) e

pub second_fails : {A B : Type 0} (p : Reader A) (q : Reader B) (xs ys : Input) (a : A) (fault : Fault) → p xs ≡ Ok (a, ys) → q ys ≡ Err fault → both p q xs ≡ Err fault
second_fails p q xs ys a fault e f = ap (λ o. and_then o (λ a. q >>= (λ b. pure (a, b)))) e ∙ ap (λ o. and_then o (λ b. pure (a, b))) f
