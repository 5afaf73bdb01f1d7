-- Values that are taken out of a list, each where it stands.
use Rattle.std.proofs.Common.{◌≡◌, ℕ, suc, zero, ◌+◌, ◌<◌, ◌≤◌, List, [], ◌∷◌, ◌++◌, length, get_or, drop, map, Option, Some, None, refl, sym, ap, ◌∙◌, subst, append_assoc}
use Rattle.std.proofs.lemmas.List.{append-nil, drop_all}
use Rattle.std.specs.List.{slice_get, slice_set, filter_map, cons_option}
use Rattle.std.specs.Option.{option_and_then}
use Rattle.ct_bind_expr.specs.Walked.{TakesFrom}
use Rattle.ct_bind_expr.proofs.Turns.{front}

-- what is left of some values: each stands where it stood, or is taken
pub record Left {A : Type 0} (left : List (Option A)) (all : List A) : Type 0 where
  pub same : (i : ℕ) (a : A) → slice_get left i ≡ Some (Some a) → slice_get all i ≡ Some a
  pub ends : (i : ℕ) → slice_get left i ≡ None → slice_get all i ≡ None

all_same : {A : Type 0} (all : List A) (i : ℕ) (a : A) → slice_get (map Some all) i ≡ Some (Some a) → slice_get all i ≡ Some a
all_same [] i a e = absurd cc
all_same (x ∷ more) zero a e = cc
all_same (x ∷ more) (suc i) a e = all_same more i a e

all_end : {A : Type 0} (all : List A) (i : ℕ) → slice_get (map Some all) i ≡ None → slice_get all i ≡ None
all_end [] i e = refl
all_end (x ∷ more) zero e = absurd cc
all_end (x ∷ more) (suc i) e = all_end more i e

pub all_left : {A : Type 0} (left : List (Option A)) (all : List A) → left ≡ map Some all → Left left all
all_left left all is = subst (λ left. Left left all) (sym is) (record { same = all_same all; ends = all_end all })

taken_same : {A : Type 0} (left : List (Option A)) (at i : ℕ) (a : A) → slice_get (slice_set left at None) i ≡ Some (Some a) → slice_get left i ≡ Some (Some a)
taken_same [] at i a e = e
taken_same (x ∷ more) zero zero a e = absurd cc
taken_same (x ∷ more) zero (suc i) a e = e
taken_same (x ∷ more) (suc at) zero a e = e
taken_same (x ∷ more) (suc at) (suc i) a e = taken_same more at i a e

taken_ends : {A : Type 0} (left : List (Option A)) (at i : ℕ) → slice_get (slice_set left at None) i ≡ None → slice_get left i ≡ None
taken_ends [] at i e = e
taken_ends (x ∷ more) zero zero e = absurd cc
taken_ends (x ∷ more) zero (suc i) e = e
taken_ends (x ∷ more) (suc at) zero e = e
taken_ends (x ∷ more) (suc at) (suc i) e = taken_ends more at i e

-- what is taken is the value that stood there, and what is left is left of the same values
pub record Gone {A : Type 0} (all : List A) (place : Option ℕ) (taken : Option A) (next : List (Option A)) : Type 0 where
  pub is : option_and_then (slice_get all) place ≡ taken
  pub others : Left next all

pub takes : {A : Type 0} (all : List A) (place : Option ℕ) (old : List (Option A)) (taken : Option A) (next : List (Option A)) → Left old all → TakesFrom place old taken next → Gone all place taken next
takes all None old taken next kept it = record { is = sym it.0; others = subst (λ rest. Left rest all) (sym it.1) kept }
takes all (Some at) old None next kept it = record { is = kept.ends at it.0; others = subst (λ rest. Left rest all) (sym it.1) kept }
takes all (Some at) old (Some a) next kept it = record {
  is = kept.same at a it.0;
  others = subst (λ rest. Left rest all) (sym it.1) (record { same = λ i b e. kept.same i b (taken_same old at i b e); ends = λ i e. kept.ends i (taken_ends old at i e) });
}

-- ---- the loop over those that are wanted

add_first : {A : Type 0} (made : List A) (value : Option A) (rest : List A) → (made ++ cons_option value []) ++ rest ≡ made ++ cons_option value rest
add_first made None rest = append_assoc made [] rest
add_first made (Some a) rest = append_assoc made (a ∷ []) rest

pub record Collects {A X : Type 0} (places : X → Option ℕ) (all : List A) (keys : List X) (i : ℕ) (made : List A) (rest : List (Option A)) : Type 0 where
  pub so_far : made ++ filter_map (λ x. option_and_then (slice_get all) (places x)) (drop i keys) ≡ filter_map (λ x. option_and_then (slice_get all) (places x)) keys
  pub others : Left rest all

pub collects_begin : {A X : Type 0} (places : X → Option ℕ) (all : List A) (keys : List X) (made : List A) (rest : List (Option A)) → made ≡ [] → rest ≡ map Some all → Collects places all keys 0 made rest
collects_begin places all keys made rest none is =
    record { so_far = ap (λ made. made ++ filter_map (λ x. option_and_then (slice_get all) (places x)) keys) none; others = all_left rest all is }

pub collects_on : {A X : Type 0} (places : X → Option ℕ) (all : List A) (keys : List X) (i : ℕ) (x : X) (made next : List A) (old rest : List (Option A)) (taken : Option A) (place : Option ℕ)
    → i < length keys → x ≡ get_or keys i x → place ≡ places x → TakesFrom place old taken rest → next ≡ made ++ cons_option taken [] → Collects places all keys i made old → Collects places all keys (i + 1) next rest
collects_on places all keys i x made next old rest taken place within is there takes_it pushed collects =
    let gone : Gone all (places x) taken rest = takes all (places x) old taken rest collects.others (subst (λ place. TakesFrom place old taken rest) there takes_it) in
    record {
      so_far = ap (λ made. made ++ filter_map (λ x. option_and_then (slice_get all) (places x)) (drop (i + 1) keys)) pushed ∙ add_first made taken (filter_map (λ x. option_and_then (slice_get all) (places x)) (drop (i + 1) keys))
          ∙ ap (λ taken. made ++ cons_option taken (filter_map (λ x. option_and_then (slice_get all) (places x)) (drop (i + 1) keys))) (sym gone.is)
          ∙ ap (λ xs. made ++ filter_map (λ x. option_and_then (slice_get all) (places x)) xs) (sym (front keys i x within is)) ∙ collects.so_far;
      others = gone.others;
    }

pub collects_all : {A X : Type 0} (places : X → Option ℕ) (all : List A) (keys : List X) (i : ℕ) (made : List A) (rest : List (Option A))
    → length keys ≤ i → Collects places all keys i made rest → made ≡ filter_map (λ x. option_and_then (slice_get all) (places x)) keys
collects_all places all keys i made rest past collects =
    sym (append-nil made) ∙ ap (λ xs. made ++ filter_map (λ x. option_and_then (slice_get all) (places x)) xs) (sym (drop_all i keys past)) ∙ collects.so_far

pub ruleset collects = (collects_begin, collects_on, collects_all)
