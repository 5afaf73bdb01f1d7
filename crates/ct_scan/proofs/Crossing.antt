-- The pairs of two lists stand alike by the members of either, where no two of them cross.
use Rattle.std.proofs.Common.{◌≡◌, Bool, false, cond, List, [], ◌∷◌, ◌++◌, map, Ok, Err, refl, ap, ◌∙◌, ◌⊎◌, inl, inr}
use Rattle.std.specs.List.{AllByRecursion}
use Rattle.ct_types.specs.Answers.{Answer, ◌>>=◌}
use Rattle.ct_expr.specs.Conditions.{only}
use Rattle.ct_scan.specs.Lists.{all_of}

-- ---- what the first of the left members and the first of the right ones come to

module _ {J : Type 0} where
  abbrev then_all : Answer (List J) → Answer (List J) → Answer (List J)
  then_all some rest = some >>= (λ a. rest >>= (λ d. Ok (a ++ d)))

  abbrev one_more : Answer Bool → J → Answer (List J) → Answer (List J)
  one_more asked x more = asked >>= (λ b. more >>= (λ rest. Ok (cond b (x ∷ rest) rest)))

  step_before : (c m h : Answer (List J)) → h ≡ then_all c m → (h >>= (λ d. Ok ([] ++ d))) ≡ then_all (c >>= (λ rest. Ok rest)) (m >>= (λ d. Ok ([] ++ d)))
  step_before (Err r) m h e = rw e
  step_before (Ok a) (Err r) h e = rw e
  step_before (Ok a) (Ok d) h e = rw e

  step_behind : (w m h : Answer (List J)) → h ≡ (m >>= (λ d. Ok ([] ++ d))) → then_all (w >>= (λ rest. Ok rest)) h ≡ (then_all w m >>= (λ d. Ok ([] ++ d)))
  step_behind (Err r) m h e = refl
  step_behind (Ok a) (Err r) h e = rw e
  step_behind (Ok a) (Ok d) h e = rw e

  crossed : (asked : Answer Bool) (x : J) (w c m h : Answer (List J)) → h ≡ then_all c m
      → ((asked ≡ Ok false) × (w ≡ Ok [])) ⊎ (((asked ≡ Ok false) × (c ≡ Ok [])) ⊎ ((w ≡ Ok []) × (c ≡ Ok [])))
      → then_all (one_more asked x w) h ≡ then_all (one_more asked x c) (then_all w m)
  crossed asked x w c m h e (inl both) = rw (both.0, both.1) (step_before c m h e)
  crossed asked x w c m h e (inr (inl both)) = rw (both.0, both.1) (step_behind w m h (e ∙ ap (λ (o : Answer (List J)). then_all o m) both.1))
  crossed asked x w c m h e (inr (inr both)) =
      rw (both.0, both.1) (ap (λ (o : Answer (List J)). then_all (one_more asked x (Ok [])) o) (e ∙ ap (λ (o : Answer (List J)). then_all o m) both.1))

-- ---- lists

module _ {L R J : Type 0} (join : L → R → J) (test : J → Answer Bool) where
  abbrev pub Fails : L → R → Type 0
  Fails l r = test (join l r) ≡ Ok false

  abbrev pub of_left : List R → L → Answer (List J)
  of_left rights l = only test (map (λ r. join l r) rights)

  abbrev pub of_right : List L → R → Answer (List J)
  of_right lefts r = only test (map (λ l. join l r) lefts)

  -- the left member makes no pair with this right one and those behind it, or the right one none with this left one and those
  -- behind it, or neither makes any but the pair of both
  abbrev pub Meets : L → List L → R → List R → Type 0
  Meets l ls r rs =
      (Fails l r × AllByRecursion (λ s. Fails l s) rs) ⊎ ((Fails l r × AllByRecursion (λ m. Fails m r) ls) ⊎ (AllByRecursion (λ s. Fails l s) rs × AllByRecursion (λ m. Fails m r) ls))

  abbrev pub AtRight : List L → R → List R → Type 0
  AtRight [] r rs = Unit {0}
  AtRight (l ∷ ls) r rs = Meets l ls r rs × AtRight ls r rs

  abbrev pub Uncrossed : List L → List R → Type 0
  Uncrossed lefts [] = Unit {0}
  Uncrossed lefts (r ∷ rs) = AtRight lefts r rs × Uncrossed lefts rs

  no_right : (l : L) (rights : List R) → AllByRecursion (λ s. Fails l s) rights → of_left rights l ≡ Ok []
  no_right l [] all = refl
  no_right l (r ∷ rs) all = rw (all.0, no_right l rs all.1) refl

  no_left : (r : R) (lefts : List L) → AllByRecursion (λ m. Fails m r) lefts → of_right lefts r ≡ Ok []
  no_left r [] all = refl
  no_left r (l ∷ ls) all = rw (all.0, no_left r ls all.1) refl

  -- what they come to, where they meet so
  comes_to : (l : L) (ls : List L) (r : R) (rs : List R) → Meets l ls r rs
      → ((test (join l r) ≡ Ok false) × (of_left rs l ≡ Ok [])) ⊎ (((test (join l r) ≡ Ok false) × (of_right ls r ≡ Ok [])) ⊎ ((of_left rs l ≡ Ok []) × (of_right ls r ≡ Ok [])))
  comes_to l ls r rs (inl both) = inl (both.0, no_right l rs both.1)
  comes_to l ls r rs (inr (inl both)) = inr (inl (both.0, no_left r ls both.1))
  comes_to l ls r rs (inr (inr both)) = inr (inr (no_right l rs both.0, no_left r ls both.1))

  at_right : (lefts : List L) (r : R) (rs : List R) → AtRight lefts r rs → all_of (of_left (r ∷ rs)) lefts ≡ then_all (of_right lefts r) (all_of (of_left rs) lefts)
  at_right [] r rs all = refl
  at_right (l ∷ ls) r rs all =
      crossed (test (join l r)) (join l r) (of_left rs l) (of_right ls r) (all_of (of_left rs) ls) (all_of (of_left (r ∷ rs)) ls) (at_right ls r rs all.1) (comes_to l ls r rs all.0)

  no_rights : (lefts : List L) → all_of (of_left []) lefts ≡ Ok []
  no_rights [] = refl
  no_rights (l ∷ ls) = rw (no_rights ls) refl

  pub stand_alike : (lefts : List L) (rights : List R) → Uncrossed lefts rights → all_of (of_left rights) lefts ≡ all_of (of_right lefts) rights
  stand_alike lefts [] all = no_rights lefts
  stand_alike lefts (r ∷ rs) all = at_right lefts r rs all.0 ∙ ap (λ (o : Answer (List J)). then_all (of_right lefts r) o) (stand_alike lefts rs all.1)
