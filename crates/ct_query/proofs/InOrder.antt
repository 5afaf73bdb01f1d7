-- A list that is put in order has the same members, ascends, and keeps those that tie as they stood; and no other list does.
use Rattle.std.proofs.Common.{◌≡◌, ℕ, zero, suc, ◌<◌, Bool, true, false, not, ◌&&◌, cond, List, [], ◌∷◌, length, get_or, refl, sym, ap, ◌∙◌, arith, add-one}
use Rattle.std.specs.Cmp.{IsStrictWeakOrder}
use Rattle.std.specs.List.{filter}
use Rattle.std.specs.List.Sorted.{IsPermutation, IsSortedBy, IsStableBy, ties}
use Rattle.std.proofs.lemmas.List.Sorted.{IsPermutation-refl, IsPermutation-cons, IsPermutation-trans, IsPermutation-middle, sorted_far}
use Rattle.ct_query.specs.Sorting.{put, in_order}

-- ---- the same members

same_at : {A : Type 0} (b : Bool) (x y : A) (ys zs : List A) → IsPermutation (x ∷ ys) zs → IsPermutation (x ∷ y ∷ ys) (cond b (y ∷ zs) (x ∷ y ∷ ys))
same_at true x y ys zs same = IsPermutation-trans (x ∷ y ∷ ys) (y ∷ x ∷ ys) (y ∷ zs) (IsPermutation-middle (x ∷ []) y ys) (IsPermutation-cons y (x ∷ ys) zs same)
same_at false x y ys zs same = IsPermutation-refl (x ∷ y ∷ ys)

put-same : {A : Type 0} (less : A → A → Bool) (x : A) (ys : List A) → IsPermutation (x ∷ ys) (put less x ys)
put-same less x [] = IsPermutation-refl (x ∷ [])
put-same less x (y ∷ ys) = same_at (less y x) x y ys (put less x ys) (put-same less x ys)

pub in_order-same : {A : Type 0} (less : A → A → Bool) (xs : List A) → IsPermutation xs (in_order less xs)
in_order-same less [] = IsPermutation-refl []
in_order-same less (x ∷ xs) =
    IsPermutation-trans (x ∷ xs) (x ∷ in_order less xs) (put less x (in_order less xs)) (IsPermutation-cons x xs (in_order less xs) (in_order-same less xs)) (put-same less x (in_order less xs))

-- ---- tests of pairs

module _ {A : Type 0} (less : A → A → Bool) (o : IsStrictWeakOrder less) where
  not_itself_at : (x : A) (b : Bool) → less x x ≡ b → less x x ≡ false
  not_itself_at x true e = o.one_way x x e
  not_itself_at x false e = e

  not_itself : (x : A) → less x x ≡ false
  not_itself x = not_itself_at x (less x x) refl

  tied : (x y : A) → less x y ≡ false → less y x ≡ false → ties less x y ≡ true
  tied x y a b = rw (a, b)

  both : (a b : Bool) → (not a && not b) ≡ true → (a ≡ false) × (b ≡ false)
  both true b e = cc
  both false true e = cc
  both false false e = (refl, refl)

  untied : (x y : A) → ties less x y ≡ true → (less x y ≡ false) × (less y x ≡ false)
  untied x y e = both (less x y) (less y x) e

  -- ---- lists that ascend

  -- none of these is less than x
  abbrev NoneLess : A → List A → Type 0
  NoneLess x [] = Unit {0}
  NoneLess x (y ∷ ys) = (less y x ≡ false) × NoneLess x ys

  abbrev Ascends : List A → Type 0
  Ascends [] = Unit {0}
  Ascends (x ∷ xs) = NoneLess x xs × Ascends xs

  NoneLess-at : (b : Bool) (w x y : A) (ys zs : List A) → less x w ≡ false → NoneLess w (y ∷ ys) → NoneLess w zs → NoneLess w (cond b (y ∷ zs) (x ∷ y ∷ ys))
  NoneLess-at true w x y ys zs here before more = (before.0, more)
  NoneLess-at false w x y ys zs here before more = (here, before)

  NoneLess-put : (w x : A) (ys : List A) → less x w ≡ false → NoneLess w ys → NoneLess w (put less x ys)
  NoneLess-put w x [] here before = (here, tt)
  NoneLess-put w x (y ∷ ys) here before = NoneLess-at (less y x) w x y ys (put less x ys) here before (NoneLess-put w x ys here before.1)

  NoneLess-lower : (x y : A) (zs : List A) → less y x ≡ false → NoneLess y zs → NoneLess x zs
  NoneLess-lower x y [] above none = tt
  NoneLess-lower x y (z ∷ zs) above none = (o.chain z y x none.0 above, NoneLess-lower x y zs above none.1)

  Ascends-put : (x : A) (ys : List A) → Ascends ys → Ascends (put less x ys)
  Ascends-put x [] up = (tt, tt)
  Ascends-put x (y ∷ ys) up = split (less y x) refl (Ascends-put x ys up.1)
    where
      split : (b : Bool) → less y x ≡ b → Ascends (put less x ys) → Ascends (cond b (y ∷ put less x ys) (x ∷ y ∷ ys))
      split true e rest = (NoneLess-put y x ys (o.one_way y x e) up.0, rest)
      split false e rest = ((e, NoneLess-lower x y ys e up.0), up)

  Ascends-in_order : (xs : List A) → Ascends (in_order less xs)
  Ascends-in_order [] = tt
  Ascends-in_order (x ∷ xs) = Ascends-put x (in_order less xs) (Ascends-in_order xs)

  -- ---- those that tie stay as they stand

  filter-at : (u v : Bool) (x y : A) (found rest : List A) → (u ≡ true → v ≡ false) → found ≡ cond u (x ∷ rest) rest
      → cond v (y ∷ found) found ≡ cond u (x ∷ cond v (y ∷ rest) rest) (cond v (y ∷ rest) rest)
  filter-at true true x y found rest apart e = absurd (no (apart refl))
    where
      no : true ≡ false → ⊥
      no e = cc
  filter-at true false x y found rest apart e = e
  filter-at false v x y found rest apart e = ap (λ zs. cond v (y ∷ zs) zs) e

  skipped : (w x y : A) (b : Bool) → less y x ≡ true → ties less w x ≡ true → ties less w y ≡ b → ties less w y ≡ false
  skipped w x y false below ties_x e = e
  skipped w x y true below ties_x e =
      let no : less y x ≡ false = o.chain y w x (untied w y e).1 (untied w x ties_x).0 in
      cc

  filter-put : (w x : A) (ys : List A) → filter (ties less w) (put less x ys) ≡ filter (ties less w) (x ∷ ys)
  filter-put w x [] = refl
  filter-put w x (y ∷ ys) = split (less y x) refl (filter-put w x ys)
    where
      split : (b : Bool) → less y x ≡ b → filter (ties less w) (put less x ys) ≡ filter (ties less w) (x ∷ ys)
          → filter (ties less w) (cond b (y ∷ put less x ys) (x ∷ y ∷ ys)) ≡ filter (ties less w) (x ∷ y ∷ ys)
      split true e more = filter-at (ties less w x) (ties less w y) x y (filter (ties less w) (put less x ys)) (filter (ties less w) ys) (λ t. skipped w x y (ties less w y) e t refl) more
      split false e more = refl

  pub in_order-stable : (xs : List A) → IsStableBy less xs (in_order less xs)
  in_order-stable [] w = refl
  in_order-stable (x ∷ xs) w = filter-put w x (in_order less xs) ∙ ap (λ zs. cond (ties less w x) (x ∷ zs) zs) (in_order-stable xs w)

  -- ---- by places

  sorted_at : (xs : List A) → Ascends xs → (k : ℕ) (d : A) → suc k < length xs → less (get_or xs (suc k) d) (get_or xs k d) ≡ false
  sorted_at [] up k d within = absurd (omega arith)
  sorted_at (x ∷ []) up k d within = absurd (omega arith)
  sorted_at (x ∷ y ∷ ys) up zero d within = up.0.0
  sorted_at (x ∷ y ∷ ys) up (suc k) d within = sorted_at (y ∷ ys) up.1 k d (omega arith)

  pub in_order-sorted : (xs : List A) → IsSortedBy less (in_order less xs)
  in_order-sorted xs k d low within = rw add-one (sorted_at (in_order less xs) (Ascends-in_order xs) k d (omega arith))

  NoneLess-from : (x : A) (ys : List A) → ((k : ℕ) → k < length ys → less (get_or ys k x) x ≡ false) → NoneLess x ys
  NoneLess-from x [] h = tt
  NoneLess-from x (y ∷ ys) h = (h 0 (omega arith), NoneLess-from x ys (λ k within. h (suc k) (omega arith)))

  after_first : (x : A) (ys : List A) → IsSortedBy less (x ∷ ys) → IsSortedBy less ys
  after_first x ys up k d low within = rw add-one (rw add-one at (up (suc k) d (omega arith) (omega arith)))

  Ascends-from : (xs : List A) → IsSortedBy less xs → Ascends xs
  Ascends-from [] up = tt
  Ascends-from (x ∷ xs) up = (NoneLess-from x xs (λ k within. sorted_far less o (x ∷ xs) up 0 (suc k) x (omega arith) (omega arith)), Ascends-from xs (after_first x xs up))

  -- ---- no other list

  among : (p : A → Bool) (x y : A) (ys rest : List A) → NoneLess y ys → filter p ys ≡ x ∷ rest → less x y ≡ false
  among p x y [] rest none e = cc
  among p x y (z ∷ zs) rest none e = split (p z) (among p x y zs rest none.1) e
    where
      split : (b : Bool) → (filter p zs ≡ x ∷ rest → less x y ≡ false) → cond b (z ∷ filter p zs) (filter p zs) ≡ x ∷ rest → less x y ≡ false
      split true later e = let is : z ≡ x = cc in rw (← is) none.0
      split false later e = later e

  -- the first of one list is not above that of the other
  first_least : (x y : A) (xs ys : List A) (b : Bool) → ties less x y ≡ b → NoneLess y ys
      → x ∷ filter (ties less x) xs ≡ cond b (y ∷ filter (ties less x) ys) (filter (ties less x) ys) → less x y ≡ false
  first_least x y xs ys true tie none same = (untied x y tie).0
  first_least x y xs ys false tie none same = among (ties less x) x y ys (filter (ties less x) xs) none (sym same)

  starts : (x : A) (xs : List A) → filter (ties less x) (x ∷ xs) ≡ x ∷ filter (ties less x) xs
  starts x xs = rw (tied x x (not_itself x) (not_itself x))

  rest_same : (b : Bool) (x y : A) (xs ys : List A) → cond b (x ∷ xs) xs ≡ cond b (y ∷ ys) ys → xs ≡ ys
  rest_same true x y xs ys e = cc
  rest_same false x y xs ys e = e

  firsts_same : (x y : A) (xs ys : List A) → less x y ≡ false → less y x ≡ false → x ∷ filter (ties less x) xs ≡ filter (ties less x) (y ∷ ys) → x ≡ y
  firsts_same x y xs ys a b e =
      let tie : ties less x y ≡ true = tied x y a b in
      let e' : x ∷ filter (ties less x) xs ≡ y ∷ filter (ties less x) ys = rw tie at e in
      cc

  pub one_order : (xs ys : List A) → Ascends xs → Ascends ys → ((w : A) → filter (ties less w) xs ≡ filter (ties less w) ys) → xs ≡ ys
  one_order [] [] a b same = refl
  one_order [] (y ∷ ys) a b same = let e : [] ≡ y ∷ filter (ties less y) ys = same y ∙ starts y ys in cc
  one_order (x ∷ xs) [] a b same = let e : x ∷ filter (ties less x) xs ≡ [] = sym (starts x xs) ∙ same x in cc
  one_order (x ∷ xs) (y ∷ ys) a b same =
      let from_x : x ∷ filter (ties less x) xs ≡ filter (ties less x) (y ∷ ys) = sym (starts x xs) ∙ same x in
      let from_y : y ∷ filter (ties less y) ys ≡ filter (ties less y) (x ∷ xs) = sym (starts y ys) ∙ sym (same y) in
      let is : x ≡ y = firsts_same x y xs ys (first_least x y xs ys (ties less x y) refl b.0 from_x) (first_least y x ys xs (ties less y x) refl a.0 from_y) from_x in
      let more : xs ≡ ys = one_order xs ys a.1 b.1 (λ w. rest_same (ties less w y) x y (filter (ties less w) xs) (filter (ties less w) ys)
      (ap (λ z. cond (ties less w z) (x ∷ filter (ties less w) xs) (filter (ties less w) xs)) (sym is) ∙ same w)) in
      cc

  pub only_order : (xs ys : List A) → IsSortedBy less ys → IsStableBy less xs ys → ys ≡ in_order less xs
  only_order xs ys up stable =
      one_order ys (in_order less xs) (Ascends-from ys up) (Ascends-in_order xs) (λ w. stable w ∙ sym (in_order-stable xs w))
