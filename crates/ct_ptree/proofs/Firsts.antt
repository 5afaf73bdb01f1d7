-- The key that a list of pairs begins at: what a search asks of it, and what a change makes of it.
use Rattle.std.specs.Prelude.{◌==◌, Result, Ok, Err, OnOk, OnErr}
use Rattle.std.proofs.Common.{◌≡◌, ℕ, ◌<◌, ◌≤◌, true, false, List, [], ◌∷◌, ◌++◌, length, drop, get_or, filter, refl, sym, ap, ◌∙◌, subst, inl, inr, arith}
use Rattle.std.proofs.lemmas.Bool.Decides.{nat_tests}
use Rattle.std.specs.declared.cmp.Ordering.{Ordering}
use Rattle.std.specs.declared.cmp.Ordering.TheVariants.{Less, Equal, Greater}
use Rattle.std.specs.Ordering.{is_lt, is_eq}
use Rattle.ct_types.specs.Order.{key_cmp}
use Rattle.ct_types.proofs.Orders.{key_cmp_exact}
use Rattle.ct_types.specs.declared.value.Key.{Key}
use Rattle.ct_ptree.specs.declared.pair.Pair.{Pair}
use Rattle.ct_ptree.specs.Pairs.{Ascends, AreFilled, BeginsAt, is_below, is_above, joined, start_cmp, with_pair, without}
use Rattle.ct_ptree.proofs.Rising.{turned, flipped, less_of, above_rest}
use Rattle.ct_ptree.proofs.Around.{lows_of_high, highs_of_high}

clash : {P : Type 0} → false ≡ true → P
clash e = cc

not_one : (n : ℕ) → 0 < n → (n == 1) ≡ false → 1 < n
not_one n some more = grind (arith, nat_tests)

is_one : (n : ℕ) → (n == 1) ≡ true → n ≡ 1
is_one n one = grind (arith, nat_tests)

equal_of : (o : Ordering) → is_eq o ≡ true → o ≡ Equal
equal_of Less e = cc
equal_of Equal e = refl
equal_of Greater e = cc

module _ {V : Type 0} where
  -- the key beside a list stands to another key as the list does
  pub begins_start : (first key : Key) (xs : List (Pair V)) → BeginsAt first xs → 0 < length xs → key_cmp first key ≡ start_cmp xs key
  begins_start first key [] begins some = absurd (omega arith)
  begins_start first key (x ∷ xs) begins some = ap (λ k. key_cmp k key) (sym begins)

  -- a pair that is put in front of all is the first one
  pub sooner_begins : (first : Key) (xs : List (Pair V)) (pair : Pair V) → BeginsAt first xs → Ascends xs
      → is_lt (key_cmp pair.key first) ≡ true → BeginsAt pair.key (with_pair xs pair)
  sooner_begins first [] pair begins rising sooner = refl
  sooner_begins first (x ∷ xs) pair begins rising sooner =
      let above : key_cmp x.key pair.key ≡ Greater = subst (λ k. key_cmp k pair.key ≡ Greater) (sym begins) (flipped first pair.key (less_of _ sooner)) in
      let none : filter (is_below pair.key) xs ≡ [] = lows_of_high pair.key xs (above_rest pair.key x xs rising (inl above)) in
      rw (above, none) refl

  put_case : (first : Key) (x : Pair V) (xs : List (Pair V)) (pair : Pair V) → x.key ≡ first → Ascends (x ∷ xs)
      → is_lt (key_cmp pair.key first) ≡ false → (o : Ordering) → key_cmp x.key pair.key ≡ o → BeginsAt first (with_pair (x ∷ xs) pair)
  put_case first x xs pair begins rising late Less e = rw e begins
  put_case first x xs pair begins rising late Equal e =
      let none : filter (is_below pair.key) xs ≡ [] = lows_of_high pair.key xs (above_rest pair.key x xs rising (inr e)) in
      rw (e, none) (sym (key_cmp_exact x.key pair.key e) ∙ begins)
  put_case first x xs pair begins rising late Greater e =
      let less : key_cmp pair.key first ≡ Less = subst (λ k. key_cmp pair.key k ≡ Less) begins (turned x.key pair.key e) in
      clash (sym late ∙ ap is_lt less)

  -- a pair that is not put in front leaves the first key as it is
  pub put_begins : (first : Key) (xs : List (Pair V)) (pair : Pair V) → BeginsAt first xs → Ascends xs → 0 < length xs
      → is_lt (key_cmp pair.key first) ≡ false → BeginsAt first (with_pair xs pair)
  put_begins first [] pair begins rising some late = absurd (omega arith)
  put_begins first (x ∷ xs) pair begins rising some late = put_case first x xs pair begins rising late (key_cmp x.key pair.key) refl

  take_case : (first key : Key) (x : Pair V) (xs : List (Pair V)) → x.key ≡ first → Ascends (x ∷ xs)
      → is_eq (key_cmp first key) ≡ false → (o : Ordering) → key_cmp x.key key ≡ o → BeginsAt first (without (x ∷ xs) key)
  take_case first key x xs begins rising other Less e = rw e begins
  take_case first key x xs begins rising other Equal e =
      let at : key_cmp first key ≡ Equal = subst (λ k. key_cmp k key ≡ Equal) begins e in
      clash (sym other ∙ ap is_eq at)
  take_case first key x xs begins rising other Greater e =
      let none : filter (is_below key) xs ≡ [] = lows_of_high key xs (above_rest key x xs rising (inl e)) in
      rw (e, none) begins

  -- so does a key that is taken away, where it is another one
  pub take_begins : (first key : Key) (xs : List (Pair V)) → BeginsAt first xs → Ascends xs → is_eq (key_cmp first key) ≡ false → BeginsAt first (without xs key)
  take_begins first key [] begins rising other = tt
  take_begins first key (x ∷ xs) begins rising other = take_case first key x xs begins rising other (key_cmp x.key key) refl

  -- without the first key, a list begins at the second one
  pub second_begins : (first next key : Key) (xs : List (Pair V)) → BeginsAt first xs → Ascends xs → is_eq (key_cmp first key) ≡ true
      → BeginsAt next (drop 1 xs) → BeginsAt next (without xs key)
  second_begins first next key [] begins rising at after = tt
  second_begins first next key (x ∷ xs) begins rising at after =
      let e : key_cmp x.key key ≡ Equal = subst (λ k. key_cmp k key ≡ Equal) (sym begins) (equal_of _ at) in
      let none : filter (is_below key) xs ≡ [] = lows_of_high key xs (above_rest key x xs rising (inr e)) in
      let all : filter (is_above key) xs ≡ xs = highs_of_high key xs (above_rest key x xs rising (inr e)) in
      rw (e, none, all) after

  -- after a change that is made, or is not for want of memory
  pub changed_begins : {U E : Type 0} (r : Result U E) (first : Key) (old made new : List (Pair V)) → BeginsAt first old → BeginsAt first made
      → OnOk r (new ≡ made) → OnErr r (new ≡ old) → BeginsAt first new
  changed_begins (Ok u) first old made new before after ok err = rw ok after
  changed_begins (Err e) first old made new before after ok err = rw err before

  front_begins : (first : Key) (x back : List (Pair V)) → 0 < length x → BeginsAt first x → BeginsAt first (x ++ back)
  front_begins first [] back some begins = absurd (omega arith)
  front_begins first (p ∷ ps) back some begins = begins

  -- a level begins where its first list does
  pub level_begins : (first : Key) (xss : List (List (Pair V))) (x : List (Pair V)) → 0 < length xss → x ≡ get_or xss 0 x
      → AreFilled xss → BeginsAt first x → BeginsAt first (joined xss)
  level_begins first [] x some is filled begins = absurd (omega arith)
  level_begins first (y ∷ xss) x some is filled begins = front_begins first y (joined xss) filled.0 (subst (BeginsAt first) is begins)

  tail_begins : (next : Key) (x back : List (Pair V)) → 1 < length x → BeginsAt next (drop 1 x) → BeginsAt next (drop 1 (x ++ back))
  tail_begins next [] back some begins = absurd (omega arith)
  tail_begins next (p ∷ []) back some begins = absurd (omega arith)
  tail_begins next (p ∷ q ∷ ps) back some begins = begins

  -- its second pair is that of the first list, where this has two
  pub level_second : (next : Key) (xss : List (List (Pair V))) (x : List (Pair V)) → 0 < length xss → x ≡ get_or xss 0 x
      → AreFilled xss → (length x == 1) ≡ false → BeginsAt next (drop 1 x) → BeginsAt next (drop 1 (joined xss))
  level_second next [] x some is filled more begins = absurd (omega arith)
  level_second next (y ∷ xss) x some is filled more begins =
      let two : 1 < length y = not_one (length y) filled.0 (subst (λ l. (length l == 1) ≡ false) is more) in
      tail_begins next y (joined xss) two (subst (λ l. BeginsAt next (drop 1 l)) is begins)

  single_second : (next : Key) (x back : List (Pair V)) → length x ≡ 1 → BeginsAt next back → BeginsAt next (drop 1 (x ++ back))
  single_second next [] back single begins = absurd (omega arith)
  single_second next (p ∷ []) back single begins = begins
  single_second next (p ∷ q ∷ ps) back single begins = absurd (omega arith)

  -- else it is the first one of the next list
  pub level_next : (next : Key) (xss : List (List (Pair V))) (x y : List (Pair V)) → 1 < length xss → x ≡ get_or xss 0 x → y ≡ get_or xss 1 y
      → AreFilled xss → (length x == 1) ≡ true → BeginsAt next y → BeginsAt next (drop 1 (joined xss))
  level_next next [] x y some first second filled single begins = absurd (omega arith)
  level_next next (a ∷ []) x y some first second filled single begins = absurd (omega arith)
  level_next next (a ∷ b ∷ xss) x y some first second filled single begins =
      let one : length a ≡ 1 = subst (λ l. length l ≡ 1) first (is_one (length x) single) in
      single_second next a (b ++ joined xss) one (front_begins next b (joined xss) filled.1.0 (subst (BeginsAt next) second begins))

  -- one list of one pair has no second one
  pub level_single : (next : Key) (xss : List (List (Pair V))) (x : List (Pair V)) → length xss ≤ 1 → 0 < length xss → x ≡ get_or xss 0 x
      → (length x == 1) ≡ true → BeginsAt next (drop 1 (joined xss))
  level_single next [] x few some is single = absurd (omega arith)
  level_single next (a ∷ []) x few some is single =
      single_second next a [] (subst (λ l. length l ≡ 1) is (is_one (length x) single)) tt
  level_single next (a ∷ b ∷ xss) x few some is single = absurd (omega arith)

  pub first_pair : (xs : List (Pair V)) (it : Pair V) → 0 < length xs → it ≡ get_or xs 0 it → BeginsAt it.key xs
  first_pair [] it some is = absurd (omega arith)
  first_pair (x ∷ xs) it some is = ap (λ (p : Pair V). p.key) (sym is)

  pub second_pair : (xs : List (Pair V)) (it : Pair V) → 1 < length xs → it ≡ get_or xs 1 it → BeginsAt it.key (drop 1 xs)
  second_pair [] it some is = absurd (omega arith)
  second_pair (x ∷ []) it some is = absurd (omega arith)
  second_pair (x ∷ y ∷ xs) it some is = ap (λ (p : Pair V). p.key) (sym is)
