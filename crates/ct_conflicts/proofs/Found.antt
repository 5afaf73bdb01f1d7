-- The value of a key after a value was set at a key.
use Rattle.std.proofs.Common.{◌≡◌, Bool, true, false, cond, if◌then◌else◌, List, [], ◌∷◌, filter, find, Option, Some, None, option_map, refl, sym, ap, ap₂, ◌∙◌, subst}
use Rattle.std.specs.Option.{option_or}
use Rattle.std.specs.declared.cmp.Ordering.{Ordering}
use Rattle.std.specs.declared.cmp.Ordering.TheVariants.{Less, Equal, Greater}
use Rattle.std.specs.Ordering.{is_lt, is_eq, is_gt}
use Rattle.std.proofs.lemmas.List.Folds.{find-append}
use Rattle.ct_types.specs.Order.{key_cmp}
use Rattle.ct_types.proofs.Orders.{key_cmp_exact}
use Rattle.ct_types.specs.declared.value.Key.{Key}
use Rattle.ct_ptree.specs.declared.pair.Pair.{Pair}
use Rattle.ct_ptree.specs.Pairs.{is_below, is_at, is_above, value_at, with_pair, set_pair}

clash : {P : Type 0} → true ≡ false → P
clash e = cc

equal_of : (o : Ordering) → is_eq o ≡ true → o ≡ Equal
equal_of Less e = cc
equal_of Equal e = refl
equal_of Greater e = cc

-- equal one way round, equal the other
same_back : (a b : Key) → key_cmp a b ≡ Equal → key_cmp b a ≡ Equal
same_back a b e =
    let same : a ≡ b = key_cmp_exact a b e in
    subst (λ k. key_cmp b k ≡ Equal) (sym same) (subst (λ k. key_cmp k b ≡ Equal) same e)

or_none : {X : Type 0} (o : Option X) → option_or o None ≡ o
or_none None = refl
or_none (Some x) = refl

none_either : {X : Type 0} (o : Option X) (b : Bool) → o ≡ None → o ≡ cond b o None
none_either o true none = refl
none_either o false none = none

-- a filter that keeps all that pass a test, or none of them, leaves the first of them or none
left_step : {X : Type 0} (test : X → Bool) (x : X) (xs rest : List X) (here keep all : Bool) → test x ≡ here → (here ≡ true → keep ≡ all)
    → find test rest ≡ cond all (find test xs) None → find test (cond keep (x ∷ rest) rest) ≡ cond all (cond here (Some x) (find test xs)) None
left_step test x xs rest true true true is same before = rw is refl
left_step test x xs rest true true false is same before = clash (same refl)
left_step test x xs rest true false true is same before = clash (sym (same refl))
left_step test x xs rest true false false is same before = before
left_step test x xs rest false true all is same before = rw is before
left_step test x xs rest false false all is same before = before

module _ {V : Type 0} where
  find_left : (test : Ordering → Bool) (other key : Key) (pairs : List (Pair V))
      → find (is_at key) (filter (λ pair. test (key_cmp pair.key other)) pairs) ≡ cond (test (key_cmp key other)) (find (is_at key) pairs) None
  find_left test other key [] = none_either (find (is_at key) []) (test (key_cmp key other)) refl
  find_left test other key (pair ∷ pairs) =
      left_step (is_at key) pair pairs (filter (λ pair. test (key_cmp pair.key other)) pairs) (is_at key pair) (test (key_cmp pair.key other)) (test (key_cmp key other)) refl
      (λ here. ap (λ k. test (key_cmp k other)) (key_cmp_exact pair.key key (equal_of _ here))) (find_left test other key pairs)

  -- those below and those above, round the pair that is set
  joined_found : (pair : Pair V) (found : Option (Pair V)) (o : Ordering) (here : Bool) → (here ≡ true → o ≡ Equal) → (o ≡ Equal → here ≡ true)
      → option_or (cond (is_lt o) found None) (cond here (Some pair) (cond (is_gt o) found None)) ≡ cond here (Some pair) found
  joined_found pair found Less true is back = let e : Less ≡ Equal = is refl in cc
  joined_found pair found Less false is back = or_none found
  joined_found pair found Equal true is back = refl
  joined_found pair found Equal false is back = clash (sym (back refl))
  joined_found pair found Greater true is back = let e : Greater ≡ Equal = is refl in cc
  joined_found pair found Greater false is back = refl

  value_of : (here : Bool) (pair : Pair V) (found : Option (Pair V)) → option_map (λ (p : Pair V). p.value) (cond here (Some pair) found) ≡ cond here (Some pair.value) (option_map (λ (p : Pair V). p.value) found)
  value_of true pair found = refl
  value_of false pair found = refl

  pub value_set : (pairs : List (Pair V)) (k : Key) (v : V) (key : Key) → value_at (set_pair pairs k v) key ≡ (if is_eq (key_cmp k key) then Some v else value_at pairs key)
  value_set pairs k v key =
      let pair : Pair V = record { key = k; value = v } in
      let whole : find (is_at key) (with_pair pairs pair) ≡ cond (is_eq (key_cmp k key)) (Some pair) (find (is_at key) pairs) =
      find-append (is_at key) (filter (is_below k) pairs) (pair ∷ filter (is_above k) pairs)
      ∙ ap₂ (λ low high. option_or low (cond (is_eq (key_cmp k key)) (Some pair) high)) (find_left is_lt k key pairs) (find_left is_gt k key pairs)
      ∙ joined_found pair (find (is_at key) pairs) (key_cmp key k) (is_eq (key_cmp k key)) (λ here. same_back k key (equal_of _ here)) (λ e. ap is_eq (same_back key k e)) in
      ap (option_map (λ (p : Pair V). p.value)) whole ∙ value_of (is_eq (key_cmp k key)) pair (find (is_at key) pairs)
