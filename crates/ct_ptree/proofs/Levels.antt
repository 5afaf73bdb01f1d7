-- The steps of a search among the lists of a level, and what one of them in another's place makes of the whole.
use Rattle.std.specs.Prelude.{◌==◌}
use Rattle.std.proofs.lemmas.Bool.Decides.{nat_tests}
use Rattle.std.proofs.Common.{◌≡◌, false, ℕ, zero, suc, ◌+◌, ◌-◌, ◌*◌, ◌<◌, ◌≤◌, List, [], ◌∷◌, ◌++◌, length, take, drop, get_or, set, refl, sym, ap, ap₂, ◌∙◌, subst, inl, inr, ◌⊎◌, append_assoc, arith, length-append, length-take, length-drop, take-append-drop}
use Rattle.std.specs.List.{insert, remove}
use Rattle.std.proofs.lemmas.List.{set_at, set-get_or, take-set, drop-set-lt}
use Rattle.std.proofs.lemmas.List.Concat.{flat_map-append}
use Rattle.std.specs.declared.cmp.Ordering.TheVariants.{Less, Equal, Greater}
use Rattle.ct_types.specs.Order.{key_cmp}
use Rattle.ct_types.specs.declared.value.Key.{Key}
use Rattle.ct_ptree.specs.declared.pair.Pair.{Pair}
use Rattle.ct_ptree.specs.Pairs.{Ascends, AllBelow, AllAbove, AreFilled, AreHalves, joined, start_cmp, value_at, with_pair, without, from_key}
use Rattle.ct_ptree.proofs.Lists.{all_append, all_front, all_back, split_at, drop_at, set_split}
use Rattle.ct_ptree.proofs.Rising.{ascends_front, ascends_back, below_front, above_rest}
use Rattle.ct_ptree.proofs.Around.{at_around, with_around, without_around, rest_around}

not_zero : (n : ℕ) → 0 < n → (n == 0) ≡ false
not_zero n some = grind (arith, nat_tests)

module _ {V : Type 0} where
  pub joined_append : (xss yss : List (List (Pair V))) → joined (xss ++ yss) ≡ joined xss ++ joined yss
  joined_append xss yss = flat_map-append (λ (xs : List (Pair V)). xs) xss yss

  pub joined_split : (xss : List (List (Pair V))) (i : ℕ) (x : List (Pair V)) → i < length xss → x ≡ get_or xss i x
      → joined xss ≡ joined (take i xss) ++ (x ++ joined (drop (i + 1) xss))
  joined_split xss i x within is = ap joined (split_at xss i x within is) ∙ joined_append (take i xss) (x ∷ drop (i + 1) xss)

  pub joined_filled : (xss : List (List (Pair V))) → AreFilled xss → 0 < length xss → 0 < length (joined xss)
  joined_filled [] filled some = some
  joined_filled (xs ∷ xss) filled some = let h : 0 < length xs = filled.0 in omega (arith, length-append xs (joined xss))

  pub joined_some : (xss : List (List (Pair V))) → 0 < length (joined xss) → 0 < length xss
  joined_some [] some = some
  joined_some (xs ∷ xss) some = omega arith

  pub filled_at : (xss : List (List (Pair V))) (i : ℕ) (x : List (Pair V)) → i < length xss → x ≡ get_or xss i x → AreFilled xss → 0 < length x
  filled_at xss i x within is filled =
      (all_back (λ (xs : List (Pair V)). 0 < length xs) (take i xss) (x ∷ drop (i + 1) xss) (subst AreFilled (split_at xss i x within is) filled)).0

  pub rising_at : (xss : List (List (Pair V))) (i : ℕ) (x : List (Pair V)) → i < length xss → x ≡ get_or xss i x → Ascends (joined xss) → Ascends x
  rising_at xss i x within is rising =
      ascends_front x (joined (drop (i + 1) xss)) (ascends_back (joined (take i xss)) (x ++ joined (drop (i + 1) xss)) (subst Ascends (joined_split xss i x within is) rising))

  low_at : (key : Key) (front x back : List (Pair V)) → Ascends (front ++ (x ++ back)) → 0 < length x
      → (start_cmp x key ≡ Less) ⊎ (start_cmp x key ≡ Equal) → AllBelow key front
  low_at key front [] back rising some at = absurd (omega arith)
  low_at key front (p ∷ ps) back rising some at = below_front key front p (ps ++ back) rising at

  -- a list begins at or below the key: what stands in front of it is below
  pub level_low : (key : Key) (xss : List (List (Pair V))) (i : ℕ) (x : List (Pair V)) → i < length xss → x ≡ get_or xss i x
      → AreFilled xss → Ascends (joined xss) → start_cmp x key ≡ Less → AllBelow key (joined (take (i + 1 - 1) xss))
  level_low key xss i x within is filled rising at =
      let same : i + 1 - 1 ≡ i = omega arith in
      subst (λ n. AllBelow key (joined (take n xss))) (sym same)
      (low_at key (joined (take i xss)) x (joined (drop (i + 1) xss)) (subst Ascends (joined_split xss i x within is) rising) (filled_at xss i x within is filled) (inl at))

  pub level_front : (key : Key) (xss : List (List (Pair V))) (i : ℕ) (x : List (Pair V)) → i < length xss → x ≡ get_or xss i x
      → AreFilled xss → Ascends (joined xss) → start_cmp x key ≡ Equal → AllBelow key (joined (take i xss))
  level_front key xss i x within is filled rising at =
      low_at key (joined (take i xss)) x (joined (drop (i + 1) xss)) (subst Ascends (joined_split xss i x within is) rising) (filled_at xss i x within is filled) (inr at)

  rest_at : (key : Key) (x back : List (Pair V)) → Ascends (x ++ back) → start_cmp x key ≡ Equal → AllAbove key back
  rest_at key [] back rising at = cc
  rest_at key (p ∷ ps) back rising at = all_back (λ (p : Pair V). key_cmp p.key key ≡ Greater) ps back (above_rest key p (ps ++ back) rising (inr at))

  -- a list begins at the key: what stands behind it is above
  pub level_behind : (key : Key) (xss : List (List (Pair V))) (i : ℕ) (x : List (Pair V)) → i < length xss → x ≡ get_or xss i x
      → Ascends (joined xss) → start_cmp x key ≡ Equal → AllAbove key (joined (drop (i + 1) xss))
  level_behind key xss i x within is rising at =
      rest_at key x (joined (drop (i + 1) xss)) (ascends_back (joined (take i xss)) (x ++ joined (drop (i + 1) xss)) (subst Ascends (joined_split xss i x within is) rising)) at

  high_at : (key : Key) (x back : List (Pair V)) → Ascends (x ++ back) → start_cmp x key ≡ Greater → AllAbove key (x ++ back)
  high_at key [] back rising at = cc
  high_at key (p ∷ ps) back rising at = (at, above_rest key p (ps ++ back) rising (inl at))

  -- a list begins above the key: it is above, with all that stand behind it
  pub level_high : (key : Key) (xss : List (List (Pair V))) (i : ℕ) (x : List (Pair V)) → i < length xss → x ≡ get_or xss i x
      → Ascends (joined xss) → start_cmp x key ≡ Greater → AllAbove key (joined (drop i xss))
  level_high key xss i x within is rising at =
      subst (λ yss. AllAbove key (joined yss)) (sym (drop_at xss i x within is))
      (high_at key x (joined (drop (i + 1) xss)) (ascends_back (joined (take i xss)) (x ++ joined (drop (i + 1) xss)) (subst Ascends (joined_split xss i x within is) rising)) at)

  tail_high : (key : Key) (xss : List (List (Pair V))) → AllAbove key (joined xss) → AllAbove key (joined (drop 1 xss))
  tail_high key [] high = tt
  tail_high key (xs ∷ xss) high = all_back (λ (p : Pair V). key_cmp p.key key ≡ Greater) xs (joined xss) high

  -- behind the last list that begins at or below the key, or behind the first one
  pub level_rest : (key : Key) (xss : List (List (Pair V))) (low : ℕ) → AllAbove key (joined (drop low xss)) → AllAbove key (joined (drop (low - 1 + 1) xss))
  level_rest key xss zero high = tail_high key xss high
  level_rest key xss (suc low) high = let same : suc low - 1 + 1 ≡ suc low = omega arith in subst (λ n. AllAbove key (joined (drop n xss))) (sym same) high

  -- a key is where it may be alone
  pub level_value : (key : Key) (xss : List (List (Pair V))) (i : ℕ) (x : List (Pair V)) → i < length xss → x ≡ get_or xss i x
      → AllBelow key (joined (take i xss)) → AllAbove key (joined (drop (i + 1) xss)) → value_at (joined xss) key ≡ value_at x key
  level_value key xss i x within is low high =
      ap (λ ys. value_at ys key) (joined_split xss i x within is) ∙ at_around key (joined (take i xss)) x (joined (drop (i + 1) xss)) low high

  joined_set : (xss : List (List (Pair V))) (i : ℕ) (y : List (Pair V)) → i < length xss → joined (set xss i y) ≡ joined (take i xss) ++ (y ++ joined (drop (i + 1) xss))
  joined_set xss i y within = ap joined (set_split xss i y within) ∙ joined_append (take i xss) (y ∷ drop (i + 1) xss)

  -- the whole with a list changed at a key that it alone may have
  pub level_put : (pair : Pair V) (xss : List (List (Pair V))) (i : ℕ) (x y : List (Pair V)) → i < length xss → x ≡ get_or xss i x
      → AllBelow pair.key (joined (take i xss)) → AllAbove pair.key (joined (drop (i + 1) xss)) → y ≡ with_pair x pair → joined (set xss i y) ≡ with_pair (joined xss) pair
  level_put pair xss i x y within is low high changed =
      joined_set xss i y within ∙ ap (λ r. joined (take i xss) ++ (r ++ joined (drop (i + 1) xss))) changed
      ∙ sym (ap (λ ys. with_pair ys pair) (joined_split xss i x within is) ∙ with_around pair (joined (take i xss)) x (joined (drop (i + 1) xss)) low high)

  pub level_take : (key : Key) (xss : List (List (Pair V))) (i : ℕ) (x y : List (Pair V)) → i < length xss → x ≡ get_or xss i x
      → AllBelow key (joined (take i xss)) → AllAbove key (joined (drop (i + 1) xss)) → y ≡ without x key → joined (set xss i y) ≡ without (joined xss) key
  level_take key xss i x y within is low high changed =
      joined_set xss i y within ∙ ap (λ r. joined (take i xss) ++ (r ++ joined (drop (i + 1) xss))) changed
      ∙ sym (ap (λ ys. without ys key) (joined_split xss i x within is) ∙ without_around key (joined (take i xss)) x (joined (drop (i + 1) xss)) low high)

  -- the whole with a list as it was
  pub level_kept : (xss : List (List (Pair V))) (i : ℕ) (x y : List (Pair V)) → x ≡ get_or xss i x → y ≡ x → joined (set xss i y) ≡ joined xss
  level_kept xss i x y is same = ap (λ r. joined (set xss i r)) (same ∙ is) ∙ ap joined (set-get_or xss i x)

  both_filled : (front back : List (List (Pair V))) → AreFilled front → AreFilled back → AreFilled (front ++ back)
  both_filled front back = all_append (λ (xs : List (Pair V)). 0 < length xs) front back

  pub front_filled : (xss : List (List (Pair V))) (i : ℕ) → AreFilled xss → AreFilled (take i xss)
  front_filled xss i filled = all_front (λ (xs : List (Pair V)). 0 < length xs) (take i xss) (drop i xss) (subst AreFilled (sym (take-append-drop i xss)) filled)

  pub back_filled : (xss : List (List (Pair V))) (i : ℕ) → AreFilled xss → AreFilled (drop i xss)
  back_filled xss i filled = all_back (λ (xs : List (Pair V)). 0 < length xs) (take i xss) (drop i xss) (subst AreFilled (sym (take-append-drop i xss)) filled)

  pub set_filled : (xss : List (List (Pair V))) (i : ℕ) (y : List (Pair V)) → i < length xss → AreFilled xss → 0 < length y → AreFilled (set xss i y)
  set_filled xss i y within filled some =
      subst AreFilled (sym (set_split xss i y within)) (both_filled (take i xss) (y ∷ drop (i + 1) xss) (front_filled xss i filled) (some, back_filled xss (i + 1) filled))

  -- all but the list at one place are filled, before and after it is set
  pub others_filled : (xss : List (List (Pair V))) (i : ℕ) (y : List (Pair V)) → i < length xss → AreFilled xss → AreFilled (remove (set xss i y) i)
  others_filled xss i y within filled =
      both_filled (take i (set xss i y)) (drop (suc i) (set xss i y))
      (subst AreFilled (sym (take-set xss i y)) (front_filled xss i filled))
      (subst AreFilled (sym (drop-set-lt (suc i) xss i y (omega arith))) (back_filled xss (suc i) filled))

  pub around_filled : (xss : List (List (Pair V))) (i : ℕ) (x : List (Pair V)) → i < length xss → x ≡ get_or xss i x → AreFilled (remove xss i) → 0 < length x → AreFilled xss
  around_filled xss i x within is others some =
      let P : List (Pair V) → Type 0 = λ xs. 0 < length xs in
      let next : suc i ≡ i + 1 = omega arith in
      subst AreFilled (sym (split_at xss i x within is))
      (both_filled (take i xss) (x ∷ drop (i + 1) xss) (all_front P (take i xss) (drop (suc i) xss) others) (some, subst (λ n. AreFilled (drop n xss)) next (all_back P (take i xss) (drop (suc i) xss) others)))

  -- the whole without an empty list
  pub level_removed : (xss : List (List (Pair V))) (i : ℕ) (x : List (Pair V)) → i < length xss → x ≡ get_or xss i x → length x ≡ 0 → joined (remove xss i) ≡ joined xss
  level_removed xss i [] within is empty =
      let next : suc i ≡ i + 1 = omega arith in
      ap (λ n. joined (take i xss ++ drop n xss)) next ∙ joined_append (take i xss) (drop (i + 1) xss) ∙ sym (joined_split xss i [] within is)
  level_removed xss i (p ∷ x) within is empty = absurd (omega arith)

  -- a list with two halves in its place
  halved_split : (xss : List (List (Pair V))) (i : ℕ) (x a b : List (Pair V)) → i < length xss → x ≡ get_or xss i x
      → set (insert xss i a) (i + 1) b ≡ take i xss ++ (a ∷ b ∷ drop (i + 1) xss)
  halved_split xss i x a b within is =
      let seam : length (take i xss ++ a ∷ []) ≡ i + 1 = rw (length-append, length-take) (omega arith) in
      ap (λ r. set (take i xss ++ a ∷ r) (i + 1) b) (drop_at xss i x within is)
      ∙ ap (λ r. set r (i + 1) b) (sym (append_assoc (take i xss) (a ∷ []) (x ∷ drop (i + 1) xss)))
      ∙ set_at (take i xss ++ a ∷ []) x (drop (i + 1) xss) b (i + 1) seam
      ∙ append_assoc (take i xss) (a ∷ []) (b ∷ drop (i + 1) xss)

  pub level_halved : (xss : List (List (Pair V))) (i : ℕ) (x a b : List (Pair V)) → i < length xss → x ≡ get_or xss i x
      → AreHalves x a b → joined (set (insert xss i a) (i + 1) b) ≡ joined xss
  level_halved xss i x a b within is halves =
      ap joined (halved_split xss i x a b within is) ∙ joined_append (take i xss) (a ∷ b ∷ drop (i + 1) xss)
      ∙ ap (λ r. joined (take i xss) ++ r) (sym (append_assoc a b (joined (drop (i + 1) xss))) ∙ ap (λ r. r ++ joined (drop (i + 1) xss)) halves.0)
      ∙ sym (joined_split xss i x within is)

  pub level_halved_filled : (xss : List (List (Pair V))) (i : ℕ) (x a b : List (Pair V)) → i < length xss → x ≡ get_or xss i x
      → AreHalves x a b → AreFilled xss → AreFilled (set (insert xss i a) (i + 1) b)
  level_halved_filled xss i x a b within is halves filled =
      subst AreFilled (sym (halved_split xss i x a b within is))
      (both_filled (take i xss) (a ∷ b ∷ drop (i + 1) xss) (front_filled xss i filled) (halves.1, (halves.2, back_filled xss (i + 1) filled)))

  -- one list in place of two that stand side by side
  merged_split : (xss : List (List (Pair V))) (i : ℕ) (y z : List (Pair V)) → i + 1 < length xss → y ≡ get_or xss (i + 1) y
      → set (remove xss i) i z ≡ take i xss ++ z ∷ drop (i + 1 + 1) xss
  merged_split xss i y z within is =
      let next : suc i ≡ i + 1 = omega arith in
      let seam : length (take i xss) ≡ i = rw length-take (omega arith) in
      ap (λ n. set (take i xss ++ drop n xss) i z) next
      ∙ ap (λ r. set (take i xss ++ r) i z) (drop_at xss (i + 1) y within is)
      ∙ set_at (take i xss) y (drop (i + 1 + 1) xss) z i seam

  pub level_merged : (xss : List (List (Pair V))) (i : ℕ) (x y z : List (Pair V)) → i + 1 < length xss → x ≡ get_or xss i x → y ≡ get_or xss (i + 1) y
      → z ≡ x ++ y → joined (set (remove xss i) i z) ≡ joined xss
  level_merged xss i x y z within first second both =
      ap joined (merged_split xss i y z within second) ∙ joined_append (take i xss) (z ∷ drop (i + 1 + 1) xss)
      ∙ ap (λ r. joined (take i xss) ++ (r ++ joined (drop (i + 1 + 1) xss))) both
      ∙ ap (λ r. joined (take i xss) ++ r) (append_assoc x y (joined (drop (i + 1 + 1) xss)) ∙ ap (λ r. x ++ joined r) (sym (drop_at xss (i + 1) y within second)))
      ∙ sym (joined_split xss i x (omega arith) first)

  pub level_merged_filled : (xss : List (List (Pair V))) (i : ℕ) (x y z : List (Pair V)) → i + 1 < length xss → x ≡ get_or xss i x → y ≡ get_or xss (i + 1) y
      → z ≡ x ++ y → AreFilled xss → AreFilled (set (remove xss i) i z)
  level_merged_filled xss i x y z within first second both filled =
      let some : 0 < length x = filled_at xss i x (omega arith) first filled in
      subst AreFilled (sym (merged_split xss i y z within second))
      (both_filled (take i xss) (z ∷ drop (i + 1 + 1) xss) (front_filled xss i filled) (rw both (rw length-append (omega arith)), back_filled xss (i + 1 + 1) filled))

  pub halved_level : (xss : List (List (Pair V))) (n : ℕ) (a b : List (Pair V)) → AreFilled xss → a ≡ joined (take n xss) → b ≡ joined (drop n xss) → 0 < n → n < length xss
      → (a ++ b ≡ joined xss) × (0 < length a) × (0 < length b)
  halved_level xss n a b filled front back some less =
      let P : List (Pair V) → Type 0 = λ xs. 0 < length xs in
      let both : AreFilled (take n xss ++ drop n xss) = subst AreFilled (sym (take-append-drop n xss)) filled in (
        ap₂ (λ x y. x ++ y) front back ∙ sym (joined_append (take n xss) (drop n xss)) ∙ ap joined (take-append-drop n xss),
        rw front (joined_filled (take n xss) (all_front P (take n xss) (drop n xss) both) (rw length-take (omega arith))),
        rw back (joined_filled (drop n xss) (all_back P (take n xss) (drop n xss) both) (rw length-drop (omega arith))),
      )

  pub with_some : (xs : List (Pair V)) (pair : Pair V) → 0 < length (with_pair xs pair)
  with_some xs pair = rw length-append (omega arith)

  -- the pairs from a key on begin in the list that may have it
  pub level_rest_from : (key : Key) (xss : List (List (Pair V))) (i : ℕ) (x : List (Pair V)) → i < length xss → x ≡ get_or xss i x
      → AllBelow key (joined (take i xss)) → AllAbove key (joined (drop (i + 1) xss)) → from_key (joined xss) key ≡ from_key x key ++ joined (drop (i + 1) xss)
  level_rest_from key xss i x within is low high =
      ap (λ ys. from_key ys key) (joined_split xss i x within is) ∙ rest_around key (joined (take i xss)) x (joined (drop (i + 1) xss)) low high

  pub joined_longer : (xss : List (List (Pair V))) → AreFilled xss → length xss ≤ length (joined xss)
  joined_longer [] filled = omega arith
  joined_longer (xs ∷ xss) filled = let some : 0 < length xs = filled.0 in omega (arith, joined_longer xss filled.1, length-append xs (joined xss))

  -- a list that is opened leaves less to do
  pub opened : (bs : List (List (Pair V))) (b : List (Pair V)) (ls before : List (List (Pair V))) → 0 < length bs → b ≡ get_or bs 0 b
      → AreFilled ls → joined ls ≡ b → length before < 1
      → 3 * length (joined (drop 1 bs)) + length (drop 1 bs) + 2 * length (joined ls) + length ls < 3 * length (joined bs) + length bs + 2 * length (joined before) + length before
  opened [] b ls before some is filled whole empty = absurd (omega arith)
  opened (x ∷ bs) b ls before some is filled whole empty =
      let same : length (joined ls) ≡ length x = ap length (whole ∙ is) in
      omega (arith, same, joined_longer ls filled, length-append x (joined bs))

  -- a level has no list exactly where it has no pair
  pub level_empty : (xss : List (List (Pair V))) → AreFilled xss → (length xss == 0) ≡ (length (joined xss) == 0)
  level_empty [] filled = refl
  level_empty (xs ∷ xss) filled =
      let one : 0 < length (xs ∷ xss) = omega arith in
      let some : 0 < length (joined (xs ∷ xss)) = joined_filled (xs ∷ xss) filled one in
      not_zero (length (xs ∷ xss)) one ∙ sym (not_zero (length (joined (xs ∷ xss))) some)
