-- What a set of keys, and a list of sets, has after a change.
use Rattle.std.proofs.Common.{◌≡◌, ℕ, zero, suc, ◌+◌, ◌<◌, ◌≤◌, ◌^◌, ◌==◌, ◌&&◌, ◌||◌, Bool, true, false, is_some, List, [], ◌∷◌, ◌++◌, length, get_or, set, take, take_all, filter, find, option_map, refl, sym, ap, ap₂, ◌∙◌, length-append, arith}
use Rattle.std.specs.List.{list_any}
use Rattle.std.specs.declared.cmp.Ordering.{Ordering}
use Rattle.std.specs.declared.cmp.Ordering.TheVariants.{Less, Equal, Greater}
use Rattle.std.specs.Ordering.{is_eq}
use Rattle.std.proofs.lemmas.List.Folds.{list_any-append, list_any_more}
use Rattle.ct_types.specs.Order.{key_cmp}
use Rattle.ct_types.specs.declared.value.Key.{Key}
use Rattle.ct_types.proofs.Orders.{key_cmp_exact}
use Rattle.ct_ptree.specs.declared.pair.Pair.{Pair}
use Rattle.ct_ptree.specs.Pairs.{is_at, is_below, is_above, value_at, with_pair, set_pair}
use Rattle.ct_locks.specs.declared.taken.Taken.{Taken}
use Rattle.ct_locks.specs.declared.key_sets.KeySet.{KeySet}
use Rattle.ct_locks.specs.Holdings.{is_on, has_key, IsKept}

or_true : (a : Bool) → (a || true) ≡ true
or_true true = refl
or_true false = refl

or_false : (a : Bool) → (a || false) ≡ a
or_false true = refl
or_false false = refl

or_assoc : (a b c : Bool) → ((a || b) || c) ≡ (a || (b || c))
or_assoc true b c = refl
or_assoc false b c = refl

and_false : (a : Bool) → (a && false) ≡ false
and_false true = refl
and_false false = refl

or_spread : (a v r c : Bool) → ((a && (v || c)) || r) ≡ (((a && v) || r) || (a && c))
or_spread false v r c = sym (or_false r)
or_spread true true r c = refl
or_spread true false true c = or_true c
or_spread true false false c = or_false c

or_front : (x a p b m : Bool) → (a || (p || b)) ≡ (m || p) → ((x || a) || (p || b)) ≡ ((x || m) || p)
or_front true a p b m e = refl
or_front false a p b m e = e

or_back : (x a p b m : Bool) → (a || (p || b)) ≡ (m || p) → (a || (p || (x || b))) ≡ ((x || m) || p)
or_back false a p b m e = e
or_back true a true b m e = or_true a
or_back true a false b m e = or_true a

or_twice : (p a b m : Bool) → (a || (p || b)) ≡ (m || p) → (a || (p || b)) ≡ ((p || m) || p)
or_twice true a b m e = or_true a
or_twice false a b m e = e

module _ {V : Type 0} where
  some_found : (p : Pair V → Bool) (xs : List (Pair V)) → is_some (option_map (λ (pair : Pair V). pair.value) (find p xs)) ≡ list_any p xs
  some_found p [] = refl
  some_found p (x ∷ xs) =
      let step : (b : Bool) → b ≡ p x → is_some (option_map (λ (pair : Pair V). pair.value) (find p (x ∷ xs))) ≡ list_any p (x ∷ xs) =
      elim [ true ↦ (λ h. rw (← h) refl) | false ↦ (λ h. rw (← h) (some_found p xs)) ] in
      step (p x) refl

  any_with : (key : Key) (pair : Pair V) (xs : List (Pair V))
      → (list_any (is_at key) (filter (is_below pair.key) xs) || (is_at key pair || list_any (is_at key) (filter (is_above pair.key) xs))) ≡ (list_any (is_at key) xs || is_at key pair)
  any_with key pair [] = or_false (is_at key pair)
  any_with key pair (x ∷ xs) =
      let rest = any_with key pair xs in
      let lows = list_any (is_at key) (filter (is_below pair.key) xs) in
      let highs = list_any (is_at key) (filter (is_above pair.key) xs) in
      let all = list_any (is_at key) xs in
      let step : (o : Ordering) → key_cmp x.key pair.key ≡ o →
      (list_any (is_at key) (filter (is_below pair.key) (x ∷ xs)) || (is_at key pair || list_any (is_at key) (filter (is_above pair.key) (x ∷ xs)))) ≡ (list_any (is_at key) (x ∷ xs) || is_at key pair) =
      elim [
        | Less ↦ (λ h. rw h (or_front (is_at key x) lows (is_at key pair) highs all rest))
        | Equal ↦ (λ h. let same : is_at key x ≡ is_at key pair = ap (λ k. is_eq (key_cmp k key)) (key_cmp_exact x.key pair.key h) in
            rw (h, same) (or_twice (is_at key pair) lows highs all rest))
        | Greater ↦ (λ h. rw h (or_back (is_at key x) lows (is_at key pair) highs all rest))
      ] in
      step (key_cmp x.key pair.key) refl

  pub has_with : (xs : List (Pair V)) (k : Key) (v : V) (key : Key) → is_some (value_at (set_pair xs k v) key) ≡ (is_some (value_at xs key) || is_eq (key_cmp k key))
  has_with xs k v key =
      let pair : Pair V = record { key = k; value = v } in
      some_found (is_at key) (with_pair xs pair)
      ∙ list_any-append (is_at key) (filter (is_below k) xs) (pair ∷ filter (is_above k) xs)
      ∙ any_with key pair xs
      ∙ ap (λ b. b || is_eq (key_cmp k key)) (sym (some_found (is_at key) xs))

-- ---- a list of sets

-- an empty set more
pub push_has : (sets made : List KeySet) (added : KeySet) → added.keys ≡ [] → made ≡ sets ++ added ∷ [] → (table : ℕ) (key : Key) → has_key made table key ≡ has_key sets table key
push_has sets made added none is table key =
    let test : KeySet → Bool = λ (set : KeySet). (set.table == table) && is_some (value_at set.keys key) in
    let lacks : test added ≡ false = ap (λ pairs. (added.table == table) && is_some (value_at pairs key)) none ∙ and_false (added.table == table) in
    ap (λ xs. has_key xs table key) is ∙ list_any-append test sets (added ∷ [])
    ∙ ap (λ b. list_any test sets || (b || false)) lacks ∙ or_false (list_any test sets)

-- more keys in the set at a place
set_has : (sets : List KeySet) (i : ℕ) (d : KeySet) (table : ℕ) (news : List (Pair (Unit {0}))) (added : Key → Bool) → i < length sets → (get_or sets i d).table ≡ table
    → ((key : Key) → is_some (value_at news key) ≡ (is_some (value_at (get_or sets i d).keys key) || added key))
    → (t : ℕ) (k : Key) → has_key (set sets i (record { table = (get_or sets i d).table; keys = news })) t k ≡ (has_key sets t k || ((table == t) && added k))
set_has [] i d table news added within at has t k = absurd (omega arith)
set_has (x ∷ xs) zero d table news added within at has t k =
    ap (λ b. ((x.table == t) && b) || has_key xs t k) (has k)
    ∙ or_spread (x.table == t) (is_some (value_at x.keys k)) (has_key xs t k) (added k)
    ∙ ap (λ n. ((((x.table == t) && is_some (value_at x.keys k)) || has_key xs t k) || ((n == t) && added k))) at
set_has (x ∷ xs) (suc i) d table news added within at has t k =
    ap (λ b. ((x.table == t) && is_some (value_at x.keys k)) || b) (set_has xs i d table news added (omega arith) at has t k)
    ∙ sym (or_assoc ((x.table == t) && is_some (value_at x.keys k)) (has_key xs t k) ((table == t) && added k))

-- a key more in the set of its table
pub key_put : (before sets made : List KeySet) (i : ℕ) (item : KeySet) (taken : Taken) (copied : Key) (news : List (Pair (Unit {0}))) (v : Unit {0})
    → ((t : ℕ) (k : Key) → has_key sets t k ≡ has_key before t k) → i < length sets → item ≡ get_or sets i item → ((d : KeySet) → (get_or sets i d).table ≡ taken.table)
    → copied ≡ taken.key → news ≡ set_pair item.keys copied v → made ≡ set sets i (record { table = item.table; keys = news })
    → (t : ℕ) (k : Key) → has_key made t k ≡ (has_key before t k || is_on t k taken)
key_put before sets made i item taken copied news v same within is at copy put whole t k =
    let one : item.table ≡ (get_or sets i item).table = ap (λ (s : KeySet). s.table) is in
    let there : made ≡ set sets i (record { table = (get_or sets i item).table; keys = news }) = whole ∙ ap (λ (n : ℕ). set sets i (record { table = n; keys = news })) one in
    let has : (key : Key) → is_some (value_at news key) ≡ (is_some (value_at (get_or sets i item).keys key) || is_eq (key_cmp taken.key key)) =
    λ key. ap (λ pairs. is_some (value_at pairs key)) put ∙ has_with item.keys copied v key
    ∙ ap₂ (λ (s : KeySet) (c : Key). is_some (value_at s.keys key) || is_eq (key_cmp c key)) is copy in
    ap (λ xs. has_key xs t k) there
    ∙ set_has sets i item taken.table news (λ key. is_eq (key_cmp taken.key key)) within (at item) has t k
    ∙ ap (λ b. b || is_on t k taken) (same t k)

-- sets that have the first of some keys, and then one more
pub more_has : (before made after : List KeySet) (added : List Taken) (i : ℕ) (item : Taken) → i < length added → item ≡ get_or added i item
    → ((t : ℕ) (k : Key) → has_key after t k ≡ (has_key made t k || is_on t k item)) → ((t : ℕ) (k : Key) → has_key made t k ≡ (has_key before t k || list_any (is_on t k) (take i added)))
    → (t : ℕ) (k : Key) → has_key after t k ≡ (has_key before t k || list_any (is_on t k) (take (i + 1) added))
more_has before made after added i item within is put so_far t k =
    let test : Taken → Bool = is_on t k in
    let more : list_any test (take (i + 1) added) ≡ (list_any test (take i added) || test item) =
    list_any_more test added i item within ∙ ap (λ x. list_any test (take i added) || test x) (sym is) in
    put t k ∙ ap (λ b. b || test item) (so_far t k)
    ∙ or_assoc (has_key before t k) (list_any test (take i added)) (test item)
    ∙ ap (λ b. has_key before t k || b) (sym more)

-- sets that have none of them yet
pub none_has : (before made : List KeySet) → made ≡ before → (t : ℕ) (k : Key) → has_key made t k ≡ (has_key before t k || false)
none_has before made same t k = ap (λ xs. has_key xs t k) same ∙ sym (or_false (has_key before t k))

-- and sets that have all
pub all_has : (before made : List KeySet) (added : List Taken) (i : ℕ) → length added ≤ i → ((t : ℕ) (k : Key) → has_key made t k ≡ (has_key before t k || list_any (is_on t k) (take i added)))
    → (t : ℕ) (k : Key) → has_key made t k ≡ (has_key before t k || list_any (is_on t k) added)
all_has before made added i over so_far t k = so_far t k ∙ ap (λ xs. has_key before t k || list_any (is_on t k) xs) (take_all i added over)

-- the sets of what was taken, with those of what was added
pub kept_more : (taken added all : List Taken) (sets made : List KeySet) → IsKept taken sets → ((t : ℕ) (k : Key) → has_key made t k ≡ (has_key sets t k || list_any (is_on t k) added))
    → all ≡ taken ++ added → length taken + length added < 2 ^ 32 → IsKept all made
kept_more taken added all sets made kept more whole few = record {
  has = λ t k.
      more t k ∙ ap (λ b. b || list_any (is_on t k) added) (kept.has t k)
      ∙ sym (ap (list_any (is_on t k)) whole ∙ list_any-append (is_on t k) taken added);
  few = rw (whole, length-append taken added) few;
}
