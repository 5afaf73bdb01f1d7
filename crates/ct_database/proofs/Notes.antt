-- Versions that are noted by table and key: what one more note makes of them.
use Rattle.std.proofs.Common.{◌≡◌, ℕ, ◌+◌, ◌<◌, ◌==◌, length, take, drop, get_or, take-append-drop, pos, Bool, true, false, cond, ◌&&◌, ◌||◌, List, [], ◌∷◌, ◌++◌, map, filter, find, Option, None, Some, is_some, option_map, int_cmp, if◌then◌else◌, refl, sym, ap, ap₂, ◌∙◌, arith}
use Rattle.std.specs.List.{list_any}
use Rattle.std.specs.Option.{option_or}
use Rattle.std.specs.Ordering.{is_lt, is_eq, is_gt, ordering_then}
use Rattle.std.specs.declared.cmp.Ordering.{Ordering}
use Rattle.std.specs.declared.cmp.Ordering.TheVariants.{Less, Equal, Greater}
use Rattle.std.proofs.lemmas.Bool.Decides.{nat_tests}
use Rattle.std.proofs.lemmas.List.Folds.{find-append, list_any-append}
use Rattle.ct_types.specs.Order.{key_cmp}
use Rattle.ct_types.proofs.Orders.{key_cmp_total, key_cmp_exact}
use Rattle.ct_types.specs.declared.value.Key.{Key}
use Rattle.ct_types.specs.declared.entry.Change.{Change}
use Rattle.ct_model.specs.declared.db.Dated.{Dated}
use Rattle.ct_model.specs.Net.{last_of, window}
use Rattle.ct_ptree.specs.declared.pair.Pair.{Pair}
use Rattle.ct_ptree.proofs.Lists.{take_at}
use Rattle.ct_ptree.proofs.Rising.{turned, flipped}
use Rattle.ct_ptree.specs.Pairs.{is_at, is_below, is_above, value_at, set_pair, without}
use Rattle.ct_database.specs.Steps.{dated, last_here, is_of, own_key, NotesStay}

-- ---- the value of a key after a put

find_kept : {X : Type 0} (test keep : X → Bool) → ((x : X) → test x ≡ true → keep x ≡ true) → (xs : List X) → find test (filter keep xs) ≡ find test xs
find_kept test keep passes [] = refl
find_kept test keep passes (x ∷ xs) =
    let more : find test (filter keep xs) ≡ find test xs = find_kept test keep passes xs in
    let hit : (t k : Bool) → (t ≡ true → k ≡ true) → test x ≡ t → find test (cond k (x ∷ filter keep xs) (filter keep xs)) ≡ cond t (Some x) (find test xs) =
    (λ t k. elim t as (λ (t : Bool). (t ≡ true → k ≡ true) → test x ≡ t → find test (cond k (x ∷ filter keep xs) (filter keep xs)) ≡ cond t (Some x) (find test xs)) [
      | true ↦ (λ w e. ap (λ (k : Bool). find test (cond k (x ∷ filter keep xs) (filter keep xs))) (w refl) ∙ ap (λ (t : Bool). cond t (Some x) (find test (filter keep xs))) e)
      | false ↦
          (λ w e. elim k as (λ (k : Bool). find test (cond k (x ∷ filter keep xs) (filter keep xs)) ≡ find test xs)
          [ true ↦ ap (λ (t : Bool). cond t (Some x) (find test (filter keep xs))) e ∙ more | false ↦ more ])
    ]) in
    hit (test x) (keep x) (passes x) refl

find_gone : {X : Type 0} (test keep : X → Bool) → ((x : X) → keep x ≡ true → test x ≡ false) → (xs : List X) → find test (filter keep xs) ≡ None
find_gone test keep fails [] = refl
find_gone test keep fails (x ∷ xs) =
    let step : (k : Bool) → (k ≡ true → test x ≡ false) → find test (cond k (x ∷ filter keep xs) (filter keep xs)) ≡ None =
    elim [ true ↦ (λ w. ap (λ (t : Bool). cond t (Some x) (find test (filter keep xs))) (w refl) ∙ find_gone test keep fails xs) | false ↦ (λ w. find_gone test keep fails xs) ] in
    step (keep x) (fails x)

equal_is : (o : Ordering) → is_eq o ≡ true → o ≡ Equal
equal_is Less e = absurd (let bad : false ≡ true = e in cc)
equal_is Equal e = refl
equal_is Greater e = absurd (let bad : false ≡ true = e in cc)

less_is : (o : Ordering) → is_lt o ≡ true → o ≡ Less
less_is Less e = refl
less_is Equal e = absurd (let bad : false ≡ true = e in cc)
less_is Greater e = absurd (let bad : false ≡ true = e in cc)

greater_is : (o : Ordering) → is_gt o ≡ true → o ≡ Greater
greater_is Less e = absurd (let bad : false ≡ true = e in cc)
greater_is Equal e = absurd (let bad : false ≡ true = e in cc)
greater_is Greater e = refl

or_nothing : {X : Type 0} (o : Option X) → option_or o None ≡ o
or_nothing None = refl
or_nothing (Some x) = refl

module _ {V : Type 0} where
  at_key : (pair : Pair V) (key : Key) → is_at key pair ≡ true → pair.key ≡ key
  at_key pair key e = key_cmp_exact pair.key key (equal_is (key_cmp pair.key key) e)

  -- what stands below a key or above it has the values of all other keys
  low_none : (pairs : List (Pair V)) (key other : Key) → key_cmp key other ≡ Less → find (is_at other) (filter (is_below key) pairs) ≡ None
  low_none pairs key other e =
      find_gone (is_at other) (is_below key) (λ p below. ap is_eq (key_cmp_total.trans p.key key other (less_is (key_cmp p.key key) below) e)) pairs

  high_all : (pairs : List (Pair V)) (key other : Key) → key_cmp key other ≡ Less → find (is_at other) (filter (is_above key) pairs) ≡ find (is_at other) pairs
  high_all pairs key other e =
      find_kept (is_at other) (is_above key) (λ p at. ap (λ (k : Key). is_gt (key_cmp k key)) (at_key p other at) ∙ ap is_gt (flipped other key e)) pairs

  low_all : (pairs : List (Pair V)) (key other : Key) → key_cmp key other ≡ Greater → find (is_at other) (filter (is_below key) pairs) ≡ find (is_at other) pairs
  low_all pairs key other e =
      find_kept (is_at other) (is_below key) (λ p at. ap (λ (k : Key). is_lt (key_cmp k key)) (at_key p other at) ∙ ap is_lt (turned key other e)) pairs

  high_none : (pairs : List (Pair V)) (key other : Key) → key_cmp key other ≡ Greater → find (is_at other) (filter (is_above key) pairs) ≡ None
  high_none pairs key other e =
      find_gone (is_at other) (is_above key)
      (λ p above. ap is_eq (flipped p.key other (key_cmp_total.trans other key p.key (turned key other e) (turned p.key key (greater_is (key_cmp p.key key) above))))) pairs

  -- a put changes the value of its key alone
  pub value_put : (pairs : List (Pair V)) (key : Key) (value : V) (other : Key) → value_at (set_pair pairs key value) other ≡ (if is_eq (key_cmp key other) then Some value else value_at pairs other)
  value_put pairs key value other =
      let pair : Pair V = record { key = key; value = value } in
      let lows : List (Pair V) = filter (is_below key) pairs in
      let highs : List (Pair V) = filter (is_above key) pairs in
      let shown : Option (Pair V) → Option V = option_map (λ (pair : Pair V). pair.value) in
      let parts : find (is_at other) (lows ++ pair ∷ highs) ≡ option_or (find (is_at other) lows) (cond (is_eq (key_cmp key other)) (Some pair) (find (is_at other) highs)) = find-append (is_at other) lows (pair ∷ highs) in
      let step : (o : Ordering) → key_cmp key other ≡ o
      → shown (option_or (find (is_at other) lows) (cond (is_eq o) (Some pair) (find (is_at other) highs))) ≡ (if is_eq o then Some value else value_at pairs other) =
      elim [
        | Less ↦ (λ e. ap₂ (λ (a b : Option (Pair V)). shown (option_or a b)) (low_none pairs key other e) (high_all pairs key other e))
        | Equal ↦
            (λ e. let same : key ≡ other = key_cmp_exact key other e in
            let no_low : find (is_at other) lows ≡ None = find_gone (is_at other) (is_below key)
            (λ p below. ap (λ (k : Key). is_eq (key_cmp p.key k)) (sym same) ∙ ap is_eq (less_is (key_cmp p.key key) below)) pairs in
            ap (λ (a : Option (Pair V)). shown (option_or a (Some pair))) no_low)
        | Greater ↦
            (λ e. ap₂ (λ (a b : Option (Pair V)). shown (option_or a b)) (low_all pairs key other e) (high_none pairs key other e)
            ∙ ap shown (or_nothing (find (is_at other) pairs)))
      ] in
      ap shown parts ∙ step (key_cmp key other) refl

  -- a removal changes the value of its key alone
  value_taken : (pairs : List (Pair V)) (key other : Key) → is_eq (key_cmp key other) ≡ false → value_at (without pairs key) other ≡ value_at pairs other
  value_taken pairs key other differs =
      let shown : Option (Pair V) → Option V = option_map (λ (pair : Pair V). pair.value) in
      let lows : List (Pair V) = filter (is_below key) pairs in
      let highs : List (Pair V) = filter (is_above key) pairs in
      let step : (o : Ordering) → key_cmp key other ≡ o → is_eq o ≡ false → shown (option_or (find (is_at other) lows) (find (is_at other) highs)) ≡ value_at pairs other =
      elim [
        | Less ↦ (λ e no. ap₂ (λ (a b : Option (Pair V)). shown (option_or a b)) (low_none pairs key other e) (high_all pairs key other e))
        | Equal ↦ (λ e no. absurd (let bad : true ≡ false = no in cc))
        | Greater ↦
            (λ e no. ap₂ (λ (a b : Option (Pair V)). shown (option_or a b)) (low_all pairs key other e) (high_none pairs key other e)
            ∙ ap shown (or_nothing (find (is_at other) pairs)))
      ] in
      ap shown (find-append (is_at other) lows highs) ∙ step (key_cmp key other) refl differs

-- ---- notes

and_then : (a b : Ordering) → is_eq (ordering_then a b) ≡ (is_eq a && is_eq b)
and_then Less b = refl
and_then Equal b = refl
and_then Greater b = refl

same_number : (a b : ℕ) → is_eq (int_cmp (pos a) (pos b)) ≡ (a == b)
same_number a b = grind (arith, nat_tests)

-- a note is one of a table and key where its change is
own_is : (change : Change) (table : ℕ) (key : Key) → is_eq (key_cmp (own_key change.table change.key) (own_key table key)) ≡ is_of table key change
unfolding own_key
own_is change table key =
    and_then (int_cmp (pos change.table) (pos table)) (key_cmp change.key key) ∙ ap (λ (b : Bool). b && is_eq (key_cmp change.key key)) (same_number change.table table)

pub note_is : {V : Type 0} (notes : List (Pair V)) (change : Change) (value : V) (table : ℕ) (key : Key)
    → value_at (set_pair notes (own_key change.table change.key) value) (own_key table key) ≡ (if is_of table key change then Some value else value_at notes (own_key table key))
note_is {V} notes change value table key =
    value_put notes (own_key change.table change.key) value (own_key table key) ∙ ap (λ (b : Bool). if b then Some value else value_at notes (own_key table key)) (own_is change table key)

-- ---- whether a commit has a change of a key

last_some : (first : Dated) (more : List Dated) → is_some (last_of (first ∷ more)) ≡ true
last_some first [] = refl
last_some first (next ∷ more) = last_some next more

pub has_last : (table version : ℕ) (key : Key) (changes : List Change) → is_some (last_here table version key changes) ≡ list_any (is_of table key) changes
has_last table version key [] = refl
has_last table version key (change ∷ changes) =
    let rest : List Change = filter (λ change. change.table == table) changes in
    let more : is_some (last_here table version key changes) ≡ list_any (is_of table key) changes = has_last table version key changes in
    let of_key : (b : Bool) → is_some (last_of (cond b (dated version change ∷ window (map (dated version) rest) key) (window (map (dated version) rest) key))) ≡ (b || list_any (is_of table key) changes) =
    elim [ true ↦ last_some (dated version change) (window (map (dated version) rest) key) | false ↦ more ] in
    let of_table : (b : Bool) → is_some (last_of (window (map (dated version) (cond b (change ∷ rest) rest)) key)) ≡ ((b && is_eq (key_cmp change.key key)) || list_any (is_of table key) changes) =
    elim [ true ↦ of_key (is_eq (key_cmp change.key key)) | false ↦ more ] in
    of_table (change.table == table)

pub none_of_last : (table version : ℕ) (key : Key) (changes : List Change) → last_here table version key changes ≡ None → list_any (is_of table key) changes ≡ false
none_of_last table version key changes e = sym (has_last table version key changes) ∙ ap is_some e

pub some_of_last : (table version : ℕ) (key : Key) (changes : List Change) (last : Dated) → last_here table version key changes ≡ Some last → list_any (is_of table key) changes ≡ true
some_of_last table version key changes last e = sym (has_last table version key changes) ∙ ap is_some e

-- ---- notes one after another

or_left : (a b : Bool) → (a || b) ≡ false → a ≡ false
or_left true b e = absurd (let bad : true ≡ false = e in cc)
or_left false b e = refl

pub any_front : {X : Type 0} (test : X → Bool) (i : ℕ) (xs : List X) → list_any test xs ≡ false → list_any test (take i xs) ≡ false
any_front test i xs none =
    or_left (list_any test (take i xs)) (list_any test (drop i xs)) (sym (list_any-append test (take i xs) (drop i xs)) ∙ ap (list_any test) (take-append-drop i xs) ∙ none)

-- what is not changed is noted as before
pub unchanged : (notes start : List (Pair ℕ)) (changes : List Change) (i version table : ℕ) (key : Key)
    → value_at notes (own_key table key) ≡ (if list_any (is_of table key) (take i changes) then Some version else value_at start (own_key table key))
    → list_any (is_of table key) changes ≡ false → value_at notes (own_key table key) ≡ value_at start (own_key table key)
unchanged notes start changes i version table key so_far none =
    so_far ∙ ap (λ (b : Bool). if b then Some version else value_at start (own_key table key)) (any_front (is_of table key) i changes none)

-- one more change is noted
pub noted_more : (notes made start : List (Pair ℕ)) (changes : List Change) (i version : ℕ) (change : Change) (own : Key) (table : ℕ) (key : Key) → i < length changes → change ≡ get_or changes i change
    → own ≡ own_key change.table change.key → made ≡ set_pair notes own version
    → value_at notes (own_key table key) ≡ (if list_any (is_of table key) (take i changes) then Some version else value_at start (own_key table key))
    → value_at made (own_key table key) ≡ (if list_any (is_of table key) (take (i + 1) changes) then Some version else value_at start (own_key table key))
noted_more notes made start changes i version change own table key within is at put so_far =
    let old : Option ℕ = value_at start (own_key table key) in
    let any : Bool = list_any (is_of table key) (take i changes) in
    let both : (a b : Bool) → (if b then Some version else (if a then Some version else old)) ≡ (if a || (b || false) then Some version else old) =
    (λ a b. elim a as (λ (a : Bool). (if b then Some version else (if a then Some version else old)) ≡ (if a || (b || false) then Some version else old)) [
      | true ↦ elim b as (λ (b : Bool). (if b then Some version else Some version) ≡ Some version) [ true ↦ refl | false ↦ refl ]
      | false ↦ elim b as (λ (b : Bool). (if b then Some version else old) ≡ (if b || false then Some version else old)) [ true ↦ refl | false ↦ refl ]
    ]) in
    ap (λ (pairs : List (Pair ℕ)). value_at pairs (own_key table key)) (put ∙ ap (λ (k : Key). set_pair notes k version) at)
    ∙ note_is notes change version table key
    ∙ ap (λ (o : Option ℕ). if is_of table key change then Some version else o) so_far
    ∙ both any (is_of table key change)
    ∙ ap (λ (b : Bool). if b then Some version else old)
    (sym (ap (list_any (is_of table key)) (take_at changes i change within is) ∙ list_any-append (is_of table key) (take i changes) (change ∷ [])))

-- ---- notes that are removed

-- a removal leaves what is noted above a version, where none such is noted at the key
pub stay_taken : (notes : List (Pair ℕ)) (own : Key) (version : ℕ) → ((noted : ℕ) → version < noted → value_at notes own ≡ Some noted → ⊥) → NotesStay version notes (without notes own)
stay_taken notes own version stale =
    λ noted above key has.
    let step : (b : Bool) → is_eq (key_cmp own key) ≡ b → value_at (without notes own) key ≡ Some noted =
    elim [
      | true ↦ (λ e. let same : own ≡ key = key_cmp_exact own key (equal_is (key_cmp own key) e) in absurd (stale noted above (ap (value_at notes) same ∙ has)))
      | false ↦ (λ e. value_taken notes own key e ∙ has)
    ] in
    step (is_eq (key_cmp own key)) refl
