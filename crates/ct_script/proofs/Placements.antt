-- Putting the statements of a phase into lanes gives the lanes of the phase.
use Rattle.std.proofs.Common.{◌≡◌, ℕ, ◌+◌, ◌<◌, ◌^◌, ◌≢◌, ◌||◌, not, nat_eq, zero, suc, Bool, true, false, cond, filter, List, [], ◌∷◌, ◌++◌, map, fold, length, set, get_or, count_by, slice_index, sum_by, append_assoc, length-append, get_or-set_other, replicate, refl, sym, ap, ◌∙◌, arith}
use Rattle.std.specs.List.{list_any, prefix_len, position_or_len, IsDistinct, AllByRecursion, flat_map}
use Rattle.std.proofs.lemmas.Bool.Decides.{nat_tests}
use Rattle.std.proofs.lemmas.List.Sums.{fold_push, length-filter, sum_by-append, count_by-le-length}
use Rattle.std.proofs.lemmas.List.Concat.{length-flat_map}
use Rattle.std.proofs.lemmas.Grind.{common_steps, flat_map-append}
use Rattle.indexmap.specs.IndexSet.{insert_key}
use Rattle.ct_script.specs.Statements.{Statement}
use Rattle.ct_script.specs.Schedule.{is_of, named, texts_of, lanes_of, scheduled}
use Rattle.ct_script.specs.declared.script.Phase.{Phase}
use Rattle.ct_script.specs.Placing.{placed, with_text_at, lane_from, Counted}
use Rattle.ct_script.specs.declared.script.Lane.{Lane}

-- a text added by a write at an index
pub with_text_at-set : (n : ℕ) (lanes : List Lane) (x y : Lane) (text : List ℕ) → x ≡ get_or lanes n x → y ≡ record x { statements = x.statements ++ text ∷ [] } → set lanes n y ≡ with_text_at n text lanes
with_text_at-set zero [] x y text at is = refl
with_text_at-set (suc n) [] x y text at is = refl
with_text_at-set zero (lane ∷ lanes) x y text at is =
    ap (λ l. l ∷ lanes) (is ∙ ap (λ (l : Lane). record l { statements = l.statements ++ text ∷ [] }) at)
with_text_at-set (suc n) (lane ∷ lanes) x y text at is = ap (λ l. lane ∷ l) (with_text_at-set n lanes x y text at is)

-- tests of numbers
same_number : (a b : ℕ) → nat_eq a b ≡ true → a ≡ b
same_number a b h = grind (arith, nat_tests)

or_second : (a b : Bool) → (a || b) ≡ false → b ≡ false
or_second true b h = cc
or_second false b h = h

or_first : (a b : Bool) → (a || b) ≡ false → a ≡ false
or_first true b h = cc
or_first false b h = refl

-- a session that is not among those with one more is not the one more
not_pushed : (s k : ℕ) (xs : List ℕ) → list_any (nat_eq s) (xs ++ k ∷ []) ≡ false → nat_eq s k ≡ false
not_pushed s k [] h = or_first (nat_eq s k) false h
not_pushed s k (x ∷ xs) h = not_pushed s k xs (or_second (nat_eq s x) _ h)

not_inserted : (s k : ℕ) (xs : List ℕ) → list_any (nat_eq s) (insert_key nat_eq xs k) ≡ false → nat_eq s k ≡ false
not_inserted s k xs h = by (list_any (nat_eq k) xs) refl
  where
    by : (b : Bool) → list_any (nat_eq k) xs ≡ b → nat_eq s k ≡ false
    by true e =
        let kept : list_any (nat_eq s) xs ≡ false = sym (ap (λ b. list_any (nat_eq s) (cond b xs (xs ++ k ∷ []))) e) ∙ h in
        same (nat_eq s k) refl kept
      where
        same : (b : Bool) → nat_eq s k ≡ b → list_any (nat_eq s) xs ≡ false → nat_eq s k ≡ false
        same true is kept = let found : list_any (nat_eq s) xs ≡ true = ap (λ n. list_any (nat_eq n) xs) (same_number s k is) ∙ e in cc
        same false is kept = is
    by false e = not_pushed s k xs (sym (ap (λ b. list_any (nat_eq s) (cond b xs (xs ++ k ∷ []))) e) ∙ h)

-- a session that is not named has no statement
absent_from : (s : ℕ) (acc : List ℕ) (done : List Statement) → list_any (nat_eq s) (fold (λ ks st. insert_key nat_eq ks st.session) acc done) ≡ false
    → (filter (is_of s) done ≡ []) × (list_any (nat_eq s) acc ≡ false)
absent_from s acc [] h = (refl, h)
absent_from s acc (st ∷ done) h =
    let later = absent_from s (insert_key nat_eq acc st.session) done h in
    let other : nat_eq s st.session ≡ false = not_inserted s st.session acc later.1 in
    (ap (λ b. cond b (st ∷ filter (is_of s) done) (filter (is_of s) done)) other ∙ later.0, kept acc st.session later.1)
  where
    kept : (xs : List ℕ) (k : ℕ) → list_any (nat_eq s) (insert_key nat_eq xs k) ≡ false → list_any (nat_eq s) xs ≡ false
    kept xs k g = by (list_any (nat_eq k) xs) refl
      where
        before : (ys : List ℕ) → list_any (nat_eq s) (ys ++ k ∷ []) ≡ false → list_any (nat_eq s) ys ≡ false
        before [] q = refl
        before (y ∷ ys) q = ap (λ b. b || list_any (nat_eq s) ys) (or_first (nat_eq s y) _ q) ∙ before ys (or_second (nat_eq s y) _ q)

        by : (b : Bool) → list_any (nat_eq k) xs ≡ b → list_any (nat_eq s) xs ≡ false
        by true e = sym (ap (λ b. list_any (nat_eq s) (cond b xs (xs ++ k ∷ []))) e) ∙ g
        by false e = before xs (sym (ap (λ b. list_any (nat_eq s) (cond b xs (xs ++ k ∷ []))) e) ∙ g)

pub filter-unnamed : (s : ℕ) (done : List Statement) → list_any (nat_eq s) (named done) ≡ false → filter (is_of s) done ≡ []
filter-unnamed s done h = (absent_from s [] done h).0

-- the texts with one statement more
texts_of-push : (s : ℕ) (done : List Statement) (st : Statement) → texts_of s (done ++ st ∷ []) ≡ texts_of s done ++ cond (nat_eq s st.session) (st.text ∷ []) []
texts_of-push s [] st = by (nat_eq s st.session)
  where
    by : (b : Bool) → map (λ (x : Statement). x.text) (cond b (st ∷ []) []) ≡ cond b (st.text ∷ []) []
    by true = refl
    by false = refl
texts_of-push s (x ∷ done) st = by (nat_eq s x.session) (texts_of-push s done st)
  where
    by : (b : Bool) → texts_of s (done ++ st ∷ []) ≡ texts_of s done ++ cond (nat_eq s st.session) (st.text ∷ []) [] → map (λ (y : Statement). y.text) (cond b (x ∷ filter (is_of s) (done ++ st ∷ [])) (filter (is_of s) (done ++ st ∷ [])))
        ≡ map (λ (y : Statement). y.text) (cond b (x ∷ filter (is_of s) done) (filter (is_of s) done)) ++ cond (nat_eq s st.session) (st.text ∷ []) []
    by true rest = ap (λ l. x.text ∷ l) rest
    by false rest = rest

append-nil : {X : Type 0} (xs : List X) → xs ++ [] ≡ xs
append-nil [] = refl
append-nil (x ∷ xs) = ap (λ l. x ∷ l) (append-nil xs)

module _ (counts : List ℕ) (done : List Statement) (st : Statement) where
  other_lane : (k : ℕ) → nat_eq st.session k ≡ false → lane_from counts done k ≡ lane_from counts (done ++ st ∷ []) k
  other_lane k other =
      let turned : nat_eq k st.session ≡ false = grind (arith, nat_tests) in
      ap (λ t. record { session = k; first = slice_index counts k + 1; statements = t })
      (sym (texts_of-push k done st ∙ ap (λ b. texts_of k done ++ cond b (st.text ∷ []) []) turned ∙ append-nil (texts_of k done)))

  own_texts : texts_of st.session done ++ st.text ∷ [] ≡ texts_of st.session (done ++ st ∷ [])
  own_texts =
      let own : nat_eq st.session st.session ≡ true = grind (arith, nat_tests) in
      sym (texts_of-push st.session done st ∙ ap (λ b. texts_of st.session done ++ cond b (st.text ∷ []) []) own)

  after_key : List ℕ → List Lane
  after_key keys = map (lane_from counts (done ++ st ∷ [])) keys

  others : (k : ℕ) (keys : List ℕ) → nat_eq st.session k ≡ true → AllByRecursion (λ y. nat_eq k y ≡ false) keys → map (lane_from counts done) keys ≡ after_key keys
  unfolding after_key
  others k [] is all = refl
  others k (x ∷ keys) is all =
      let e = other_lane x (ap (λ n. nat_eq n x) (same_number st.session k is) ∙ all.0) in
      ap (λ l. l ∷ map (lane_from counts done) keys) e ∙ ap (λ l. lane_from counts (done ++ st ∷ []) x ∷ l) (others k keys is all.1)

  -- the session has a lane
  present : (keys : List ℕ) → IsDistinct nat_eq keys → list_any (nat_eq st.session) keys ≡ true
      → with_text_at (position_or_len (nat_eq st.session) keys) st.text (map (lane_from counts done) keys) ≡ after_key keys
  unfolding after_key IsDistinct
  present [] distinct has = cc
  present (k ∷ keys) distinct has = by (nat_eq st.session k) refl (λ h. present keys distinct.1 h)
    where
      by : (b : Bool) → nat_eq st.session k ≡ b
          → (list_any (nat_eq st.session) keys ≡ true → with_text_at (position_or_len (nat_eq st.session) keys) st.text (map (lane_from counts done) keys) ≡ after_key keys)
          → with_text_at (cond (not (nat_eq st.session k)) (1 + prefix_len (λ x. not (nat_eq st.session x)) keys) 0) st.text (map (lane_from counts done) (k ∷ keys)) ≡ after_key (k ∷ keys)
      by true e later =
          ap (λ b. with_text_at (cond (not b) (1 + prefix_len (λ x. not (nat_eq st.session x)) keys) 0) st.text (map (lane_from counts done) (k ∷ keys))) e
          ∙ ap (λ n. record (lane_from counts done n) { statements = texts_of n done ++ st.text ∷ [] } ∷ map (lane_from counts done) keys) (sym (same_number st.session k e))
          ∙ ap (λ t. record { session = st.session; first = slice_index counts st.session + 1; statements = t } ∷ map (lane_from counts done) keys) own_texts
          ∙ ap (λ n. lane_from counts (done ++ st ∷ []) n ∷ map (lane_from counts done) keys) (same_number st.session k e)
          ∙ ap (λ l. lane_from counts (done ++ st ∷ []) k ∷ l) (others k keys e distinct.0)
      by false e later =
          let one : 1 + prefix_len (λ x. not (nat_eq st.session x)) keys ≡ suc (prefix_len (λ x. not (nat_eq st.session x)) keys) = omega arith in
          ap (λ b. with_text_at (cond (not b) (1 + prefix_len (λ x. not (nat_eq st.session x)) keys) 0) st.text (map (lane_from counts done) (k ∷ keys))) e
          ∙ ap (λ n. with_text_at n st.text (map (lane_from counts done) (k ∷ keys))) one
          ∙ ap (λ l. lane_from counts done k ∷ l) (later (sym (ap (λ b. b || list_any (nat_eq st.session) keys) e) ∙ has))
          ∙ ap (λ l. l ∷ after_key keys) (other_lane k e)

  -- it has none
  missing : (first : ℕ) (keys : List ℕ) → first ≡ slice_index counts st.session + 1 → filter (is_of st.session) done ≡ [] → list_any (nat_eq st.session) keys ≡ false
      → with_text_at (position_or_len (nat_eq st.session) keys) st.text (map (lane_from counts done) keys ++ record { session = st.session; first = first; statements = [] } ∷ []) ≡ after_key (keys ++ st.session ∷ [])
  unfolding after_key
  missing first [] number none has =
      ap (λ n. record { session = st.session; first = n; statements = st.text ∷ [] } ∷ []) number
      ∙ ap (λ t. record { session = st.session; first = slice_index counts st.session + 1; statements = t } ∷ [])
      (sym (ap (λ (l : List Statement). map (λ (x : Statement). x.text) l ++ st.text ∷ []) none) ∙ own_texts)
  missing first (k ∷ keys) number none has =
      let e = or_first (nat_eq st.session k) _ has in
      let one : 1 + prefix_len (λ x. not (nat_eq st.session x)) keys ≡ suc (prefix_len (λ x. not (nat_eq st.session x)) keys) = omega arith in
      let new : Lane = record { session = st.session; first = first; statements = [] } in
      ap (λ b. with_text_at (cond (not b) (1 + prefix_len (λ x. not (nat_eq st.session x)) keys) 0) st.text (map (lane_from counts done) (k ∷ keys) ++ new ∷ [])) e
      ∙ ap (λ n. with_text_at n st.text (map (lane_from counts done) (k ∷ keys) ++ new ∷ [])) one
      ∙ ap (λ l. lane_from counts done k ∷ l) (missing first keys number none (or_second (nat_eq st.session k) _ has))
      ∙ ap (λ l. l ∷ after_key (keys ++ st.session ∷ [])) (other_lane k e)

  -- one statement more
  pub placed-push : (first : ℕ) → IsDistinct nat_eq (named done) → first ≡ slice_index counts st.session + count_by (is_of st.session) done + 1
      → placed (named done) (map (lane_from counts done) (named done)) first st ≡ map (lane_from counts (done ++ st ∷ [])) (named (done ++ st ∷ []))
  unfolding after_key
  placed-push first distinct number = by (list_any (nat_eq st.session) (named done)) refl ∙ sym (ap (map (lane_from counts (done ++ st ∷ []))) (fold_push _ [] done st))
    where
      by : (b : Bool) → list_any (nat_eq st.session) (named done) ≡ b → placed (named done) (map (lane_from counts done) (named done)) first st ≡ map (lane_from counts (done ++ st ∷ [])) (insert_key nat_eq (named done) st.session)
      by true e =
          ap (λ b. with_text_at (position_or_len (nat_eq st.session) (named done)) st.text (cond b (map (lane_from counts done) (named done)) (map (lane_from counts done) (named done) ++ record { session = st.session; first = first; statements = [] } ∷ []))) e
          ∙ present (named done) distinct e
          ∙ sym (ap (λ b. map (lane_from counts (done ++ st ∷ [])) (cond b (named done) (named done ++ st.session ∷ []))) e)
      by false e =
          let none = filter-unnamed st.session done e in
          let zero_count : count_by (is_of st.session) done ≡ 0 = sym (length-filter (is_of st.session) done) ∙ ap length none in
          let first_is : first ≡ slice_index counts st.session + 1 = omega arith in
          ap (λ b. with_text_at (position_or_len (nat_eq st.session) (named done)) st.text (cond b (map (lane_from counts done) (named done)) (map (lane_from counts done) (named done) ++ record { session = st.session; first = first; statements = [] } ∷ []))) e
          ∙ missing first (named done) first_is none e
          ∙ sym (ap (λ b. map (lane_from counts (done ++ st ∷ [])) (cond b (named done) (named done ++ st.session ∷ []))) e)

-- the counts with one statement more
pub Counted-push : (old now : List ℕ) (done : List Statement) (st : Statement) → st.session < length now → Counted old done now → Counted old (done ++ st ∷ []) (set now st.session (get_or now st.session 0 + 1))
Counted-push old now done st within counted = λ s. by s (nat_eq s st.session) refl
  where
    by : (s : ℕ) (b : Bool) → nat_eq s st.session ≡ b → get_or (set now st.session (get_or now st.session 0 + 1)) s 0 ≡ slice_index old s + count_by (is_of s) (done ++ st ∷ [])
    by s true e =
        let more : count_by (is_of s) (done ++ st ∷ []) ≡ count_by (is_of s) done + 1 = fold_push _ 0 done st ∙ ap (λ b. count_by (is_of s) done + cond b 1 0) e in
        let same = same_number s st.session e in
        let before : get_or now s 0 ≡ slice_index old s + count_by (is_of s) done = counted s in
        let there : get_or (set now st.session (get_or now st.session 0 + 1)) st.session 0 ≡ get_or now st.session 0 + 1 = grind (arith, common_steps) in
        let here : get_or (set now st.session (get_or now st.session 0 + 1)) s 0 ≡ get_or now s 0 + 1 =
        ap (λ n. get_or (set now st.session (get_or now st.session 0 + 1)) n 0) same ∙ there ∙ ap (λ n. get_or now n 0 + 1) (sym same) in
        omega arith
    by s false e =
        let more : count_by (is_of s) (done ++ st ∷ []) ≡ count_by (is_of s) done + 0 = fold_push _ 0 done st ∙ ap (λ b. count_by (is_of s) done + cond b 1 0) e in
        let other : s ≢ st.session = grind (arith, nat_tests) in
        let before : get_or now s 0 ≡ slice_index old s + count_by (is_of s) done = counted s in
        let here : get_or (set now st.session (get_or now st.session 0 + 1)) s 0 ≡ get_or now s 0 = get_or-set_other now st.session s (get_or now st.session 0 + 1) 0 other in
        omega arith

-- all statements of phases
abbrev pub flat : List (List Statement) → List Statement
flat phases = flat_map (λ phase. phase) phases

length-flat : (phases : List (List Statement)) → length (flat phases) ≡ sum_by length phases
length-flat phases = length-flat_map (λ phase. phase) phases

-- a session's count and a further phase are within the whole
pub room : (all yielded rest : List (List Statement)) (phase : List Statement) (counts : List ℕ) → yielded ++ (phase ∷ rest) ≡ all → sum_by length all < 2 ^ 32
    → ((session : ℕ) → slice_index counts session ≡ count_by (is_of session) (flat yielded)) → (session : ℕ) → slice_index counts session + length phase < 2 ^ 32
room all yielded rest phase counts split few counted session =
    let whole : length (flat yielded) + (length phase + length (flat rest)) ≡ sum_by length all =
    sym (length-append (flat yielded) (phase ++ flat rest) ∙ ap (λ n. length (flat yielded) + n) (length-append phase (flat rest)))
    ∙ sym (ap length (flat_map-append (λ p. p) yielded (phase ∷ rest))) ∙ length-flat (yielded ++ (phase ∷ rest)) ∙ ap (sum_by length) split in
    omega (arith, counted session, count_by-le-length (is_of session) (flat yielded))

map-same : {X Y : Type 0} (f g : X → Y) (xs : List X) → ((x : X) → f x ≡ g x) → map f xs ≡ map g xs
map-same f g [] same = refl
map-same f g (x ∷ xs) same = ap (λ y. y ∷ map f xs) (same x) ∙ ap (λ l. g x ∷ l) (map-same f g xs same)

-- the lanes by counts are those by the statements of earlier phases
pub lanes-counted : (counts : List ℕ) (earlier phase : List Statement) → ((session : ℕ) → slice_index counts session ≡ count_by (is_of session) earlier) → map (lane_from counts phase) (named phase) ≡ lanes_of earlier phase
lanes-counted counts earlier phase counted =
    map-same _ _ (named phase) (λ k. ap (λ n. record { session = k; first = n + 1; statements = texts_of k phase }) (counted k))

-- the script with one phase more
pub scheduled-push : (earlier : List Statement) (phases : List (List Statement)) (phase : List Statement)
    → scheduled earlier (phases ++ phase ∷ []) ≡ scheduled earlier phases ++ record { restart = false; sessions = lanes_of (earlier ++ flat phases) phase } ∷ []
unfolding scheduled
scheduled-push earlier [] phase = ap (λ e. record { restart = false; sessions = lanes_of e phase } ∷ []) (sym (append-nil earlier))
scheduled-push earlier (p ∷ phases) phase =
    ap (λ l. record { restart = false; sessions = lanes_of earlier p } ∷ l)
    (scheduled-push (earlier ++ p) phases phase
    ∙ ap (λ e. scheduled (earlier ++ p) phases ++ record { restart = false; sessions = lanes_of e phase } ∷ []) (append_assoc earlier p (flat phases)))

-- the counts with one phase more
pub counted-phase : (old new : List ℕ) (yielded : List (List Statement)) (phase : List Statement) → ((session : ℕ) → slice_index old session ≡ count_by (is_of session) (flat yielded)) → Counted old phase new
    → (session : ℕ) → slice_index new session ≡ count_by (is_of session) (flat (yielded ++ phase ∷ []))
counted-phase old new yielded phase counted more session =
    more session ∙ ap (λ n. n + count_by (is_of session) phase) (counted session)
    ∙ sym (ap (count_by (is_of session)) (flat_map-append (λ p. p) yielded (phase ∷ []) ∙ ap (λ l. flat yielded ++ l) (append-nil phase)) ∙ sum_by-append _ (flat yielded) phase)

scheduled-nil : scheduled [] [] ≡ []
unfolding scheduled
scheduled-nil = refl

pub scheduled-none : (made : List Phase) → made ≡ [] → made ≡ scheduled [] []
scheduled-none made none = none ∙ sym scheduled-nil

pub no_counts_at : (n k : ℕ) → ◌≡◌ {A = ℕ} (get_or (replicate n 0) k 0) 0
no_counts_at zero k = refl
no_counts_at (suc n) zero = refl
no_counts_at (suc n) (suc k) = no_counts_at n k
