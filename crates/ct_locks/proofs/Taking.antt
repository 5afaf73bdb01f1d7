-- What a session holds, at its place; after it took keys, and after it let go of them, when what the others hold stays.
use Rattle.std.proofs.Common.{◌≡◌, ℕ, zero, suc, ◌+◌, ◌<◌, ◌≤◌, ◌^◌, ◌==◌, cond, Bool, true, false, List, [], ◌∷◌, ◌++◌, length, get_or, set, take, map, filter, Option, None, Some, option_map, refl, sym, ap, ap₂, ◌∙◌, append-nil, length-append, arith, eqb-true, eq-eqb, ne_eqb, le-leb, le-ltb, nat_le, nat_lt}
use borrow.Author.Tests.{eqb-false}
use Rattle.std.specs.List.{All, insert, remove}
use Rattle.std.proofs.lemmas.List.Elements.{filter-append}
use mathlib.Core.List.{map-map}
use Rattle.std.specs.Prelude.{slice_get}
use Rattle.std.proofs.lemmas.Option.{slice_get-map}
use Rattle.ct_types.specs.declared.entry.Write.{Write}
use Rattle.ct_types.specs.declared.value.Key.{Key}
use Rattle.ct_locks.specs.declared.taken.Taken.{Taken}
use Rattle.ct_locks.specs.Holders.{Lock, is_of, locks_of}
use Rattle.ct_locks.specs.Changes.{with_locks, with_taken, with_writes_taken, without_session}
use Rattle.ct_locks.specs.Holdings.{Holding, lock_of, taken_of, taken_on, with_more, all_locks, Rises}
use Rattle.ct_locks.proofs.Kept.{taken_by, block_all, none_behind, all_weaken, all_at, length_map, locks_by}
use Rattle.ct_locks.proofs.Moves.{set_locks, insert_locks, remove_locks, absent_locks, set_rises, insert_rises, remove_rises}

-- what passes one test, of what passes another one that it implies, or that rules it out
filter_within : {X : Type 0} (p q : X → Bool) → ((x : X) → p x ≡ true → q x ≡ true) → (xs : List X) → filter p (filter q xs) ≡ filter p xs
filter_within p q to [] = refl
filter_within p q to (x ∷ xs) =
    let rest = filter_within p q to xs in
    let step : (b c : Bool) → p x ≡ b → q x ≡ c → filter p (cond c (x ∷ filter q xs) (filter q xs)) ≡ cond b (x ∷ filter p xs) (filter p xs) =
    elim [
      | true ↦ elim [ true ↦ (λ e f. rw e (ap (λ all. x ∷ all) rest)) | false ↦ (λ e f. absurd (cc (to x e))) ]
      | false ↦ elim [ true ↦ (λ e f. rw e rest) | false ↦ (λ e f. rest) ]
    ] in
    step (p x) (q x) refl refl

filter_without : {X : Type 0} (p q : X → Bool) → ((x : X) → p x ≡ true → q x ≡ false) → (xs : List X) → filter p (filter q xs) ≡ []
filter_without p q to [] = refl
filter_without p q to (x ∷ xs) =
    let rest = filter_without p q to xs in
    let step : (b c : Bool) → p x ≡ b → q x ≡ c → filter p (cond c (x ∷ filter q xs) (filter q xs)) ≡ [] =
    elim [
      | true ↦ elim [ true ↦ (λ e f. absurd (cc (to x e))) | false ↦ (λ e f. rest) ]
      | false ↦ elim [ true ↦ (λ e f. rw e rest) | false ↦ (λ e f. rest) ]
    ] in
    step (p x) (q x) refl refl

-- a session that takes some has them behind its own
own_taken : (locks : List Lock) (s : ℕ) (added : List Taken) → locks_of (with_locks locks s (map (lock_of s) added)) s ≡ locks_of locks s ++ map (lock_of s) added
own_taken locks s added =
    let lows = filter (λ (lock : Lock). nat_le lock.session s) locks in
    let highs = filter (λ (lock : Lock). nat_lt s lock.session) locks in
    let taken = map (lock_of s) added in
    let low : filter (is_of s) lows ≡ locks_of locks s =
    filter_within (is_of s) (λ (lock : Lock). nat_le lock.session s) (λ lock e. let same : lock.session ≡ s = eqb-true lock.session s e in le-leb lock.session s (omega arith)) locks in
    let high : filter (is_of s) highs ≡ [] =
    filter_without (is_of s) (λ (lock : Lock). nat_lt s lock.session) (λ lock e. let same : lock.session ≡ s = eqb-true lock.session s e in le-ltb s lock.session (omega arith)) locks in
    filter-append (is_of s) lows (taken ++ highs)
    ∙ ap₂ (λ a b. a ++ b) low (filter-append (is_of s) taken highs ∙ ap₂ (λ a b. a ++ b) (block_all (is_of s) s (λ x. eq-eqb s s refl) added) high ∙ append-nil taken)

-- what is taken by keys of a table, and by writes
pub keys_taken : (locks : List Lock) (s table : ℕ) (keys : List Key) (added : List Taken) → added ≡ map (taken_on table) keys → with_locks locks s (map (lock_of s) added) ≡ with_taken locks s table keys
keys_taken locks s table keys added is = ap (with_locks locks s) (ap (map (lock_of s)) is ∙ map-map (lock_of s) (taken_on table) keys)

pub writes_taken : (locks : List Lock) (s : ℕ) (writes : List Write) (added : List Taken) → added ≡ map taken_of writes → with_locks locks s (map (lock_of s) added) ≡ with_writes_taken locks s writes
writes_taken locks s writes added is = ap (with_locks locks s) (ap (map (lock_of s)) is ∙ map-map (lock_of s) taken_of writes)

-- ---- one session's place

own_at : (s : ℕ) (hs : List Holding) (i : ℕ) (d : Holding) → Rises hs → i < length hs → (get_or hs i d).session ≡ s → taken_by hs s ≡ (get_or hs i d).taken
own_at s [] i d rises within at = absurd (omega arith)
own_at s (h ∷ more) zero d rises within at = let here : (h.session == s) ≡ true = eq-eqb h.session s at in rw here refl
own_at s (h ∷ more) (suc i) d rises within at =
    let lower : h.session < (get_or more i d).session = all_at (λ (later : Holding). h.session < later.session) more i d (omega arith) rises.0 in
    let off : (h.session == s) ≡ false = ne_eqb h.session s (λ e. omega (arith, lower, at, e)) in
    rw off (own_at s more i d rises.1 (omega arith) at)

own_absent : (s : ℕ) (hs : List Holding) (i : ℕ) → Rises hs → All (λ (h : Holding). h.session < s) (take i hs) → ((d : Holding) → i < length hs → s < (get_or hs i d).session) → taken_by hs s ≡ []
own_absent s [] i rises before at = refl
own_absent s (h ∷ more) zero rises before at =
    let here : s < h.session = at h (omega arith) in
    none_behind (h ∷ more) s (here, all_weaken (λ (later : Holding). h.session < later.session) (λ (later : Holding). s < later.session) (λ later lt. omega arith) more rises.0)
own_absent s (h ∷ more) (suc i) rises before at =
    let lower : h.session < s = before 0 h (omega arith) in
    let off : (h.session == s) ≡ false = ne_eqb h.session s (λ e. omega (arith, lower, e)) in
    rw off (own_absent s more i rises.1 (λ k d lt. before (suc k) d (omega arith)) (λ d lt. at d (omega arith)))

abbrev none_there : Holding
none_there = record { session = 0; taken = [] }

-- the sessions after one took some
pub record IsTaken (hs made : List Holding) (s : ℕ) (added : List Taken) : Type 0 where
  pub rises : Rises made
  pub all : all_locks made ≡ with_locks (all_locks hs) s (map (lock_of s) added)
  pub few : length (locks_of (all_locks made) s) < 2 ^ 32

few_of : (hs : List Holding) (made : List Lock) (s : ℕ) (added : List Taken) → Rises hs → made ≡ with_locks (all_locks hs) s (map (lock_of s) added) → length (taken_by hs s) + length added < 2 ^ 32 → length (locks_of made s) < 2 ^ 32
few_of hs made s added rises all few =
    let own : locks_of made s ≡ map (lock_of s) (taken_by hs s) ++ map (lock_of s) added =
    ap (λ locks. locks_of locks s) all ∙ own_taken (all_locks hs) s added ∙ ap (λ xs. xs ++ map (lock_of s) added) (locks_by hs rises s) in
    rw (own, length-append (map (lock_of s) (taken_by hs s)) (map (lock_of s) added), length_map (lock_of s) (taken_by hs s), length_map (lock_of s) added) few

pub more_taken : (hs made : List Holding) (i s : ℕ) (added : List Taken) (here : Bool) → Rises hs → here ≡ true → (here ≡ true → i < length hs)
    → ((d : Holding) → i < length hs → here ≡ ((get_or hs i d).session == s))
    → ((d : Holding) → made ≡ set hs i (with_more (get_or hs i d) added)) → ((d : Holding) → length (get_or hs i d).taken + length added < 2 ^ 32) → IsTaken hs made s added
more_taken hs made i s added here rises is_so within same is few =
    let d = none_there in
    let lt : i < length hs = within is_so in
    let at : (get_or hs i d).session ≡ s = eqb-true (get_or hs i d).session s (sym (same d lt) ∙ is_so) in
    let all : all_locks made ≡ with_locks (all_locks hs) s (map (lock_of s) added) = ap all_locks (is d) ∙ set_locks s added hs i d rises lt at in
    let fits : length (taken_by hs s) + length added < 2 ^ 32 = rw (own_at s hs i d rises lt at) (few d) in
    record {
      rises = rw (is d) (set_rises hs i d (with_more (get_or hs i d) added) rises lt refl);
      all = all;
      few = few_of hs (all_locks made) s added rises all fits;
    }

-- a session that does not stand at its place is not there
above_at : (hs : List Holding) (i s : ℕ) (here : Bool) → here ≡ false → ((d : Holding) → i < length hs → here ≡ ((get_or hs i d).session == s)) → ((d : Holding) → i < length hs → s ≤ (get_or hs i d).session)
    → (d : Holding) → i < length hs → s < (get_or hs i d).session
above_at hs i s here is_not same at d lt =
    let other : (get_or hs i d).session ≡ s → ⊥ = eqb-false (get_or hs i d).session s (sym (same d lt) ∙ is_not) in
    let least : s ≤ (get_or hs i d).session = at d lt in
    omega (arith, other, least)

pub first_taken : (hs made : List Holding) (i s : ℕ) (added : List Taken) (here : Bool) → Rises hs → here ≡ false → i ≤ length hs → All (λ (h : Holding). h.session < s) (take i hs)
    → ((d : Holding) → i < length hs → s ≤ (get_or hs i d).session) → ((d : Holding) → i < length hs → here ≡ ((get_or hs i d).session == s))
    → made ≡ insert hs i (record { session = s; taken = added }) → length added < 2 ^ 32 → IsTaken hs made s added
first_taken hs made i s added here rises is_not within before at same is few =
    let above = above_at hs i s here is_not same at in
    let all : all_locks made ≡ with_locks (all_locks hs) s (map (lock_of s) added) = ap all_locks is ∙ insert_locks s added hs i rises within before above in
    let fits : length (taken_by hs s) + length added < 2 ^ 32 = rw (own_absent s hs i rises before above) (omega arith) in
    record {
      rises = rw is (insert_rises s added hs i rises within before above);
      all = all;
      few = few_of hs (all_locks made) s added rises all fits;
    }

pub gone : (hs made : List Holding) (i s : ℕ) (here : Bool) → Rises hs → here ≡ true → (here ≡ true → i < length hs) → ((d : Holding) → i < length hs → here ≡ ((get_or hs i d).session == s))
    → made ≡ remove hs i → Rises made × (all_locks made ≡ without_session (all_locks hs) s)
gone hs made i s here rises is_so within same is =
    let d = none_there in
    let lt : i < length hs = within is_so in
    let at : (get_or hs i d).session ≡ s = eqb-true (get_or hs i d).session s (sym (same d lt) ∙ is_so) in
    (rw is (remove_rises hs i rises), ap all_locks is ∙ remove_locks s hs i d rises lt at)

pub never_there : (hs : List Holding) (i s : ℕ) (here : Bool) → Rises hs → here ≡ false → All (λ (h : Holding). h.session < s) (take i hs)
    → ((d : Holding) → i < length hs → s ≤ (get_or hs i d).session) → ((d : Holding) → i < length hs → here ≡ ((get_or hs i d).session == s)) → all_locks hs ≡ without_session (all_locks hs) s
never_there hs i s here rises is_not before at same = absent_locks s hs i rises before (above_at hs i s here is_not same at)

-- ---- the key at a place

key_of : (s : ℕ) (xs : List Taken) (place : ℕ) → option_map (λ (x : Taken). x.key) (slice_get xs place) ≡ option_map (λ (lock : Lock). lock.key) (slice_get (map (lock_of s) xs) place)
key_of s xs place =
    let step : (o : Option Taken) → option_map (λ (x : Taken). x.key) o ≡ option_map (λ (lock : Lock). lock.key) (option_map (lock_of s) o) = elim [ None ↦ refl | Some x ↦ refl ] in
    step (slice_get xs place) ∙ sym (ap (option_map (λ (lock : Lock). lock.key)) (slice_get-map (lock_of s) xs place))

pub key_there : (hs : List Holding) (i s place : ℕ) (here : Bool) (h : Holding) → Rises hs → here ≡ true → i < length hs → ((d : Holding) → i < length hs → here ≡ ((get_or hs i d).session == s)) → h ≡ get_or hs i h
    → option_map (λ (x : Taken). x.key) (slice_get h.taken place) ≡ option_map (λ (lock : Lock). lock.key) (slice_get (locks_of (all_locks hs) s) place)
key_there hs i s place here h rises is_so within same is =
    let at : (get_or hs i h).session ≡ s = eqb-true (get_or hs i h).session s (sym (same h within) ∙ is_so) in
    let own : h.taken ≡ taken_by hs s = ap (λ (x : Holding). x.taken) is ∙ sym (own_at s hs i h rises within at) in
    key_of s h.taken place
    ∙ ap (λ xs. option_map (λ (lock : Lock). lock.key) (slice_get xs place)) (ap (map (lock_of s)) own ∙ sym (locks_by hs rises s))

pub no_key_there : (hs : List Holding) (i s place : ℕ) (here : Bool) → Rises hs → here ≡ false → All (λ (h : Holding). h.session < s) (take i hs)
    → ((d : Holding) → i < length hs → s ≤ (get_or hs i d).session) → ((d : Holding) → i < length hs → here ≡ ((get_or hs i d).session == s))
    → None ≡ option_map (λ (lock : Lock). lock.key) (slice_get (locks_of (all_locks hs) s) place)
no_key_there hs i s place here rises is_not before at same =
    let none : locks_of (all_locks hs) s ≡ [] = locks_by hs rises s ∙ ap (map (lock_of s)) (own_absent s hs i rises before (above_at hs i s here is_not same at)) in
    sym (ap (λ xs. option_map (λ (lock : Lock). lock.key) (slice_get xs place)) none)
