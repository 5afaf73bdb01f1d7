-- The list of all locks after a session took keys, or let go of them: the sessions before it and behind it keep what they hold.
use Rattle.std.proofs.Common.{◌≡◌, ℕ, zero, suc, ◌<◌, ◌≤◌, ◌==◌, not, Bool, true, false, List, [], ◌∷◌, ◌++◌, length, get_or, set, take, map, filter, refl, sym, ap, ap₂, ◌∙◌, append_assoc, append-nil, arith, eq-eqb, ne_eqb, lt-ltb, le-ltb, le-leb, nat_le, nat_lt}
use borrow.Author.Tests.{lt-leb}
use Rattle.std.specs.List.{All, AllByRecursion, insert, remove}
use Rattle.std.proofs.lemmas.List.Elements.{filter-append}
use Rattle.ct_locks.specs.declared.taken.Taken.{Taken}
use Rattle.ct_locks.specs.Holders.{Lock, is_of}
use Rattle.ct_locks.specs.Changes.{with_locks, without_session}
use Rattle.ct_locks.specs.Holdings.{Holding, lock_of, with_more, all_locks, Rises}
use Rattle.ct_locks.proofs.Kept.{all_weaken, all_at, block_all, block_none}

abbrev pub IsAbove : ℕ → List Holding → Type 0
IsAbove s = AllByRecursion (λ (later : Holding). s < later.session)

-- a test that all sessions of some holdings pass, or none
all_of : (q : Lock → Bool) (hs : List Holding) → AllByRecursion (λ (h : Holding). (x : Taken) → q (lock_of h.session x) ≡ true) hs → filter q (all_locks hs) ≡ all_locks hs
all_of q [] is_so = refl
all_of q (h ∷ more) is_so =
    filter-append q (map (lock_of h.session) h.taken) (all_locks more) ∙ ap₂ (λ a b. a ++ b) (block_all q h.session is_so.0 h.taken) (all_of q more is_so.1)

none_of : (q : Lock → Bool) (hs : List Holding) → AllByRecursion (λ (h : Holding). (x : Taken) → q (lock_of h.session x) ≡ false) hs → filter q (all_locks hs) ≡ []
none_of q [] is_not = refl
none_of q (h ∷ more) is_not =
    filter-append q (map (lock_of h.session) h.taken) (all_locks more) ∙ ap₂ (λ a b. a ++ b) (block_none q h.session is_not.0 h.taken) (none_of q more is_not.1)

lows_above : (s : ℕ) (hs : List Holding) → IsAbove s hs → filter (λ lock. nat_le lock.session s) (all_locks hs) ≡ []
lows_above s hs above =
    none_of (λ lock. nat_le lock.session s) hs
    (all_weaken (λ (h : Holding). s < h.session) (λ (h : Holding). (x : Taken) → nat_le h.session s ≡ false) (λ h lt x. lt-leb h.session s lt) hs above)

highs_above : (s : ℕ) (hs : List Holding) → IsAbove s hs → filter (λ lock. nat_lt s lock.session) (all_locks hs) ≡ all_locks hs
highs_above s hs above =
    all_of (λ lock. nat_lt s lock.session) hs
    (all_weaken (λ (h : Holding). s < h.session) (λ (h : Holding). (x : Taken) → nat_lt s h.session ≡ true) (λ h lt x. lt-ltb s h.session lt) hs above)

others_above : (s : ℕ) (hs : List Holding) → IsAbove s hs → without_session (all_locks hs) s ≡ all_locks hs
others_above s hs above =
    all_of (λ lock. not (is_of s lock)) hs
    (all_weaken (λ (h : Holding). s < h.session) (λ (h : Holding). (x : Taken) → not (h.session == s) ≡ true)
    (λ h lt x. ap not (ne_eqb h.session s (λ e. omega (arith, lt)))) hs above)

map_append : {X Y : Type 0} (f : X → Y) (xs ys : List X) → map f (xs ++ ys) ≡ map f xs ++ map f ys
map_append f [] ys = refl
map_append f (x ∷ xs) ys = ap (λ rest. f x ∷ rest) (map_append f xs ys)

module _ (s : ℕ) (added : List Taken) where
  -- what a lower session holds stays in front
  behind_lower : (t : ℕ) (xs : List Taken) (rest : List Lock) → t < s
      → with_locks (map (lock_of t) xs ++ rest) s (map (lock_of s) added) ≡ map (lock_of t) xs ++ with_locks rest s (map (lock_of s) added)
  behind_lower t xs rest lt =
      let low : filter (λ lock. nat_le lock.session s) (map (lock_of t) xs ++ rest) ≡ map (lock_of t) xs ++ filter (λ lock. nat_le lock.session s) rest =
      filter-append (λ (lock : Lock). nat_le lock.session s) (map (lock_of t) xs) rest ∙ ap (λ a. a ++ filter (λ (lock : Lock). nat_le lock.session s) rest) (block_all (λ lock. nat_le lock.session s) t (λ x. le-leb t s (omega arith)) xs) in
      let high : filter (λ lock. nat_lt s lock.session) (map (lock_of t) xs ++ rest) ≡ filter (λ lock. nat_lt s lock.session) rest =
      filter-append (λ (lock : Lock). nat_lt s lock.session) (map (lock_of t) xs) rest ∙ ap (λ a. a ++ filter (λ (lock : Lock). nat_lt s lock.session) rest) (block_none (λ lock. nat_lt s lock.session) t (λ x. le-ltb s t (omega arith)) xs) in
      ap₂ (λ a b. a ++ (map (lock_of s) added ++ b)) low high
      ∙ append_assoc (map (lock_of t) xs) (filter (λ (lock : Lock). nat_le lock.session s) rest) (map (lock_of s) added ++ filter (λ (lock : Lock). nat_lt s lock.session) rest)

  -- what it takes goes behind its own
  to_own : (xs : List Taken) (hs : List Holding) → IsAbove s hs → map (lock_of s) (xs ++ added) ++ all_locks hs ≡ with_locks (map (lock_of s) xs ++ all_locks hs) s (map (lock_of s) added)
  to_own xs hs above =
      let low : filter (λ lock. nat_le lock.session s) (map (lock_of s) xs ++ all_locks hs) ≡ map (lock_of s) xs =
      filter-append (λ (lock : Lock). nat_le lock.session s) (map (lock_of s) xs) (all_locks hs)
      ∙ ap₂ (λ a b. a ++ b) (block_all (λ lock. nat_le lock.session s) s (λ x. le-leb s s (omega arith)) xs) (lows_above s hs above) ∙ append-nil _ in
      let high : filter (λ lock. nat_lt s lock.session) (map (lock_of s) xs ++ all_locks hs) ≡ all_locks hs =
      filter-append (λ (lock : Lock). nat_lt s lock.session) (map (lock_of s) xs) (all_locks hs)
      ∙ ap₂ (λ a b. a ++ b) (block_none (λ lock. nat_lt s lock.session) s (λ x. le-ltb s s (omega arith)) xs) (highs_above s hs above) in
      ap (λ a. a ++ all_locks hs) (map_append (lock_of s) xs added)
      ∙ append_assoc (map (lock_of s) xs) (map (lock_of s) added) (all_locks hs)
      ∙ sym (ap₂ (λ a b. a ++ (map (lock_of s) added ++ b)) low high)

  -- a session that holds some already
  pub set_locks : (hs : List Holding) (i : ℕ) (d : Holding) → Rises hs → i < length hs → (get_or hs i d).session ≡ s
      → all_locks (set hs i (with_more (get_or hs i d) added)) ≡ with_locks (all_locks hs) s (map (lock_of s) added)
  set_locks [] i d rises within at = absurd (omega arith)
  set_locks (h ∷ more) zero d rises within at =
      let above : IsAbove s more = rw at at rises.0 in
      rw at (to_own h.taken more above)
  set_locks (h ∷ more) (suc i) d rises within at =
      let lower : h.session < (get_or more i d).session = all_at (λ (later : Holding). h.session < later.session) more i d (omega arith) rises.0 in
      ap (λ rest. map (lock_of h.session) h.taken ++ rest) (set_locks more i d rises.1 (omega arith) at)
      ∙ sym (behind_lower h.session h.taken (all_locks more) (omega (arith, lower, at)))

  -- one that holds none, at its place
  pub insert_locks : (hs : List Holding) (i : ℕ) → Rises hs → i ≤ length hs → All (λ (h : Holding). h.session < s) (take i hs) → ((d : Holding) → i < length hs → s < (get_or hs i d).session)
      → all_locks (insert hs i (record { session = s; taken = added })) ≡ with_locks (all_locks hs) s (map (lock_of s) added)
  insert_locks [] zero rises within before at = to_own [] [] tt
  insert_locks [] (suc i) rises within before at = absurd (omega arith)
  insert_locks (h ∷ more) zero rises within before at =
      let here : s < h.session = at h (omega arith) in
      to_own [] (h ∷ more) (here, all_weaken (λ (later : Holding). h.session < later.session) (λ (later : Holding). s < later.session) (λ later lt. omega arith) more rises.0)
  insert_locks (h ∷ more) (suc i) rises within before at =
      ap (λ rest. map (lock_of h.session) h.taken ++ rest) (insert_locks more i rises.1 (omega arith) (λ k d lt. before (suc k) d (omega arith)) (λ d lt. at d (omega arith)))
      ∙ sym (behind_lower h.session h.taken (all_locks more) (before 0 h (omega arith)))

-- the session lets go of all
pub remove_locks : (s : ℕ) (hs : List Holding) (i : ℕ) (d : Holding) → Rises hs → i < length hs → (get_or hs i d).session ≡ s
    → all_locks (remove hs i) ≡ without_session (all_locks hs) s
remove_locks s [] i d rises within at = absurd (omega arith)
remove_locks s (h ∷ more) zero d rises within at =
    let above : IsAbove s more = rw at at rises.0 in
    sym (filter-append (λ lock. not (is_of s lock)) (map (lock_of h.session) h.taken) (all_locks more)
    ∙ ap₂ (λ a b. a ++ b) (block_none (λ lock. not (is_of s lock)) h.session (λ x. ap not (eq-eqb h.session s at)) h.taken) (others_above s more above))
remove_locks s (h ∷ more) (suc i) d rises within at =
    let lower : h.session < (get_or more i d).session = all_at (λ (later : Holding). h.session < later.session) more i d (omega arith) rises.0 in
    ap (λ rest. map (lock_of h.session) h.taken ++ rest) (remove_locks s more i d rises.1 (omega arith) at)
    ∙ sym (filter-append (λ lock. not (is_of s lock)) (map (lock_of h.session) h.taken) (all_locks more)
    ∙ ap (λ a. a ++ without_session (all_locks more) s) (block_all (λ lock. not (is_of s lock)) h.session (λ x. ap not (ne_eqb h.session s (λ e. omega (arith, lower, at, e)))) h.taken))

-- a session that holds nothing has nothing to let go of
pub absent_locks : (s : ℕ) (hs : List Holding) (i : ℕ) → Rises hs → All (λ (h : Holding). h.session < s) (take i hs) → ((d : Holding) → i < length hs → s < (get_or hs i d).session)
    → all_locks hs ≡ without_session (all_locks hs) s
absent_locks s [] i rises before at = refl
absent_locks s (h ∷ more) zero rises before at =
    let here : s < h.session = at h (omega arith) in
    sym (others_above s (h ∷ more) (here, all_weaken (λ (later : Holding). h.session < later.session) (λ (later : Holding). s < later.session) (λ later lt. omega arith) more rises.0))
absent_locks s (h ∷ more) (suc i) rises before at =
    let lower : h.session < s = before 0 h (omega arith) in
    ap (λ rest. map (lock_of h.session) h.taken ++ rest) (absent_locks s more i rises.1 (λ k d lt. before (suc k) d (omega arith)) (λ d lt. at d (omega arith)))
    ∙ sym (filter-append (λ lock. not (is_of s lock)) (map (lock_of h.session) h.taken) (all_locks more)
    ∙ ap (λ a. a ++ without_session (all_locks more) s) (block_all (λ lock. not (is_of s lock)) h.session (λ x. ap not (ne_eqb h.session s (λ e. omega (arith, lower, e)))) h.taken))

-- ---- the sessions rise as before

module _ (P : Holding → Type 0) where
  all_set : (hs : List Holding) (i : ℕ) (made : Holding) → P made → AllByRecursion P hs → AllByRecursion P (set hs i made)
  all_set [] i made here all = tt
  all_set (h ∷ more) zero made here all = (here, all.1)
  all_set (h ∷ more) (suc i) made here all = (all.0, all_set more i made here all.1)

  all_insert : (hs : List Holding) (i : ℕ) (made : Holding) → P made → AllByRecursion P hs → AllByRecursion P (insert hs i made)
  all_insert hs zero made here all = (here, all)
  all_insert [] (suc i) made here all = (here, tt)
  all_insert (h ∷ more) (suc i) made here all = (all.0, all_insert more i made here all.1)

  all_remove : (hs : List Holding) (i : ℕ) → AllByRecursion P hs → AllByRecursion P (remove hs i)
  all_remove [] zero all = tt
  all_remove [] (suc i) all = tt
  all_remove (h ∷ more) zero all = all.1
  all_remove (h ∷ more) (suc i) all = (all.0, all_remove more i all.1)

pub set_rises : (hs : List Holding) (i : ℕ) (d made : Holding) → Rises hs → i < length hs → made.session ≡ (get_or hs i d).session → Rises (set hs i made)
set_rises [] i d made rises within same = absurd (omega arith)
set_rises (h ∷ more) zero d made rises within same = (rw same rises.0, rises.1)
set_rises (h ∷ more) (suc i) d made rises within same =
    let lower : h.session < (get_or more i d).session = all_at (λ (later : Holding). h.session < later.session) more i d (omega arith) rises.0 in
    (all_set (λ (later : Holding). h.session < later.session) more i made (omega (arith, lower, same)) rises.0, set_rises more i d made rises.1 (omega arith) same)

pub insert_rises : (s : ℕ) (xs : List Taken) (hs : List Holding) (i : ℕ) → Rises hs → i ≤ length hs → All (λ (h : Holding). h.session < s) (take i hs) → ((d : Holding) → i < length hs → s < (get_or hs i d).session)
    → Rises (insert hs i (record { session = s; taken = xs }))
insert_rises s xs [] zero rises within before at = (tt, tt)
insert_rises s xs [] (suc i) rises within before at = absurd (omega arith)
insert_rises s xs (h ∷ more) zero rises within before at =
    let here : s < h.session = at h (omega arith) in
    ((here, all_weaken (λ (later : Holding). h.session < later.session) (λ (later : Holding). s < later.session) (λ later lt. omega arith) more rises.0), rises)
insert_rises s xs (h ∷ more) (suc i) rises within before at =
    let made : Holding = record { session = s; taken = xs } in (
      all_insert (λ (later : Holding). h.session < later.session) more i made (before 0 h (omega arith)) rises.0,
      insert_rises s xs more i rises.1 (omega arith) (λ k d lt. before (suc k) d (omega arith)) (λ d lt. at d (omega arith)),
    )

pub remove_rises : (hs : List Holding) (i : ℕ) → Rises hs → Rises (remove hs i)
remove_rises [] zero rises = tt
remove_rises [] (suc i) rises = tt
remove_rises (h ∷ more) zero rises = rises.1
remove_rises (h ∷ more) (suc i) rises = (all_remove (λ (later : Holding). h.session < later.session) more i rises.0, remove_rises more i rises.1)
