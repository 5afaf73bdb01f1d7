-- What the sessions hold, of the list of all locks.
use Rattle.std.proofs.Common.{◌≡◌, ◌≢◌, ℕ, zero, suc, ◌+◌, ◌<◌, ◌==◌, ◌&&◌, ◌||◌, not, cond, Bool, true, false, List, [], ◌∷◌, ◌++◌, length, get_or, take, map, filter, Some, None, position, refl, sym, ap, ap₂, ◌∙◌, append-nil, arith, eqb-true, eq-eqb, ne_eqb, nat_lt}
use Rattle.std.specs.List.{AllByRecursion, list_any, prefix_len}
use Rattle.std.proofs.lemmas.List.Elements.{filter-append}
use Rattle.std.proofs.lemmas.List.Folds.{list_any_more}
use Rattle.ct_types.specs.declared.value.Key.{Key}
use Rattle.ct_locks.specs.declared.taken.Taken.{Taken}
use Rattle.ct_locks.specs.Holders.{Lock, is_of, locks_of, holds, place_in}
use Rattle.ct_locks.specs.Holdings.{Holding, lock_of, all_locks, Rises, is_on, is_of_table, blocks}

-- what the first holding of a session has
abbrev pub taken_by : List Holding → ℕ → List Taken
taken_by [] s = []
taken_by (h ∷ more) s = cond (h.session == s) h.taken (taken_by more s)

-- ---- lists

pub all_weaken : {X : Type 0} (P Q : X → Type 0) → ((x : X) → P x → Q x) → (xs : List X) → AllByRecursion P xs → AllByRecursion Q xs
all_weaken P Q to [] all = tt
all_weaken P Q to (x ∷ xs) all = (to x all.0, all_weaken P Q to xs all.1)

pub all_at : {X : Type 0} (P : X → Type 0) (xs : List X) (i : ℕ) (d : X) → i < length xs → AllByRecursion P xs → P (get_or xs i d)
all_at P [] i d within all = absurd (omega arith)
all_at P (x ∷ xs) zero d within all = all.0
all_at P (x ∷ xs) (suc i) d within all = all_at P xs i d (omega arith) all.1

pub any_map : {X Y : Type 0} (p : Y → Bool) (f : X → Y) (xs : List X) → list_any p (map f xs) ≡ list_any (λ x. p (f x)) xs
any_map p f [] = refl
any_map p f (x ∷ xs) = ap (λ b. p (f x) || b) (any_map p f xs)

prefix_map : {X Y : Type 0} (p : Y → Bool) (f : X → Y) (xs : List X) → prefix_len p (map f xs) ≡ prefix_len (λ x. p (f x)) xs
prefix_map p f [] = refl
prefix_map p f (x ∷ xs) = ap (λ n. cond (p (f x)) (1 + n) 0) (prefix_map p f xs)

pub length_map : {X Y : Type 0} (f : X → Y) (xs : List X) → length (map f xs) ≡ length xs
length_map f [] = refl
length_map f (x ∷ xs) = ap suc (length_map f xs)

pub position_map : {X Y : Type 0} (p : Y → Bool) (f : X → Y) (xs : List X) → position p (map f xs) ≡ position (λ x. p (f x)) xs
position_map p f xs =
    ap₂ (λ (n m : ℕ). cond (nat_lt n m) (Some n) None) (prefix_map (λ y. not (p y)) f xs) (length_map f xs)

-- a walk goes past one more that does not pass the test
pub none_more : {X : Type 0} (p : X → Bool) (xs : List X) (i : ℕ) (x : X) → i < length xs → x ≡ get_or xs i x → list_any p (take i xs) ≡ false → p x ≡ false → list_any p (take (i + 1) xs) ≡ false
none_more p xs i x within is none here =
    let there : p (get_or xs i x) ≡ false = ap p (sym is) ∙ here in
    list_any_more p xs i x within ∙ rw (none, there) refl

either_left : (a b : Bool) → (a || b) ≡ false → a ≡ false
either_left true b e = e
either_left false b e = refl

either_right : (a b : Bool) → (a || b) ≡ false → b ≡ false
either_right true b e = absurd cc
either_right false b e = e

both_left : (a b : Bool) → (a && b) ≡ true → a ≡ true
both_left true b e = refl
both_left false b e = e

both_right : (a b : Bool) → (a && b) ≡ true → b ≡ true
both_right true b e = e
both_right false b e = absurd cc

none_of_other : (a b : Bool) → a ≡ false → (not a && b) ≡ false → b ≡ false
none_of_other true b e f = absurd cc
none_of_other false b e f = f

not_is : (a : Bool) → not a ≡ true → a ≡ false
not_is true e = absurd cc
not_is false e = refl

-- ---- the sessions that hold

-- behind a session no lower one stands
pub none_behind : (hs : List Holding) (s : ℕ) → AllByRecursion (λ (later : Holding). s < later.session) hs → taken_by hs s ≡ []
none_behind [] s all = refl
none_behind (h ∷ more) s all =
    let other : (h.session == s) ≡ false = ne_eqb h.session s (λ e. omega (arith, all.0)) in
    rw other (none_behind more s all.1)

-- the first of the sessions that another one has to wait for: what it holds, and that no lower one is waited for
pub record IsFound (test : List Taken → Bool) (hs : List Holding) (session : ℕ) (h : Holding) : Type 0 where
  pub other : h.session ≢ session
  pub own : taken_by hs h.session ≡ h.taken
  pub has : test h.taken ≡ true
  pub least : (lower : ℕ) → lower < h.session → lower ≢ session → test (taken_by hs lower) ≡ false

module _ (test : List Taken → Bool) (empty : test [] ≡ false) (session : ℕ) where
  pub none_by : (hs : List Holding) → list_any (blocks session test) hs ≡ false → (other : ℕ) → other ≢ session → test (taken_by hs other) ≡ false
  none_by [] none other ne = empty
  none_by (h ∷ more) none other ne =
      let first : blocks session test h ≡ false = either_left (blocks session test h) (list_any (blocks session test) more) none in
      let rest : list_any (blocks session test) more ≡ false = either_right (blocks session test h) (list_any (blocks session test) more) none in
      let step : (b : Bool) → (h.session == other) ≡ b → test (taken_by (h ∷ more) other) ≡ false =
      elim [
        | true ↦ (λ e. let at : (h.session == session) ≡ false = ne_eqb h.session session (λ s. ne (sym (eqb-true h.session other e) ∙ s)) in
            rw e (none_of_other (h.session == session) (test h.taken) at first))
        | false ↦ (λ e. rw e (none_by more rest other ne))
      ] in
      step (h.session == other) refl

  pub found_at : (hs : List Holding) (i : ℕ) (d : Holding) → Rises hs → i < length hs → list_any (blocks session test) (take i hs) ≡ false
      → blocks session test (get_or hs i d) ≡ true → IsFound test hs session (get_or hs i d)
  found_at [] i d rises within none here = absurd (omega arith)
  found_at (h ∷ more) zero d rises within none here =
      let self : (h.session == h.session) ≡ true = eq-eqb h.session h.session refl in
      record {
        other = λ e. let at : (h.session == session) ≡ true = eq-eqb h.session session e in
            let off : (h.session == session) ≡ false = not_is (h.session == session) (both_left (not (h.session == session)) (test h.taken) here) in cc;
        own = rw self refl;
        has = both_right (not (h.session == session)) (test h.taken) here;
        least = λ lower below ne.
            let off : (h.session == lower) ≡ false = ne_eqb h.session lower (λ e. omega arith) in
            let gone : taken_by more lower ≡ [] = none_behind more lower (all_weaken (λ (later : Holding). h.session < later.session) (λ (later : Holding). lower < later.session) (λ later lt. omega arith) more rises.0) in
            rw (off, gone) empty;
      }
  found_at (h ∷ more) (suc i) d rises within none here =
      let first : blocks session test h ≡ false = either_left (blocks session test h) (list_any (blocks session test) (take i more)) none in
      let rest : list_any (blocks session test) (take i more) ≡ false = either_right (blocks session test h) (list_any (blocks session test) (take i more)) none in
      let found = found_at more i d rises.1 (omega arith) rest here in
      let above : h.session < (get_or more i d).session = all_at (λ (later : Holding). h.session < later.session) more i d (omega arith) rises.0 in
      let off : (h.session == (get_or more i d).session) ≡ false = ne_eqb h.session (get_or more i d).session (λ e. omega arith) in
      record {
        other = found.other;
        own = rw off found.own;
        has = found.has;
        least = λ lower below ne.
            let step : (b : Bool) → (h.session == lower) ≡ b → test (taken_by (h ∷ more) lower) ≡ false =
            elim [
              | true ↦ (λ e. let at : (h.session == session) ≡ false = ne_eqb h.session session (λ s. ne (sym (eqb-true h.session lower e) ∙ s)) in
                  rw e (none_of_other (h.session == session) (test h.taken) at first))
              | false ↦ (λ e. rw e (found.least lower below ne))
            ] in
            step (h.session == lower) refl;
      }

-- ---- the list of all locks

-- a test that looks at the session alone takes all of a session's locks, or none
pub block_all : (q : Lock → Bool) (s : ℕ) → ((x : Taken) → q (lock_of s x) ≡ true) → (xs : List Taken) → filter q (map (lock_of s) xs) ≡ map (lock_of s) xs
block_all q s is_so [] = refl
block_all q s is_so (x ∷ xs) = let here : q (lock_of s x) ≡ true = is_so x in rw here (ap (λ rest. lock_of s x ∷ rest) (block_all q s is_so xs))

pub block_none : (q : Lock → Bool) (s : ℕ) → ((x : Taken) → q (lock_of s x) ≡ false) → (xs : List Taken) → filter q (map (lock_of s) xs) ≡ []
block_none q s is_not [] = refl
block_none q s is_not (x ∷ xs) = let here : q (lock_of s x) ≡ false = is_not x in rw here (block_none q s is_not xs)

-- what a session holds, of all locks, is what its holding has
pub locks_by : (hs : List Holding) → Rises hs → (s : ℕ) → locks_of (all_locks hs) s ≡ map (lock_of s) (taken_by hs s)
locks_by [] rises s = refl
locks_by (h ∷ more) rises s =
    let split : locks_of (all_locks (h ∷ more)) s ≡ filter (is_of s) (map (lock_of h.session) h.taken) ++ locks_of (all_locks more) s = filter-append (is_of s) (map (lock_of h.session) h.taken) (all_locks more) in
    let rest : locks_of (all_locks more) s ≡ map (lock_of s) (taken_by more s) = locks_by more rises.1 s in
    let step : (b : Bool) → (h.session == s) ≡ b → filter (is_of s) (map (lock_of h.session) h.taken) ++ locks_of (all_locks more) s ≡ map (lock_of s) (cond b h.taken (taken_by more s)) =
    elim [
      | true ↦ (λ e.
          let same : h.session ≡ s = eqb-true h.session s e in
          let gone : taken_by more s ≡ [] = none_behind more s (all_weaken (λ (later : Holding). h.session < later.session) (λ (later : Holding). s < later.session) (λ later lt. omega (arith, same)) more rises.0) in
          ap₂ (λ a b. a ++ b) (block_all (is_of s) h.session (λ x. e) h.taken ∙ ap (λ t. map (lock_of t) h.taken) same) (rest ∙ ap (map (lock_of s)) gone) ∙ append-nil _)
      | false ↦ (λ e. ap₂ (λ a b. a ++ b) (block_none (is_of s) h.session (λ x. e) h.taken) rest)
    ] in
    split ∙ step (h.session == s) refl

pub holds_by : (hs : List Holding) → Rises hs → (s table : ℕ) (key : Key) → holds (all_locks hs) s table key ≡ list_any (is_on table key) (taken_by hs s)
holds_by hs rises s table key =
    ap (list_any (λ (lock : Lock). is_on table key (record { table = lock.table; key = lock.key }))) (locks_by hs rises s)
    ∙ any_map (λ (lock : Lock). is_on table key (record { table = lock.table; key = lock.key })) (lock_of s) (taken_by hs s)

pub place_by : (hs : List Holding) → Rises hs → (s table : ℕ) → place_in (all_locks hs) s table ≡ position (is_of_table table) (taken_by hs s)
place_by hs rises s table =
    ap (position (λ (lock : Lock). lock.table == table)) (locks_by hs rises s)
    ∙ position_map (λ (lock : Lock). lock.table == table) (lock_of s) (taken_by hs s)
