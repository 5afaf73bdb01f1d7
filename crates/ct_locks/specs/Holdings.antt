-- How the code keeps the locks: for each session what it holds, in the order in which it took it, and for each of its tables
-- the keys in their order. No public clause speaks of this.
use Rattle.std.specs.Prelude.{◌≡◌, ℕ, ◌<◌, ◌^◌, ◌==◌, ◌&&◌, not, Bool, is_some, List, [], ◌∷◌, ◌++◌, length, map, position}
use Rattle.std.specs.List.{AllByRecursion, list_any}
use Rattle.std.specs.Ordering.{is_eq}
use Rattle.ct_types.specs.Order.{key_cmp}
use Rattle.ct_types.specs.declared.entry.Write.{Write}
use Rattle.ct_types.specs.declared.value.Key.{Key}
use Rattle.ct_ptree.specs.Pairs.{value_at}
use Rattle.ct_locks.specs.declared.taken.Taken.{Taken}
use Rattle.ct_locks.specs.declared.key_sets.KeySet.{KeySet}
use Rattle.ct_locks.specs.Holders.{Lock}

-- what one session holds
pub record Holding : Type 0 where
  pub session : ℕ
  pub taken : List Taken

abbrev pub lock_of : ℕ → Taken → Lock
lock_of session taken = record { session = session; table = taken.table; key = taken.key }

abbrev pub taken_on : ℕ → Key → Taken
taken_on table key = record { table = table; key = key }

-- what a write takes
abbrev pub taken_of : Write → Taken
taken_of write = taken_on write.table write.key

-- with more behind what it has
abbrev pub with_more : Holding → List Taken → Holding
with_more holding added = record { session = holding.session; taken = holding.taken ++ added }

-- all locks, session by session
abbrev pub all_locks : List Holding → List Lock
all_locks [] = []
all_locks (holding ∷ more) = map (lock_of holding.session) holding.taken ++ all_locks more

-- each session stands once, by rising numbers
abbrev pub Rises : List Holding → Type 0
Rises [] = Unit {0}
Rises (first ∷ rest) = AllByRecursion (λ later. first.session < later.session) rest × Rises rest

abbrev pub is_of_table : ℕ → Taken → Bool
is_of_table table taken = taken.table == table

abbrev pub is_on : ℕ → Key → Taken → Bool
is_on table key taken = (taken.table == table) && is_eq (key_cmp taken.key key)

-- some key of the table was taken
abbrev pub has_table : ℕ → List Taken → Bool
has_table table taken = is_some (position (is_of_table table) taken)

-- another session than this, of which a test of what it holds is true
abbrev pub blocks : ℕ → (List Taken → Bool) → Holding → Bool
blocks session test holding = not (holding.session == session) && test holding.taken

-- one of the sets is of the table, and has the key
abbrev pub has_key : List KeySet → ℕ → Key → Bool
has_key sets table key = list_any (λ (set : KeySet). (set.table == table) && is_some (value_at set.keys key)) sets

-- the sets have exactly the keys that were taken, which are fewer than 2^32
pub record IsKept (taken : List Taken) (sets : List KeySet) : Type 0 where
  pub has : (table : ℕ) (key : Key) → has_key sets table key ≡ list_any (is_on table key) taken
  pub few : length taken < 2 ^ 32
