-- The locks as one plain list, and who holds what. A session holds a key of a table from its write until its transaction ends.
-- T-SQL: 1222 answers a request for what another session holds; that it comes at once, and how it is told, is this project's own.
use Rattle.std.specs.Prelude.{◌≡◌, ◌≢◌, ℕ, ◌<◌, ◌==◌, ◌&&◌, Bool, true, false, List, Option, Some, None, filter, take, position, slice_get}
use Rattle.std.specs.List.{All, list_any}
use Rattle.std.specs.Option.{IsSomeAnd}
use Rattle.std.specs.Ordering.{is_eq}
use Rattle.ct_types.specs.Order.{key_cmp}
use Rattle.ct_types.specs.declared.value.Key.{Key}
use Rattle.ct_locks.specs.declared.answers.Blocked.{Blocked}
use Rattle.ct_locks.specs.declared.answers.Holder.{Holder}

-- a session holds a key of a table
pub record Lock : Type 0 where
  pub session : ℕ
  pub table : ℕ
  pub key : Key

abbrev pub is_of : ℕ → Lock → Bool
is_of session lock = lock.session == session

-- all that a session holds, of every table, in the order in which it took it
abbrev pub locks_of : List Lock → ℕ → List Lock
locks_of locks session = filter (is_of session) locks

-- the session holds the key of the table
abbrev pub holds : List Lock → ℕ → ℕ → Key → Bool
holds locks session table key = list_any (λ lock. (lock.table == table) && is_eq (key_cmp lock.key key)) (locks_of locks session)

-- the place of the session's first key of the table among all that it holds
abbrev pub place_in : List Lock → ℕ → ℕ → Option ℕ
place_in locks session table = position (λ lock. lock.table == table) (locks_of locks session)

-- ---- a key that another session holds

-- no other session holds the key
abbrev pub IsFree : List Lock → ℕ → ℕ → Key → Type 0
IsFree locks session table key = (other : ℕ) → other ≢ session → holds locks other table key ≡ false

-- of the other sessions that hold the key this is the least
pub record IsLeastHolder (locks : List Lock) (session table : ℕ) (key : Key) (holder : ℕ) : Type 0 where
  pub other : holder ≢ session
  pub holds_it : holds locks holder table key ≡ true
  pub least : (lower : ℕ) → lower < holder → lower ≢ session → holds locks lower table key ≡ false

-- of some keys the one at this place is the first that another session holds, and this is the least that does
pub record IsBlocked (locks : List Lock) (session table : ℕ) (keys : List Key) (blocked : Blocked) : Type 0 where
  pub before : All (IsFree locks session table) (take blocked.key keys)
  pub at : IsSomeAnd (slice_get keys blocked.key) (λ key. IsLeastHolder locks session table key blocked.holder)

-- ---- a table of which another session holds a key

-- no other session holds a key of the table
abbrev pub IsFreeTable : List Lock → ℕ → ℕ → Type 0
IsFreeTable locks session table = (other : ℕ) → other ≢ session → place_in locks other table ≡ None

-- of the other sessions that hold a key of the table this is the least, and its first such key stands at this place
pub record IsHolder (locks : List Lock) (session table : ℕ) (holder : Holder) : Type 0 where
  pub other : holder.session ≢ session
  pub first : place_in locks holder.session table ≡ Some holder.place
  pub least : (lower : ℕ) → lower < holder.session → lower ≢ session → place_in locks lower table ≡ None
