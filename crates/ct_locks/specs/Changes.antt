-- What taking and letting go make of the list of locks. It goes by rising sessions, and what a session holds stands in the
-- order in which it took it. This project's own.
use Rattle.std.specs.Prelude.{ℕ, nat_le, nat_lt, not, List, ◌++◌, map, filter}
use Rattle.ct_types.specs.declared.entry.Write.{Write}
use Rattle.ct_types.specs.declared.value.Key.{Key}
use Rattle.ct_locks.specs.Holders.{Lock, is_of}

abbrev pub lock_on : ℕ → ℕ → Key → Lock
lock_on session table key = record { session = session; table = table; key = key }

-- the lock of a session on the key that a write names
abbrev pub lock_of_write : ℕ → Write → Lock
lock_of_write session write = lock_on session write.table write.key

-- the session takes these locks, also such as it holds already: they stand last among its own
abbrev pub with_locks : List Lock → ℕ → List Lock → List Lock
with_locks locks session taken = filter (λ lock. nat_le lock.session session) locks ++ (taken ++ filter (λ lock. nat_lt session lock.session) locks)

-- it takes keys of a table
abbrev pub with_taken : List Lock → ℕ → ℕ → List Key → List Lock
with_taken locks session table keys = with_locks locks session (map (lock_on session table) keys)

-- it takes the keys that writes name, each of its table
abbrev pub with_writes_taken : List Lock → ℕ → List Write → List Lock
with_writes_taken locks session writes = with_locks locks session (map (lock_of_write session) writes)

-- the session lets go of all that it holds
abbrev pub without_session : List Lock → ℕ → List Lock
without_session locks session = filter (λ lock. not (is_of session lock)) locks
