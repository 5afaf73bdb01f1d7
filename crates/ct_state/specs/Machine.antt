-- The machine: the database at its opening, the entries since, the sessions, and what the next statement needs. This project's own.
use Rattle.std.specs.Prelude.{ℕ, ◌+◌, ◌==◌, List, [], take, Option, None, Some, if◌then◌else◌}
use Rattle.ct_types.specs.declared.entry.Entry.{Entry}
use Rattle.ct_model.specs.declared.db.Db.{Db}
use Rattle.ct_model.specs.Apply.{replay}
use Rattle.ct_session.specs.Sessions.{SessionState, fresh}

-- the state of the server, as the entries that were committed and what each session keeps
pub record Machine : Type 0 where
  -- the database at the opening
  pub first : Db
  -- the entries since, the oldest first
  pub past : List Entry
  -- the time, in seconds
  pub now : ℕ
  -- the number of the next transaction
  pub next : ℕ
  -- the session of each number
  pub sessions : ℕ → SessionState

-- the database that the entries make
abbrev pub db_of : Machine → Db
db_of m = replay m.first m.past

-- the database that the first so many entries make
abbrev pub db_at : Machine → ℕ → Db
db_at m count = replay m.first (take count m.past)

-- the machine of an opening: no entry, the time of the database, the transaction number after its last, and fresh sessions
abbrev pub opening : Db → Machine
opening db = record { first = db; past = []; now = db.time; next = db.last_xdes + 1; sessions = λ number. fresh }

-- the machine with another state of one session
abbrev pub with_session : Machine → ℕ → SessionState → Machine
with_session m number session = record m { sessions = λ other. if other == number then session else m.sessions other }

-- ---- the numbers of transactions

-- the number that a transaction has drawn, else the next one
abbrev pub xdes_or : ℕ → Option ℕ → ℕ
xdes_or next None = next
xdes_or next (Some xdes) = xdes

-- the next number once a transaction has one: the same where it was drawn before
abbrev pub next_xdes : ℕ → Option ℕ → ℕ
next_xdes next None = next + 1
next_xdes next (Some xdes) = next
