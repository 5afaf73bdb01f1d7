-- For which machine a core stands. This project's own.
use Rattle.std.specs.Prelude.{◌≡◌, ℕ}
use Rattle.ct_model.specs.declared.db.Db.{Db}
use Rattle.ct_sessions.specs.Holds.{Holds}
use Rattle.ct_sessions.specs.Seats.{SessionsState}
use Rattle.ct_state.specs.Machine.{Machine, db_of}

-- what contracts see of a core: its disk, the newest database, the sessions, the time in seconds, and the number of the next
-- transaction
pub record CoreState (D : Type 0) : Type 0 where
  pub disk : D
  pub db : Db
  pub sessions : SessionsState
  pub now : ℕ
  pub next : ℕ

-- a core stands for each machine with this database, these sessions, this time and number, whatever its past
pub record Stands {D : Type 0} (core : CoreState D) (m : Machine) : Type 0 where
  pub db : core.db ≡ db_of m
  pub now : core.now ≡ m.now
  pub next : core.next ≡ m.next
  pub sessions : Holds core.sessions m

-- there is such a machine
abbrev pub StandsForOne : {D : Type 0} → CoreState D → Type 0
StandsForOne core = (m : Machine) × Stands core m
