-- What a statement sees of a database and an environment that are lent to it, and in which machines its session sees just that. This
-- project's own.
use Rattle.std.specs.Prelude.{◌≡◌, ℕ}
use Rattle.ct_expr.specs.Environment.{Environment}
use Rattle.ct_model.specs.declared.db.Db.{Db}
use Rattle.ct_sessions.specs.Holds.{Holds}
use Rattle.ct_sessions.specs.Seats.{SessionsState}
use Rattle.ct_state.specs.Machine.{Machine}
use Rattle.ct_machine.specs.Reads.{env_of}
use Rattle.ct_state.specs.Seen.{Seen, seen_by}

-- the database, and the variables of the environment
abbrev pub seen_with : Db → Environment → Seen
seen_with db env = record { db = db; variables = env.variables.0 }

-- all else that the environment has is what the database tells
abbrev pub IsEnvOf : Db → Environment → Type 0
IsEnvOf db env = env ≡ env_of (seen_with db env)

-- the sessions are those of a machine, in which the session of this number sees this database
pub record Sees (sessions : SessionsState) (number : ℕ) (db : Db) (env : Environment) (m : Machine) : Type 0 where
  pub holds : Holds sessions m
  pub seen : seen_with db env ≡ seen_by m (m.sessions number)
