-- What a statement sees: the database from which its session reads, with the writes of its own transaction that wait, and the
-- session's variables. The levels are T-SQL's; what each reads, and when a view is taken, is this project's own.
use Rattle.std.specs.Prelude.{Bool, true, false, List, length, None, Some}
use Rattle.ct_types.specs.declared.catalogue.Variable.{Variable}
use Rattle.ct_types.specs.declared.entry.Act.TheVariants.{Commit}
use Rattle.ct_types.specs.declared.entry.Write.{Write}
use Rattle.ct_types.specs.declared.stmt.Stmt.{Stmt}
use Rattle.ct_types.specs.declared.stmt.Stmt.TheVariants as stmt
use Rattle.ct_types.specs.declared.view.View.{View}
use Rattle.ct_model.specs.declared.db.Db.{Db}
use Rattle.ct_model.specs.Apply.{tables_after}
use Rattle.ct_session.specs.Sessions.{SessionState}
use Rattle.ct_session.specs.declared.tran.Tran.{Tran}
use Rattle.ct_session.specs.declared.tran.Tran.TheVariants as tran
use Rattle.ct_state.specs.Machine.{Machine, db_of, db_at}

-- ---- views

-- a SNAPSHOT transaction with a view reads the database of the view, every other statement the newest
abbrev pub read_by : Machine → Tran → Db
read_by m (tran.Viewed view) = db_at m view.at
read_by m tran.None = db_of m
read_by m tran.Committed = db_of m
read_by m tran.Snapshot = db_of m

-- a view of all entries
abbrev pub newest_view : Machine → View
newest_view m = record { at = length m.past; db_version = (db_of m).version }

-- a SNAPSHOT transaction without a view takes one
abbrev pub tran_viewing : Machine → Tran → Tran
tran_viewing m tran.Snapshot = tran.Viewed (newest_view m)
tran_viewing m tran.None = tran.None
tran_viewing m tran.Committed = tran.Committed
tran_viewing m (tran.Viewed view) = tran.Viewed view

-- the session with a view, where it wants one
abbrev pub viewing : Machine → SessionState → SessionState
viewing m session = record session { tran = tran_viewing m session.tran }

-- the statements that take it, once they are accepted: those that read or write rows, SET of a variable, and DECLARE with a value
abbrev pub takes_view : Stmt → Bool
takes_view (stmt.Write context write) = true
takes_view (stmt.Select query) = true
takes_view (stmt.SetVariable variable value) = true
takes_view (stmt.Declare variable kind (Some value)) = true
takes_view (stmt.Declare variable kind None) = false
takes_view (stmt.AlterDatabase name option) = false
takes_view (stmt.CreateTable table columns key) = false
takes_view (stmt.EnableTracking table masks) = false
takes_view (stmt.DisableTracking table) = false
takes_view (stmt.TruncateTable table) = false
takes_view stmt.Begin = false
takes_view stmt.Commit = false
takes_view stmt.Rollback = false
takes_view (stmt.SetIsolation level) = false
takes_view stmt.SetLockTimeout = false

-- ---- what a statement sees

-- a database with these writes on the rows of its tables. Nothing else of it changes, so that a transaction sees its own rows, and
-- of tracking what was committed
abbrev pub with_writes : Db → List Write → Db
with_writes db writes = record db { tables = tables_after (Commit writes) db.version false db.tables }

pub record Seen : Type 0 where
  -- with the session's own writes
  pub db : Db
  -- in the order in which they were declared
  pub variables : List Variable

-- what the next statement of a session sees
abbrev pub seen_by : Machine → SessionState → Seen
seen_by m session = record { db = with_writes (read_by m session.tran) session.pending; variables = session.variables }
