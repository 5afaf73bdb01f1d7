-- A session between its statements, and what its calls make of it. T-SQL: BEGIN TRANSACTION, SET TRANSACTION ISOLATION LEVEL,
-- DECLARE, SET; the transaction's number and the view are this project's own.
use Rattle.std.specs.Prelude.{ℕ, Bool, true, false, List, [], ◌++◌, Option, None}
use Rattle.ct_types.specs.declared.catalogue.Variable.{Variable}
use Rattle.ct_types.specs.declared.entry.Write.{Write}
use Rattle.ct_session.specs.declared.tran.Tran.{Tran}
use Rattle.ct_session.specs.declared.tran.Tran.TheVariants as tran

-- what a session keeps between its statements
pub record SessionState : Type 0 where
  -- the level of the transactions that begin from now on: SNAPSHOT, else READ COMMITTED
  pub snapshot : Bool
  -- in the order in which they were declared
  pub variables : List Variable
  pub tran : Tran
  -- the writes of the transaction, in their order
  pub pending : List Write
  -- the transaction's number, from its first write on
  pub xdes : Option ℕ

-- a session as it starts: READ COMMITTED, and nothing else
abbrev pub fresh : SessionState
fresh = record { snapshot = false; variables = []; tran = tran.None; pending = []; xdes = None }

-- a transaction is open
abbrev pub is_open : Tran → Bool
is_open tran.None = false
is_open tran.Committed = true
is_open tran.Snapshot = true
is_open (tran.Viewed view) = true

-- the transaction that begins at a level
abbrev pub begun : Bool → Tran
begun true = tran.Snapshot
begun false = tran.Committed

-- after a commit or a rollback: no transaction, no write, no number; the level and the variables stay
abbrev pub ended : SessionState → SessionState
ended session = record session { tran = tran.None; pending = []; xdes = None }

-- with more writes that wait, behind those that do
abbrev pub pended : SessionState → List Write → SessionState
pended session writes = record session { pending = session.pending ++ writes }

-- what contracts see of a session in memory: its number, from 1 to 32, its state, and for so many writes more the room
pub record Seated : Type 0 where
  pub number : ℕ
  pub state : SessionState
  pub room : ℕ
