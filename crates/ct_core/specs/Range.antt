-- What holds of every core: its numbers are within their limits, its tables are numbered from 1 on, none has more than 64 columns,
-- and the writes that wait can be stored. This project's own.
use Rattle.std.specs.Prelude.{◌≡◌, ℕ, ◌+◌, ◌^◌, ◌≤◌, true, false, List, length, None}
use Rattle.ct_types.specs.declared.entry.Act.{Act}
use Rattle.ct_types.specs.declared.entry.Act.TheVariants.{Commit, Define, Truncate, Enable, Disable, Database, Raise}
use Rattle.ct_types.specs.declared.entry.Write.{Write}
use Rattle.ct_types.specs.declared.reply.Reply.{Reply}
use Rattle.ct_types.specs.declared.reply.Reply.TheVariants.{Refused}
use Rattle.ct_model.specs.declared.db.Db.{Db}
use Rattle.ct_model.specs.Valid.{AreNumbered}
use Rattle.ct_bind.specs.Limits.{HaveFewColumns}
use Rattle.ct_bind_names.specs.Catalogue.{is_declared}
use Rattle.ct_database.specs.Storable.{IsActStorable}
use Rattle.ct_session.specs.Sessions.{SessionState, is_open}
use Rattle.ct_database.specs.Waiting.{AreStoredIn}
use Rattle.ct_sessions.specs.Seats.{SessionsState, state_in}
use Rattle.ct_session.specs.declared.tran.Tran.TheVariants as tran
use Rattle.ct_machine.specs.declared.decision.Decision.{Decision}
use Rattle.ct_machine.specs.declared.decision.Decision.TheVariants.{Refuses, Aborts, Answers, Commits, Pends, Begins, Ends, Isolates, Sets, Declares}
use Rattle.ct_state.specs.Replies.{is_memory}
use Rattle.ct_machine.specs.Reads.{catalogue}

-- each table has at most 64 columns, and the ids of the tables count from 1
pub record HasTables (db : Db) : Type 0 where
  pub narrow : HaveFewColumns (catalogue db)
  pub numbered : AreNumbered 1 db.tables

-- what a core keeps of its database, of the number of the next transaction, and of its sessions
pub record IsInRange (db : Db) (next : ℕ) (sessions : SessionsState) : Type 0 where
  pub version : db.version ≤ 2 ^ 62
  pub number : next ≤ 2 ^ 62 + 1
  pub tables : HasTables db
  -- the writes that wait can be stored when they commit
  pub stored : (number : ℕ) → AreStoredIn db.tables (state_in sessions.seats number).pending

-- an act defines no table of more columns
abbrev pub ActIsNarrow : Act → Type 0
ActIsNarrow (Define schema) = length schema.columns ≤ 64
ActIsNarrow (Commit writes) = Unit {0}
ActIsNarrow (Truncate id) = Unit {0}
ActIsNarrow (Enable id masks) = Unit {0}
ActIsNarrow (Disable id) = Unit {0}
ActIsNarrow (Database keep) = Unit {0}
ActIsNarrow (Raise minima) = Unit {0}

-- nor does it write or define what the database cannot store
pub record ActIsKept (db : Db) (act : Act) : Type 0 where
  pub narrow : ActIsNarrow act
  pub storable : IsActStorable db.tables act

-- it is answered otherwise than by want of memory
pub record CommitIsKept (db : Db) (act : Act) (reply : Reply) : Type 0 where
  pub kept : ActIsKept db act
  pub told : is_memory reply ≡ false

-- writes wait in a transaction, and can be stored in the tables that its session sees
pub record WaitIsKept (db : Db) (state : SessionState) (writes : List Write) (reply : Reply) : Type 0 where
  pub stored : AreStoredIn db.tables writes
  pub waits : is_open state.tran ≡ true
  pub told : is_memory reply ≡ false

-- Writes of a statement of a session can be stored in the tables that it sees; where no transaction is open, these are the newest.
pub record WritesReach (newest db : Db) (state : SessionState) (writes : List Write) : Type 0 where
  pub stored : AreStoredIn db.tables writes
  pub alone : state.tran ≡ tran.None → db ≡ newest

-- So it is of the database that a session sees, and the writes that wait can be stored in the newest.
pub record Reaches (newest db : Db) (state : SessionState) : Type 0 where
  pub pending : AreStoredIn newest.tables state.pending
  pub alone : state.tran ≡ tran.None → db ≡ newest

-- What is known of a decision on a statement of a session that sees a database, where another is the newest: what is committed can be
-- stored in the newest, what waits in that which is seen; what waits has a transaction, and none begins where one is open; no answer
-- is want of memory; a variable that is set is there, and one that is declared is not.
abbrev pub DecisionIsKept : Db → Db → SessionState → Decision → Type 0
DecisionIsKept newest db state (Refuses refusal) = Unit {0}
DecisionIsKept newest db state (Aborts refusal) = is_memory (Refused refusal) ≡ false
DecisionIsKept newest db state (Answers reply) = is_memory reply ≡ false
DecisionIsKept newest db state (Commits act reply) = CommitIsKept newest act reply
DecisionIsKept newest db state (Pends writes reply) = WaitIsKept db state writes reply
DecisionIsKept newest db state Begins = state.tran ≡ tran.None
DecisionIsKept newest db state Ends = Unit {0}
DecisionIsKept newest db state (Isolates snapshot) = Unit {0}
DecisionIsKept newest db state (Sets name value) = is_declared state.variables name ≡ true
DecisionIsKept newest db state (Declares name kind value) = is_declared state.variables name ≡ false
