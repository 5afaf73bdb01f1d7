-- What a statement of a session comes to: a refusal, an answer, or what it changes. The statements are T-SQL's; the order of the
-- refusals is this project's own.
use Rattle.std.specs.Prelude.{ℕ, Bool, true, false, not, List, [], ◌∷◌, length, slice_get, Option, None, Some, Ok, Err}
use Rattle.std.specs.Option.{option_and_then}
use Rattle.ct_types.specs.declared.bound.Bound.{Bound}
use Rattle.ct_types.specs.declared.bound.Bound.TheVariants as bound
use Rattle.ct_types.specs.declared.bound.BoundExpr.{BoundExpr}
use Rattle.ct_types.specs.declared.bound.BoundWrite.{BoundWrite}
use Rattle.ct_types.specs.declared.catalogue.Variable.{Variable}
use Rattle.ct_types.specs.declared.entry.Act.{Act}
use Rattle.ct_types.specs.declared.entry.Act.TheVariants.{Commit, Define, Truncate, Enable, Disable, Database}
use Rattle.ct_types.specs.declared.entry.Write.{Write}
use Rattle.ct_types.specs.declared.refusal.Refusal.{Refusal}
use Rattle.ct_types.specs.declared.refusal.Refusal.TheVariants.{Duplicate, InTransaction, NoCommit, NoRollback, NotBuilt}
use Rattle.ct_types.specs.declared.reply.Grid.{Grid}
use Rattle.ct_types.specs.declared.reply.Reply.TheVariants.{Done, Count, Rows}
use Rattle.ct_types.specs.declared.schema.ColType.{ColType}
use Rattle.ct_types.specs.declared.stmt.Isolation.{Isolation}
use Rattle.ct_types.specs.declared.stmt.Isolation.TheVariants.{Snapshot, ReadCommitted}
use Rattle.ct_types.specs.declared.stmt.Stmt.{Stmt}
use Rattle.ct_types.specs.declared.stmt.Stmt.TheVariants as stmt
use Rattle.ct_types.specs.declared.value.Key.{Key}
use Rattle.ct_types.specs.declared.value.Value.{Value}
use Rattle.ct_types.specs.declared.value.Value.TheVariants.{Null}
use Rattle.ct_model.specs.declared.db.Table.{Table}
use Rattle.ct_model.specs.Tables.{catalogued, table_of}
use Rattle.ct_types.specs.Answers.{Answer, ◌>>=◌, demand}
use Rattle.ct_bind.specs.Binding.{binding}
use Rattle.ct_expr.specs.Meaning.{on, value}
use Rattle.ct_session.specs.Sessions.{SessionState, is_open}
use Rattle.ct_session.specs.declared.tran.Tran.{Tran}
use Rattle.ct_write.specs.Duplicates.{duplicate}
use Rattle.ct_write.specs.Fitting.{fit}
use Rattle.ct_write.specs.Rows.{no_row}
use Rattle.ct_write.specs.Writes.{writes_of}
use Rattle.ct_types.specs.declared.command.Command.{Command}
use Rattle.ct_types.specs.declared.command.Command.TheVariants.{Sql, Wrong}
use Rattle.ct_machine.specs.declared.decision.Decision.{Decision}
use Rattle.ct_machine.specs.declared.decision.Decision.TheVariants as decision
use Rattle.ct_state.specs.Conflicts.{conflict}
use Rattle.ct_state.specs.Holding.{blocked_keys, blocked_table}
use Rattle.ct_state.specs.Machine.{Machine}
use Rattle.ct_machine.specs.Reads.{catalogue, world_of, selected}
use Rattle.ct_state.specs.Seen.{Seen, seen_by}

-- ---- what a transaction allows

-- 3902 and 3903 answer who ends a transaction where none is open; BEGIN, ALTER DATABASE, and what defines, tracks or truncates a
-- table, may not stand in one
abbrev pub allowed : Tran → Stmt → Answer (Unit {0})
allowed tran stmt.Begin = demand (not (is_open tran)) InTransaction
allowed tran stmt.Commit = demand (is_open tran) NoCommit
allowed tran stmt.Rollback = demand (is_open tran) NoRollback
allowed tran (stmt.AlterDatabase name option) = demand (not (is_open tran)) InTransaction
allowed tran (stmt.CreateTable table columns key) = demand (not (is_open tran)) InTransaction
allowed tran (stmt.EnableTracking table masks) = demand (not (is_open tran)) InTransaction
allowed tran (stmt.DisableTracking table) = demand (not (is_open tran)) InTransaction
allowed tran (stmt.TruncateTable table) = demand (not (is_open tran)) InTransaction
allowed tran (stmt.Write context write) = Ok tt
allowed tran (stmt.Select query) = Ok tt
allowed tran (stmt.SetIsolation level) = Ok tt
allowed tran stmt.SetLockTimeout = Ok tt
allowed tran (stmt.SetVariable variable value) = Ok tt
allowed tran (stmt.Declare variable kind value) = Ok tt

-- ---- SELECT

-- the grid, or the refusal
abbrev pub answered : Answer Grid → Decision
answered (Ok grid) = decision.Answers (Rows grid)
answered (Err refusal) = decision.Refuses refusal

-- ---- INSERT, UPDATE and DELETE

-- the key of a write; a write that is not there has none
abbrev pub key_in : Option Write → Key
key_in None = record { 0 = [] }
key_in (Some write) = write.key

-- writes commit at once, or wait where a transaction is open; a statement without a row writes nothing and draws no number
abbrev pub counted : Bool → List Write → Decision
counted waits [] = decision.Answers (Count 0)
counted true (write ∷ more) = decision.Pends (write ∷ more) (Count (length (write ∷ more)))
counted false (write ∷ more) = decision.Commits (Commit (write ∷ more)) (Count (length (write ∷ more)))

-- the first insert of a key that a row or an earlier insert has refuses the whole statement
abbrev pub without_duplicates : Tran → Table → List Write → Option ℕ → Decision
without_duplicates tran table writes None = counted (is_open tran) writes
without_duplicates tran table writes (Some place) = decision.Refuses (Duplicate table.schema.name (key_in (slice_get writes place)))

-- the refusal, where there is one; else what comes next
abbrev pub unless : (Refusal → Decision) → Option Refusal → Decision → Decision
unless refuses None otherwise = otherwise
unless refuses (Some refusal) otherwise = refuses refusal

-- ---- variables

-- a variable's value has to fit its type, as that of a column that may be NULL; 8152 names the variable as it is written
abbrev pub fitting : List ℕ → ColType → Answer Value → Answer Value
fitting name kind it = it >>= (λ v. fit (record { name = name; kind = kind; nullable = true }) v >>= (λ passed. Ok v))

-- DECLARE without a value gives NULL
abbrev pub value_or_null : Seen → Option BoundExpr → Answer Value
value_or_null seen None = Ok Null
value_or_null seen (Some expr) = value (on (world_of seen) no_row) expr

-- the new value of a variable, or the refusal
abbrev pub sets : List ℕ → Answer Value → Decision
sets name (Err refusal) = decision.Refuses refusal
sets name (Ok v) = decision.Sets name v

-- a new variable with its value, or the refusal
abbrev pub declares : List ℕ → ColType → Answer Value → Decision
declares name kind (Err refusal) = decision.Refuses refusal
declares name kind (Ok v) = decision.Declares name kind v

-- binding answers NoVariable for a variable that is not there, so no statement meets the first case
abbrev pub set_variable : Seen → List ℕ → Option Variable → BoundExpr → Decision
set_variable seen name None expr = decision.Answers Done
set_variable seen name (Some variable) expr = sets name (fitting name variable.kind (value (on (world_of seen) no_row) expr))

-- the variable that SET names, as it is written
abbrev pub variable_in : Stmt → List ℕ
variable_in (stmt.SetVariable variable value) = variable
variable_in other = []

-- ---- BEGIN, COMMIT and ROLLBACK, and levels

-- the writes that wait become one entry; where there are none, there is none
abbrev pub commits : List Write → Decision
commits [] = decision.Ends
commits (write ∷ more) = decision.Commits (Commit (write ∷ more)) Done

-- the level
abbrev pub is_snapshot : Isolation → Bool
is_snapshot Snapshot = true
is_snapshot ReadCommitted = false

-- ---- a statement of a session in a machine

module _ (m : Machine) (s : ℕ) where
  -- the session of the statement
  abbrev pub session : SessionState
  session = m.sessions s

  -- what the statement sees
  abbrev pub seen : Seen
  seen = seen_by m session

  -- the writes of a statement on a table, or the first refusal: of a value, of a key that another session holds, of a change after
  -- the view, of a key that is there already
  abbrev pub fitted : Table → Answer (List Write) → Decision
  fitted table (Err refusal) = decision.Refuses refusal
  fitted table (Ok writes) =
      unless decision.Refuses (blocked_keys m.sessions s table.schema.name writes)
      (unless decision.Aborts (conflict m.past session.tran table.schema.name table.schema.id writes)
      (without_duplicates session.tran table writes (duplicate table.schema table.rows writes)))

  -- binding answers 208 for a table that is not there, so no statement meets the first case
  abbrev pub written : BoundWrite → Option Table → Decision
  written write None = decision.Answers (Count 0)
  written write (Some table) = fitted table (writes_of (world_of seen) (catalogued table) write table.rows)

  -- 1222 refuses an act on a table of which another session holds a key
  abbrev pub altered : ℕ → Option Table → Act → Decision
  altered id table act =
      unless decision.Refuses (option_and_then (λ t. blocked_table m.sessions s t.schema.name id) table) (decision.Commits act Done)

  -- what a bound statement comes to
  unfoldable pub decide_bound : Stmt → Bound → Decision
  decide_bound it bound.AcceptOption = decision.Answers Done
  decide_bound it (bound.AlterDatabase keep) = decision.Commits (Database keep) Done
  decide_bound it (bound.CreateTable schema) = decision.Commits (Define schema) Done
  decide_bound it (bound.EnableTracking table masks) = altered table (table_of seen.db.tables table) (Enable table masks)
  decide_bound it (bound.DisableTracking table) = altered table (table_of seen.db.tables table) (Disable table)
  decide_bound it (bound.TruncateTable table) = altered table (table_of seen.db.tables table) (Truncate table)
  decide_bound it (bound.Write write) = written write (table_of seen.db.tables write.table)
  decide_bound it (bound.Select query) = answered (selected seen query)
  decide_bound it bound.Begin = decision.Begins
  decide_bound it bound.Commit = commits session.pending
  decide_bound it bound.Rollback = decision.Ends
  decide_bound it (bound.SetIsolation level) = decision.Isolates (is_snapshot level)
  decide_bound it bound.SetLockTimeout = decision.Answers Done
  decide_bound it (bound.SetVariable variable expr) = set_variable seen (variable_in it) (slice_get seen.variables variable) expr
  decide_bound it (bound.Declare variable kind expr) = declares variable kind (fitting variable kind (value_or_null seen expr))

  -- what binding refuses is refused
  abbrev pub once_bound : Stmt → Answer Bound → Decision
  once_bound it (Err refusal) = decision.Refuses refusal
  once_bound it (Ok statement) = decide_bound it statement

  -- what may not stand where it stands is refused; else names are bound in what the statement sees
  abbrev pub once_allowed : Stmt → Answer (Unit {0}) → Decision
  once_allowed it (Err refusal) = decision.Refuses refusal
  once_allowed it (Ok allowed) = once_bound it (binding (catalogue seen.db) seen.db.keep seen.variables it)

  -- A statement answers the first refusal that applies: that its text is no sentence, or too deep; that it may not stand where a
  -- transaction is open, or where none is; what binding refuses; that a value overflows or does not fit; that another session holds a
  -- key; that another transaction changed the table or a row after the view; that a key is there already. That no number is left
  -- comes last, and is told where a step is. The commands of a script are not built.
  unfoldable pub decide : Command → Decision
  decide (Wrong refusal) = decision.Refuses refusal
  decide (Sql statement) = once_allowed statement (allowed session.tran statement)
  decide command = decision.Refuses NotBuilt
