-- What follows of steps and plays, of statements whose acts apply; and which statements these are. This project's own.
use Rattle.std.specs.Prelude.{◌≡◌, ◌<◌, ℕ, Bool, true, List, length, Option, Some, Ok}
use Rattle.ct_types.specs.declared.bound.Bound.TheVariants.{Write as Writes}
use Rattle.ct_types.specs.declared.bound.BoundWrite.{BoundWrite}
use Rattle.ct_types.specs.declared.entry.Act.{Act}
use Rattle.ct_types.specs.declared.entry.Act.TheVariants.{Commit}
use Rattle.ct_types.specs.declared.expr.Expr.{Expr}
use Rattle.ct_types.specs.declared.expr.ObjectName.{ObjectName}
use Rattle.ct_types.specs.declared.refusal.Refusal.{Refusal}
use Rattle.ct_types.specs.declared.reply.Reply.{Reply}
use Rattle.ct_types.specs.declared.stmt.ColumnDef.{ColumnDef}
use Rattle.ct_types.specs.declared.stmt.DatabaseOption.{DatabaseOption}
use Rattle.ct_types.specs.declared.stmt.Select.{Select}
use Rattle.ct_types.specs.declared.stmt.Stmt.{Stmt}
use Rattle.ct_types.specs.declared.stmt.Stmt.TheVariants as stmt
use Rattle.ct_types.specs.declared.stmt.TypeName.{TypeName}
use Rattle.ct_types.specs.declared.stmt.WriteStmt.{WriteStmt}
use Rattle.ct_types.specs.declared.value.Key.{Key}
use Rattle.ct_model.specs.declared.db.Db.{Db}
use Rattle.ct_model.specs.declared.db.Table.{Table}
use Rattle.ct_model.specs.Applies.{ActApplies, Applies, ApplyInTurn}
use Rattle.ct_model.specs.Apply.{no_db}
use Rattle.ct_model.specs.Tables.{table_of}
use Rattle.ct_model.specs.Valid.{IsValid}
use Rattle.ct_bind.specs.Binding.{binding}
use Rattle.ct_write.specs.Laws.{IsOfTable, IsOfKinds}
use Rattle.ct_machine_laws.specs.Schemas.{AreNames}
use Rattle.ct_types.specs.declared.command.Command.{Command}
use Rattle.ct_types.specs.declared.command.Command.TheVariants.{Sql, Wrong}
use Rattle.ct_types.specs.declared.command.Journaled.{Journaled}
use Rattle.ct_machine.specs.declared.decision.Decision.TheVariants.{Commits}
use Rattle.ct_state.specs.Holding.{holds_key}
use Rattle.ct_state.specs.Machine.{Machine, db_of, opening}
use Rattle.ct_machine.specs.Play.{after, end_of}
use Rattle.ct_machine.specs.Reads.{catalogue, world_of}
use Rattle.ct_machine.specs.Step.{act_draws, decision_of, entry_of}
use Rattle.ct_machine_laws.specs.Sound.{IsSound, CommitsWell, EachCommitsWell}
use Rattle.ct_machine.specs.Fits.{FitsOn}
use Rattle.ct_state.specs.Seen.{Seen, seen_by}

-- ---- sound machines

-- the opening of a valid database is sound
abbrev pub OpensSound : Type 0
OpensSound = (db : Db) → IsValid db → IsSound (opening db)

-- the database of a sound machine is valid
abbrev pub SoundIsValid : Type 0
SoundIsValid = (m : Machine) → IsSound m → IsValid (db_of m)

-- in a sound machine a statement that commits an act that applies gives an entry that applies
abbrev pub EntriesApply : Type 0
EntriesApply = (m : Machine) (s : ℕ) (what : Command) (act : Act) (reply : Reply) → IsSound m → CommitsWell m s what → decision_of m s what ≡ Commits act reply
    → Applies (db_of m) (entry_of m (m.sessions s) act)

-- a sound machine is sound after each statement that is well, whatever it was answered
abbrev pub StaysSound : Type 0
StaysSound = (m : Machine) (s : ℕ) (what : Command) (reply : Reply) → IsSound m → s < 256 → CommitsWell m s what → IsSound (after m s what reply)

-- a play of such statements from the empty database ends in a machine whose entries apply in turn to it, and whose database is
-- valid
abbrev pub PlaysKeepValid : Type 0
PlaysKeepValid = (journal : List Journaled) → EachCommitsWell (opening no_db) journal
    → ApplyInTurn no_db (end_of (opening no_db) journal).past × IsValid (db_of (end_of (opening no_db) journal))

-- ---- what a session of a sound machine sees, and what waits in it

-- a session sees a valid database: the newest one or that of its view, with its own writes that wait
abbrev pub SeenIsValid : Type 0
SeenIsValid = (m : Machine) (s : ℕ) → IsSound m → IsValid (seen_by m (m.sessions s)).db

-- the writes that wait in a session apply to the newest database as one commit, whatever others committed since they were made
abbrev pub PendingApplies : Type 0
PendingApplies = (m : Machine) (s : ℕ) → IsSound m → 0 < length (m.sessions s).pending
    → ActApplies (db_of m) (entry_of m (m.sessions s) (Commit (m.sessions s).pending)).version (act_draws (db_of m) (Commit (m.sessions s).pending)) (Commit (m.sessions s).pending)

-- one session alone holds a key
abbrev pub OneHolds : Type 0
OneHolds = (m : Machine) (s other table : ℕ) (key : Key) → IsSound m → holds_key table key (m.sessions s) ≡ true → holds_key table key (m.sessions other) ≡ true → s ≡ other

-- ---- which statements commit acts that apply

-- ALTER DATABASE, and CREATE TABLE of names, and ENABLE, DISABLE and TRUNCATE
abbrev pub SettingsCommitWell : Type 0
SettingsCommitWell = (m : Machine) (s : ℕ) (name : List ℕ) (option : DatabaseOption) → IsSound m → CommitsWell m s (Sql (stmt.AlterDatabase name option))

abbrev pub CreatesCommitWell : Type 0
CreatesCommitWell = (m : Machine) (s : ℕ) (name : ObjectName) (columns : List ColumnDef) (key : Option (List (List ℕ)))
    → IsSound m → AreNames name columns → CommitsWell m s (Sql (stmt.CreateTable name columns key))

abbrev pub EnablesCommitWell : Type 0
EnablesCommitWell = (m : Machine) (s : ℕ) (name : ObjectName) (masks : Bool) → IsSound m → CommitsWell m s (Sql (stmt.EnableTracking name masks))

abbrev pub DisablesCommitWell : Type 0
DisablesCommitWell = (m : Machine) (s : ℕ) (name : ObjectName) → IsSound m → CommitsWell m s (Sql (stmt.DisableTracking name))

abbrev pub TruncatesCommitWell : Type 0
TruncatesCommitWell = (m : Machine) (s : ℕ) (name : ObjectName) → IsSound m → CommitsWell m s (Sql (stmt.TruncateTable name))

-- a text that is no sentence commits nothing, nor does a SELECT
abbrev pub WrongCommitsWell : Type 0
WrongCommitsWell = (m : Machine) (s : ℕ) (refusal : Refusal) → CommitsWell m s (Wrong refusal)

abbrev pub SelectsCommitWell : Type 0
SelectsCommitWell = (m : Machine) (s : ℕ) (query : Select) → CommitsWell m s (Sql (stmt.Select query))

-- the statements of transactions, of their levels and of locks
abbrev pub IsOfTransactions : Stmt → Type 0
IsOfTransactions stmt.Begin = Unit {0}
IsOfTransactions stmt.Commit = Unit {0}
IsOfTransactions stmt.Rollback = Unit {0}
IsOfTransactions (stmt.SetIsolation level) = Unit {0}
IsOfTransactions stmt.SetLockTimeout = Unit {0}
IsOfTransactions statement = ⊥

-- BEGIN, COMMIT, ROLLBACK, levels and the lock limit: COMMIT commits what waits, the others nothing
abbrev pub TransactionsCommitWell : Type 0
TransactionsCommitWell = (m : Machine) (s : ℕ) (statement : Stmt) → IsSound m → IsOfTransactions statement → CommitsWell m s (Sql statement)

-- SET and DECLARE give variables values of their kinds
abbrev pub SetsCommitWell : Type 0
SetsCommitWell = (m : Machine) (s : ℕ) (variable : List ℕ) (expr : Expr) → IsSound m → CommitsWell m s (Sql (stmt.SetVariable variable expr))

abbrev pub DeclaresCommitWell : Type 0
DeclaresCommitWell = (m : Machine) (s : ℕ) (variable : List ℕ) (type : TypeName) (expr : Option Expr) → IsSound m → CommitsWell m s (Sql (stmt.Declare variable type expr))

-- a command of a script, which is no sentence; none is built
abbrev pub IsScriptCommand : Command → Type 0
IsScriptCommand (Sql statement) = ⊥
IsScriptCommand (Wrong refusal) = ⊥
IsScriptCommand command = Unit {0}

-- nor does such a command
abbrev pub CommandsCommitWell : Type 0
CommandsCommitWell = (m : Machine) (s : ℕ) (command : Command) → IsScriptCommand command → CommitsWell m s command

-- what has to hold of a write that was bound, on the table as it stands: what binding promises of its columns and kinds, and
-- that the rows that are written fit
pub record IsAccepted (seen : Seen) (write : BoundWrite) (table : Table) : Type 0 where
  pub columns : IsOfTable table.schema write.change
  pub kinds : IsOfKinds (world_of seen) table.schema table.rows write.change
  pub fit : FitsOn seen write table

-- INSERT, UPDATE and DELETE of which that holds
abbrev pub WritesCommitWell : Type 0
WritesCommitWell = (m : Machine) (s : ℕ) (context : Option Expr) (write : WriteStmt)
    → IsSound m
    → ((bound : BoundWrite) (table : Table)
    → binding (catalogue (seen_by m (m.sessions s)).db) (seen_by m (m.sessions s)).db.keep (m.sessions s).variables (stmt.Write context write) ≡ Ok (Writes bound)
    → table_of (seen_by m (m.sessions s)).db.tables bound.table ≡ Some table → IsAccepted (seen_by m (m.sessions s)) bound table)
    → CommitsWell m s (Sql (stmt.Write context write))
