-- ALTER DATABASE, CREATE TABLE, ENABLE, DISABLE and TRUNCATE commit acts that apply and spare what waits in other sessions, and so does
-- COMMIT; texts that are no sentences, SELECT and the other statements of transactions commit nothing.
use Rattle.std.proofs.Common.{◌≡◌, ◌≢◌, ◌<◌, ◌≤◌, ◌==◌, ⊎_elim, ℕ, Bool, true, false, not, cond, eqb, eq-eqb, ne_eqb, List, [], ◌∷◌, find, map, Option, Some, None, is_some, option_map, Ok, Err, refl, ap, sym, subst, ◌∙◌, arith}
use Rattle.std.specs.List.{AllByRecursion}
use Rattle.std.specs.Option.{IsSomeAnd}
use Rattle.ct_types.proofs.Lists.{all_everywhere}
use Rattle.ct_types.specs.declared.bound.Bound.{Bound}
use Rattle.ct_types.specs.declared.bound.Bound.TheVariants as bound
use Rattle.ct_types.specs.declared.bound.BoundSelect.{BoundSelect}
use Rattle.ct_types.specs.declared.entry.Act.{Act}
use Rattle.ct_types.specs.declared.entry.Act.TheVariants.{Define, Truncate, Enable, Disable, Database}
use Rattle.ct_types.specs.declared.entry.Keep.{Keep}
use Rattle.ct_types.specs.declared.entry.Write.{Write}
use Rattle.ct_types.specs.declared.refusal.Refusal.{Refusal}
use Rattle.ct_types.specs.declared.refusal.Refusal.TheVariants.{InTransaction}
use Rattle.ct_types.specs.declared.reply.Grid.{Grid}
use Rattle.ct_types.specs.declared.reply.Reply.TheVariants.{Done}
use Rattle.ct_types.specs.declared.schema.Schema.{Schema}
use Rattle.ct_types.specs.declared.stmt.Stmt.{Stmt}
use Rattle.ct_types.specs.declared.stmt.Stmt.TheVariants as stmt
use Rattle.ct_types.specs.Answers.{Answer, ◌>>=◌, demand}
use Rattle.ct_model.specs.declared.db.Table.{Table}
use Rattle.ct_model.specs.Applies.{ActApplies, IsNewSchema, WritesApply}
use Rattle.ct_model.specs.Tables.{catalogued, table_of}
use Rattle.ct_model.proofs.Found.{some_and_weaken}
use Rattle.ct_model.proofs.Members.{all_weaken}
use Rattle.ct_model_laws.proofs.Numbered.{found_within}
use Rattle.ct_model_laws.proofs.Standing.{tables_found}
use Rattle.ct_bind.specs.Binding.{binding}
use Rattle.ct_bind.specs.Queries.{select}
use Rattle.ct_session.specs.Sessions.{SessionState, is_open}
use Rattle.ct_session.specs.declared.tran.Tran.{Tran}
use Rattle.ct_session.specs.declared.tran.Tran.TheVariants as tran
use Rattle.ct_machine_laws.proofs.Creating.{Creates, create_kept}
use Rattle.ct_machine_laws.proofs.Settings.{Sets, settings_apply_by}
use Rattle.ct_machine_laws.proofs.Switches.{SwitchesOn, SwitchesOff, Empties, enable_kept, disable_kept, truncate_kept, new_schema}
use Rattle.ct_types.specs.declared.command.Command.TheVariants.{Sql, Wrong}
use Rattle.ct_machine.specs.declared.decision.Decision.{Decision}
use Rattle.ct_machine.specs.declared.decision.Decision.TheVariants.{Refuses, Aborts, Commits}
use Rattle.ct_machine.specs.Decide.{allowed, altered, answered, commits, decide, decide_bound, once_allowed, once_bound, seen, unless}
use Rattle.ct_state.specs.Holding.{blocked_table}
use Rattle.ct_state.specs.Machine.{Machine, db_of}
use Rattle.ct_machine.specs.Reads.{catalogue, selected}
use Rattle.ct_state.specs.Seen.{read_by, with_writes}
use Rattle.ct_machine.specs.Step.{act_draws, entry_of, is_tracked}
use Rattle.ct_machine_laws.specs.Laws.{CommandsCommitWell, CreatesCommitWell, EnablesCommitWell, DisablesCommitWell, TruncatesCommitWell, SelectsCommitWell, SettingsCommitWell, TransactionsCommitWell, IsOfTransactions, WrongCommitsWell}
use Rattle.ct_machine_laws.specs.Sound.{CommitsWell, IsSound, IsWell}
use Rattle.ct_machine_laws.specs.Transactions.{NameOthers, Spares, SparesOthers}
use Rattle.ct_machine_laws.proofs.Holders.{byte_or_above, commit_spares, table_free}
use Rattle.ct_machine_laws.proofs.Seeing.{seen_is_valid}
use Rattle.ct_machine_laws.proofs.Soundness.{sound_is_valid}

-- ---- what is seen without a transaction

-- a statement that may not stand in a transaction stands in none
no_tran : (it : Tran) (refusal : Refusal) (passed : Unit {0}) → demand (not (is_open it)) refusal ≡ Ok passed → it ≡ tran.None
no_tran tran.None refusal passed e = refl
no_tran tran.Committed refusal passed e = absurd cc
no_tran tran.Snapshot refusal passed e = absurd cc
no_tran (tran.Viewed view) refusal passed e = absurd cc

-- there the newest database is seen
seen_closed : (m : Machine) (s : ℕ) → IsSound m → (m.sessions s).tran ≡ tran.None → (seen m s).db ≡ db_of m
seen_closed m s sound none =
    ap (λ (it : Tran). with_writes (read_by m it) (m.sessions s).pending) none ∙ ap (λ (writes : List Write). with_writes (db_of m) writes) ((sound.sessions.each s).quiet none).0

-- ---- what stands behind a statement that is well

once_well : (m : Machine) (s : ℕ) (it : Stmt) (answer : Answer Bound) → ((b : Bound) → answer ≡ Ok b → IsWell m s (m.sessions s) (decide_bound m s it b))
    → IsWell m s (m.sessions s) (once_bound m s it answer)
once_well m s it (Ok b) go = go b refl
once_well m s it (Err refusal) go = tt

allowed_well : (m : Machine) (s : ℕ) (it : Stmt) (answer : Answer (Unit {0}))
    → ((passed : Unit {0}) → answer ≡ Ok passed → IsWell m s (m.sessions s) (once_bound m s it (binding (catalogue (seen m s).db) (seen m s).db.keep (seen m s).variables it)))
    → IsWell m s (m.sessions s) (once_allowed m s it answer)
allowed_well m s it (Ok passed) well = well passed refl
allowed_well m s it (Err refusal) well = tt

-- a sentence is well where whatever it is bound to is, in a transaction that allows it
pub decided_well : (m : Machine) (s : ℕ) (it : Stmt)
    → ((b : Bound) (passed : Unit {0}) → allowed (m.sessions s).tran it ≡ Ok passed → binding (catalogue (seen m s).db) (seen m s).db.keep (seen m s).variables it ≡ Ok b
    → IsWell m s (m.sessions s) (decide_bound m s it b)) → CommitsWell m s (Sql it)
unfolding decide
decided_well m s it go =
    allowed_well m s it (allowed (m.sessions s).tran it)
    (λ passed may. once_well m s it (binding (catalogue (seen m s).db) (seen m s).db.keep (seen m s).variables it) (λ b came. go b passed may came))

-- nothing stands before what is decided, or it is refused
pub unless_well : (m : Machine) (s : ℕ) (session : SessionState) (blocked : Option Refusal) (d : Decision) → (blocked ≡ None → IsWell m s session d)
    → IsWell m s session (unless Refuses blocked d)
unless_well m s session None d well = well refl
unless_well m s session (Some refusal) d well = tt

pub unless_aborted_well : (m : Machine) (s : ℕ) (session : SessionState) (conflict : Option Refusal) (d : Decision) → (conflict ≡ None → IsWell m s session d)
    → IsWell m s session (unless Aborts conflict d)
unless_aborted_well m s session None d well = well refl
unless_aborted_well m s session (Some refusal) d well = tt

-- ---- ALTER DATABASE

-- it alters no table and writes no key
database_spares : (m : Machine) (s : ℕ) (keep : Option Keep) → SparesOthers m.sessions s (Database keep)
database_spares m s keep other differs = all_everywhere (Spares (Database keep)) (λ write. record { table = refl; key = refl }) (m.sessions other).pending

sets_well : (m : Machine) (s : ℕ) (it : Stmt) (b : Bound) → (seen m s).db ≡ db_of m → Sets (seen m s).db (db_of m).version b → IsWell m s (m.sessions s) (decide_bound m s it b)
unfolding decide_bound
sets_well m s it bound.AcceptOption newest sets = tt
sets_well m s it (bound.AlterDatabase keep) newest sets =
    (subst (λ db. ActApplies db (db_of m).version false (Database keep)) newest sets, database_spares m s keep)
sets_well m s it b newest sets = absurd sets

pub settings_commit_well : SettingsCommitWell
unfolding binding
settings_commit_well m s name option sound =
    let db = (seen m s).db in
    decided_well m s (stmt.AlterDatabase name option)
    (λ b passed may came. sets_well m s (stmt.AlterDatabase name option) b (seen_closed m s sound (no_tran (m.sessions s).tran InTransaction passed may))
    ((settings_apply_by db (db_of m).version db.keep option refl (seen_is_valid m s sound).keep).holds b came))

-- ---- CREATE TABLE

-- no write that waits is of a table that is defined only now
define_spares : (m : Machine) (s : ℕ) (schema : Schema) → IsSound m → IsNewSchema (db_of m).tables schema → SparesOthers m.sessions s (Define schema)
define_spares m s schema sound new other differs =
    let tables = (db_of m).tables in
    all_weaken (λ w. IsSomeAnd (table_of tables w.table) (λ t. Unit {0})) (Spares (Define schema))
    (λ (w : Write) found.
    let below = found_within 1 tables w.table (sound_is_valid m sound).numbered found in
    record { table = ne_eqb schema.id w.table (λ same. absurd (omega (arith, same, below, new.id))); key = refl }) (m.sessions other).pending
    (tables_found (m.sessions other).pending tables (sound.sessions.each other).pending)

creates_well : (m : Machine) (s : ℕ) (it : Stmt) (b : Bound) → IsSound m → (seen m s).db ≡ db_of m → Creates (map catalogued (seen m s).db.tables) b
    → IsWell m s (m.sessions s) (decide_bound m s it b)
unfolding decide_bound
creates_well m s it (bound.CreateTable schema) sound newest creates =
    let applies : ActApplies (db_of m) (db_of m).version false (Define schema) =
    subst (λ db. ActApplies db (db_of m).version false (Define schema)) newest (new_schema (seen m s).db.tables schema creates, refl) in
    (applies, define_spares m s schema sound applies.0)
creates_well m s it b sound newest creates = absurd creates

pub creates_commit_well : CreatesCommitWell
unfolding binding
creates_commit_well m s name columns key sound names =
    decided_well m s (stmt.CreateTable name columns key)
    (λ b passed may came. creates_well m s (stmt.CreateTable name columns key) b sound (seen_closed m s sound (no_tran (m.sessions s).tran InTransaction passed may))
    ((create_kept (map catalogued (seen m s).db.tables) name columns key names).holds b came))

-- ---- acts on a table of which no other session holds a key

-- a session without a key of a table has no write of it that waits
no_key : (table : ℕ) (writes : List Write) → is_some (option_map (λ (write : Write). write.key) (find (λ (write : Write). write.table == table) writes)) ≡ false
    → AllByRecursion (λ write. (table == write.table) ≡ false) writes
no_key table [] none = tt
no_key table (w ∷ writes) none =
    let step : (b : Bool) → b ≡ eqb w.table table
    → is_some (option_map (λ (write : Write). write.key) (cond b (Some w) (find (λ (write : Write). write.table == table) writes))) ≡ false
    → AllByRecursion (λ write. (table == write.table) ≡ false) (w ∷ writes) =
    elim [
      | true ↦ (λ e n. absurd cc)
      | false ↦ (λ e n. (ne_eqb table w.table (λ same. let equal : eqb w.table table ≡ true = eq-eqb w.table table (sym same) in absurd cc), no_key table writes n))
    ] in
    step (eqb w.table table) refl none

-- no other session has one where the table is not blocked
others_off : (m : Machine) (s : ℕ) (name : List ℕ) (table : ℕ) → IsSound m → blocked_table m.sessions s name table ≡ None → (other : ℕ) → other ≢ s
    → AllByRecursion (λ write. (table == write.table) ≡ false) (m.sessions other).pending
others_off m s name table sound free other differs =
    ⊎_elim (λ (below : other < 256). no_key table (m.sessions other).pending (table_free m.sessions s name table free other differs below))
    (λ (above : 256 ≤ other). subst (λ (session : SessionState). AllByRecursion (λ write. (table == write.table) ≡ false) session.pending) (sym (sound.sessions.bytes other above)) tt)
    (byte_or_above other)

-- such an act is well
altered_well : (m : Machine) (s id : ℕ) (table : Option Table) (act : Act) → IsSound m → IsSomeAnd table (λ t. Unit {0})
    → ((write : Write) → (id == write.table) ≡ false → Spares act write)
    → ActApplies (db_of m) (entry_of m (m.sessions s) act).version (act_draws (db_of m) act) act → IsWell m s (m.sessions s) (altered m s id table act)
altered_well m s id None act sound there spares applies = absurd there
altered_well m s id (Some t) act sound there spares applies =
    unless_well m s (m.sessions s) (blocked_table m.sessions s t.schema.name id) (Commits act Done)
    (λ free. (applies, (λ other differs. all_weaken (λ write. (id == write.table) ≡ false) (Spares act) spares (m.sessions other).pending (others_off m s t.schema.name id sound free other differs))))

there_of : (P : Table → Type 0) (o : Option Table) → IsSomeAnd o P → IsSomeAnd o (λ t. Unit {0})
there_of P o found = some_and_weaken P (λ t. Unit {0}) (λ t is. tt) o found

-- ---- ENABLE

enables_well : (m : Machine) (s : ℕ) (it : Stmt) (b : Bound) → IsSound m → (seen m s).db ≡ db_of m → SwitchesOn (seen m s).db (db_of m).version b
    → IsWell m s (m.sessions s) (decide_bound m s it b)
unfolding decide_bound
enables_well m s it (bound.EnableTracking id masks) sound newest switches =
    altered_well m s id (table_of (seen m s).db.tables id) (Enable id masks) sound (there_of _ (table_of (seen m s).db.tables id) switches.1) (λ write differs. record { table = differs; key = refl })
    (subst (λ db. ActApplies db (db_of m).version true (Enable id masks)) newest switches)
enables_well m s it b sound newest switches = absurd switches

pub enables_commit_well : EnablesCommitWell
unfolding binding
enables_commit_well m s name masks sound =
    decided_well m s (stmt.EnableTracking name masks)
    (λ b passed may came. enables_well m s (stmt.EnableTracking name masks) b sound (seen_closed m s sound (no_tran (m.sessions s).tran InTransaction passed may))
    ((enable_kept (seen m s).db (db_of m).version name masks (seen_is_valid m s sound).numbered).holds b came))

-- ---- DISABLE

disables_well : (m : Machine) (s : ℕ) (it : Stmt) (b : Bound) → IsSound m → (seen m s).db ≡ db_of m → SwitchesOff (seen m s).db (db_of m).version b
    → IsWell m s (m.sessions s) (decide_bound m s it b)
unfolding decide_bound
disables_well m s it (bound.DisableTracking id) sound newest switches =
    altered_well m s id (table_of (seen m s).db.tables id) (Disable id) sound (there_of _ (table_of (seen m s).db.tables id) switches.0) (λ write differs. record { table = differs; key = refl })
    (subst (λ db. ActApplies db (db_of m).version false (Disable id)) newest switches)
disables_well m s it b sound newest switches = absurd switches

pub disables_commit_well : DisablesCommitWell
unfolding binding
disables_commit_well m s name sound =
    decided_well m s (stmt.DisableTracking name)
    (λ b passed may came. disables_well m s (stmt.DisableTracking name) b sound (seen_closed m s sound (no_tran (m.sessions s).tran InTransaction passed may))
    ((disable_kept (seen m s).db (db_of m).version name (seen_is_valid m s sound).numbered).holds b came))

-- ---- TRUNCATE

truncates_well : (m : Machine) (s : ℕ) (it : Stmt) (b : Bound) → IsSound m → (seen m s).db ≡ db_of m → Empties (seen m s).db (db_of m).version b
    → IsWell m s (m.sessions s) (decide_bound m s it b)
unfolding decide_bound
truncates_well m s it (bound.TruncateTable id) sound newest empties =
    altered_well m s id (table_of (seen m s).db.tables id) (Truncate id) sound (there_of _ (table_of (seen m s).db.tables id) empties) (λ write differs. record { table = differs; key = refl })
    (subst (λ db. ActApplies db (db_of m).version (is_tracked (table_of db.tables id)) (Truncate id)) newest empties)
truncates_well m s it b sound newest empties = absurd empties

pub truncates_commit_well : TruncatesCommitWell
unfolding binding
truncates_commit_well m s name sound =
    decided_well m s (stmt.TruncateTable name)
    (λ b passed may came. truncates_well m s (stmt.TruncateTable name) b sound (seen_closed m s sound (no_tran (m.sessions s).tran InTransaction passed may))
    ((truncate_kept (seen m s).db (db_of m).version (seen m s).variables name (seen_is_valid m s sound).numbered).holds b came))

-- ---- what commits nothing

pub wrong_commits_well : WrongCommitsWell
unfolding decide
wrong_commits_well m s refusal = tt

pub commands_commit_well : CommandsCommitWell
unfolding decide
commands_commit_well m s (Sql statement) is = absurd is
commands_commit_well m s (Wrong refusal) is = absurd is
commands_commit_well m s command is = tt

answered_well : (m : Machine) (s : ℕ) (answer : Answer Grid) → IsWell m s (m.sessions s) (answered answer)
answered_well m s (Ok grid) = tt
answered_well m s (Err refusal) = tt

abbrev IsSelect : Bound → Type 0
IsSelect (bound.Select query) = Unit {0}
IsSelect b = ⊥

select_well : (m : Machine) (s : ℕ) (it : Stmt) (b : Bound) → IsSelect b → IsWell m s (m.sessions s) (decide_bound m s it b)
unfolding decide_bound
select_well m s it (bound.Select query) is = answered_well m s (selected (seen m s) query)
select_well m s it b is = absurd is

is_select : (answer : Answer BoundSelect) (b : Bound) → (answer >>= (λ query. Ok (bound.Select query))) ≡ Ok b → IsSelect b
is_select (Ok query) b e = let same : bound.Select query ≡ b = cc in subst IsSelect same tt
is_select (Err refusal) b e = absurd cc

pub selects_commit_well : SelectsCommitWell
unfolding binding
selects_commit_well m s query =
    decided_well m s (stmt.Select query)
    (λ b passed may came. select_well m s (stmt.Select query) b (is_select (select (catalogue (seen m s).db) (seen m s).variables query) b came))

-- ---- transactions

-- what waits in the session applies, and the keys that others hold are other ones
commits_well : (m : Machine) (s : ℕ) (writes : List Write) → IsSound m → (m.sessions s).pending ≡ writes → IsWell m s (m.sessions s) (commits writes)
commits_well m s [] sound are = tt
commits_well m s (write ∷ more) sound are = (
  (omega arith, subst (WritesApply (db_of m).tables) are (sound.sessions.each s).pending, refl),
  (λ other differs. commit_spares (write ∷ more) (m.sessions other).pending
      (subst (NameOthers (m.sessions other).pending) are (sound.sessions.apart other s differs).keys)),
)

-- what is bound is of a transaction
abbrev IsTransactional : Bound → Type 0
IsTransactional bound.Begin = Unit {0}
IsTransactional bound.Commit = Unit {0}
IsTransactional bound.Rollback = Unit {0}
IsTransactional (bound.SetIsolation level) = Unit {0}
IsTransactional bound.SetLockTimeout = Unit {0}
IsTransactional b = ⊥

transactional_well : (m : Machine) (s : ℕ) (it : Stmt) (b : Bound) → IsSound m → IsTransactional b → IsWell m s (m.sessions s) (decide_bound m s it b)
unfolding decide_bound
transactional_well m s it bound.Begin sound is = tt
transactional_well m s it bound.Commit sound is = commits_well m s (m.sessions s).pending sound refl
transactional_well m s it bound.Rollback sound is = tt
transactional_well m s it (bound.SetIsolation level) sound is = tt
transactional_well m s it bound.SetLockTimeout sound is = tt
transactional_well m s it b sound is = absurd is

same_transactional : (a b : Bound) → IsTransactional a → ◌≡◌ {A = Answer Bound} (Ok a) (Ok b) → IsTransactional b
same_transactional a b is e = let same : a ≡ b = cc in subst IsTransactional same is

bound_transactional : (m : Machine) (s : ℕ) (it : Stmt) (b : Bound) → IsOfTransactions it
    → binding (catalogue (seen m s).db) (seen m s).db.keep (seen m s).variables it ≡ Ok b → IsTransactional b
unfolding binding
bound_transactional m s stmt.Begin b is came = same_transactional bound.Begin b tt came
bound_transactional m s stmt.Commit b is came = same_transactional bound.Commit b tt came
bound_transactional m s stmt.Rollback b is came = same_transactional bound.Rollback b tt came
bound_transactional m s (stmt.SetIsolation level) b is came = same_transactional (bound.SetIsolation level) b tt came
bound_transactional m s stmt.SetLockTimeout b is came = same_transactional bound.SetLockTimeout b tt came
bound_transactional m s it b is came = absurd is

pub transactions_commit_well : TransactionsCommitWell
transactions_commit_well m s it sound is = decided_well m s it (λ b passed may came. transactional_well m s it b sound (bound_transactional m s it b is came))
