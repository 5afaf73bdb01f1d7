-- A statement that the grammar gives commits well, where the rows that it writes fit; so a sound machine stays sound.
use Rattle.std.proofs.Common.{◌≡◌, ℕ, Bool, true, false, not, List, Option, Some, None, Ok, Err, if◌then◌else◌, refl, sym, subst}
use Rattle.ct_types.specs.Answers.{Answer, ◌>>=◌, optional}
use Rattle.ct_types.proofs.AnswersKept.{Kept, after_kept, demand_kept, ok_kept}
use Rattle.ct_types.specs.declared.bound.Bound.{Bound}
use Rattle.ct_types.specs.declared.bound.Bound.TheVariants as bound
use Rattle.ct_types.specs.declared.bound.BoundExpr.{BoundExpr}
use Rattle.ct_types.specs.declared.bound.BoundWrite.{BoundWrite}
use Rattle.ct_types.specs.declared.catalogue.Variable.{Variable}
use Rattle.ct_types.specs.declared.expr.Expr.{Expr}
use Rattle.ct_types.specs.declared.refusal.Refusal.TheVariants.{VariableExists}
use Rattle.ct_types.specs.declared.schema.ColType.{ColType}
use Rattle.ct_types.specs.declared.schema.ColType.TheVariants as type
use Rattle.ct_types.specs.declared.stmt.Stmt.{Stmt}
use Rattle.ct_types.specs.declared.stmt.Stmt.TheVariants as stmt
use Rattle.ct_types.specs.declared.stmt.TypeName.{TypeName}
use Rattle.ct_types.specs.declared.stmt.WriteStmt.{WriteStmt}
use Rattle.ct_types.specs.declared.value.Value.{Value}
use Rattle.ct_types.specs.declared.value.Value.TheVariants.{Null}
use Rattle.ct_model.specs.declared.db.Table.{Table}
use Rattle.ct_model.specs.Tables.{table_of}
use Rattle.ct_bind.specs.Binding.{binding, declare as bind_declare, kind_of_name, set_variable as bind_set, value_of}
use Rattle.ct_bind_names.specs.Catalogue.{declared_variable, is_declared}
use Rattle.ct_bind_names.specs.Numbers.{column_type}
use Rattle.ct_bind_kind_laws.specs.Laws.{SetsSome}
use Rattle.ct_bind_kinds.specs.Kinds.{kind_of_type, AreOfTheirTypes, IsOfKind}
use Rattle.ct_expr.specs.Meaning.{on, value}
use Rattle.ct_session.specs.Sessions.{SessionState}
use Rattle.ct_session.specs.SetDeclare.{with_value}
use Rattle.ct_write.specs.Fitting.{fit}
use Rattle.ct_write.specs.Rows.{no_row}
use Rattle.ct_types.specs.declared.command.Command.{Command}
use Rattle.ct_types.specs.declared.command.Command.TheVariants.{Sql, Wrong}
use Rattle.ct_machine.specs.Decide.{decide_bound, declares, fitting, seen, set_variable, sets}
use Rattle.ct_state.specs.Machine.{Machine}
use Rattle.ct_machine.specs.Play.{after}
use Rattle.ct_state.specs.Replies.{is_memory}
use Rattle.ct_machine.specs.Reads.{catalogue, world_of}
use Rattle.ct_machine.specs.Step.{step}
use Rattle.ct_machine_laws.specs.Laws.{DeclaresCommitWell, IsAccepted, SetsCommitWell}
use Rattle.ct_machine_laws.specs.Sound.{CommitsWell, IsSound, IsWell}
use Rattle.ct_machine.specs.Fits.{AnswerFits, RowsFit}
use Rattle.ct_machine_laws.proofs.Committing.{commands_commit_well, creates_commit_well, decided_well, disables_commit_well, enables_commit_well, selects_commit_well, settings_commit_well, transactions_commit_well, truncates_commit_well, wrong_commits_well}
use Rattle.ct_machine_laws.proofs.Seeing.{seen_is_valid}
use Rattle.ct_machine_laws.proofs.Soundness.{stays_sound}
use Rattle.ct_machine_laws.proofs.Writing.{writes_commit_well}
use Rattle.ct_machine_laws.proofs.Accepted.{declares_suit_their_variable, sets_suit_their_variable, writes_suit_their_table}
use Rattle.ct_machine_laws.specs.Spelled.{IsSpelled}
use Rattle.ct_machine_laws.specs.Keeping.{IsSpelledCommand, KeepsSound}

-- ---- SET and DECLARE

-- what fits is what came
fitting_came : (name : List ℕ) (kind : ColType) (answer : Answer Value) (v : Value) → fitting name kind answer ≡ Ok v → answer ≡ Ok v
fitting_came name kind (Err refusal) v e = absurd cc
fitting_came name kind (Ok x) v e = by (fit (record { name = name; kind = kind; nullable = true }) x) e
  where
    by : (passed : Answer (Unit {0})) → ◌≡◌ {A = Answer Value} (passed >>= (λ passed. Ok x)) (Ok v) → ◌≡◌ {A = Answer Value} (Ok x) (Ok v)
    by (Ok unit) e = e
    by (Err refusal) e = absurd cc

sets_well : (m : Machine) (s : ℕ) (session : SessionState) (name : List ℕ) (answer : Answer Value)
    → ((v : Value) → answer ≡ Ok v → AreOfTheirTypes (with_value session.variables name v)) → IsWell m s session (sets name answer)
sets_well m s session name (Ok v) suits = suits v refl
sets_well m s session name (Err refusal) suits = tt

set_well : (m : Machine) (s : ℕ) (name : List ℕ) (found : Option Variable) (expr : BoundExpr)
    → ((v : Value) → value (on (world_of (seen m s)) no_row) expr ≡ Ok v → AreOfTheirTypes (with_value (m.sessions s).variables name v))
    → IsWell m s (m.sessions s) (set_variable (seen m s) name found expr)
set_well m s name None expr suits = tt
set_well m s name (Some variable) expr suits =
    let answer = value (on (world_of (seen m s)) no_row) expr in
    sets_well m s (m.sessions s) name (fitting name variable.kind answer) (λ v e. suits v (fitting_came name variable.kind answer v e))

-- what a SET is bound to
abbrev IsSet : Bound → Type 0
IsSet (bound.SetVariable place expr) = Unit {0}
IsSet b = ⊥

set_bound_well : (m : Machine) (s : ℕ) (name : List ℕ) (expr : Expr) (b : Bound) → IsSound m → IsSet b
    → binding (catalogue (seen m s).db) (seen m s).db.keep (seen m s).variables (stmt.SetVariable name expr) ≡ Ok b
    → IsWell m s (m.sessions s) (decide_bound m s (stmt.SetVariable name expr) b)
unfolding decide_bound
set_bound_well m s name expr (bound.SetVariable place e) sound is came =
    set_well m s name _ e (λ v gives. sets_suit_their_variable (seen m s) (seen m s).db.keep name expr place e v (seen_is_valid m s sound) (sound.sessions.each s).variables came gives)
set_bound_well m s name expr b sound is came = absurd is

set_is : (m : Machine) (s : ℕ) (name : List ℕ) (expr : Expr) → Kept IsSet (bind_set (catalogue (seen m s).db) (seen m s).variables name expr)
unfolding bind_set
set_is m s name expr =
    after_kept IsSet (declared_variable (seen m s).variables name) _
    (λ found. after_kept IsSet (value_of (catalogue (seen m s).db) (seen m s).variables (kind_of_type found.1) expr) _ (λ value. ok_kept IsSet (bound.SetVariable found.0 value) tt))

pub sets_commit_well : SetsCommitWell
unfolding binding
sets_commit_well m s name expr sound =
    decided_well m s (stmt.SetVariable name expr) (λ b passed may came. set_bound_well m s name expr b sound ((set_is m s name expr).holds b came) came)

declares_well : (m : Machine) (s : ℕ) (session : SessionState) (name : List ℕ) (kind : ColType) (answer : Answer Value)
    → ((v : Value) → answer ≡ Ok v → IsOfKind (kind_of_type kind) v) → IsWell m s session (declares name kind answer)
declares_well m s session name kind (Ok v) suits = suits v refl
declares_well m s session name kind (Err refusal) suits = tt

null_of : (kind : ColType) → IsOfKind (kind_of_type kind) Null
null_of type.Int = tt
null_of type.BigInt = tt
null_of (type.NVarChar most) = tt
null_of (type.VarBinary most) = tt

abbrev IsDeclared : Bound → Type 0
IsDeclared (bound.Declare variable kind expr) = Unit {0}
IsDeclared b = ⊥

declare_bound_well : (m : Machine) (s : ℕ) (name : List ℕ) (written : TypeName) (given : Option Expr) (b : Bound) → IsSound m → IsDeclared b
    → binding (catalogue (seen m s).db) (seen m s).db.keep (seen m s).variables (stmt.Declare name written given) ≡ Ok b
    → IsWell m s (m.sessions s) (decide_bound m s (stmt.Declare name written given) b)
unfolding decide_bound
declare_bound_well m s name written given (bound.Declare variable kind None) sound is came =
    declares_well m s (m.sessions s) variable kind (fitting variable kind (Ok Null))
    (λ v e. let same : ◌≡◌ {A = Answer Value} (Ok Null) (Ok v) = fitting_came variable kind (Ok Null) v e in let null : Null ≡ v = cc in subst (IsOfKind (kind_of_type kind)) null (null_of kind))
declare_bound_well m s name written given (bound.Declare variable kind (Some e)) sound is came =
    let answer = value (on (world_of (seen m s)) no_row) e in
    declares_well m s (m.sessions s) variable kind (fitting variable kind answer)
    (λ v gives. declares_suit_their_variable (seen m s) (seen m s).db.keep name variable written given kind e v (seen_is_valid m s sound) (sound.sessions.each s).variables came (fitting_came variable kind answer v gives))
declare_bound_well m s name written given b sound is came = absurd is

declare_is : (m : Machine) (s : ℕ) (name : List ℕ) (written : TypeName) (given : Option Expr) → Kept IsDeclared (bind_declare (catalogue (seen m s).db) (seen m s).variables name written given)
unfolding bind_declare
declare_is m s name written given =
    demand_kept IsDeclared (not (is_declared (seen m s).variables name)) (VariableExists name) _
    (λ free. after_kept IsDeclared (optional (value_of (catalogue (seen m s).db) (seen m s).variables (kind_of_name written)) given) _
    (λ value. after_kept IsDeclared (column_type written) _ (λ kind. ok_kept IsDeclared (bound.Declare name kind value) tt)))

pub declares_commit_well : DeclaresCommitWell
unfolding binding
declares_commit_well m s name written given sound =
    decided_well m s (stmt.Declare name written given) (λ b passed may came. declare_bound_well m s name written given b sound ((declare_is m s name written given).holds b came) came)

-- ---- the whole

-- what binding answers to a statement of a session, where it is a write, has rows that fit
abbrev BindsFit : Machine → ℕ → Stmt → Type 0
BindsFit m s statement = AnswerFits (seen m s) (binding (catalogue (seen m s).db) (seen m s).db.keep (seen m s).variables statement)

-- a write that was bound is accepted by its table
write_accepted : (m : Machine) (s : ℕ) (context : Option Expr) (write : WriteStmt) → IsSound m → SetsSome write → BindsFit m s (stmt.Write context write)
    → (b : BoundWrite) (table : Table)
    → binding (catalogue (seen m s).db) (seen m s).db.keep (seen m s).variables (stmt.Write context write) ≡ Ok (bound.Write b)
    → table_of (seen m s).db.tables b.table ≡ Some table → IsAccepted (seen m s) b table
write_accepted m s context write sound some fits b table was is =
    let promised = writes_suit_their_table (seen m s) (seen m s).db.keep context write b table (seen_is_valid m s sound) (sound.sessions.each s).variables some was is in
    record { columns = promised.0; kinds = promised.1; fit = fits b was table is }

-- each form of statement commits well
form_commits_well : (m : Machine) (s : ℕ) (statement : Stmt) → IsSound m → IsSpelled statement → BindsFit m s statement → CommitsWell m s (Sql statement)
form_commits_well m s (stmt.AlterDatabase name option) sound spelled fits = settings_commit_well m s name option sound
form_commits_well m s (stmt.CreateTable name columns key) sound spelled fits = creates_commit_well m s name columns key sound spelled
form_commits_well m s (stmt.EnableTracking name masks) sound spelled fits = enables_commit_well m s name masks sound
form_commits_well m s (stmt.DisableTracking name) sound spelled fits = disables_commit_well m s name sound
form_commits_well m s (stmt.TruncateTable name) sound spelled fits = truncates_commit_well m s name sound
form_commits_well m s (stmt.Write context write) sound spelled fits = writes_commit_well m s context write sound (write_accepted m s context write sound spelled fits)
form_commits_well m s (stmt.Select query) sound spelled fits = selects_commit_well m s query
form_commits_well m s stmt.Begin sound spelled fits = transactions_commit_well m s stmt.Begin sound tt
form_commits_well m s stmt.Commit sound spelled fits = transactions_commit_well m s stmt.Commit sound tt
form_commits_well m s stmt.Rollback sound spelled fits = transactions_commit_well m s stmt.Rollback sound tt
form_commits_well m s (stmt.SetIsolation level) sound spelled fits = transactions_commit_well m s (stmt.SetIsolation level) sound tt
form_commits_well m s stmt.SetLockTimeout sound spelled fits = transactions_commit_well m s stmt.SetLockTimeout sound tt
form_commits_well m s (stmt.SetVariable name expr) sound spelled fits = sets_commit_well m s name expr sound
form_commits_well m s (stmt.Declare name written given) sound spelled fits = declares_commit_well m s name written given sound

pub commits_well : (m : Machine) (s : ℕ) (what : Command) → IsSound m → IsSpelledCommand what → RowsFit (seen m s) what → CommitsWell m s what
commits_well m s (Wrong refusal) sound spelled fits = wrong_commits_well m s refusal
commits_well m s (Sql statement) sound spelled fits = form_commits_well m s statement sound spelled fits
commits_well m s command sound spelled fits = commands_commit_well m s command tt

pub keeps_sound : KeepsSound
keeps_sound m s what reply sound within spelled fits = by (is_memory reply) refl
  where
    by : (wanting : Bool) → is_memory reply ≡ wanting → IsSound (after m s what reply)
    by true wanting = subst (λ b. IsSound (if b then m else (step m s what).0)) (sym wanting) sound
    by false told = stays_sound m s what reply sound within (commits_well m s what sound spelled (fits told))
