-- Variables have representable values after every statement.
use Rattle.std.proofs.Common.{ℕ, ◌==◌, Bool, true, false, nat_le, List, [], ◌∷◌, cond, if◌then◌else◌, Option, None, Some, Ok, Err, refl}
use Rattle.ct_types.specs.Answers.{Answer}
use Rattle.ct_types.proofs.AnswersKept.{Kept, ok_kept, then_kept, after_kept}
use Rattle.ct_types.specs.declared.bound.Bound.{Bound}
use Rattle.ct_types.specs.declared.bound.Bound.TheVariants as bound
use Rattle.ct_types.specs.declared.bound.BoundExpr.{BoundExpr}
use Rattle.ct_types.specs.declared.catalogue.Variable.{Variable}
use Rattle.ct_types.specs.declared.command.Command.{Command}
use Rattle.ct_types.specs.declared.command.Command.TheVariants.{Sql, Wrong}
use Rattle.ct_types.specs.declared.bound.BoundWrite.{BoundWrite}
use Rattle.ct_types.specs.declared.entry.Act.{Act}
use Rattle.ct_types.specs.declared.entry.Act.TheVariants.{Enable, Disable, Truncate}
use Rattle.ct_types.specs.declared.entry.Write.{Write}
use Rattle.ct_types.specs.declared.reply.Reply.TheVariants.{Done}
use Rattle.std.specs.List.{slice_get}
use Rattle.std.specs.Option.{option_and_then}
use Rattle.ct_types.specs.declared.refusal.Refusal.{Refusal}
use Rattle.ct_types.specs.declared.refusal.Refusal.TheVariants.{Exhausted}
use Rattle.ct_types.specs.declared.reply.Grid.{Grid}
use Rattle.ct_types.specs.declared.schema.ColType.{ColType}
use Rattle.ct_types.specs.declared.stmt.Stmt.{Stmt}
use Rattle.ct_types.specs.declared.value.Value.{Value}
use Rattle.ct_types.specs.declared.value.Value.TheVariants.{Null}
use Rattle.ct_model.specs.declared.db.Table.{Table}
use Rattle.ct_model.specs.Tables.{catalogued, table_of}
use Rattle.ct_bind.specs.Binding.{binding}
use Rattle.ct_bind_names.specs.Names.{same}
use Rattle.ct_expr.specs.Meaning.{on, value}
use Rattle.ct_session.specs.Sessions.{SessionState, is_open}
use Rattle.ct_session.specs.SetDeclare.{with_value, with_variable}
use Rattle.ct_session.specs.declared.tran.Tran.{Tran}
use Rattle.ct_write.specs.Fitting.{fit}
use Rattle.ct_write.specs.Duplicates.{duplicate}
use Rattle.ct_write.specs.Rows.{no_row}
use Rattle.ct_write.specs.Writes.{writes_of}
use Rattle.ct_machine.specs.declared.decision.Decision.{Decision}
use Rattle.ct_machine.specs.declared.decision.Decision.TheVariants.{Refuses, Aborts, Answers, Commits, Pends, Begins, Ends, Isolates, Sets, Declares}
use Rattle.ct_machine.specs.Decide.{allowed, answered, counted, without_duplicates, unless, fitting, value_or_null, sets, declares, set_variable, commits, seen, fitted, written, altered, variable_in, decide_bound, once_bound, once_allowed, decide}
use Rattle.ct_state.specs.Machine.{Machine}
use Rattle.ct_state.specs.Replies.{is_memory}
use Rattle.ct_state.specs.Conflicts.{conflict}
use Rattle.ct_state.specs.Holding.{blocked_keys, blocked_table}
use Rattle.ct_machine.specs.Reads.{catalogue, selected, world_of}
use Rattle.ct_state.specs.Seen.{takes_view, viewing}
use Rattle.ct_machine.specs.Step.{changed, decision_of, entry_of, has_room, most_number, settled, step, viewed}
use Rattle.ct_state.specs.Machine.{xdes_or}
use Rattle.ct_value_laws.specs.Values.{IsRepresentable, HoldRepresentable}
use Rattle.ct_value_laws.proofs.Represented.{Fine}
use Rattle.ct_value_laws.proofs.Binding.{BoundGives, GivenGood, bound_kept}
use Rattle.ct_fit_laws.specs.Machines.{VariablesRepresentable, IsOfCodePointsCommand}
use Rattle.ct_fit_laws.specs.Laws.{VariablesStayRepresentable}

-- ---- decisions

-- what a decision gives a variable is representable
abbrev Gives : Decision → Type 0
Gives (Sets name value) = IsRepresentable value
Gives (Declares name kind value) = IsRepresentable value
Gives other = Unit {0}

settled_gives : (m : Machine) (session : SessionState) (d : Decision) → Gives d → Gives (settled m session d)
settled_gives m session (Commits act reply) gives = elim (has_room (entry_of m session act)) as (λ b. Gives (cond b (Commits act reply) (Refuses (Exhausted most_number)))) [ true ↦ tt | false ↦ tt ]
settled_gives m session (Pends writes reply) gives =
    elim (nat_le (xdes_or m.next session.xdes) most_number) as (λ b. Gives (cond b (Pends writes reply) (Refuses (Exhausted most_number)))) [ true ↦ tt | false ↦ tt ]
settled_gives m session (Refuses refusal) gives = tt
settled_gives m session (Aborts refusal) gives = tt
settled_gives m session (Answers reply) gives = tt
settled_gives m session Begins gives = tt
settled_gives m session Ends gives = tt
settled_gives m session (Isolates snapshot) gives = tt
settled_gives m session (Sets name value) gives = gives
settled_gives m session (Declares name kind value) gives = gives

unless_gives : (blocked : Option Refusal) (d : Decision) → Gives d → Gives (unless Refuses blocked d)
unless_gives None d gives = gives
unless_gives (Some refusal) d gives = tt

unless_aborted : (conflict : Option Refusal) (d : Decision) → Gives d → Gives (unless Aborts conflict d)
unless_aborted None d gives = gives
unless_aborted (Some refusal) d gives = tt

answered_gives : (answer : Answer Grid) → Gives (answered answer)
answered_gives (Ok grid) = tt
answered_gives (Err refusal) = tt

counted_gives : (waits : Bool) (writes : List Write) → Gives (counted waits writes)
counted_gives waits [] = tt
counted_gives true (write ∷ more) = tt
counted_gives false (write ∷ more) = tt

once_gives : (tran : Tran) (table : Table) (writes : List Write) (place : Option ℕ) → Gives (without_duplicates tran table writes place)
once_gives tran table writes None = counted_gives (is_open tran) writes
once_gives tran table writes (Some place) = tt

commits_gives : (writes : List Write) → Gives (commits writes)
commits_gives [] = tt
commits_gives (write ∷ more) = tt

fitting_fine : (name : List ℕ) (kind : ColType) (answer : Answer Value) → Fine answer → Fine (fitting name kind answer)
fitting_fine name kind answer good =
    then_kept IsRepresentable IsRepresentable answer _ good
    (λ v is. after_kept IsRepresentable (fit (record { name = name; kind = kind; nullable = true }) v) _ (λ passed. ok_kept IsRepresentable v is))

sets_gives : (name : List ℕ) (answer : Answer Value) → Fine answer → Gives (sets name answer)
sets_gives name (Ok v) good = good.holds v refl
sets_gives name (Err refusal) good = tt

declares_gives : (name : List ℕ) (kind : ColType) (answer : Answer Value) → Fine answer → Gives (declares name kind answer)
declares_gives name kind (Ok v) good = good.holds v refl
declares_gives name kind (Err refusal) good = tt

module _ (m : Machine) (s : ℕ) (held : HoldRepresentable (m.sessions s).variables) where
  abbrev Bounds : Bound → Type 0
  Bounds b = BoundGives (world_of (seen m s)) held b

  fitted_gives : (table : Table) (answer : Answer (List Write)) → Gives (fitted m s table answer)
  fitted_gives table (Err refusal) = tt
  fitted_gives table (Ok writes) =
      let tran = (m.sessions s).tran in
      let told = conflict m.past tran table.schema.name table.schema.id writes in
      let place = duplicate table.schema table.rows writes in
      unless_gives (blocked_keys m.sessions s table.schema.name writes) (unless Aborts told (without_duplicates tran table writes place))
      (unless_aborted told (without_duplicates tran table writes place) (once_gives tran table writes place))

  written_gives : (found : Option Table) (write : BoundWrite) → Gives (written m s write found)
  written_gives None write = tt
  written_gives (Some table) write = fitted_gives table (writes_of (world_of (seen m s)) (catalogued table) write table.rows)

  altered_gives : (id : ℕ) (table : Option Table) (act : Act) → Gives (altered m s id table act)
  altered_gives id table act = unless_gives (option_and_then (λ t. blocked_table m.sessions s t.schema.name id) table) (Commits act Done) tt

  set_gives : (name : List ℕ) (found : Option Variable) (expr : BoundExpr) → Fine (value (on (world_of (seen m s)) no_row) expr) → Gives (set_variable (seen m s) name found expr)
  set_gives name None expr good = tt
  set_gives name (Some variable) expr good =
      let answer = value (on (world_of (seen m s)) no_row) expr in
      sets_gives name (fitting name variable.kind answer) (fitting_fine name variable.kind answer good)

  given_fine : (given : Option BoundExpr) → GivenGood (world_of (seen m s)) held given → Fine (value_or_null (seen m s) given)
  given_fine None good = ok_kept IsRepresentable Null tt
  given_fine (Some expr) good = good

  decided : (it : Stmt) (b : Bound) → Bounds b → Gives (decide_bound m s it b)
  unfolding decide_bound
  decided it bound.AcceptOption good = tt
  decided it (bound.AlterDatabase keep) good = tt
  decided it (bound.CreateTable schema) good = tt
  decided it (bound.EnableTracking table masks) good = altered_gives table (table_of (seen m s).db.tables table) (Enable table masks)
  decided it (bound.DisableTracking table) good = altered_gives table (table_of (seen m s).db.tables table) (Disable table)
  decided it (bound.TruncateTable table) good = altered_gives table (table_of (seen m s).db.tables table) (Truncate table)
  decided it (bound.Write write) good = written_gives (table_of (seen m s).db.tables write.table) write
  decided it (bound.Select query) good = answered_gives (selected (seen m s) query)
  decided it bound.Begin good = tt
  decided it bound.Commit good = commits_gives (m.sessions s).pending
  decided it bound.Rollback good = tt
  decided it (bound.SetIsolation level) good = tt
  decided it bound.SetLockTimeout good = tt
  decided it (bound.SetVariable place expr) good = set_gives (variable_in it) (slice_get (seen m s).variables place) expr good
  decided it (bound.Declare name kind given) good =
      let answer = value_or_null (seen m s) given in
      declares_gives name kind (fitting name kind answer) (fitting_fine name kind answer (given_fine given good))

  once_decided : (it : Stmt) (answer : Answer Bound) → Kept Bounds answer → Gives (once_bound m s it answer)
  once_decided it (Ok b) good = decided it b (good.holds b refl)
  once_decided it (Err refusal) good = tt

  allowed_gives : (it : Stmt) (answer : Answer (Unit {0})) → Gives (once_bound m s it (binding (catalogue (seen m s).db) (seen m s).db.keep (seen m s).variables it)) → Gives (once_allowed m s it answer)
  allowed_gives it (Ok passed) gives = gives
  allowed_gives it (Err refusal) gives = tt

  decide_gives : (what : Command) → IsOfCodePointsCommand what → Gives (decide m s what)
  unfolding decide
  decide_gives (Wrong refusal) texts = tt
  decide_gives (Sql it) texts =
      allowed_gives it (allowed (m.sessions s).tran it)
      (once_decided it (binding (catalogue (seen m s).db) (seen m s).db.keep (seen m s).variables it) (bound_kept (world_of (seen m s)) held (catalogue (seen m s).db) (seen m s).variables (seen m s).db.keep it texts))
  decide_gives command texts = tt

-- ---- variables

with_value_held : (variables : List Variable) (name : List ℕ) (v : Value) → HoldRepresentable variables → IsRepresentable v → HoldRepresentable (with_value variables name v)
with_value_held [] name v held is = tt
with_value_held (variable ∷ more) name v held is =
    elim (same variable.name name) as (λ b. HoldRepresentable (if b then record variable { value = v } ∷ more else variable ∷ with_value more name v))
    [ true ↦ (is, held.1) | false ↦ (held.0, with_value_held more name v held.1 is) ]

with_variable_held : (variables : List Variable) (name : List ℕ) (kind : ColType) (v : Value) → HoldRepresentable variables → IsRepresentable v → HoldRepresentable (with_variable variables name kind v)
with_variable_held [] name kind v held is = (is, tt)
with_variable_held (variable ∷ more) name kind v held is = (held.0, with_variable_held more name kind v held.1 is)

viewed_held : (m : Machine) (what : Command) (session : SessionState) → HoldRepresentable session.variables → HoldRepresentable (viewed m what session).variables
viewed_held m (Sql it) session held = elim (takes_view it) as (λ b. HoldRepresentable (if b then viewing m session else session).variables) [ true ↦ held | false ↦ held ]
viewed_held m what session held = held

replaced_held : (sessions : ℕ → SessionState) (s : ℕ) (now : SessionState) → ((other : ℕ) → HoldRepresentable (sessions other).variables) → HoldRepresentable now.variables
    → (other : ℕ) → HoldRepresentable (if other == s then now else sessions other).variables
replaced_held sessions s now all here other = elim (other == s) as (λ b. HoldRepresentable (if b then now else sessions other).variables) [ true ↦ here | false ↦ all other ]

changed_held : (m : Machine) (s : ℕ) (session : SessionState) (d : Decision) → VariablesRepresentable m → HoldRepresentable session.variables → Gives d → VariablesRepresentable (changed m s session d)
changed_held m s session (Refuses refusal) all held gives = all
changed_held m s session (Aborts refusal) all held gives = replaced_held m.sessions s _ all held
changed_held m s session (Answers reply) all held gives = replaced_held m.sessions s _ all held
changed_held m s session (Commits act reply) all held gives = replaced_held m.sessions s _ all held
changed_held m s session (Pends writes reply) all held gives = replaced_held m.sessions s _ all held
changed_held m s session Begins all held gives = replaced_held m.sessions s _ all held
changed_held m s session Ends all held gives = replaced_held m.sessions s _ all held
changed_held m s session (Isolates snapshot) all held gives = replaced_held m.sessions s _ all held
changed_held m s session (Sets name v) all held gives = replaced_held m.sessions s _ all (with_value_held session.variables name v held gives)
changed_held m s session (Declares name kind v) all held gives = replaced_held m.sessions s _ all (with_variable_held session.variables name kind v held gives)

pub variables_stay_representable : VariablesStayRepresentable
variables_stay_representable m s what reply all texts =
    elim (is_memory reply) as (λ b. VariablesRepresentable (if b then m else (step m s what).0)) [
      | true ↦ all
      | false ↦ changed_held m s (viewed m what (m.sessions s)) (decision_of m s what) all (viewed_held m what (m.sessions s) (all s)) (settled_gives m (m.sessions s) (decide m s what) (decide_gives m s (all s) what texts))
    ]
