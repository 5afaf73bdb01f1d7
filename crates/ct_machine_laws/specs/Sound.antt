-- The machines that a run can come to. This project's own.
use Rattle.std.specs.Prelude.{◌≤◌, ◌<◌, ◌^◌, ℕ, List, [], ◌∷◌, length}
use Rattle.ct_types.specs.declared.command.Command.{Command}
use Rattle.ct_types.specs.declared.command.Journaled.{Journaled}
use Rattle.ct_model.specs.Applies.{ActApplies, ApplyInTurn}
use Rattle.ct_model.specs.Valid.{IsValid}
use Rattle.ct_bind_kinds.specs.Kinds.{kind_of_type, AreOfTheirTypes, IsOfKind}
use Rattle.ct_session.specs.Sessions.{SessionState}
use Rattle.ct_session.specs.SetDeclare.{with_value}
use Rattle.ct_machine.specs.declared.decision.Decision.{Decision}
use Rattle.ct_machine.specs.declared.decision.Decision.TheVariants.{Refuses, Aborts, Answers, Commits, Pends, Begins, Ends, Isolates, Sets, Declares}
use Rattle.ct_machine.specs.Decide.{decide}
use Rattle.ct_state.specs.Machine.{Machine, db_of}
use Rattle.ct_machine.specs.Play.{after}
use Rattle.ct_machine.specs.Step.{act_draws, entry_of}
use Rattle.ct_machine_laws.specs.Transactions.{AreSessionsSound, MayWait, SparesOthers}

-- ---- sound machines

-- a sound machine: it began with a valid database, to which its entries apply in turn; its time is not before that of
-- the last entry, and at most 2^62; the next transaction's number is above every one that was given; and its sessions are sound
pub record IsSound (m : Machine) : Type 0 where
  pub first : IsValid m.first
  pub entries : ApplyInTurn m.first m.past
  pub time : (db_of m).time ≤ m.now
  pub time_within : m.now ≤ 2 ^ 62
  pub next : (db_of m).last_xdes < m.next
  pub sessions : AreSessionsSound (length m.past) (db_of m) m.next m.sessions

-- each machine that a play passes is sound: the first, the last, and those between
abbrev pub StaySound : Machine → List Journaled → Type 0
StaySound m [] = IsSound m
StaySound m (one ∷ more) = IsSound m × StaySound (after m one.session one.what one.reply) more

-- ---- statements that commit well

-- what a statement of a session in this state comes to is well: an act that it commits applies to the machine's database and spares
-- what waits in the other sessions; writes may wait; and a variable that it sets or declares gets a value of its type's kind
abbrev pub IsWell : Machine → ℕ → SessionState → Decision → Type 0
IsWell m s session (Commits act reply) = ActApplies (db_of m) (entry_of m session act).version (act_draws (db_of m) act) act × SparesOthers m.sessions s act
IsWell m s session (Pends writes reply) = MayWait (db_of m) m.sessions s session writes
IsWell m s session (Sets name value) = AreOfTheirTypes (with_value session.variables name value)
IsWell m s session (Declares name kind value) = IsOfKind (kind_of_type kind) value
IsWell m s session (Refuses refusal) = Unit {0}
IsWell m s session (Aborts refusal) = Unit {0}
IsWell m s session (Answers reply) = Unit {0}
IsWell m s session Begins = Unit {0}
IsWell m s session Ends = Unit {0}
IsWell m s session (Isolates snapshot) = Unit {0}

-- so is what a statement of a session comes to
abbrev pub CommitsWell : Machine → ℕ → Command → Type 0
CommitsWell m s what = IsWell m s (m.sessions s) (decide m s what)

-- each statement of a journal does, in the machine that those before it left; the number of a session is a byte
abbrev pub EachCommitsWell : Machine → List Journaled → Type 0
EachCommitsWell m [] = Unit {0}
EachCommitsWell m (one ∷ more) =
    (one.session < 256) × CommitsWell m one.session one.what × EachCommitsWell (after m one.session one.what one.reply) more
