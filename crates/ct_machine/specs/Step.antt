-- One statement of a session: what it makes of the machine. Which act draws a version, and the numbers of entries, are this project's
-- own.
use Rattle.std.specs.Prelude.{ℕ, ◌+◌, ◌^◌, nat_le, Bool, true, false, ◌&&◌, List, [], ◌∷◌, ◌++◌, Option, None, Some, if◌then◌else◌, is_some}
use Rattle.std.specs.List.{list_any}
use Rattle.ct_types.specs.declared.entry.Act.{Act}
use Rattle.ct_types.specs.declared.entry.Act.TheVariants.{Commit, Define, Truncate, Enable as enabling, Disable, Database as setting, Raise}
use Rattle.ct_types.specs.declared.entry.Entry.{Entry}
use Rattle.ct_types.specs.declared.entry.Write.{Write}
use Rattle.ct_types.specs.declared.refusal.Refusal.TheVariants.{Exhausted}
use Rattle.ct_types.specs.declared.reply.Reply.{Reply}
use Rattle.ct_types.specs.declared.reply.Reply.TheVariants.{Done, Refused}
use Rattle.ct_model.specs.declared.db.Db.{Db}
use Rattle.ct_model.specs.declared.db.Table.{Table}
use Rattle.ct_model.specs.Tables.{table_of}
use Rattle.ct_types.specs.declared.command.Command.{Command}
use Rattle.ct_types.specs.declared.command.Command.TheVariants.{Sql}
use Rattle.ct_session.specs.Sessions.{SessionState, begun, ended, pended}
use Rattle.ct_session.specs.SetDeclare.{with_value, with_variable}
use Rattle.ct_machine.specs.declared.decision.Decision.{Decision}
use Rattle.ct_machine.specs.declared.decision.Decision.TheVariants.{Refuses, Aborts, Answers, Commits, Pends, Begins, Ends, Isolates, Sets, Declares}
use Rattle.ct_state.specs.Machine.{Machine, db_of, next_xdes, with_session, xdes_or}
use Rattle.ct_state.specs.Seen.{takes_view, viewing}
use Rattle.ct_machine.specs.Decide.{decide}

-- ---- entries

-- whether a table is there and tracked
abbrev pub is_tracked : Option Table → Bool
is_tracked None = false
is_tracked (Some table) = is_some table.tracked

-- whether an act draws a version: a commit that changed a tracked row, an ENABLE, and the TRUNCATE of a tracked table
abbrev pub act_draws : Db → Act → Bool
act_draws db (Commit writes) = list_any (λ write. write.tracked) writes
act_draws db (enabling id masks) = true
act_draws db (Truncate id) = is_tracked (table_of db.tables id)
act_draws db (Define schema) = false
act_draws db (Disable id) = false
act_draws db (setting keep) = false
act_draws db (Raise minima) = false

-- whether an act is a transaction with a number of its own: each is, but what cleanup does
abbrev pub has_number : Act → Bool
has_number (Commit writes) = true
has_number (enabling id masks) = true
has_number (Truncate id) = true
has_number (Define schema) = true
has_number (Disable id) = true
has_number (setting keep) = true
has_number (Raise minima) = false

-- an act as an entry: at this time; with the next version where it draws one; with the number of the session's transaction, or the
-- next one where it has drawn none; 0 where the act has no number
abbrev pub entry_of : Machine → SessionState → Act → Entry
entry_of m session act = record {
  version = if act_draws (db_of m) act then (db_of m).version + 1 else (db_of m).version;
  draws = act_draws (db_of m) act;
  xdes = if has_number act then xdes_or m.next session.xdes else 0;
  time = m.now;
  act = act;
}

-- ---- the last refusal

-- the greatest version, and the greatest number of a transaction
abbrev pub most_number : ℕ
most_number = 2 ^ 62

-- whether the numbers of an entry are not past the greatest
abbrev pub has_room : Entry → Bool
has_room entry = nat_le entry.version most_number && nat_le entry.xdes most_number

-- no version or no transaction number is left for an entry, or no number for the first write of a transaction
abbrev pub settled : Machine → SessionState → Decision → Decision
settled m session (Commits act reply) = if has_room (entry_of m session act) then Commits act reply else Refuses (Exhausted most_number)
settled m session (Pends writes reply) = if nat_le (xdes_or m.next session.xdes) most_number then Pends writes reply else Refuses (Exhausted most_number)
settled m session other = other

-- what a statement comes to in a machine
abbrev pub decision_of : Machine → ℕ → Command → Decision
decision_of m s what = settled m (m.sessions s) (decide m s what)

-- ---- what it makes of the machine

-- the machine with the entry of an act of a session, which uses up the next number where it takes it
abbrev pub committed : Machine → SessionState → Act → Machine
committed m session act = record m { past = m.past ++ entry_of m session act ∷ []; next = if has_number act then next_xdes m.next session.xdes else m.next }

-- the session with the view that an accepted statement takes, where it takes one
abbrev pub viewed : Machine → Command → SessionState → SessionState
viewed m (Sql statement) session = if takes_view statement then viewing m session else session
viewed m other session = session

-- the session with writes that wait, and with a number
abbrev pub with_pending : Machine → List Write → SessionState → SessionState
with_pending m writes session = record (pended session writes) { xdes = Some (xdes_or m.next session.xdes) }

-- what a decision makes of the machine, where this is the session with the view that the statement takes; a refusal takes none, and
-- leaves the machine as it was but where it ends the transaction
abbrev pub changed : Machine → ℕ → SessionState → Decision → Machine
changed m s session (Refuses refusal) = m
changed m s session (Aborts refusal) = with_session m s (ended session)
changed m s session (Answers reply) = with_session m s session
changed m s session (Commits act reply) = with_session (committed m session act) s (ended session)
changed m s session (Pends writes reply) = with_session (record m { next = next_xdes m.next session.xdes }) s (with_pending m writes session)
changed m s session Begins = with_session m s (record session { tran = begun session.snapshot })
changed m s session Ends = with_session m s (ended session)
changed m s session (Isolates snapshot) = with_session m s (record session { snapshot = snapshot })
changed m s session (Sets name value) = with_session m s (record session { variables = with_value session.variables name value })
changed m s session (Declares name kind value) = with_session m s (record session { variables = with_variable session.variables name kind value })

-- the machine after a statement that comes to this
abbrev pub machine_after : Machine → ℕ → Command → Decision → Machine
machine_after m s what decision = changed m s (viewed m what (m.sessions s)) decision

-- what the statement is answered
abbrev pub reply_of : Decision → Reply
reply_of (Refuses refusal) = Refused refusal
reply_of (Aborts refusal) = Refused refusal
reply_of (Answers reply) = reply
reply_of (Commits act reply) = reply
reply_of (Pends writes reply) = reply
reply_of Begins = Done
reply_of Ends = Done
reply_of (Isolates snapshot) = Done
reply_of (Sets name value) = Done
reply_of (Declares name kind value) = Done

-- the machine and the reply after a statement of a session
abbrev pub step : Machine → ℕ → Command → Machine × Reply
step m s what = (machine_after m s what (decision_of m s what), reply_of (decision_of m s what))
