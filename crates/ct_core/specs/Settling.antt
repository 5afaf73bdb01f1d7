-- How a core settles what a statement comes to. No promise speaks of it.
use Rattle.std.specs.Prelude.{◌≡◌, ℕ, Bool, false}
use Rattle.ct_types.specs.declared.command.Command.{Command}
use Rattle.ct_types.specs.declared.command.Command.TheVariants.{Sql}
use Rattle.ct_types.specs.declared.reply.Reply.{Reply}
use Rattle.ct_machine.specs.declared.decision.Decision.{Decision}
use Rattle.ct_state.specs.Machine.{Machine}
use Rattle.ct_machine.specs.Play.{after}
use Rattle.ct_state.specs.Seen.{takes_view}
use Rattle.ct_machine.specs.Step.{machine_after, reply_of, settled, step}
use Rattle.ct_core.specs.Stands.{CoreState, Stands}

-- whether an accepted command takes a view; one that is no sentence takes none
abbrev pub takes_view_of : Command → Bool
takes_view_of (Sql statement) = takes_view statement
takes_view_of other = false

-- a core stands for each machine for which it stood
abbrev pub StaysFor : {D : Type 0} → CoreState D → CoreState D → Type 0
StaysFor old new = (m : Machine) → Stands old m → Stands new m

-- a decision on a statement of a session is settled in a machine: this reply is shown, and the core stands for what the decision makes
-- of the machine
pub record IsSettled {D : Type 0} (m : Machine) (session : ℕ) (what : Command) (decision : Decision) (shown : Reply) (core : CoreState D) : Type 0 where
  pub reply : shown ≡ reply_of (settled m (m.sessions session) decision)
  pub stands : Stands core (machine_after m session what (settled m (m.sessions session) decision))

-- a statement of a session is taken in a machine: the reply is that of its step, and the core stands for the machine after it
pub record IsTaken {D : Type 0} (m : Machine) (session : ℕ) (what : Command) (shown : Reply) (core : CoreState D) : Type 0 where
  pub reply : shown ≡ (step m session what).1
  pub stands : Stands core (after m session what shown)
