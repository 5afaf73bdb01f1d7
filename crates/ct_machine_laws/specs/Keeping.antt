-- The law that sound machines stay sound. This project's own.
use Rattle.std.specs.Prelude.{◌≡◌, ◌<◌, ℕ, false}
use Rattle.ct_types.specs.declared.reply.Reply.{Reply}
use Rattle.ct_types.specs.declared.command.Command.{Command}
use Rattle.ct_types.specs.declared.command.Command.TheVariants.{Sql}
use Rattle.ct_state.specs.Machine.{Machine}
use Rattle.ct_machine.specs.Play.{after}
use Rattle.ct_state.specs.Replies.{is_memory}
use Rattle.ct_machine_laws.specs.Sound.{IsSound}
use Rattle.ct_machine.specs.Fits.{RowsFit}
use Rattle.ct_state.specs.Seen.{seen_by}
use Rattle.ct_machine_laws.specs.Spelled.{IsSpelled}

-- a sentence is one that the grammar gives; of anything else nothing is asked
abbrev pub IsSpelledCommand : Command → Type 0
IsSpelledCommand (Sql tree) = IsSpelled tree
IsSpelledCommand other = Unit {0}

-- a sound machine is sound after a statement of a session that the grammar gives, whatever it was answered, where the rows that the
-- statement writes fit their table; want of memory writes none
abbrev pub KeepsSound : Type 0
KeepsSound = (m : Machine) (s : ℕ) (what : Command) (reply : Reply)
    → IsSound m → s < 256 → IsSpelledCommand what → (is_memory reply ≡ false → RowsFit (seen_by m (m.sessions s)) what) → IsSound (after m s what reply)
