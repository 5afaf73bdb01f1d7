-- The laws that a play of what texts mean passes sound machines alone, and keeps the database valid. This project's own.
use Rattle.std.specs.Prelude.{ℕ, ◌<◌, List}
use Rattle.ct_types.specs.declared.command.Command.{Command}
use Rattle.ct_types.specs.declared.command.Journaled.{Journaled}
use Rattle.ct_types.specs.declared.reply.Reply.{Reply}
use Rattle.ct_model.specs.Applies.{ApplyInTurn}
use Rattle.ct_model.specs.Apply.{no_db}
use Rattle.ct_model.specs.Valid.{IsValid}
use Rattle.ct_machine.specs.Fits.{RowsFit}
use Rattle.ct_machine.specs.Play.{after, end_of}
use Rattle.ct_state.specs.Machine.{Machine, db_of, opening}
use Rattle.ct_state.specs.Seen.{seen_by}
use Rattle.ct_fit_laws.specs.Machines.{VariablesRepresentable, IsOfCodePointsCommand}
use Rattle.ct_machine_laws.specs.Sound.{IsSound}
use Rattle.ct_run.specs.Meant.{IsRead, AreRead, IsMeant, AreMeant}

-- in a sound machine, whose variables have representable values, the rows that a statement writes fit their table
abbrev pub SoundRowsFit : Type 0
SoundRowsFit = (m : Machine) (s : ℕ) (what : Command) → IsSound m → VariablesRepresentable m → IsOfCodePointsCommand what → RowsFit (seen_by m (m.sessions s)) what

-- a sound machine whose variables have representable values is one after each statement that is read from a text, whatever it was answered
abbrev pub KeepsSoundAlone : Type 0
KeepsSoundAlone = (m : Machine) (s : ℕ) (what : Command) (reply : Reply) → IsSound m → VariablesRepresentable m → s < 256 → IsRead what
    → IsSound (after m s what reply) × VariablesRepresentable (after m s what reply)

-- a play of statements that are read from texts keeps the database valid, from the empty one on
abbrev pub ReadPlaysKeepValid : Type 0
ReadPlaysKeepValid = (journal : List Journaled) → AreRead journal
    → ApplyInTurn no_db (end_of (opening no_db) journal).past × IsValid (db_of (end_of (opening no_db) journal))

-- what a text of code points means is read from it
abbrev pub MeantAreRead : Type 0
MeantAreRead = (what : Command) → IsMeant what → IsRead what

-- so a play of what texts mean keeps the database valid, with no other premise
abbrev pub MeantPlaysKeepValid : Type 0
MeantPlaysKeepValid = (journal : List Journaled) → AreMeant journal
    → ApplyInTurn no_db (end_of (opening no_db) journal).past × IsValid (db_of (end_of (opening no_db) journal))
