-- The laws that what a statement writes fits its table, and that what it gives a variable is representable.
use Rattle.std.specs.Prelude.{ℕ}
use Rattle.ct_types.specs.declared.command.Command.{Command}
use Rattle.ct_types.specs.declared.reply.Reply.{Reply}
use Rattle.ct_model.specs.Valid.{IsValid}
use Rattle.ct_machine.specs.Fits.{RowsFit}
use Rattle.ct_machine.specs.Play.{after}
use Rattle.ct_state.specs.Machine.{Machine}
use Rattle.ct_state.specs.Seen.{Seen}
use Rattle.ct_value_laws.specs.Values.{HoldRepresentable}
use Rattle.ct_fit_laws.specs.Machines.{VariablesRepresentable, IsOfCodePointsCommand}

-- where a valid database and variables with representable values are seen, the rows that a statement writes fit their table
abbrev pub ValidRowsFit : Type 0
ValidRowsFit = (seen : Seen) (what : Command) → IsValid seen.db → HoldRepresentable seen.variables → IsOfCodePointsCommand what → RowsFit seen what

-- the variables of a machine have representable values after every statement, whatever it was answered
abbrev pub VariablesStayRepresentable : Type 0
VariablesStayRepresentable = (m : Machine) (s : ℕ) (what : Command) (reply : Reply) → VariablesRepresentable m → IsOfCodePointsCommand what
    → VariablesRepresentable (after m s what reply)
