-- Machines whose variables have representable values, and commands whose text literals are of code points. This project's own.
use Rattle.std.specs.Prelude.{ℕ}
use Rattle.ct_types.specs.declared.command.Command.{Command}
use Rattle.ct_types.specs.declared.command.Command.TheVariants.{Sql}
use Rattle.ct_state.specs.Machine.{Machine}
use Rattle.ct_value_laws.specs.Values.{HoldRepresentable}
use Rattle.ct_value_laws.specs.Texts.{GivesCodePoints}

-- the variables of each session have representable values
abbrev pub VariablesRepresentable : Machine → Type 0
VariablesRepresentable m = (s : ℕ) → HoldRepresentable (m.sessions s).variables

-- of anything but a sentence nothing is asked
abbrev pub IsOfCodePointsCommand : Command → Type 0
IsOfCodePointsCommand (Sql statement) = GivesCodePoints statement
IsOfCodePointsCommand other = Unit {0}
