-- Commands that texts of code points mean, so far as the laws of machines ask. This project's own.
use Rattle.std.specs.Prelude.{ℕ, ◌<◌, List, Ok}
use Rattle.std.specs.List.{AllByRecursion}
use Rattle.std.specs.Str.{IsUtf8}
use Rattle.ct_types.specs.declared.command.Command.{Command}
use Rattle.ct_types.specs.declared.command.Command.TheVariants.{Sql}
use Rattle.ct_types.specs.declared.command.Journaled.{Journaled}
use Rattle.ct_types.specs.declared.stmt.Stmt.{Stmt}
use Rattle.ct_lexer.specs.declared.token.Token.{Token}
use Rattle.ct_lexer.specs.Cutting.{IsCut}
use Rattle.ct_parser.specs.Exact.{Parsed}
use Rattle.ct_fit_laws.specs.Machines.{IsOfCodePointsCommand}
use Rattle.ct_machine_laws.specs.Keeping.{IsSpelledCommand}

-- ---- what is read

-- a command that the grammar gives, whose text literals are of code points
abbrev pub IsRead : Command → Type 0
IsRead what = IsSpelledCommand what × IsOfCodePointsCommand what

-- each command of a journal is read, and the number of each session is a byte
abbrev pub AreRead : List Journaled → Type 0
AreRead journal = AllByRecursion (λ one. (one.session < 256) × IsRead one.what) journal

-- ---- what texts mean

-- a tree that the parser reads from a text of code points
pub record IsOfText (tree : Stmt) : Type 0 where
  pub text : List ℕ
  pub tokens : List Token
  pub code_points : IsUtf8 text
  pub cut : IsCut text tokens
  pub parsed : Parsed text tokens (Ok tree)

-- a sentence is such a tree; of anything else nothing is asked
abbrev pub IsMeant : Command → Type 0
IsMeant (Sql tree) = IsOfText tree
IsMeant other = Unit {0}

-- each command of a journal is meant by a text, and the number of each session is a byte
abbrev pub AreMeant : List Journaled → Type 0
AreMeant journal = AllByRecursion (λ one. (one.session < 256) × IsMeant one.what) journal
