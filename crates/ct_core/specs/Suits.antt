-- What is known of what a sentence is bound to, where it may stand. No promise speaks of it.
use Rattle.std.specs.Prelude.{◌≡◌, true, false, List}
use Rattle.ct_types.specs.Answers.{Answer}
use Rattle.ct_types.specs.declared.bound.Bound.{Bound}
use Rattle.ct_types.specs.declared.bound.Bound.TheVariants as bound
use Rattle.ct_types.specs.declared.catalogue.Variable.{Variable}
use Rattle.ct_types.specs.declared.stmt.Stmt.{Stmt}
use Rattle.ct_bind.specs.Binding.{binding}
use Rattle.ct_bind_names.specs.Catalogue.{is_declared}
use Rattle.ct_session.specs.declared.tran.Tran.{Tran}
use Rattle.ct_session.specs.declared.tran.Tran.TheVariants as tran
use Rattle.ct_machine.specs.Decide.{variable_in}
use Rattle.ct_machine.specs.Reads.{catalogue}
use Rattle.ct_state.specs.Seen.{Seen}

-- SET names a variable that is there, and DECLARE one that is not; BEGIN and what defines, tracks or truncates stands in no transaction
abbrev pub Suits : Tran → List Variable → Stmt → Bound → Type 0
Suits it variables statement (bound.SetVariable place value) = is_declared variables (variable_in statement) ≡ true
Suits it variables statement (bound.Declare name kind value) = is_declared variables name ≡ false
Suits it variables statement (bound.AlterDatabase keep) = it ≡ tran.None
Suits it variables statement (bound.CreateTable schema) = it ≡ tran.None
Suits it variables statement (bound.EnableTracking table masks) = it ≡ tran.None
Suits it variables statement (bound.DisableTracking table) = it ≡ tran.None
Suits it variables statement (bound.TruncateTable table) = it ≡ tran.None
Suits it variables statement bound.Begin = it ≡ tran.None
Suits it variables statement other = Unit {0}

-- what a sentence is bound to
abbrev pub bound_of : Seen → Stmt → Answer Bound
bound_of seen it = binding (catalogue seen.db) seen.db.keep seen.variables it
