-- Two things that the grammar promises of a tree that was read from a text: what validity needs.
use Rattle.ct_types.specs.declared.stmt.Stmt.{Stmt}
use Rattle.ct_types.specs.declared.stmt.Stmt.TheVariants as stmt
use Rattle.ct_machine_laws.specs.Schemas.{AreNames}
use Rattle.ct_bind_kind_laws.specs.Laws.{SetsSome}

-- CREATE TABLE names its table and its columns by names, and a SET list that is written is not empty; nothing is said of
-- the other forms
abbrev pub IsSpelled : Stmt → Type 0
IsSpelled (stmt.CreateTable table columns key) = AreNames table columns
IsSpelled (stmt.Write context write) = SetsSome write
IsSpelled other = Unit {0}
