-- What binding promises to whatever stores what statements write: keys stay as they are, and a new table has an id and a key of its
-- own. It asks of the tables that their ids differ, and of the statement nothing. This project's own.
use Rattle.std.specs.Prelude.{◌≡◌, ◌≢◌, ℕ, ◌+◌, ◌≤◌, List, length, map, nat_eq, Option, IfSome, Ok}
use Rattle.std.specs.List.{AllByRecursion, IsDistinct}
use Rattle.ct_types.specs.declared.bound.Bound.{Bound}
use Rattle.ct_types.specs.declared.bound.Bound.TheVariants.{CreateTable, Write}
use Rattle.ct_types.specs.declared.bound.RowChange.{RowChange}
use Rattle.ct_types.specs.declared.bound.RowChange.TheVariants.{Insert, Update, Delete}
use Rattle.ct_types.specs.declared.catalogue.Catalogued.{Catalogued}
use Rattle.ct_types.specs.declared.catalogue.Variable.{Variable}
use Rattle.ct_types.specs.declared.entry.Keep.{Keep}
use Rattle.ct_types.specs.declared.schema.Schema.{Schema}
use Rattle.ct_types.specs.declared.stmt.Stmt.{Stmt}
use Rattle.ct_bind.specs.Binding.{binding}
use Rattle.ct_bind_kind_laws.specs.Statements.{catalogued_of}

-- the columns that are set have ids from 1 on, and none is one of the key
abbrev pub SparesKey : Schema → RowChange → Type 0
SparesKey table (Insert columns tuples) = Unit {0}
SparesKey table (Update sets filter) = AllByRecursion (λ set. (1 ≤ set.column) × AllByRecursion (λ key. key ≢ set.column) table.key) sets
SparesKey table (Delete filter) = Unit {0}

-- the columns of the key are columns of the table, whose ids count from 1
abbrev pub HasOwnKey : Schema → Type 0
HasOwnKey table = AllByRecursion (λ id. (1 ≤ id) × (id ≤ length table.columns)) table.key

-- a write spares the key of its table, and a table that is created has the next id and a key of its own columns
abbrev pub StoresWell : List Catalogued → Bound → Type 0
StoresWell tables (Write write) = IfSome (catalogued_of tables write.table) (λ table. SparesKey table.schema write.change)
StoresWell tables (CreateTable schema) = (schema.id ≡ length tables + 1) × HasOwnKey schema
StoresWell tables bound = Unit {0}

-- what a statement comes to among tables of different ids is stored well
abbrev pub BoundStoreWell : Type 0
BoundStoreWell = (tables : List Catalogued) (keep : Option Keep) (variables : List Variable) (statement : Stmt) (bound : Bound)
    → IsDistinct nat_eq (map (λ table. table.schema.id) tables) → binding tables keep variables statement ≡ Ok bound → StoresWell tables bound
