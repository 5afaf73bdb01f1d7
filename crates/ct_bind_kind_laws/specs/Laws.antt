-- The laws that what binding answers is well formed: it names only what is there, and has the kind that it is said to have.
use Rattle.std.specs.Prelude.{◌≡◌, ◌++◌, ◌<◌, List, [], length, map, nat_eq, slice_get, Option, Some, IfSome, Ok}
use Rattle.std.specs.List.{AllByRecursion, IsDistinct, flat_map}
use Rattle.ct_types.specs.declared.bound.Bound.{Bound}
use Rattle.ct_types.specs.declared.bound.Bound.TheVariants.{Write, Select, SetVariable, Declare, EnableTracking, DisableTracking, TruncateTable}
use Rattle.ct_types.specs.declared.catalogue.Catalogued.{Catalogued}
use Rattle.ct_types.specs.declared.catalogue.Variable.{Variable}
use Rattle.ct_types.specs.declared.entry.Keep.{Keep}
use Rattle.ct_types.specs.declared.expr.Expr.{Expr}
use Rattle.ct_types.specs.declared.schema.Schema.{Schema}
use Rattle.ct_types.specs.declared.stmt.Stmt.{Stmt}
use Rattle.ct_types.specs.declared.stmt.Stmt.TheVariants as stmt
use Rattle.ct_types.specs.declared.stmt.WriteStmt.{WriteStmt}
use Rattle.ct_types.specs.declared.stmt.WriteStmt.TheVariants as write
use Rattle.ct_model.specs.declared.db.Db.{Db}
use Rattle.ct_model.specs.Tables.{catalogued}
use Rattle.ct_model.specs.Valid.{IsValid}
use Rattle.ct_bind_kinds.specs.declared.kind.Kind.{Kind}
use Rattle.ct_bind_kinds.specs.Kinds.{kind_of_type}
use Rattle.ct_bind_kinds.specs.WellFormed.{kind_of}
use Rattle.ct_bind_names.specs.Names.{same}
use Rattle.ct_bind_expr.specs.declared.place.Typed.{Typed}
use Rattle.ct_bind_expr.specs.declared.place.Shape.{Shape}
use Rattle.ct_bind_expr.specs.declared.place.Spot.{Spot}
use Rattle.ct_bind_expr.specs.declared.place.Place.{Place}
use Rattle.ct_bind_expr.specs.Versions.{key_columns}
use Rattle.ct_bind_expr.specs.Walk.{walk}
use Rattle.ct_bind.specs.Binding.{binding}
use Rattle.ct_bind_kind_laws.specs.Statements.{IsOf, IsTable, IsTracked, IsUntracked, HasColumn, scope_of, IsWrite, IsAssignment}
use Rattle.ct_bind_kind_laws.specs.Queries.{IsSelect}

-- ---- tables

-- the key has one column at least; its columns are columns of the table, and have distinct names
pub record HasKey (table : Schema) : Type 0 where
  pub some : 0 < length table.key
  pub columns : AllByRecursion (HasColumn table) table.key
  pub names : IsDistinct same (map (λ column. column.name) (key_columns table))

-- the tables have distinct ids, and each has a key
pub record Sound (tables : List Catalogued) : Type 0 where
  pub distinct : IsDistinct nat_eq (map (λ table. table.schema.id) tables)
  pub keys : AllByRecursion (λ table. HasKey table.schema) tables

-- the tables of a valid database are sound
abbrev pub ValidAreSound : Type 0
ValidAreSound = (db : Db) → IsValid db → Sound (map catalogued db.tables)

-- ---- rows

-- the kinds of the columns of a row of these sources, one source after the other
abbrev pub row_kinds : List Shape → List Kind
row_kinds sources = flat_map (λ source. map (λ column. column.kind) source.columns) sources

-- a column of that kind stands there
abbrev pub StandsIn : List Kind → Spot → Type 0
StandsIn columns spot = slice_get columns spot.place ≡ Some spot.kind

-- These are the columns of the rows of a place: those of its sources, then others, and each output stands at its own.
pub record Shows (place : Place) (columns : List Kind) : Type 0 where
  pub others : List Kind
  pub sources : columns ≡ row_kinds place.sources ++ others
  pub outputs : AllByRecursion (λ output. StandsIn columns output.spot) place.outputs

-- ---- expressions

-- what an expression comes to is well formed on each row of its place, and has the kind that it is said to have
abbrev pub WalkedAreWellFormed : Type 0
WalkedAreWellFormed = (tables : List Catalogued) (variables : List Variable) (columns : List Kind) (place : Place) (e : Expr) (it : Typed)
    → Sound tables → Shows place columns → walk tables variables e place ≡ Ok it
    → kind_of (scope_of tables variables columns) it.expr ≡ Some it.kind

-- ---- statements

-- a SET list that is written is not empty
abbrev pub SetsSome : WriteStmt → Type 0
SetsSome (write.Update table sets from filter) = 0 < length sets
SetsSome write = Unit {0}

-- a statement as it can be written: its SET list, if it has one, is not empty
abbrev pub IsWritten : Stmt → Type 0
IsWritten (stmt.Write context write) = SetsSome write
IsWritten stmt = Unit {0}

-- What a bound statement names is there, and its expressions are well formed. CREATE TABLE and ALTER DATABASE have laws of
-- their own; the other forms that are not told here name nothing.
abbrev pub IsWellFormed : List Catalogued → List Variable → Bound → Type 0
IsWellFormed tables variables (Write write) = IsWrite tables variables write
IsWellFormed tables variables (Select select) = IsSelect tables variables select
IsWellFormed tables variables (SetVariable variable value) = IsAssignment tables variables variable value
IsWellFormed tables variables (Declare name type value) = IfSome value (IsOf (scope_of tables variables []) (kind_of_type type))
IsWellFormed tables variables (EnableTracking table masks) = IsUntracked tables table
IsWellFormed tables variables (DisableTracking table) = IsTracked tables table
IsWellFormed tables variables (TruncateTable table) = IsTable tables table
IsWellFormed tables variables bound = Unit {0}

-- what a statement comes to is well formed
abbrev pub BoundAreWellFormed : Type 0
BoundAreWellFormed = (tables : List Catalogued) (keep : Option Keep) (variables : List Variable) (statement : Stmt) (bound : Bound)
    → Sound tables → IsWritten statement → binding tables keep variables statement ≡ Ok bound → IsWellFormed tables variables bound
