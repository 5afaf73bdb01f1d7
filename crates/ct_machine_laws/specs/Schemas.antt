-- The law that a definition which is taken is of a table that may be defined.
use Rattle.std.specs.Prelude.{◌≡◌, ◌≢◌, ℕ, ◌+◌, ◌<◌, List, length, Option, IfSome, Ok}
use Rattle.std.specs.List.{AllByRecursion}
use Rattle.ct_types.specs.declared.bound.Bound.TheVariants.{CreateTable}
use Rattle.ct_types.specs.declared.catalogue.Catalogued.{Catalogued}
use Rattle.ct_types.specs.declared.expr.ObjectName.{ObjectName}
use Rattle.ct_types.specs.declared.schema.Schema.{Schema}
use Rattle.ct_types.specs.declared.stmt.ColumnDef.{ColumnDef}
use Rattle.ct_model.specs.Names.{folded, IsName}
use Rattle.ct_model.specs.Schemas.{IsSchema}
use Rattle.ct_bind_definition.specs.Definitions.{create}

-- the parts of a table's name and the names of its columns are names, as tokens are
pub record AreNames (name : ObjectName) (definitions : List ColumnDef) : Type 0 where
  pub first : IsName name.first
  pub second : IfSome name.second IsName
  pub columns : AllByRecursion (λ column. IsName column.name) definitions

-- a schema that may go last into a catalogue: its id is the next one, there are fewer than 256 tables, none has its name, and it
-- is one that a definition may give
pub record IsNewTable (tables : List Catalogued) (schema : Schema) : Type 0 where
  pub id : schema.id ≡ length tables + 1
  pub room : length tables < 256
  pub name : AllByRecursion (λ table. folded table.schema.name ≢ folded schema.name) tables
  pub definable : IsSchema schema

-- a table that is created is one that may be defined, and new
abbrev pub CreatesDefinable : Type 0
CreatesDefinable =
    (tables : List Catalogued) (name : ObjectName) (columns : List ColumnDef) (key : Option (List (List ℕ))) (schema : Schema)
    → AreNames name columns → create tables name columns key ≡ Ok (CreateTable schema) → IsNewTable tables schema
