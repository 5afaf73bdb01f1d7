-- Plain tables whose rows can be stored by key. This project's own.
use Rattle.std.specs.Prelude.{◌≡◌, List}
use Rattle.std.specs.List.{AllByRecursion}
use Rattle.std.specs.declared.cmp.Ordering.TheVariants.{Less}
use Rattle.ct_types.specs.Order.{key_cmp}
use Rattle.ct_types.specs.declared.value.Row.{Row}
use Rattle.ct_types.specs.declared.schema.Schema.{Schema}
use Rattle.ct_model.specs.declared.db.Table.{Table}
use Rattle.ct_model.specs.Tables.{key_of}
use Rattle.ct_model.specs.Valid.{AreRising}
use Rattle.ct_source.specs.Rows.{HasKeyColumns, IsWhole}

-- the keys of some rows are below that of a row
abbrev pub AreBelow : Schema → Row → List Row → Type 0
AreBelow schema row = AllByRecursion (λ below. key_cmp (key_of schema below) (key_of schema row) ≡ Less)

-- the ids of the key are columns, each row has a value for each column, and the rows stand in strictly rising key order
pub record IsKeyed (table : Table) : Type 0 where
  pub columns : HasKeyColumns table.schema
  pub whole : AllByRecursion (IsWhole table.schema) table.rows
  pub rising : AreRising table.schema table.rows
