-- What a deleted net row says of the rows of its table. This project's own.
use Rattle.std.specs.Prelude.{◌≡◌, ◌↔◌, ℕ, ℤ, List, Option, None, Some}
use Rattle.std.specs.List.{AllByRecursion}
use Rattle.ct_types.specs.declared.tracked.NetRow.{NetRow}
use Rattle.ct_types.specs.declared.entry.Op.TheVariants.{Delete}
use Rattle.ct_types.specs.declared.entry.Entry.{Entry}
use Rattle.ct_model.specs.declared.db.Table.{Table}
use Rattle.ct_model.specs.Applies.{ApplyInTurn}
use Rattle.ct_model.specs.Apply.{no_db, replay}
use Rattle.ct_model.specs.Net.{net}
use Rattle.ct_model.specs.Tables.{row_at, table_of}

-- a net row is a D exactly where the table has no row of its key
abbrev pub IsGone : Table → NetRow → Type 0
IsGone table row = (row.op ≡ Delete) ↔ (row_at table.schema table.rows row.key ≡ None)

-- in every database that entries which apply in turn make of the empty one, this holds of each net row of a table, since any
-- version
abbrev pub DeletedHaveNoRow : Type 0
DeletedHaveNoRow =
    (entries : List Entry) (id : ℕ) (last : Option ℤ) (table : Table) → ApplyInTurn no_db entries → table_of (replay no_db entries).tables id ≡ Some table
    → AllByRecursion (IsGone table) (net (replay no_db entries) id last)
