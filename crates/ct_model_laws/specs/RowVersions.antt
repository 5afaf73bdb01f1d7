-- The row of CHANGETABLE(VERSION ..), told of the net changes since NULL.
-- Source: https://learn.microsoft.com/sql/relational-databases/system-functions/changetable-transact-sql.
use Rattle.std.specs.Prelude.{◌≡◌, ◌↔◌, ℕ, List, Option, None, Some, Any}
use Rattle.ct_types.specs.declared.value.Key.{Key}
use Rattle.ct_types.specs.declared.tracked.Tracked.{Tracked}
use Rattle.ct_types.specs.declared.tracked.NetRow.{NetRow}
use Rattle.ct_types.specs.declared.tracked.VersionRow.{VersionRow}
use Rattle.ct_model.specs.declared.db.Table.{Table}
use Rattle.ct_model.specs.declared.db.Db.{Db}
use Rattle.ct_model.specs.Net.{net}
use Rattle.ct_model.specs.Tables.{table_of}
use Rattle.ct_model.specs.Valid.{IsValid}
use Rattle.ct_model.specs.Versions.{row_version}

-- a net row is of this key, with this version and this context
abbrev pub IsNetRow : Key → ℕ → Option (List ℕ) → NetRow → Type 0
IsNetRow key version context row = (row.key ≡ key) × (row.version ≡ version) × (row.context ≡ context)

-- a key has a version and a context exactly where some net row of the key has them, and has none exactly where no net row is
-- of the key
pub record IsVersionOf (rows : List NetRow) (key : Key) (found : VersionRow) : Type 0 where
  pub some : (version : ℕ) (context : Option (List ℕ)) → ((found.version ≡ Some version) × (found.context ≡ context)) ↔ Any (IsNetRow key version context) rows
  pub none : ((found.version ≡ None) × (found.context ≡ None)) ↔ (¬ Any (λ row. row.key ≡ key) rows)

-- in a valid database each key of a tracked table has the version and the context that its net changes since NULL tell
abbrev pub VersionsTell : Type 0
VersionsTell =
    (db : Db) (id : ℕ) (key : Key) (table : Table) (tracked : Tracked) → IsValid db → table_of db.tables id ≡ Some table → table.tracked ≡ Some tracked
    → IsVersionOf (net db id None) key (row_version db id key)
