-- What a net row has beside its operation, told of the changes of its key: the version of its creation, and its columns.
-- Source: https://learn.microsoft.com/sql/relational-databases/system-functions/changetable-transact-sql; when the columns are told,
-- and which insert is told, are this project's own.
use Rattle.std.specs.Prelude.{◌≡◌, ◌↔◌, ℕ, ◌-◌, ◌≤◌, ℤ, Bool, true, List, ◌∷◌, ◌++◌, length, Contains, Option, None, Some, IsSome, IfSome, Any}
use Rattle.std.specs.Int.{bit_at}
use Rattle.std.specs.List.{AllByRecursion}
use Rattle.ct_types.specs.declared.schema.Schema.{Schema}
use Rattle.ct_types.specs.declared.tracked.Tracked.{Tracked}
use Rattle.ct_types.specs.declared.tracked.NetRow.{NetRow}
use Rattle.ct_types.specs.declared.entry.Op.TheVariants.{Insert, Update}
use Rattle.ct_model.specs.declared.db.Table.{Table}
use Rattle.ct_model.specs.declared.db.Dated.{Dated}
use Rattle.ct_model.specs.declared.db.Db.{Db}
use Rattle.ct_model.specs.Net.{changes_above, floor_of, net, window}
use Rattle.ct_model.specs.Tables.{table_of}
use Rattle.ct_model_laws.specs.Tells.{HasInsert}

-- each net row of a tracked table since a version has this to the kept changes of its key above the start of the window
abbrev pub EachOfChanges : (Schema → Bool → List Dated → NetRow → Type 0) → Type 0
EachOfChanges Of =
    (db : Db) (id : ℕ) (last : Option ℤ) (table : Table) (tracked : Tracked) → table_of db.tables id ≡ Some table → table.tracked ≡ Some tracked
    → AllByRecursion (λ row. Of table.schema tracked.masks (window (changes_above id (floor_of tracked.min last) db.kept) row.key) row) (net db id last)

-- one of the changes is an insert of this version, and none after it is an insert
abbrev pub IsLastInsert : List Dated → ℕ → Type 0
IsLastInsert changes version =
    (before : List Dated) × (one : Dated) × (after : List Dated) × (changes ≡ before ++ one ∷ after) × (one.change.op ≡ Insert) × (one.version ≡ version) × (¬ HasInsert after)

-- a row's creation has exactly the version of the last insert among the changes, and it has none exactly where no insert is
-- among them
pub record IsCreatedBy (changes : List Dated) (row : NetRow) : Type 0 where
  pub version : (version : ℕ) → (row.creation ≡ Some version) ↔ IsLastInsert changes version
  pub none : (row.creation ≡ None) ↔ (¬ HasInsert changes)

-- the net rows of a tracked table have the creations of their changes
abbrev pub Creations : Type 0
Creations = EachOfChanges (λ schema masks. IsCreatedBy)

-- a mask has the column of this id, where ids count from 1
abbrev pub HasColumn : ℕ → ℕ → Type 0
HasColumn mask id = bit_at mask (id - 1) ≡ 1

-- a table has this column, and it is not of the key
abbrev pub IsOtherColumn : Schema → ℕ → Type 0
IsOtherColumn schema id = (1 ≤ id) × (id ≤ length schema.columns) × (¬ Contains schema.key id)

-- a change set every column outside the key
abbrev pub SetsAllOthers : Schema → Dated → Type 0
SetsAllOthers schema dated = (id : ℕ) → IsOtherColumn schema id → HasColumn dated.change.mask id

-- a row has a mask exactly where it is a U, the table has masks, and no change set every column outside the key; and then
-- the mask has exactly the columns that some change set
pub record IsMaskedBy (schema : Schema) (masks : Bool) (changes : List Dated) (row : NetRow) : Type 0 where
  pub given : IsSome row.mask ↔ ((row.op ≡ Update) × (masks ≡ true) × (¬ Any (SetsAllOthers schema) changes))
  pub columns : IfSome row.mask (λ mask. (id : ℕ) → HasColumn mask id ↔ Any (λ dated. HasColumn dated.change.mask id) changes)

-- the net rows of a tracked table have the masks of their changes
abbrev pub MasksTell : Type 0
MasksTell = EachOfChanges IsMaskedBy
