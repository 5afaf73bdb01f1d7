-- The net changes of a table since a version: one row for each key that changed.
-- Source: https://learn.microsoft.com/sql/relational-databases/system-functions/changetable-transact-sql; which operation several
-- changes of a key give, and where the window starts, are this project's own.
use Rattle.std.specs.Prelude.{ℕ, ◌+◌, ◌-◌, ℤ, pos, negsuc, Bool, true, false, not, nat_lt, ◌==◌, ◌&&◌, ◌||◌, max, List, [], ◌∷◌, ◌++◌, map, filter, fold, flat_map, bit_or, Option, None, Some, if◌then◌else◌}
use Rattle.std.specs.Int.{bit_at}
use Rattle.std.specs.Option.{option_map}
use Rattle.std.specs.List.{list_any, filter_map}
use Rattle.std.specs.Ordering.{is_lt, is_eq, is_gt}
use Rattle.ct_types.specs.Order.{key_cmp}
use Rattle.ct_types.specs.declared.value.Key.{Key}
use Rattle.ct_types.specs.declared.schema.Column.{Column}
use Rattle.ct_types.specs.declared.schema.Schema.{Schema}
use Rattle.ct_types.specs.declared.tracked.Tracked.{Tracked}
use Rattle.ct_types.specs.declared.tracked.NetRow.{NetRow}
use Rattle.ct_types.specs.declared.entry.Op.{Op}
use Rattle.ct_types.specs.declared.entry.Op.TheVariants.{Insert, Update, Delete}
use Rattle.ct_types.specs.declared.entry.Kept.{Kept}
use Rattle.ct_model.specs.declared.db.Table.{Table}
use Rattle.ct_model.specs.declared.db.Db.{Db}
use Rattle.ct_model.specs.declared.db.Dated.{Dated}
use Rattle.ct_model.specs.Tables.{table_of}

-- the greater of a table's minimum and the version that a client names, where NULL is the minimum
abbrev pub floor_of : ℕ → Option ℤ → ℕ
floor_of min None = min
floor_of min (Some (pos last)) = max min last
floor_of min (Some (negsuc n)) = min

-- the changes of a table in a kept commit, where that is above a version, in their order
abbrev pub dated_in : ℕ → ℕ → Kept → List Dated
dated_in table floor kept =
    if nat_lt floor kept.version then map (λ change. record { version = kept.version; change = change }) (filter (λ change. change.table == table) kept.changes) else []

-- the same of all kept commits
abbrev pub changes_above : ℕ → ℕ → List Kept → List Dated
changes_above table floor kept = flat_map (dated_in table floor) kept

-- the window of a key: those of its changes
abbrev pub window : List Dated → Key → List Dated
window changes key = filter (λ dated. is_eq (key_cmp dated.change.key key)) changes

-- the keys that changed, in key order, each once
abbrev pub with_key : List Key → Key → List Key
with_key keys key = filter (λ k. is_lt (key_cmp k key)) keys ++ key ∷ filter (λ k. is_gt (key_cmp k key)) keys

-- the keys of changes
abbrev pub keys_of : List Dated → List Key
keys_of changes = fold (λ keys dated. with_key keys dated.change.key) [] changes

-- the last change, if there is one
abbrev pub last_of : List Dated → Option Dated
last_of [] = None
last_of (dated ∷ []) = Some dated
last_of (dated ∷ next ∷ more) = last_of (next ∷ more)

-- whether an operation is an insert
abbrev pub is_insert : Op → Bool
is_insert Insert = true
is_insert Update = false
is_insert Delete = false

-- the inserts among changes
abbrev pub inserts_of : List Dated → List Dated
inserts_of changes = filter (λ dated. is_insert dated.change.op) changes

-- whether there is an insert among changes
abbrev pub has_insert : List Dated → Bool
has_insert changes = list_any (λ dated. is_insert dated.change.op) changes

-- D where the last change is a delete, else I where the window has an insert, else U
abbrev pub op_after : Op → Bool → Op
op_after Delete inserted = Delete
op_after Insert inserted = if inserted then Insert else Update
op_after Update inserted = if inserted then Insert else Update

-- whether a mask has every column outside the key; the columns are numbered from this id on
abbrev pub has_others : List ℕ → ℕ → ℕ → List Column → Bool
has_others key mask id [] = true
has_others key mask id (column ∷ columns) = (list_any (λ k. k == id) key || bit_at mask (id - 1) == 1) && has_others key mask (id + 1) columns

-- whether a mask has every column of a table outside its key
abbrev pub is_whole : Schema → ℕ → Bool
is_whole schema mask = has_others schema.key mask 1 schema.columns

-- all the columns that the window's updates set
abbrev pub union_of : List Dated → ℕ
union_of changes = fold (λ mask dated. bit_or mask dated.change.mask) 0 changes

-- the columns are told for a U of a table with masks, unless one update of the window set every column outside the key
abbrev pub mask_of : Schema → Bool → Op → List Dated → Option ℕ
mask_of schema masks Update changes = if masks && not (list_any (λ dated. is_whole schema dated.change.mask) changes) then Some (union_of changes) else None
mask_of schema masks Insert changes = None
mask_of schema masks Delete changes = None

-- the net row of a window that ends with this change
abbrev pub row_of : Schema → Bool → List Dated → Dated → NetRow
row_of schema masks changes last =
    let op = op_after last.change.op (has_insert changes) in
    record {
      version = last.version;
      creation = option_map (λ dated. dated.version) (last_of (inserts_of changes));
      op = op;
      mask = mask_of schema masks op changes;
      context = last.change.context;
      key = last.change.key;
    }

-- one net row for each key, in key order
abbrev pub net_rows : Schema → Bool → List Dated → List NetRow
net_rows schema masks changes = filter_map (λ key. option_map (row_of schema masks (window changes key)) (last_of (window changes key))) (keys_of changes)

-- the net rows of a table that is tracked so; none where it is not tracked
abbrev pub net_tracked : Schema → Option Tracked → List Kept → Option ℤ → List NetRow
net_tracked schema None kept last = []
net_tracked schema (Some tracked) kept last = net_rows schema tracked.masks (changes_above schema.id (floor_of tracked.min last) kept)

-- the net rows of a table, if there is one
abbrev pub net_of : Option Table → List Kept → Option ℤ → List NetRow
net_of None kept last = []
net_of (Some table) kept last = net_tracked table.schema table.tracked kept last

-- the net changes of a table; none where it is not tracked
unfoldable pub net : Db → ℕ → Option ℤ → List NetRow
net db id last = net_of (table_of db.tables id) db.kept last
