-- The first insert of a statement whose key is there already, as SQL Server's 2627 tells it.
use Rattle.std.specs.Prelude.{ℕ, Bool, true, false, ◌&&◌, ◌||◌, List, [], ◌∷◌, ◌++◌, length, Option, Some, None, if◌then◌else◌}
use Rattle.std.specs.List.{list_any}
use Rattle.std.specs.Ordering.{is_eq}
use Rattle.ct_types.specs.Order.{key_cmp}
use Rattle.ct_types.specs.declared.entry.Op.{Op}
use Rattle.ct_types.specs.declared.entry.Op.TheVariants.{Insert, Update, Delete}
use Rattle.ct_types.specs.declared.entry.Write.{Write}
use Rattle.ct_types.specs.declared.schema.Schema.{Schema}
use Rattle.ct_types.specs.declared.value.Key.{Key}
use Rattle.ct_types.specs.declared.value.Row.{Row}
use Rattle.ct_model.specs.Tables.{has_row}

abbrev pub is_insert : Op → Bool
is_insert Insert = true
is_insert Update = false
is_insert Delete = false

abbrev pub inserts_key : Key → Write → Bool
inserts_key key write = is_insert write.op && is_eq (key_cmp write.key key)

-- an insert of a key that one of the rows or an earlier insert has
abbrev pub repeats : Schema → List Row → List Write → Write → Bool
repeats schema rows earlier write = is_insert write.op && (has_row schema rows write.key || list_any (inserts_key write.key) earlier)

-- the place of the first that repeats, counted from 0, behind the earlier ones
abbrev pub duplicate_from : Schema → List Row → List Write → List Write → Option ℕ
duplicate_from schema rows earlier [] = None
duplicate_from schema rows earlier (write ∷ writes) =
    if repeats schema rows earlier write then Some (length earlier) else duplicate_from schema rows (earlier ++ write ∷ []) writes

abbrev pub duplicate : Schema → List Row → List Write → Option ℕ
duplicate schema rows writes = duplicate_from schema rows [] writes
