-- The rows of a table with their versions: each key in rising order with the list of its versions, the oldest first; and
-- what a view sees of them. A view sees the last version at or before it. This project's own.
use Rattle.std.specs.Prelude.{◌≡◌, ℕ, nat_le, nat_lt, Bool, List, [], ◌∷◌, ◌++◌, map, filter, Option, None, Some, slice_index_or, if◌then◌else◌}
use Rattle.std.specs.List.{filter_map, last_or}
use Rattle.std.specs.Option.{option_and_then}
use Rattle.std.specs.declared.sync.Arc.{Arc}
use Rattle.ct_types.specs.declared.value.Key.{Key}
use Rattle.ct_types.specs.declared.value.Row.{Row}
use Rattle.ct_ptree.specs.declared.pair.Pair.{Pair}
use Rattle.ct_ptree.specs.Pairs.{value_at, set_pair}
use Rattle.ct_rows.specs.declared.version.Version.{Version}

-- what the pointers of a list point to
abbrev pub versions_of : {Z : Type 0} → List (Arc Version Z) → List Version
versions_of {Z} = map (λ (it : Arc Version Z). it.value)

-- a version stands at or before a view
abbrev pub is_seen : ℕ → Version → Bool
is_seen view version = nat_le version.at view

-- the last version at or before a view
abbrev pub version_at : List Version → ℕ → Option Version
version_at versions view = last_or None (filter (is_seen view) versions)

-- the version at a place of a list of pointers is the last one at or before a view
abbrev pub IsSeenAt : {Z : Type 0} → List (Arc Version Z) → ℕ → ℕ → Type 0
IsSeenAt {Z} versions view place = (it : Arc Version Z) → it ≡ slice_index_or versions place it → version_at (versions_of versions) view ≡ Some it.value

-- the row of a version, none where there is no version or it is a deletion
abbrev pub row_of : Option Version → Option Row
row_of None = None
row_of (Some version) = version.row

-- the row that a view sees of a key's versions
abbrev pub row_seen : ℕ → List Version → Option Row
row_seen view versions = row_of (version_at versions view)

-- the transaction of the last version, where that is after a view
abbrev pub later_xdes : ℕ → Option Version → Option ℕ
later_xdes view None = None
later_xdes view (Some last) = if nat_lt view last.at then Some last.xdes else None

abbrev pub written_later : ℕ → List Version → Option ℕ
written_later view versions = later_xdes view (last_or None versions)

-- the same for a key of a table
abbrev pub row_at : List (Pair (List Version)) → ℕ → Key → Option Row
row_at rows view key = option_and_then (row_seen view) (value_at rows key)

abbrev pub written_since : List (Pair (List Version)) → ℕ → Key → Option ℕ
written_since rows view key = option_and_then (written_later view) (value_at rows key)

-- the rows of a table at a view, in rising order of keys
abbrev pub rows_at : List (Pair (List Version)) → ℕ → List Row
rows_at rows view = filter_map (λ (pair : Pair (List Version)). row_seen view pair.value) rows

-- the versions of a key, none where it has none
abbrev pub versions_or_none : Option (List Version) → List Version
versions_or_none None = []
versions_or_none (Some versions) = versions

-- with one more version of a key, behind those that it has
abbrev pub with_version : List (Pair (List Version)) → Key → Version → List (Pair (List Version))
with_version rows key version = set_pair rows key (versions_or_none (value_at rows key) ++ version ∷ [])
