-- What of the versions may go once no view is below a least one: all before the version that the least view sees, and that
-- version too where it is a deletion. This project's own.
use Rattle.std.specs.Prelude.{◌≡◌, ℕ, ◌≤◌, Bool, true, false, is_some, List, [], ◌∷◌, ◌++◌, map, filter, option_to_list, if◌then◌else◌}
use Rattle.std.specs.List.{list_any}
use Rattle.ct_types.specs.declared.value.Key.{Key}
use Rattle.ct_ptree.specs.declared.pair.Pair.{Pair}
use Rattle.ct_ptree.specs.Pairs.{AllBelow, AllAbove}
use Rattle.ct_rows.specs.declared.version.Version.{Version}
use Rattle.ct_rows.specs.Versions.{is_seen, version_at, row_at, rows_at, written_since}

-- the versions behind the last one at or before a view, all where there is none
abbrev pub behind : List Version → ℕ → List Version
behind [] view = []
behind (version ∷ later) view = if list_any (is_seen view) (version ∷ later) then behind later view else version ∷ later

abbrev pub has_row : Version → Bool
has_row version = is_some version.row

-- what stays of the versions of a key
abbrev pub kept : List Version → ℕ → List Version
kept versions least = filter has_row (option_to_list (version_at versions least)) ++ behind versions least

abbrev pub is_filled : List Version → Bool
is_filled [] = false
is_filled (version ∷ later) = true

-- what stays of a table: the keys with what stays of their versions, and no key without a version
abbrev pub pruned : List (Pair (List Version)) → ℕ → List (Pair (List Version))
pruned rows least = filter (λ (pair : Pair (List Version)). is_filled pair.value) (map (λ (pair : Pair (List Version)). record { key = pair.key; value = kept pair.value least }) rows)

-- the same where one key, between those before and those behind it, keeps what stays of it
abbrev pub IsPrunedAt : List (Pair (List Version)) → List (Pair (List Version)) → Pair (List Version) → ℕ → Type 0
IsPrunedAt new old pair least =
    (front back : List (Pair (List Version))) → old ≡ front ++ pair ∷ back → AllBelow pair.key front → AllAbove pair.key back
    → new ≡ front ++ (pruned (pair ∷ []) least ++ back)

-- every view from a least one on sees the same of two tables
pub record SeesAlike (new old : List (Pair (List Version))) (least : ℕ) : Type 0 where
  pub at : (view : ℕ) (key : Key) → least ≤ view → row_at new view key ≡ row_at old view key
  pub scan : (view : ℕ) → least ≤ view → rows_at new view ≡ rows_at old view
  pub written : (view : ℕ) (key : Key) → least ≤ view → written_since new view key ≡ written_since old view key
