-- What the parts of a database in memory keep, and the steps of its code. No promise speaks of them.
use Rattle.std.specs.Prelude.{◌≡◌, ℕ, ◌^◌, ◌<◌, ◌≤◌, pos, ◌-ℤ◌, Bool, false, nat_lt, ◌==◌, ◌&&◌, List, [], ◌∷◌, ◌++◌, length, map, filter, flat_map, Option, None, Some, if◌then◌else◌}
use Rattle.std.specs.List.{AllByRecursion, list_any}
use Rattle.std.specs.Ordering.{is_eq}
use Rattle.std.specs.declared.sync.Arc.{Arc}
use Rattle.ct_types.specs.Order.{key_cmp}
use Rattle.ct_types.specs.declared.value.Key.{Key}
use Rattle.ct_types.specs.declared.value.Value.TheVariants.{Int}
use Rattle.ct_types.specs.declared.catalogue.Catalogued.{Catalogued}
use Rattle.ct_types.specs.declared.tracked.Tracked.{Tracked}
use Rattle.ct_types.specs.declared.entry.Change.{Change}
use Rattle.ct_types.specs.declared.entry.Kept.{Kept}
use Rattle.ct_types.specs.declared.entry.Entry.{Entry}
use Rattle.ct_model.specs.declared.db.Table.{Table}
use Rattle.ct_model.specs.declared.db.Dated.{Dated}
use Rattle.ct_model.specs.Apply.{commit_stays, kept_of}
use Rattle.ct_model.specs.Lists.{EachToLater}
use Rattle.ct_model.specs.Net.{changes_above, last_of, window}
use Rattle.ct_model.specs.Tables.{catalogued}
use Rattle.ct_model.specs.Valid.{AreNumbered}
use Rattle.ct_ptree.specs.declared.pair.Pair.{Pair}
use Rattle.ct_ptree.specs.Pairs.{value_at, set_pair, without}
use Rattle.ct_database.specs.Commits.{has_change_of}

-- the catalogue is that of the tables, whose ids count from 1
pub record AreListed (catalogue : List Catalogued) (tables : List Table) : Type 0 where
  pub same : catalogue ≡ map catalogued tables
  pub numbered : AreNumbered 1 tables

-- the catalogue behind a pointer, if there is one
abbrev pub listed_of : {Z : Type 0} → Option (Arc (List Catalogued) Z) → List Catalogued
listed_of None = []
listed_of (Some it) = it.value

-- no commit is above a version
abbrev pub AreWithin : ℕ → List Kept → Type 0
AreWithin version = AllByRecursion (λ one. one.version ≤ version)

-- all commits are above a version
abbrev pub AreBehind : ℕ → List Kept → Type 0
AreBehind version = AllByRecursion (λ one. version < one.version)

-- a commit is above a version
abbrev pub is_later : ℕ → Kept → Bool
is_later version one = nat_lt version one.version

-- the commit of an entry that draws
abbrev pub added_by : Entry → List Kept
added_by entry = if entry.draws then kept_of entry ∷ [] else []

-- what is added is above all that is kept
abbrev pub AreNewest : List Kept → List Kept → Type 0
AreNewest kept = AllByRecursion (λ one. AllByRecursion (λ old. old.version < one.version) kept)

-- ---- the commits that are stored

-- the versions of commits rise strictly
abbrev pub Rise : List Kept → Type 0
Rise = EachToLater (λ one later. one.version < later.version)

-- a commit has a version
abbrev pub is_version : ℕ → Kept → Bool
is_version version one = one.version == version

-- the key of a version: the i64 that stands among all i64 as the version among all u64
unfoldable pub version_key : ℕ → Key
version_key version = record { 0 = Int (pos version -ℤ pos (2 ^ 63)) ∷ [] }

-- a commit is the last one
abbrev pub EndsWith : Kept → List Kept → Type 0
EndsWith one commits = (front : List Kept) × (commits ≡ front ++ one ∷ [])

-- a key is that of the last version
abbrev pub EndsAt : Key → List Kept → Type 0
EndsAt key commits = (one : Kept) × EndsWith one commits × (key ≡ version_key one.version)

-- no table needs one of some commits
abbrev pub AreUnneeded : List Table → List Kept → Type 0
AreUnneeded tables = AllByRecursion (λ one. commit_stays tables one ≡ false)

-- the stored commits, and whether one more takes no memory
pub record StoredCommits : Type 0 where
  pub commits : List Kept
  pub has_room : Bool

module _ {Z : Type 0} where
  -- the commits behind pointers
  abbrev pub pointed : List (Arc Kept Z) → List Kept
  pointed = map (λ (it : Arc Kept Z). it.value)

  -- the commit behind a pointer, if there is one
  abbrev pub newest_of : Option (Arc Kept Z) → List Kept
  newest_of None = []
  newest_of (Some it) = it.value ∷ []

  -- the older ones and the newest, for which there is room where it is not there
  abbrev pub stored : List Kept → Option (Arc Kept Z) → StoredCommits
  stored older newest = record { commits = older ++ newest_of newest; has_room = length (newest_of newest) == 0 }

  -- the commits of a chunk, if there is one
  abbrev pub gone_of : Option (Arc (List Kept) Z) → List Kept
  gone_of None = []
  gone_of (Some it) = it.value

  -- the commits of chunks, one chunk after the other
  abbrev pub commits_of : List (Pair (Arc (List Kept) Z)) → List Kept
  commits_of = flat_map (λ (pair : Pair (Arc (List Kept) Z)). pair.value.value)

  -- those, and the recent ones behind them
  abbrev pub older_of : List (Pair (Arc (List Kept) Z)) → List Kept → List Kept
  older_of sealed recent = commits_of sealed ++ recent

  -- each chunk stands at the key of its last version
  abbrev pub AreAtLasts : List (Pair (Arc (List Kept) Z)) → Type 0
  AreAtLasts = AllByRecursion (λ (pair : Pair (Arc (List Kept) Z)). EndsAt pair.key pair.value.value)

  -- this is the first chunk and its key, and no table needs one of its commits
  abbrev pub BeginsUnneeded : List Table → List (Pair (Arc (List Kept) Z)) → Pair (Arc (List Kept) Z) → Type 0
  BeginsUnneeded tables [] made = ⊥
  BeginsUnneeded tables (first ∷ rest) made = (first.key ≡ made.key) × (first.value.value ≡ made.value.value) × AreUnneeded tables first.value.value

-- ---- the chunks of a table

-- the key of a table: its id
unfoldable pub table_key : ℕ → Key
table_key table = record { 0 = Int (pos table) ∷ [] }

-- whether a chunk has a change of a table
abbrev pub is_on : ℕ → Pair (List Kept) → Bool
is_on table chunk = list_any (has_change_of table) chunk.value

-- the commits of chunks with their keys, one chunk after the other
abbrev pub commits_in : List (Pair (List Kept)) → List Kept
commits_in = flat_map (λ (chunk : Pair (List Kept)). chunk.value)

-- each of these chunks stands at the key of its last version
abbrev pub StandAtLasts : List (Pair (List Kept)) → Type 0
StandAtLasts = AllByRecursion (λ (chunk : Pair (List Kept)). EndsAt chunk.key chunk.value)

module _ {Z : Type 0} where
  -- the chunks behind pointers, with their keys
  abbrev pub chunks_of : List (Pair (Arc (List Kept) Z)) → List (Pair (List Kept))
  chunks_of = map (λ (pair : Pair (Arc (List Kept) Z)). record { key = pair.key; value = pair.value.value })

  -- the same, if there are some
  abbrev pub found_chunks : Option (List (Pair (Arc (List Kept) Z))) → List (Pair (List Kept))
  found_chunks None = []
  found_chunks (Some chunks) = chunks_of chunks

  -- the chunks that stand at the id of a table
  abbrev pub chunks_on : ℕ → List (Pair (List (Pair (Arc (List Kept) Z)))) → List (Pair (List Kept))
  chunks_on table by_table = found_chunks (value_at by_table (table_key table))

  -- at the id of each table stand the chunks that have a change of it, in their order
  abbrev pub AreByTable : List (Pair (Arc (List Kept) Z)) → List (Pair (List (Pair (Arc (List Kept) Z)))) → Type 0
  AreByTable sealed by_table = (table : ℕ) → chunks_on table by_table ≡ filter (is_on table) (chunks_of sealed)

  -- chunks with this one at a key, or with none at it
  abbrev pub with_chunk : Option (Arc (List Kept) Z) → Key → List (Pair (List Kept)) → List (Pair (List Kept))
  with_chunk None key chunks = without chunks key
  with_chunk (Some it) key chunks = set_pair chunks key it.value

-- ---- the last change of a key

-- the changes of a table that count, by how it is tracked
abbrev pub counted_since : ℕ → Option Tracked → List Kept → List Dated
counted_since table None kept = []
counted_since table (Some tracked) kept = changes_above table tracked.min kept

-- the same, if there is the table
abbrev pub counted_of : Option Table → List Kept → List Dated
counted_of None kept = []
counted_of (Some table) kept = counted_since table.schema.id table.tracked kept

-- whether a change is one of a table and key
abbrev pub is_of : ℕ → Key → Change → Bool
is_of table key change = change.table == table && is_eq (key_cmp change.key key)

-- a change of a commit with this version
abbrev pub dated : ℕ → Change → Dated
dated version change = record { version = version; change = change }

-- the last change of a table and key among those of a commit with this version
abbrev pub last_here : ℕ → ℕ → Key → List Change → Option Dated
last_here table version key changes = last_of (window (map (dated version) (filter (λ change. change.table == table) changes)) key)

-- the second of two changes, or the first where there is no second
abbrev pub or_first : Option Dated → Option Dated → Option Dated
or_first first None = first
or_first first (Some last) = Some last

-- the last change of a table and key in some commits
abbrev pub last_in : ℕ → Key → List Kept → Option Dated
last_in table key [] = None
last_in table key (one ∷ kept) = or_first (last_here table one.version key one.changes) (last_in table key kept)

-- where a note on a key of a table stands: at the table's id, and then the key
unfoldable pub own_key : ℕ → Key → Key
own_key table key = record { 0 = Int (pos table) ∷ key.0 }

-- the version that is noted is that of the last change of a table and key in some commits, where there is one
abbrev pub IsNoted : ℕ → Key → List Kept → Option ℕ → Type 0
IsNoted table key older noted = (last : Dated) → last_in table key older ≡ Some last → noted ≡ Some last.version

-- so it is of all that the newest commit does not change
abbrev pub AreNoted : List Kept → List Kept → List (Pair ℕ) → Type 0
AreNoted older newest notes = (table : ℕ) (key : Key) → last_in table key newest ≡ None → IsNoted table key older (value_at notes (own_key table key))

-- the same, if notes are made at all
abbrev pub MayBeNoted : List Kept → List Kept → Option (List (Pair ℕ)) → Type 0
MayBeNoted older newest None = Unit {0}
MayBeNoted older newest (Some notes) = AreNoted older newest notes

-- what is noted above a version stays noted
abbrev pub NotesStay : ℕ → List (Pair ℕ) → List (Pair ℕ) → Type 0
NotesStay version old new = (noted : ℕ) → version < noted → (key : Key) → value_at old key ≡ Some noted → value_at new key ≡ Some noted
