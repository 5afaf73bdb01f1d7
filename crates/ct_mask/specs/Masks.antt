-- Sets of column ids. That an update records its columns, and that CHANGE_TRACKING_IS_COLUMN_IN_MASK tests them, is
-- T-SQL's; how a mask is spelled is this project's own.
use Rattle.std.specs.Prelude.{◌≡◌, ℕ, zero, suc, ◌-◌, ◌<◌, ◌≤◌, ◌==◌, ℤ, pos, Bool, true, if◌then◌else◌, List, [], ◌∷◌, ◌++◌, Option, Some, None}
use Rattle.std.specs.Int.{bit_at, to_le_bytes, from_le_bytes, w32}
use Rattle.std.specs.Ordering.{int_eq}
use Rattle.std.specs.List.{list_any}

-- an id of a column: a table has at most 64 columns, numbered from 1
abbrev pub IsId : ℕ → Type 0
IsId id = (0 < id) × (id ≤ 64)

-- the number that stands for a set has its bit c - 1 for the id c
abbrev pub has_id : ℕ → ℕ → Bool
has_id mask id = bit_at mask (id - 1) == 1

-- the set of these ids
abbrev pub HasExactly : ℕ → List ℕ → Type 0
HasExactly mask ids = (id : ℕ) → IsId id → has_id mask id ≡ list_any (λ x. x == id) ids

-- ---- what SYS_CHANGE_COLUMNS shows

-- the id itself, where the set has it
abbrev pub id_upto : ℕ → ℕ → List ℕ
id_upto id mask = if has_id mask id then id ∷ [] else []

-- the ids of the set from 1 up to this one, in rising order
unfoldable pub ids_upto : ℕ → ℕ → List ℕ
ids_upto zero mask = []
ids_upto (suc n) mask = ids_upto n mask ++ id_upto (suc n) mask

-- each id as four bytes, the low one first
abbrev pub spelled : List ℕ → List ℕ
spelled [] = []
spelled (id ∷ ids) = to_le_bytes w32 id ++ spelled ids

abbrev pub bytes_of : ℕ → List ℕ
bytes_of mask = spelled (ids_upto 64 mask)

-- ---- how a mask is read

-- the numbers of the whole groups of four bytes, from the front
abbrev pub groups : List ℕ → List ℕ
groups (a ∷ b ∷ c ∷ d ∷ rest) = from_le_bytes w32 (a ∷ b ∷ c ∷ d ∷ []) ∷ groups rest
groups rest = []

-- one of the groups is this number
abbrev pub has_group : List ℕ → ℤ → Bool
has_group bytes id = list_any (λ n. int_eq (pos n) id) (groups bytes)

-- no mask stands for every column
abbrev pub reads : Option (List ℕ) → ℤ → Bool
reads None id = true
reads (Some bytes) id = has_group bytes id
