-- The names that a script can write. This project's own.
use Rattle.std.specs.Prelude.{◌≡◌, ◌≢◌, ℕ, ◌≤◌, ◌⊎◌, codes, List, ◌++◌, length}
use Rattle.std.specs.List.{AllByRecursion}
use Rattle.std.specs.Str.{str_to_ascii_lowercase}

-- names compare with ASCII letters folded
abbrev pub folded : List ℕ → List ℕ
folded name = str_to_ascii_lowercase name

-- a character of a name: from space to `~`, and no `]`
abbrev pub IsNameByte : ℕ → Type 0
IsNameByte byte = (32 ≤ byte) × (byte ≤ 126) × (byte ≢ 93)

-- a name has 1 to 128 characters
abbrev pub IsName : List ℕ → Type 0
IsName name = (1 ≤ length name) × (length name ≤ 128) × AllByRecursion IsNameByte name

-- the name of a table is one name, or two with a full stop between them
abbrev pub IsTableName : List ℕ → Type 0
IsTableName name =
    IsName name ⊎ ((first : List ℕ) × (second : List ℕ) × (name ≡ first ++ codes "." ++ second) × IsName first × IsName second)

-- the name has the schema `sys`: it begins with that word and a full stop, and goes on
abbrev pub IsInSys : List ℕ → Type 0
IsInSys name = (rest : List ℕ) × (folded name ≡ codes "sys." ++ rest) × (1 ≤ length rest)
