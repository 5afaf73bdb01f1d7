-- Names, as statements write them. T-SQL: a table's name may have the schema before it; that the schema `dbo` is dropped,
-- and that two parts make one name, is this project's own.
use Rattle.std.specs.Prelude.{ℕ, Bool, codes, List, ◌++◌, if◌then◌else◌, Option, Some, None}
use Rattle.std.specs.List.{list_any, position_from}
use Rattle.std.specs.Str.{bytes_eq}
use Rattle.ct_types.specs.declared.expr.ObjectName.{ObjectName}
use Rattle.ct_model.specs.Names.{folded}

-- names compare with ASCII letters folded
unfoldable pub same : List ℕ → List ℕ → Bool
same a b = bytes_eq (folded a) (folded b)

-- the name is one of these
unfoldable pub is_among : List ℕ → List (List ℕ) → Bool
is_among name names = list_any (same name) names

-- the place of the name among these, counted from 0
unfoldable pub place_of : List ℕ → List (List ℕ) → Option ℕ
place_of name names = position_from (same name) 0 names

abbrev pub joined : List ℕ → Option (List ℕ) → List ℕ
joined first None = first
joined first (Some second) = if same first (codes "dbo") then second else first ++ codes "." ++ second

-- The name of a table: two parts have a full stop between them, and `dbo.` is dropped.
unfoldable pub table_name : ObjectName → List ℕ
table_name name = joined name.first name.second

abbrev pub last_of : List ℕ → Option (List ℕ) → List ℕ
last_of first None = first
last_of first (Some second) = second

-- the last part of a name
unfoldable pub last_part : ObjectName → List ℕ
last_part name = last_of name.first name.second
