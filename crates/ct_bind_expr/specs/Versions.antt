-- CHANGETABLE(VERSION table, (columns), (values)) and tuples of values. T-SQL's documentation of CHANGETABLE wants the
-- columns of the key; the order in which faults are found is this project's own.
use Rattle.std.specs.Prelude.{ℕ, ◌+◌, not, ◌==◌, codes, List, [], ◌∷◌, length, find, slice_get, if◌then◌else◌, Option, Some, None, Ok, Err}
use Rattle.std.specs.List.{filter_map}
use Rattle.std.specs.Option.{option_and_then}
use Rattle.ct_types.specs.declared.bound.BoundExpr.{BoundExpr}
use Rattle.ct_types.specs.declared.bound.BoundRowVersion.{BoundRowVersion, roll-BoundRowVersion}
use Rattle.ct_types.specs.declared.bound.VersionColumn.{VersionColumn}
use Rattle.ct_types.specs.declared.bound.VersionColumn.TheVariants.{Version, Context, Key}
use Rattle.ct_types.specs.declared.schema.Column.{Column}
use Rattle.ct_types.specs.declared.schema.Schema.{Schema}
use Rattle.ct_types.specs.declared.refusal.Refusal.TheVariants.{NoColumn, CountClash}
use Rattle.ct_bind_kinds.specs.declared.kind.Kind.{Kind}
use Rattle.ct_bind_kinds.specs.declared.kind.Kind.TheVariants.{Number, Bytes}
use Rattle.ct_bind_kinds.specs.Kinds.{kind_of_type}
use Rattle.ct_bind_kinds.specs.WellFormed.{column_of}
use Rattle.ct_types.specs.Answers.{Answer, ◌>>=◌, ◌>>◌, demand, or_refuse, each_after}
use Rattle.ct_bind_names.specs.Names.{same, is_among, place_of}
use Rattle.ct_bind_expr.specs.declared.place.Typed.{Typed}
use Rattle.ct_bind_expr.specs.declared.place.Place.{Place}
use Rattle.ct_bind_expr.specs.Places.{of_kind}

-- ---- expressions that are still to be walked

-- what an expression comes to at a place
abbrev pub Walk : Type 0
Walk = Place → Answer Typed

-- an operand, or a value of a tuple, of this kind
unfoldable pub operand : Kind → Place → Walk → Answer BoundExpr
operand wanted place walk = walk place >>= of_kind wanted

-- the values of a tuple, each of the kind of its column
unfoldable pub values : Place → List Kind → List Walk → Answer (List BoundExpr)
values place [] walks = Ok []
values place (kind ∷ kinds) [] = Ok []
values place (kind ∷ kinds) (walk ∷ walks) = do
  value ← operand kind place walk
  more ← values place kinds walks
  Ok (value ∷ more)

-- a tuple has as many values as the list before it has columns
unfoldable pub tuple : Place → List Kind → List Walk → Answer (List BoundExpr)
tuple place kinds walks = do
  demand (length walks == length kinds) (CountClash (length kinds) (length walks))
  values place kinds walks

-- ---- the key

-- the columns of the key, in key order
unfoldable pub key_columns : Schema → List Column
key_columns table = filter_map (column_of table.columns) table.key

abbrev pub kind_of_column : Column → Kind
kind_of_column column = kind_of_type column.kind

-- the column of the key that is named so
unfoldable pub key_column : List Column → List ℕ → Option Column
key_column key name = find (λ column. same column.name name) key

-- a column of the list is one of the key, and stands there for the first time
unfoldable pub listed_kind : List Column → List (List ℕ) → List ℕ → Answer Kind
listed_kind key before name = do
  column ← or_refuse (key_column key name) (NoColumn name)
  demand (not (is_among name before)) (NoColumn name)
  Ok (kind_of_column column)

-- the first column of the key that the list lacks
unfoldable pub missing : List Column → List (List ℕ) → Option Column
missing key names = find (λ column. not (is_among column.name names)) key

abbrev pub none_missing : Option Column → Answer (Unit {0})
none_missing None = Ok tt
none_missing (Some column) = Err (NoColumn column.name)

-- the kinds of a list of columns: those of the key, each once, in any order
unfoldable pub listed_kinds : List Column → List (List ℕ) → Answer (List Kind)
listed_kinds key names = do
  kinds ← each_after (listed_kind key) [] names
  none_missing (missing key names)
  Ok kinds

-- the value that the list gives a column
abbrev pub value_of : {A : Type 0} → List (List ℕ) → List A → Column → Option A
value_of names values column = option_and_then (slice_get values) (place_of column.name names)

-- the values of a list of columns, in key order
unfoldable pub in_key_order : List Column → List (List ℕ) → List BoundExpr → List BoundExpr
in_key_order key names values = filter_map (value_of names values) key

-- the list and the tuple, whose values are bound
abbrev pub version_in : ℕ → List Column → List (List ℕ) → List BoundExpr → BoundRowVersion
version_in table key names bound = roll-BoundRowVersion (record { table = table; values = in_key_order key names bound })

-- the list, then the tuple
unfoldable pub version_of : Schema → List (List ℕ) → List Walk → Place → Answer BoundRowVersion
version_of table names walks place = do
  kinds ← listed_kinds (key_columns table) names
  bound ← tuple place kinds walks
  Ok (version_in table.id (key_columns table) names bound)

-- ---- the columns of CHANGETABLE(VERSION ..)

-- the column of the key that is named so, the first of which has this place
unfoldable pub key_column_from : List ℕ → ℕ → List Column → Answer (VersionColumn × Kind)
key_column_from name at [] = Err (NoColumn name)
key_column_from name at (column ∷ more) = if same column.name name then Ok (Key at, kind_of_column column) else key_column_from name (at + 1) more

-- SYS_CHANGE_VERSION, SYS_CHANGE_CONTEXT, or a column of the key
unfoldable pub version_column : Schema → List ℕ → Answer (VersionColumn × Kind)
version_column table name =
    if same name (codes "SYS_CHANGE_VERSION") then Ok (Version, Number)
    else (if same name (codes "SYS_CHANGE_CONTEXT") then Ok (Context, Bytes) else key_column_from name 0 (key_columns table))
