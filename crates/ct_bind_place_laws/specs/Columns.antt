-- Names of columns that a row lacks or has more than once, and lists of columns that are not those of a key.
use Rattle.std.specs.Prelude.{◌≡◌, ◌⊎◌, ℕ, ◌<◌, true, false, codes, List, [], ◌∷◌, ◌++◌, length, filter, flat_map, find, Option, Some, None, IsNone}
use Rattle.std.specs.List.{Contains}
use Rattle.std.specs.Option.{IsSomeAnd}
use Rattle.ct_types.specs.declared.schema.Column.{Column}
use Rattle.ct_types.specs.declared.schema.Schema.{Schema}
use Rattle.ct_bind_names.specs.Names.{same, is_among}
use Rattle.ct_bind_expr.specs.declared.place.Place.{Place}
use Rattle.ct_bind_expr.specs.declared.place.Shape.{Shape}
use Rattle.ct_bind_expr.specs.declared.place.Shown.{Shown}
use Rattle.ct_bind_expr.specs.Versions.{key_column, key_columns}

-- ---- the columns of a row

-- those of the name
abbrev pub of_name : List ℕ → List Shown → List Shown
of_name name columns = filter (λ column. same column.name name) columns

-- the columns of all sources
abbrev pub row_columns : List Shape → List Shown
row_columns sources = flat_map (λ source. source.columns) sources

-- the source of the name
abbrev pub source_named : List ℕ → List Shape → Option Shape
source_named name sources = find (λ source. same source.name name) sources

-- NoColumn: no source has the name before the full stop, or no column of the row, or of that source, has the name
abbrev pub IsNoColumn : Place → Option (List ℕ) → List ℕ → List ℕ → Type 0
IsNoColumn place None column wanted = (wanted ≡ column) × (of_name column (row_columns place.sources) ≡ [])
IsNoColumn place (Some source) column wanted =
    ((wanted ≡ source) × IsNone (source_named source place.sources))
    ⊎ ((wanted ≡ column) × IsSomeAnd (source_named source place.sources) (λ found. of_name column found.columns ≡ []))

-- Ambiguous: more than one column of the row, or of that source, has the name
abbrev pub IsAmbiguous : Place → Option (List ℕ) → List ℕ → List ℕ → Type 0
IsAmbiguous place None column wanted = (wanted ≡ column) × (1 < length (of_name column (row_columns place.sources)))
IsAmbiguous place (Some source) column wanted = (wanted ≡ column) × IsSomeAnd (source_named source place.sources) (λ found. 1 < length (of_name column found.columns))

-- ---- the columns of a key

-- the name stands in the list behind itself
abbrev pub StandsTwice : List (List ℕ) → List ℕ → Type 0
StandsTwice names name = (before : List (List ℕ)) × (after : List (List ℕ)) × (names ≡ before ++ name ∷ after) × (is_among name before ≡ true)

-- a column of the key, which the list lacks, has the name
abbrev pub IsMissing : List Column → List (List ℕ) → List ℕ → Type 0
IsMissing key names name = (column : Column) × Contains key column × (name ≡ column.name) × (is_among column.name names ≡ false)

-- a list of columns is not that of the key: a name is of none of its columns, or stands twice, or one is missing
abbrev pub IsNotOfKey : List Column → List (List ℕ) → List ℕ → Type 0
IsNotOfKey key names name = (Contains names name × IsNone (key_column key name)) ⊎ (StandsTwice names name ⊎ IsMissing key names name)

-- CHANGETABLE(VERSION ..) shows no such column
abbrev pub IsNotShown : Schema → List ℕ → Type 0
IsNotShown table name =
    (same name (codes "SYS_CHANGE_VERSION") ≡ false) × (same name (codes "SYS_CHANGE_CONTEXT") ≡ false) × IsNone (key_column (key_columns table) name)
