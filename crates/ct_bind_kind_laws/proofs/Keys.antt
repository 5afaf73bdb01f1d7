-- The key of a table: its columns by their ids, and the one column that a name means.
use Rattle.std.proofs.Common.{◌≡◌, ℕ, ◌+◌, Bool, true, false, cond, codes, List, [], ◌∷◌, ◌++◌, map, find, length, if◌then◌else◌, Option, Some, None, Ok, refl, sym, ap, ◌∙◌}
use Rattle.std.specs.List.{AllByRecursion, IsDistinct, filter_map, cons_option, slice_get}
use Rattle.std.specs.Option.{option_map, option_and_then, IsSome}
use Rattle.std.proofs.lemmas.Option.{slice_get-map, same_Some}
use Rattle.ct_types.specs.declared.bound.VersionColumn.{VersionColumn}
use Rattle.ct_types.specs.declared.bound.VersionColumn.TheVariants.{Version, Context, Key}
use Rattle.ct_types.specs.declared.schema.Column.{Column}
use Rattle.ct_types.specs.declared.schema.Schema.{Schema}
use Rattle.ct_types.specs.Answers.{Answer}
use Rattle.ct_bind_kinds.specs.declared.kind.Kind.{Kind}
use Rattle.ct_bind_kinds.specs.declared.kind.Kind.TheVariants.{Number, Bytes}
use Rattle.ct_bind_kinds.specs.WellFormed.{column_of, column_kind, key_kinds, version_column_kind}
use Rattle.ct_bind_names.specs.Names.{same}
use Rattle.ct_bind_expr.specs.Versions.{key_columns, kind_of_column, key_column_from, version_column}
use Rattle.ct_bind_kind_laws.specs.Laws.{HasKey}
use Rattle.ct_types.proofs.AnswersTaken.{ok_or}
use Rattle.ct_bind_names.proofs.Same.{same_second}
use Rattle.ct_types.proofs.Lists.{all_mapped, all_join}
use Rattle.ct_bind_kind_laws.proofs.Columns.{stands_here, one_further, behind_one}

-- ---- the columns of the key by their ids

one_kind : (k : Column → Kind) (found : Option Column) (kinds : List (Option Kind)) (columns : List Column) → IsSome found → kinds ≡ map (λ column. Some (k column)) columns
    → option_map k found ∷ kinds ≡ map (λ column. Some (k column)) (cons_option found columns)
one_kind k None kinds columns some are = absurd cc
one_kind k (Some column) kinds columns some are = ap (λ rest. Some (k column) ∷ rest) are

kinds_of_ids : (k : Column → Kind) (columns : List Column) (ids : List ℕ) → AllByRecursion (λ id. IsSome (column_of columns id)) ids
    → map (λ id. option_map k (column_of columns id)) ids ≡ map (λ column. Some (k column)) (filter_map (column_of columns) ids)
kinds_of_ids k columns [] all = refl
kinds_of_ids k columns (id ∷ ids) all = one_kind k (column_of columns id) _ (filter_map (column_of columns) ids) all.0 (kinds_of_ids k columns ids all.1)

pub kinds_of_key : (table : Schema) → HasKey table → key_kinds table ≡ map (λ column. Some (kind_of_column column)) (key_columns table)
unfolding key_columns
kinds_of_key table key = kinds_of_ids kind_of_column table.columns table.key key.columns

as_bound : (f : ℕ → Option Kind) (o : Option ℕ) (kind : Kind) → option_map f o ≡ Some (Some kind) → option_and_then f o ≡ Some kind
as_bound f None kind is = absurd cc
as_bound f (Some id) kind is = same_Some (f id) (Some kind) is

pub at_key : (table : Schema) (at : ℕ) (column : Column) → HasKey table → slice_get (key_columns table) at ≡ Some column → version_column_kind table (Key at) ≡ Some (kind_of_column column)
at_key table at column key is =
    as_bound (column_kind table) (slice_get table.key at) (kind_of_column column)
    (sym (slice_get-map (column_kind table) table.key at) ∙ ap (λ kinds. slice_get kinds at) (kinds_of_key table key)
    ∙ slice_get-map (λ (column : Column). Some (kind_of_column column)) (key_columns table) at ∙ ap (option_map (λ (column : Column). Some (kind_of_column column))) is)

-- ---- the columns of CHANGETABLE(VERSION ..)

module _ (table : Schema) (key : HasKey table) where
  -- a column is of that kind
  abbrev Has : VersionColumn × Kind → Type 0
  Has it = version_column_kind table it.0 ≡ Some it.1

  key_column_shown : (name : List ℕ) (before : List Column) (at : ℕ) (columns : List Column) (shown : VersionColumn × Kind) → key_columns table ≡ before ++ columns → at ≡ length before
      → key_column_from name at columns ≡ Ok shown → Has shown
  unfolding key_column_from
  key_column_shown name before at [] shown is far e = absurd cc
  key_column_shown name before at (column ∷ more) shown is far e =
      ok_or Has (same column.name name) (Key at, kind_of_column column) shown (key_column_from name (at + 1) more)
      (at_key table at column key (stands_here (key_columns table) before column more at is far))
      (key_column_shown name (before ++ column ∷ []) (at + 1) more shown (behind_one (key_columns table) before column more is) (one_further before column at far))
      e

  pub column_shown : (name : List ℕ) (shown : VersionColumn × Kind) → version_column table name ≡ Ok shown → Has shown
  unfolding version_column
  column_shown name shown e =
      let column : Answer (VersionColumn × Kind) = key_column_from name 0 (key_columns table) in
      let context : Answer (VersionColumn × Kind) = if same name (codes "SYS_CHANGE_CONTEXT") then Ok (Context, Bytes) else column in
      ok_or Has (same name (codes "SYS_CHANGE_VERSION")) (Version, Number) shown context refl
      (ok_or Has (same name (codes "SYS_CHANGE_CONTEXT")) (Context, Bytes) shown column refl (key_column_shown name [] 0 (key_columns table) shown refl refl))
      e

-- ---- the one column that a name means

next_means : (test : List ℕ → Bool) (first : Column) (rest : List Column) (column : Column) → test first.name ≡ false → find (λ c. test c.name) rest ≡ Some column → find (λ c. test c.name) (first ∷ rest) ≡ Some column
next_means test first rest column other found = ap (λ b. cond b (Some first) (find (λ c. test c.name) rest)) other ∙ found

-- a column of the key is meant by each name that is its own
abbrev pub Means : List Column → Column → Type 0
Means key column = (name : List ℕ) → same column.name name ≡ true → find (λ c. same c.name name) key ≡ Some column

pub each_means : (key : List Column) → IsDistinct same (map (λ column. column.name) key) → AllByRecursion (Means key) key
unfolding IsDistinct
each_means [] distinct = tt
each_means (first ∷ rest) distinct = (
  (λ name alike. ap (λ b. cond b (Some first) (find (λ c. same c.name name) rest)) alike),
  all_join (λ column. same first.name column.name ≡ false) (Means rest) (Means (first ∷ rest))
      (λ column apart means name alike. next_means (λ n. same n name) first rest column (sym (same_second column.name name first.name alike) ∙ apart) (means name alike))
      rest (all_mapped (λ (column : Column). column.name) (λ name. same first.name name ≡ false) rest distinct.0) (each_means rest distinct.1),
)
