-- The sources of FROM: what each shows, and that the row of both is that of their columns.
use Rattle.std.proofs.Common.{◌≡◌, ℕ, Bool, true, false, List, [], ◌∷◌, ◌++◌, map, if◌then◌else◌, Option, Some, None, IfSome, refl, sym, ap, subst, ◌∙◌}
use Rattle.std.specs.List.{AllByRecursion}
use Rattle.std.specs.Option.{option_map, option_and_then}
use Rattle.std.proofs.lemmas.List.{append-nil}
use Rattle.ct_types.specs.declared.bound.BoundExpr.{BoundExpr}
use Rattle.ct_types.specs.declared.bound.BoundSource.{BoundSource}
use Rattle.ct_types.specs.declared.bound.BoundSource.TheVariants as bound
use Rattle.ct_types.specs.declared.bound.Join.{Join}
use Rattle.ct_types.specs.declared.bound.Join.TheVariants.{Apply}
use Rattle.ct_types.specs.declared.catalogue.Catalogued.{Catalogued}
use Rattle.ct_types.specs.declared.catalogue.Variable.{Variable}
use Rattle.ct_types.specs.declared.expr.Expr.{Expr}
use Rattle.ct_types.specs.declared.expr.ObjectName.{ObjectName}
use Rattle.ct_types.specs.declared.refusal.Refusal.TheVariants.{NoObject}
use Rattle.ct_types.specs.declared.schema.Column.{Column}
use Rattle.ct_types.specs.declared.schema.Schema.{Schema}
use Rattle.ct_types.specs.declared.stmt.FromClause.{FromClause}
use Rattle.ct_types.specs.declared.stmt.JoinClause.{JoinClause}
use Rattle.ct_types.specs.declared.stmt.JoinClause.TheVariants as clause
use Rattle.ct_types.specs.declared.stmt.JoinKind.{JoinKind}
use Rattle.ct_types.specs.declared.stmt.JoinKind.TheVariants as kind
use Rattle.ct_types.specs.declared.stmt.Source.{Source}
use Rattle.ct_types.specs.declared.stmt.Source.TheVariants as source
use Rattle.ct_types.specs.declared.stmt.TableSource.{TableSource}
use Rattle.ct_types.specs.declared.stmt.VersionSource.{VersionSource}
use Rattle.ct_bind_kinds.specs.declared.kind.Kind.{Kind}
use Rattle.ct_bind_kinds.specs.declared.kind.Kind.TheVariants.{Number, Text, Bytes}
use Rattle.ct_bind_kinds.specs.Kinds.{kind_of_type, is_value}
use Rattle.ct_bind_kinds.specs.WellFormed.{Scope, table_of_version, kind_of}
use Rattle.ct_types.specs.Answers.{◌>>=◌}
use Rattle.ct_bind_names.specs.declared.catalogue.SystemTable.{SystemTable}
use Rattle.ct_bind_names.specs.declared.catalogue.SystemTable.TheVariants.{Commits, Tracking}
use Rattle.ct_bind_names.specs.Names.{table_name}
use Rattle.ct_bind_names.specs.Catalogue.{existing_table, tracked_table, system_table}
use Rattle.ct_bind_expr.specs.declared.place.Shape.{Shape}
use Rattle.ct_bind_expr.specs.declared.place.Place.{Place}
use Rattle.ct_bind_expr.specs.Places.{of_kind, closed, row_of}
use Rattle.ct_bind_expr.specs.Versions.{key_columns, version_of}
use Rattle.ct_bind_expr.specs.Walk.{walk}
use Rattle.ct_bind_expr.proofs.Walked.{version_at}
use Rattle.ct_bind.specs.Sources.{shape, shown_columns, changes_columns, version_columns, system_columns, system_source, source_name, unique, sourced, system_sourced, plain_sourced, table_by, table_source, no_source, alone, pair, join_of, condition, changes_source, version_source, one_source, joined_on, applied, joined_with, joined}
use Rattle.ct_bind.specs.Queries.{from_of}
use Rattle.ct_bind_kind_laws.specs.Laws.{Sound, Shows, row_kinds}
use Rattle.ct_bind_kind_laws.specs.Statements.{IsCondition, tracked_of, table_row, scope_of}
use Rattle.ct_bind_kind_laws.specs.Queries.{changes_row, version_row, seen_by, source_row, shown_row}
use Rattle.ct_types.proofs.Lists.{all_append}
use Rattle.ct_bind_kinds.proofs.Types.{type_value}
use Rattle.ct_bind_kind_laws.proofs.Operators.{AllAnswered, fits}
use Rattle.ct_bind_kind_laws.proofs.Versions.{IsThere, IsThereTracked, existing, tracked, version_kinded}
use Rattle.ct_types.proofs.AnswersKept.{Kept, ok_kept, then_kept, after_kept, demand_kept}
use Rattle.ct_bind_kind_laws.proofs.Writing.{closed_shows, table_kinds, operand_kept, walked, condition_kept}

-- ---- rows

abbrev pub shape_row : Shape → List Kind
shape_row shape = map (λ column. column.kind) shape.columns

abbrev pub left_row : List Shape → List Kind
left_row [] = []
left_row (left ∷ more) = shape_row left

abbrev pub right_row : List Shape → List Kind
right_row [] = []
right_row (left ∷ more) = left_row more

abbrev pub AreValueKinds : List Kind → Type 0
AreValueKinds kinds = AllByRecursion (λ kind. is_value kind ≡ true) kinds

types_are_values : (columns : List Column) → AreValueKinds (map (λ column. kind_of_type column.kind) columns)
types_are_values [] = tt
types_are_values (column ∷ more) = (type_value column.kind, types_are_values more)

changes_kinds : (table : Schema) → map (λ column. column.kind) (changes_columns table) ≡ changes_row table
unfolding changes_columns
changes_kinds table = ap (λ kinds. Number ∷ Number ∷ Text ∷ Bytes ∷ Bytes ∷ kinds) (table_kinds (key_columns table))

version_kinds : (table : Schema) → map (λ column. column.kind) (version_columns table) ≡ version_row table
unfolding version_columns
version_kinds table = ap (λ kinds. Number ∷ Bytes ∷ kinds) (table_kinds (key_columns table))

seen_by_on : (kind : JoinKind) (left : List Kind) → seen_by (join_of kind) left ≡ []
seen_by_on kind.Inner left = refl
seen_by_on kind.Left left = refl
seen_by_on kind.Right left = refl

-- a row of these sources
pub row_shows : (shapes : List Shape) (row : List Kind) → row_kinds shapes ≡ row → Shows (row_of shapes) row
row_shows shapes row is = record { others = []; sources = sym (append-nil (row_kinds shapes) ∙ is); outputs = tt }

module _ (tables : List Catalogued) (variables : List Variable) (sound : Sound tables) where
  -- ---- what a source shows

  abbrev ShowsIn : List Kind → BoundSource → Shape → Type 0
  ShowsIn seen source shape = (source_row tables variables seen source ≡ Some (shape_row shape)) × AreValueKinds (shape_row shape)

  shows_in : (seen : List Kind) (source : BoundSource) (shape : Shape) (row : List Kind) → shape_row shape ≡ row → source_row tables variables seen source ≡ Some row → AreValueKinds row → ShowsIn seen source shape
  shows_in seen source shape row is shows values = (shows ∙ ap (λ kinds. Some kinds) (sym is), subst AreValueKinds (sym is) values)

  system_shows : (table : SystemTable) (name : List ℕ) → ShowsIn [] (system_source table) (shape name (system_columns table))
  unfolding system_columns
  system_shows Commits name = (refl, (refl, (refl, (refl, tt))))
  system_shows Tracking name = (refl, (refl, (refl, (refl, tt))))

  plain_kept : (before : List Shape) (from : TableSource) → Kept (λ it. ShowsIn [] it.source it.shape) (plain_sourced tables before from)
  unfolding plain_sourced
  plain_kept before from =
      then_kept (IsThere tables) (λ it. ShowsIn [] it.source it.shape) (existing_table tables from.table) _ (existing tables sound from.table)
      (λ table here. after_kept (λ it. ShowsIn [] it.source it.shape) (unique before (source_name from)) _
      (λ _. ok_kept (λ it. ShowsIn [] it.source it.shape) (sourced (bound.Table table.schema.id) (shape (source_name from) (shown_columns table.schema.columns)))
      (shows_in [] (bound.Table table.schema.id) (shape (source_name from) (shown_columns table.schema.columns)) (table_row table.schema) (table_kinds table.schema.columns)
      (ap (option_map table_row) here.found) (types_are_values table.schema.columns))))

  table_kept : (is_alone : Bool) (before : List Shape) (from : TableSource) (system : Option SystemTable) → Kept (λ it. ShowsIn [] it.source it.shape) (table_by tables is_alone before from system)
  unfolding system_sourced
  table_kept is_alone before from None = plain_kept before from
  table_kept is_alone before from (Some table) =
      demand_kept (λ it. ShowsIn [] it.source it.shape) is_alone (NoObject (table_name from.table)) _
      (λ _. ok_kept (λ it. ShowsIn [] it.source it.shape) (sourced (system_source table) (shape (source_name from) (system_columns table))) (system_shows table (source_name from)))

  changes_kept : (before : List Shape) (name : ObjectName) (since : Expr) (alias : List ℕ) → Kept (λ it. ShowsIn [] it.source it.shape) (changes_source tables variables before name since alias)
  unfolding changes_source
  changes_kept before name since alias =
      let scope : Scope = scope_of tables variables [] in
      then_kept (IsThereTracked tables) (λ it. ShowsIn [] it.source it.shape) (tracked_table tables name) _ (tracked tables sound name)
      (λ table here. after_kept (λ it. ShowsIn [] it.source it.shape) (unique before alias) _
      (λ _. then_kept (λ value. fits Number (kind_of scope value) ≡ true) (λ it. ShowsIn [] it.source it.shape) (walk tables variables since closed >>= of_kind Number) _
      (operand_kept scope Number (walk tables variables since closed) (walked tables variables sound [] closed closed_shows since))
      (λ value fit. ok_kept (λ it. ShowsIn [] it.source it.shape) (sourced (bound.Changes table.schema.id value) (shape alias (changes_columns table.schema)))
      (shows_in [] (bound.Changes table.schema.id value) (shape alias (changes_columns table.schema)) (changes_row table.schema) (changes_kinds table.schema)
      (ap (λ test. if test then option_map changes_row (tracked_of tables table.schema.id) else None) fit ∙ ap (option_map changes_row) here.found)
      (refl, (refl, (refl, (refl, (refl, types_are_values (key_columns table.schema))))))))))

  all_answered : (seen : List Kind) (place : Place) → Shows place seen → (all : List Expr) → AllAnswered (scope_of tables variables seen) (map (λ e. walk tables variables e place) all)
  all_answered seen place shows [] = tt
  all_answered seen place shows (e ∷ more) = (walked tables variables sound seen place shows e, all_answered seen place shows more)

  version_kept : (before : List Shape) (seen : List Kind) (place : Place) (from : VersionSource) → Shows place seen → Kept (λ it. ShowsIn seen it.source it.shape) (version_source tables variables before place from)
  unfolding version_source
  version_kept before seen place from shows =
      let scope : Scope = scope_of tables variables seen in
      then_kept (IsThereTracked tables) (λ it. ShowsIn seen it.source it.shape) (tracked_table tables from.version.table) _ (tracked tables sound from.version.table)
      (λ table here. after_kept (λ it. ShowsIn seen it.source it.shape) (unique before from.alias) _
      (λ _. then_kept (λ version. table_of_version scope version ≡ Some table.schema) (λ it. ShowsIn seen it.source it.shape)
      (version_of table.schema from.version.columns (map (walk tables variables) from.version.values) place) _
      (record {
        holds = λ version e. version_kinded scope table.schema from.version.columns (map (λ e. walk tables variables e place) from.version.values) version here.there.has here.there.found
            (all_answered seen place shows from.version.values) (sym (version_at (walk tables variables) place table.schema from.version.columns from.version.values) ∙ e);
      })
      (λ version is. ok_kept (λ it. ShowsIn seen it.source it.shape) (sourced (bound.Version version) (shape from.alias (version_columns table.schema)))
      (shows_in seen (bound.Version version) (shape from.alias (version_columns table.schema)) (version_row table.schema) (version_kinds table.schema)
      (ap (option_and_then (λ table. option_map version_row (tracked_of tables table.id))) is ∙ ap (option_map version_row) here.found) (refl, (refl, types_are_values (key_columns table.schema)))))))

  source_kept : (is_alone : Bool) (before : List Shape) (from : Source) → Kept (λ it. ShowsIn [] it.source it.shape) (one_source tables variables is_alone before from)
  unfolding one_source table_source
  source_kept is_alone before (source.Table from) = table_kept is_alone before from (system_table (table_name from.table))
  source_kept is_alone before (source.Changes table since alias) = changes_kept before table since alias
  source_kept is_alone before (source.Version from) = version_kept before [] closed from closed_shows

  -- ---- FROM

  pub record IsFrom (left right : Option BoundSource) (join : Join) (on : Option BoundExpr) (shapes : List Shape) : Type 0 where
    pub left_shows : shown_row tables variables [] left ≡ Some (left_row shapes)
    pub right_shows : shown_row tables variables (seen_by join (left_row shapes)) right ≡ Some (right_row shapes)
    pub condition : IfSome on (IsCondition (scope_of tables variables (left_row shapes ++ right_row shapes)))
    pub row : row_kinds shapes ≡ left_row shapes ++ right_row shapes
    pub values : AreValueKinds (row_kinds shapes)

  two_row : (left right : Shape) → row_kinds (left ∷ right ∷ []) ≡ shape_row left ++ shape_row right
  two_row left right = ap (λ kinds. shape_row left ++ kinds) (append-nil (shape_row right))

  two_values : (left right : Shape) → AreValueKinds (shape_row left) → AreValueKinds (shape_row right) → AreValueKinds (row_kinds (left ∷ right ∷ []))
  two_values left right first second =
      all_append (λ kind. is_value kind ≡ true) (shape_row left) (shape_row right ++ []) first (all_append (λ kind. is_value kind ≡ true) (shape_row right) [] second tt)

  on_kept : (first : BoundSource) (before : Shape) → ShowsIn [] first before → (join : JoinKind) (other : Source) (on : Expr)
      → Kept (λ from. IsFrom from.left from.right from.join from.on from.shapes) (joined_on tables variables (sourced first before) join other on)
  unfolding joined_on
  on_kept first before shows join other on =
      then_kept (λ it. ShowsIn [] it.source it.shape) (λ from. IsFrom from.left from.right from.join from.on from.shapes) (one_source tables variables false (before ∷ []) other) _ (source_kept false (before ∷ []) other)
      (λ second is. let row : List Kind = shape_row before ++ shape_row second.shape in
      then_kept (IsCondition (scope_of tables variables row)) (λ from. IsFrom from.left from.right from.join from.on from.shapes) (condition tables variables (row_of (before ∷ second.shape ∷ [])) on) _
      (condition_kept tables variables sound row (row_of (before ∷ second.shape ∷ [])) (row_shows (before ∷ second.shape ∷ []) row (two_row before second.shape)) on)
      (λ on holds. ok_kept (λ from. IsFrom from.left from.right from.join from.on from.shapes) (pair (sourced first before) second (join_of join) (Some on)) (record {
        left_shows = shows.0;
        right_shows = ap (λ seen. source_row tables variables seen second.source) (seen_by_on join (shape_row before)) ∙ is.0;
        condition = holds;
        row = two_row before second.shape;
        values = two_values before second.shape shows.1 is.1;
      })))

  apply_kept : (first : BoundSource) (before : Shape) → ShowsIn [] first before → (other : VersionSource)
      → Kept (λ from. IsFrom from.left from.right from.join from.on from.shapes) (applied tables variables (sourced first before) other)
  unfolding applied
  apply_kept first before shows other =
      then_kept (λ it. ShowsIn (shape_row before) it.source it.shape) (λ from. IsFrom from.left from.right from.join from.on from.shapes)
      (version_source tables variables (before ∷ []) (row_of (before ∷ [])) other) _
      (version_kept (before ∷ []) (shape_row before) (row_of (before ∷ [])) other (row_shows (before ∷ []) (shape_row before) (append-nil (shape_row before))))
      (λ second is. ok_kept (λ from. IsFrom from.left from.right from.join from.on from.shapes) (pair (sourced first before) second Apply None) (record {
        left_shows = shows.0;
        right_shows = is.0;
        condition = tt;
        row = two_row before second.shape;
        values = two_values before second.shape shows.1 is.1;
      }))

  with_kept : (first : BoundSource) (before : Shape) → ShowsIn [] first before → (join : JoinClause)
      → Kept (λ from. IsFrom from.left from.right from.join from.on from.shapes) (joined_with tables variables (sourced first before) join)
  with_kept first before shows (clause.On join other on) = on_kept first before shows join other on
  with_kept first before shows (clause.Apply other) = apply_kept first before shows other

  joined_kept : (first : Source) (join : Option JoinClause) → Kept (λ from. IsFrom from.left from.right from.join from.on from.shapes) (joined tables variables (record { source = first; join = join }))
  unfolding joined
  joined_kept first None =
      then_kept (λ it. ShowsIn [] it.source it.shape) (λ from. IsFrom from.left from.right from.join from.on from.shapes) (one_source tables variables true [] first) _ (source_kept true [] first)
      (λ it is. ok_kept (λ from. IsFrom from.left from.right from.join from.on from.shapes) (alone it) (record {
        left_shows = is.0;
        right_shows = refl;
        condition = tt;
        row = refl;
        values = all_append (λ kind. is_value kind ≡ true) (shape_row it.shape) [] is.1 tt;
      }))
  joined_kept first (Some join) =
      then_kept (λ it. ShowsIn [] it.source it.shape) (λ from. IsFrom from.left from.right from.join from.on from.shapes) (one_source tables variables false [] first) _ (source_kept false [] first)
      (λ it is. with_kept it.source it.shape is join)

  pub from_kept : (from : Option FromClause) → Kept (λ from. IsFrom from.left from.right from.join from.on from.shapes) (from_of tables variables from)
  from_kept None = ok_kept (λ from. IsFrom from.left from.right from.join from.on from.shapes) no_source (record { left_shows = refl; right_shows = refl; condition = tt; row = refl; values = tt })
  from_kept (Some from) = joined_kept from.source from.join
