-- The causes of NoColumn, Ambiguous and TypeClash in a statement: at one of its expressions, at the place where that stands, or at one of
-- the names that it lists.
use Rattle.std.specs.Prelude.{◌≡◌, ◌⊎◌, ℕ, true, false, List, [], ◌∷◌, ◌++◌, map, slice_get, Option, Some, None, IsNone, Ok}
use Rattle.std.specs.List.{Contains, list_any}
use Rattle.ct_types.specs.declared.catalogue.Catalogued.{Catalogued}
use Rattle.ct_types.specs.declared.catalogue.Variable.{Variable}
use Rattle.ct_types.specs.declared.expr.Expr.{Expr}
use Rattle.ct_types.specs.declared.expr.ObjectName.{ObjectName}
use Rattle.ct_types.specs.declared.refusal.Refusal.{Refusal}
use Rattle.ct_types.specs.declared.refusal.Refusal.TheVariants.{NoColumn, Ambiguous, TypeClash}
use Rattle.ct_types.specs.declared.schema.Schema.{Schema}
use Rattle.ct_types.specs.declared.stmt.FromClause.{FromClause}
use Rattle.ct_types.specs.declared.stmt.JoinClause.{JoinClause}
use Rattle.ct_types.specs.declared.stmt.JoinClause.TheVariants as clause
use Rattle.ct_types.specs.declared.stmt.OrderItem.{OrderItem}
use Rattle.ct_types.specs.declared.stmt.Select.{Select}
use Rattle.ct_types.specs.declared.stmt.SelectItem.{SelectItem}
use Rattle.ct_types.specs.declared.stmt.SelectItem.TheVariants as wanted
use Rattle.ct_types.specs.declared.stmt.SetColumn.{SetColumn}
use Rattle.ct_types.specs.declared.stmt.Source.{Source}
use Rattle.ct_types.specs.declared.stmt.Source.TheVariants as source
use Rattle.ct_types.specs.declared.stmt.Stmt.{Stmt}
use Rattle.ct_types.specs.declared.stmt.Stmt.TheVariants as stmt
use Rattle.ct_types.specs.declared.stmt.VersionSource.{VersionSource}
use Rattle.ct_types.specs.declared.stmt.WriteStmt.{WriteStmt}
use Rattle.ct_types.specs.declared.stmt.WriteStmt.TheVariants as write
use Rattle.ct_bind_kinds.specs.declared.kind.Kind.{Kind}
use Rattle.ct_bind_kinds.specs.declared.kind.Kind.TheVariants.{Number, Bytes, Condition}
use Rattle.ct_bind_kinds.specs.Kinds.{kind_of_type}
use Rattle.ct_bind_names.specs.Catalogue.{table_named, declared_variable}
use Rattle.ct_bind_names.specs.Names.{same, table_name, last_part}
use Rattle.ct_bind_expr.specs.declared.place.Place.{Place}
use Rattle.ct_bind_expr.specs.declared.place.Shape.{Shape}
use Rattle.ct_bind_expr.specs.Places.{closed, row_of}
use Rattle.ct_bind.specs.Binding.{kind_of_name}
use Rattle.ct_bind.specs.Queries.{from_of, items_of, order_place}
use Rattle.ct_bind.specs.Sources.{source_name, one_source}
use Rattle.ct_bind.specs.Writes.{target_from, is_set, insert_targets, updated_name, row_named}
use Rattle.ct_bind_place_laws.specs.Causes.{IsNoOperand, IsNoValue, OfVersion, HasCause}
use Rattle.ct_bind_place_laws.specs.Columns.{StandsTwice, source_named}

-- a source before has the name already
abbrev pub IsTaken : List Shape → List ℕ → Refusal → Type 0
IsTaken before name refusal = (refusal ≡ Ambiguous name) × (list_any (λ source. same source.name name) before ≡ true)

-- the table has no column of the name
abbrev pub IsNoTarget : Schema → List ℕ → Refusal → Type 0
IsNoTarget table name refusal = (refusal ≡ NoColumn name) × IsNone (target_from name 1 table.columns)

-- the list of an INSERT has a name that is none of the table's, or one twice
abbrev pub ListRefuses : Schema → Option (List (List ℕ)) → Refusal → Type 0
ListRefuses table None refusal = ⊥
ListRefuses table (Some names) refusal = (name : List ℕ) × ((Contains names name × IsNoTarget table name refusal) ⊎ ((refusal ≡ Ambiguous name) × StandsTwice names name))

-- `*` without a source; `name.*` of no source
abbrev pub IsNoItem : List Shape → SelectItem → Refusal → Type 0
IsNoItem sources wanted.All refusal = (refusal ≡ TypeClash) × (sources ≡ [])
IsNoItem sources (wanted.AllOf name) refusal = (refusal ≡ NoColumn name) × IsNone (source_named name sources)
IsNoItem sources (wanted.One value alias) refusal = ⊥

module _ (tables : List Catalogued) (variables : List Variable) where
  -- ---- expressions at their places

  -- a part of the expression has the cause, or the expression has another kind than the one that is wanted
  abbrev pub Refuses : Place → Kind → Expr → Refusal → Type 0
  Refuses place kind x refusal = HasCause tables variables place x refusal ⊎ ((refusal ≡ TypeClash) × IsNoOperand tables variables place kind x)

  -- the same where any value is wanted
  abbrev pub ValueRefuses : Place → Expr → Refusal → Type 0
  ValueRefuses place x refusal = HasCause tables variables place x refusal ⊎ ((refusal ≡ TypeClash) × IsNoValue tables variables place x)

  -- an expression that need not be written
  abbrev pub OptionRefuses : Place → Kind → Option Expr → Refusal → Type 0
  OptionRefuses place kind None refusal = ⊥
  OptionRefuses place kind (Some x) refusal = Refuses place kind x refusal

  -- ---- FROM

  -- CHANGETABLE(VERSION ..), whose tuple stands at this place
  abbrev pub VersionRefuses : List Shape → Place → VersionSource → Refusal → Type 0
  VersionRefuses before place from refusal =
      IsTaken before from.alias refusal ⊎ (OfVersion tables variables place from.version refusal ⊎ ((y : Expr) × Contains from.version.values y × HasCause tables variables place y refusal))

  -- a source, behind those of these shapes
  abbrev pub SourceRefuses : List Shape → Source → Refusal → Type 0
  SourceRefuses before (source.Table from) refusal = IsTaken before (source_name from) refusal
  SourceRefuses before (source.Changes name since alias) refusal = IsTaken before alias refusal ⊎ Refuses closed Number since refusal
  SourceRefuses before (source.Version from) refusal = VersionRefuses before closed from refusal

  -- the second source, and ON on the row of both; in CROSS APPLY the tuple stands on the first source's row
  abbrev pub JoinRefuses : Shape → JoinClause → Refusal → Type 0
  JoinRefuses first (clause.On kind other on) refusal =
      SourceRefuses (first ∷ []) other refusal
      ⊎ ((second : _) × (one_source tables variables false (first ∷ []) other ≡ Ok second) × Refuses (row_of (first ∷ second.shape ∷ [])) Condition on refusal)
  JoinRefuses first (clause.Apply other) refusal = VersionRefuses (first ∷ []) (row_of (first ∷ [])) other refusal

  abbrev pub FromRefuses : Source → Option JoinClause → Refusal → Type 0
  FromRefuses from None refusal = SourceRefuses [] from refusal
  FromRefuses from (Some join) refusal =
      SourceRefuses [] from refusal ⊎ ((first : _) × (one_source tables variables false [] from ≡ Ok first) × JoinRefuses first.shape join refusal)

  -- ---- SELECT

  -- an item is no item of these sources, or no value
  abbrev pub ItemRefuses : List Shape → SelectItem → Refusal → Type 0
  ItemRefuses sources wanted.All refusal = IsNoItem sources wanted.All refusal
  ItemRefuses sources (wanted.AllOf name) refusal = IsNoItem sources (wanted.AllOf name) refusal
  ItemRefuses sources (wanted.One value alias) refusal = ValueRefuses (row_of sources) value refusal

  -- an item, WHERE, or a part of ORDER BY, which stands behind the items
  abbrev pub BehindFromRefuses : List Shape → Select → Refusal → Type 0
  BehindFromRefuses sources query refusal =
      ((item : SelectItem) × Contains query.items item × ItemRefuses sources item refusal)
      ⊎ (OptionRefuses (row_of sources) Condition query.condition refusal
      ⊎ ((items : _) × (items_of tables variables sources query.items ≡ Ok items) × ((part : OrderItem) × Contains query.order part × ValueRefuses (order_place sources items) part.value refusal)))

  abbrev pub SourcesRefuse : Option FromClause → Refusal → Type 0
  SourcesRefuse None refusal = ⊥
  SourcesRefuse (Some from) refusal = FromRefuses from.source from.join refusal

  abbrev pub SelectRefuses : Select → Refusal → Type 0
  SelectRefuses query refusal = SourcesRefuse query.from refusal ⊎ ((from : _) × (from_of tables variables query.from ≡ Ok from) × BehindFromRefuses from.shapes query refusal)

  -- ---- INSERT, UPDATE and DELETE

  -- a value of a tuple: it has not the kind of the column at its place
  abbrev pub TupleRefuses : Schema → Option (List (List ℕ)) → List Expr → Refusal → Type 0
  TupleRefuses table columns values refusal =
      ((y : Expr) × Contains values y × HasCause tables variables closed y refusal)
      ⊎ ((refusal ≡ TypeClash) × ((targets : _) × (insert_targets table columns ≡ Ok targets) × ((at : ℕ) × (y : Expr) × (kind : Kind)
      × (slice_get values at ≡ Some y) × (slice_get (map (λ target. target.kind) targets) at ≡ Some kind) × IsNoOperand tables variables closed kind y)))

  -- a SET: its column is none of the table's or was set before, or its value is refused
  abbrev pub SetRefuses : Schema → Place → List SetColumn → SetColumn → Refusal → Type 0
  SetRefuses table place before set refusal =
      IsNoTarget table set.column refusal
      ⊎ (((refusal ≡ Ambiguous set.column) × (is_set set.column before ≡ true))
      ⊎ ((target : _) × (target_from set.column 1 table.columns ≡ Some target) × Refuses place target.kind set.value refusal))

  abbrev pub SomeSetRefuses : Schema → Place → List SetColumn → Refusal → Type 0
  SomeSetRefuses table place sets refusal = (before : List SetColumn) × (set : SetColumn) × (after : List SetColumn) × (sets ≡ before ++ set ∷ after) × SetRefuses table place before set refusal

  abbrev pub WriteRefuses : Schema → WriteStmt → Refusal → Type 0
  WriteRefuses table (write.Insert name columns tuples) refusal = ListRefuses table columns refusal ⊎ ((values : List Expr) × Contains tuples values × TupleRefuses table columns values refusal)
  WriteRefuses table (write.Update name sets from filter) refusal =
      (row : List ℕ) × (updated_name name from ≡ Ok row) × (SomeSetRefuses table (row_named row table) sets refusal ⊎ OptionRefuses (row_named row table) Condition filter refusal)
  WriteRefuses table (write.Delete name filter) refusal = OptionRefuses (row_named (last_part name) table) Condition filter refusal

  abbrev pub written_table : WriteStmt → ObjectName
  written_table (write.Insert name columns tuples) = name
  written_table (write.Update name sets from filter) = name
  written_table (write.Delete name filter) = name

  -- ---- statements; one that holds no expression is refused none of these

  -- of the table that is written; of the context
  abbrev pub WritingRefuses : Option Expr → WriteStmt → Refusal → Type 0
  WritingRefuses context written refusal =
      OptionRefuses closed Bytes context refusal
      ⊎ ((table : Catalogued) × (table_named tables (table_name (written_table written)) ≡ Some table) × WriteRefuses table.schema written refusal)

  abbrev pub StatementRefuses : Stmt → Refusal → Type 0
  StatementRefuses (stmt.Write context written) refusal = WritingRefuses context written refusal
  StatementRefuses (stmt.Select query) refusal = SelectRefuses query refusal
  StatementRefuses (stmt.SetVariable name value) refusal = (at : _) × (declared_variable variables name ≡ Ok at) × Refuses (row_of []) (kind_of_type at.1) value refusal
  StatementRefuses (stmt.Declare name kind value) refusal = OptionRefuses (row_of []) (kind_of_name kind) value refusal
  StatementRefuses _ refusal = ⊥

-- whether a refusal is one of these three
abbrev pub IsOfPlaces : Refusal → Type 0
IsOfPlaces (NoColumn name) = Unit {0}
IsOfPlaces (Ambiguous name) = Unit {0}
IsOfPlaces TypeClash = Unit {0}
IsOfPlaces _ = ⊥
