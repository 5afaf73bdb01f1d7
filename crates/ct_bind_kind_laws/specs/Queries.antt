-- Which bound queries are well formed: their sources, how these are joined, and the row on which each of their expressions
-- is evaluated. This project's own.
use Rattle.std.specs.Prelude.{◌≡◌, true, List, [], ◌∷◌, ◌++◌, length, map, Option, Some, None, IfSome, if◌then◌else◌}
use Rattle.std.specs.List.{AllByRecursion}
use Rattle.std.specs.Option.{option_map, option_and_then}
use Rattle.ct_types.specs.declared.bound.BoundExpr.{BoundExpr}
use Rattle.ct_types.specs.declared.bound.BoundSelect.{BoundSelect}
use Rattle.ct_types.specs.declared.bound.BoundSource.{BoundSource}
use Rattle.ct_types.specs.declared.bound.BoundSource.TheVariants.{Table, Changes, Version, CommitTable, TrackingTables}
use Rattle.ct_types.specs.declared.bound.Join.{Join}
use Rattle.ct_types.specs.declared.bound.Join.TheVariants.{One, Inner, Left, Right, Apply}
use Rattle.ct_types.specs.declared.catalogue.Catalogued.{Catalogued}
use Rattle.ct_types.specs.declared.catalogue.Variable.{Variable}
use Rattle.ct_types.specs.declared.schema.Schema.{Schema}
use Rattle.ct_bind_kinds.specs.declared.kind.Kind.{Kind}
use Rattle.ct_bind_kinds.specs.declared.kind.Kind.TheVariants.{Number, Text, Bytes}
use Rattle.ct_bind_kinds.specs.Kinds.{kind_of_type}
use Rattle.ct_bind_kinds.specs.WellFormed.{Scope, table_of, table_of_version, kind_of, is_of, is_any_value}
use Rattle.ct_bind_expr.specs.Versions.{key_columns}
use Rattle.ct_bind_kind_laws.specs.Statements.{IsCondition, tracked_of, table_row, scope_of}

-- the kinds of the columns of a key, in key order
abbrev pub key_row : Schema → List Kind
key_row table = map (λ column. kind_of_type column.kind) (key_columns table)

-- what CHANGETABLE(CHANGES ..) shows: the version, that of the row's insert, the operation, the mask, the context, the key
abbrev pub changes_row : Schema → List Kind
changes_row table = Number ∷ Number ∷ Text ∷ Bytes ∷ Bytes ∷ key_row table

-- and CHANGETABLE(VERSION ..): the version, the context, the key
abbrev pub version_row : Schema → List Kind
version_row table = Number ∷ Bytes ∷ key_row table

-- the tuple of CROSS APPLY is evaluated on the left row; elsewhere a source names no column
abbrev pub seen_by : Join → List Kind → List Kind
seen_by Apply left = left
seen_by join left = []

-- a system table is no source of a join
abbrev pub MayJoin : BoundSource → Type 0
MayJoin CommitTable = ⊥
MayJoin TrackingTables = ⊥
MayJoin source = Unit {0}

-- which sources a join has, and whether it has ON; a system table stands alone
abbrev pub JoinFits : Join → Option BoundSource → Option BoundSource → Option BoundExpr → Type 0
JoinFits One left None None = Unit {0}
JoinFits Inner (Some left) (Some right) (Some on) = MayJoin left × MayJoin right
JoinFits Left (Some left) (Some right) (Some on) = MayJoin left × MayJoin right
JoinFits Right (Some left) (Some right) (Some on) = MayJoin left × MayJoin right
JoinFits Apply (Some left) (Some (Version version)) None = MayJoin left
JoinFits join left right on = ⊥

-- each of them is a value on such a row
abbrev pub AreValues : Scope → List BoundExpr → Type 0
AreValues scope exprs = AllByRecursion (λ expr. is_any_value (kind_of scope expr) ≡ true) exprs

module _ (tables : List Catalogued) (variables : List Variable) where
  -- The kinds of the columns of a source; None where it is not well formed. CHANGETABLE names a tracked table.
  abbrev pub source_row : List Kind → BoundSource → Option (List Kind)
  source_row seen (Table id) = option_map table_row (table_of (map (λ table. table.schema) tables) id)
  source_row seen (Changes id since) =
      if is_of Number (kind_of (scope_of tables variables []) since) then option_map changes_row (tracked_of tables id) else None
  source_row seen (Version version) =
      option_and_then (λ table. option_map version_row (tracked_of tables table.id)) (table_of_version (scope_of tables variables seen) version)
  source_row seen CommitTable = Some (Number ∷ Number ∷ Number ∷ [])
  source_row seen TrackingTables = Some (Number ∷ Number ∷ Number ∷ [])

  -- a source that is not there has no columns
  abbrev pub shown_row : List Kind → Option BoundSource → Option (List Kind)
  shown_row seen None = Some []
  shown_row seen (Some source) = source_row seen source

  -- ON and WHERE are conditions on the joined row, and the items are values on it; ORDER BY stands on that row followed by the
  -- values of the items.
  pub record IsSelect (select : BoundSelect) : Type 0 where
    pub shape : JoinFits select.plan.join select.left select.right select.plan.on
    pub left : List Kind
    pub right : List Kind
    pub items : List Kind
    pub left_shows : shown_row [] select.left ≡ Some left
    pub right_shows : shown_row (seen_by select.plan.join left) select.right ≡ Some right
    pub left_width : select.plan.left ≡ length left
    pub right_width : select.plan.right ≡ length right
    pub on : IfSome select.plan.on (IsCondition (scope_of tables variables (left ++ right)))
    pub filter : IfSome select.plan.filter (IsCondition (scope_of tables variables (left ++ right)))
    pub names : length select.plan.names ≡ length items
    pub kinds : map (kind_of (scope_of tables variables (left ++ right))) select.plan.items ≡ map (λ kind. Some kind) items
    pub values : AreValues (scope_of tables variables (left ++ right)) select.plan.items
    pub order : AreValues (scope_of tables variables (left ++ right ++ items)) (map (λ it. it.expr) select.plan.order)
