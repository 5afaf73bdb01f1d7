-- What FROM, SELECT and the writes mention is met, where they are bound.
use Rattle.std.proofs.Common.{◌≡◌, ℕ, nat_le, Bool, true, false, List, [], ◌∷◌, ◌++◌, length, map, flat_map, Option, Some, None, Ok, IsSome, is_some, inl, inr, refl, ap, sym, subst, ◌∙◌}
use Rattle.std.specs.Option.{option_map, IsSomeAnd}
use Rattle.std.proofs.lemmas.Bool.{both_ways}
use Rattle.std.proofs.lemmas.List.{length-map}
use Rattle.ct_types.specs.declared.bound.BoundSource.{BoundSource}
use Rattle.ct_types.specs.declared.bound.RowChange.TheVariants.{Insert}
use Rattle.ct_types.specs.declared.catalogue.Catalogued.{Catalogued}
use Rattle.ct_types.specs.declared.catalogue.Variable.{Variable}
use Rattle.ct_types.specs.declared.expr.Expr.{Expr}
use Rattle.ct_types.specs.declared.expr.ObjectName.{ObjectName}
use Rattle.ct_types.specs.declared.refusal.Refusal.TheVariants.{NoObject, TooMany}
use Rattle.ct_types.specs.declared.schema.Schema.{Schema}
use Rattle.ct_types.specs.declared.stmt.FromClause.{FromClause}
use Rattle.ct_types.specs.declared.stmt.JoinClause.{JoinClause}
use Rattle.ct_types.specs.declared.stmt.JoinClause.TheVariants as clause
use Rattle.ct_types.specs.declared.stmt.JoinKind.{JoinKind}
use Rattle.ct_types.specs.declared.stmt.OrderItem.{OrderItem}
use Rattle.ct_types.specs.declared.stmt.Select.{Select}
use Rattle.ct_types.specs.declared.stmt.SelectItem.{SelectItem}
use Rattle.ct_types.specs.declared.stmt.SelectItem.TheVariants as wanted
use Rattle.ct_types.specs.declared.stmt.SetColumn.{SetColumn}
use Rattle.ct_types.specs.declared.stmt.Source.{Source}
use Rattle.ct_types.specs.declared.stmt.Source.TheVariants as source
use Rattle.ct_types.specs.declared.stmt.Stmt.{Stmt}
use Rattle.ct_types.specs.declared.stmt.TableSource.{TableSource}
use Rattle.ct_types.specs.declared.stmt.VersionSource.{VersionSource}
use Rattle.ct_types.specs.Answers.{Answer, ◌>>=◌, ◌>>◌, demand, optional, each, each_after}
use Rattle.ct_bind_kinds.specs.declared.kind.Kind.{Kind}
use Rattle.ct_bind_kinds.specs.declared.kind.Kind.TheVariants.{Number, Bytes, Condition}
use Rattle.ct_bind_names.specs.declared.catalogue.SystemTable.{SystemTable}
use Rattle.ct_bind_names.specs.Catalogue.{table_named, system_table, existing_table}
use Rattle.ct_bind_names.specs.Names.{table_name}
use Rattle.ct_bind_expr.specs.declared.place.Shape.{Shape}
use Rattle.ct_bind_expr.specs.declared.place.Place.{Place}
use Rattle.ct_bind_expr.specs.Places.{of_kind, closed}
use Rattle.ct_bind_expr.specs.Versions.{tuple}
use Rattle.ct_bind_expr.specs.Walk.{walk}
use Rattle.ct_bind.specs.Sources.{unique, sourced, system_sourced, plain_sourced, table_by, table_source, condition, changes_source, version_source, one_source, joined_on, applied, joined_with, joined_by, joined}
use Rattle.ct_bind.specs.Queries.{one_item, bound_item, items_of, order_by, order_place, parts_of, from_of, select}
use Rattle.ct_bind.specs.Writes.{targets_from, listed_target, insert_targets, context_of, tuple_of, insert_change, set_target, set_of, update_change, delete_change}
use Rattle.ct_bind_refusal_laws.specs.Mentions.{Mention, OfSource, OfTuple, of_tracked, of_each, mentions, version_mentions, of_tuple, of_optional, of_source, of_join, of_from, of_item, of_select}
use Rattle.ct_bind_refusal_laws.specs.Causes.{Joins, HasTable, InsertsInto, IsNoSource, IsWanted}
use Rattle.ct_types.proofs.AnswersTaken.{each_after_length}
use Rattle.ct_bind_refusal_laws.proofs.Layers.{each_is, opened_version}
use Rattle.ct_bind_refusal_laws.proofs.Mentioned.{walk_meets, walks_meet}
use Rattle.ct_bind_refusal_laws.proofs.Passed.{Passed, anyway, also, first_passed, next_passed, both_passed, met_passed, or_passed}
use Rattle.ct_bind_refusal_laws.proofs.Meets.{AllMet, Meets, joined as both_met, ended, tracked_meets, tuple_meets, version_meets}
use Rattle.ct_bind_refusal_laws.proofs.Refusals.{targets_length}

module _ (tables : List Catalogued) (variables : List Variable) (statement : Stmt) where
  abbrev Here : {A : Type 0} → List Mention → Answer A → Type 0
  Here some answer = Meets tables variables statement some answer

  -- the mentions of two parts, and of the last one
  abbrev both : {A : Type 0} (some other : List Mention) (answer : Answer A) → Passed (AllMet tables variables statement some × AllMet tables variables statement other) answer → Here (some ++ other) answer
  both some other answer passed = both_met tables variables statement some other answer passed

  abbrev last : {A : Type 0} (some : List Mention) (answer : Answer A) → Here some answer → Here (some ++ []) answer
  last some answer passed = ended tables variables statement some answer passed

  -- ---- expressions

  value_meets : (value : Expr) (place : Place) → Here (mentions value) (walk tables variables value place)
  value_meets value place = walk_meets tables variables statement value place

  -- an expression of a kind
  pub kind_meets : (wanted : Kind) (place : Place) (value : Expr) → Here (mentions value) (walk tables variables value place >>= (λ it. of_kind wanted it))
  kind_meets wanted place value = first_passed _ _ (value_meets value place)

  pub optional_meets : {A : Type 0} (step : Expr → Answer A) (o : Option Expr) → ((value : Expr) → Here (mentions value) (step value)) → Here (of_optional o) (optional step o)
  optional_meets step None go = anyway _ tt
  optional_meets step (Some value) go = first_passed _ _ (go value)

  condition_meets : (place : Place) (value : Expr) → Here (mentions value) (condition tables variables place value)
  unfolding condition
  condition_meets place value = kind_meets Condition place value

  filter_meets : (place : Place) (filter : Option Expr) → Here (of_optional filter) (optional (condition tables variables place) filter)
  filter_meets place filter = optional_meets (condition tables variables place) filter (condition_meets place)

  -- ---- FROM

  -- a system table that stands alone is a source
  alone_is_source : (name : List ℕ) (table : SystemTable) → system_table name ≡ Some table → (Joins statement → ⊥) → IsNoSource tables statement name → ⊥
  alone_is_source name table is apart (inl none) = both_ways (is_some (system_table name)) none.0 (ap (λ o. is_some o) is)
  alone_is_source name table is apart (inr joins) = apart joins.0

  -- and so is a table that is there
  there_is_source : (name : List ℕ) → system_table name ≡ None → HasTable tables name → IsNoSource tables statement name → ⊥
  there_is_source name is there (inl none) = both_ways (is_some (table_named tables name)) none.1 there
  there_is_source name is there (inr joins) =
      both_ways (is_some (system_table name)) (ap (λ o. is_some o) is) joins.1

  system_meets : (is_alone : Bool) (table : SystemTable) (from : TableSource) → (is_alone ≡ true → Joins statement → ⊥) → system_table (table_name from.table) ≡ Some table
      → Here (OfSource (table_name from.table) ∷ []) (system_sourced is_alone table from)
  unfolding system_sourced
  system_meets is_alone table from apart is = met_passed is_alone (NoObject (table_name from.table)) _ (λ alone. anyway _ (alone_is_source (table_name from.table) table is (apart alone), tt))

  plain_meets : (before : List Shape) (from : TableSource) → system_table (table_name from.table) ≡ None → Here (OfSource (table_name from.table) ∷ []) (plain_sourced tables before from)
  unfolding plain_sourced existing_table
  plain_meets before from is =
      first_passed _ _ (also _ (λ there. (there_is_source (table_name from.table) is there, tt)) (or_passed (table_named tables (table_name from.table)) (NoObject (table_name from.table))))

  table_by_meets : (is_alone : Bool) (before : List Shape) (from : TableSource) (o : Option SystemTable) → (is_alone ≡ true → Joins statement → ⊥) → system_table (table_name from.table) ≡ o
      → Here (OfSource (table_name from.table) ∷ []) (table_by tables is_alone before from o)
  table_by_meets is_alone before from (Some table) apart is = system_meets is_alone table from apart is
  table_by_meets is_alone before from None apart is = plain_meets before from is

  table_meets : (is_alone : Bool) (before : List Shape) (from : TableSource) → (is_alone ≡ true → Joins statement → ⊥) → Here (OfSource (table_name from.table) ∷ []) (table_source tables is_alone before from)
  unfolding table_source
  table_meets is_alone before from apart = table_by_meets is_alone before from _ apart refl

  changes_meets : (before : List Shape) (name : ObjectName) (since : Expr) (alias : List ℕ) → Here (of_tracked name ∷ mentions since) (changes_source tables variables before name since alias)
  unfolding changes_source
  changes_meets before name since alias =
      both (of_tracked name ∷ []) (mentions since) _
      (both_passed _ _ (tracked_meets tables variables statement name) (λ _ _. next_passed (unique before alias) _ (λ _ _. first_passed _ _ (kind_meets Number closed since))))

  version_source_meets : (before : List Shape) (place : Place) (from : VersionSource) → Here (version_mentions from.version) (version_source tables variables before place from)
  unfolding version_source
  version_source_meets before place from =
      let values : List Expr = from.version.values in
      let own : Mention = OfTuple (Some (length from.version.columns)) (length (map mentions values)) in
      let long : length (map (walk tables variables) values) ≡ length (map mentions values) = length-map values (walk tables variables) ∙ sym (length-map values mentions) in
      subst (λ some. Here some (version_source tables variables before place from)) (sym (opened_version from.version))
      (both (of_tracked from.version.table ∷ []) (own ∷ of_each (map mentions values)) _
      (both_passed _ _ (tracked_meets tables variables statement from.version.table)
      (λ table _. next_passed (unique before from.alias) _ (λ _ _. first_passed _ _ (version_meets tables variables statement table.schema from.version.columns (map (walk tables variables) values) (map mentions values) place
      (length (map mentions values)) long (walks_meet tables variables statement values))))))

  source_meets : (is_alone : Bool) (before : List Shape) (from : Source) → (is_alone ≡ true → Joins statement → ⊥) → Here (of_source from) (one_source tables variables is_alone before from)
  unfolding one_source
  source_meets is_alone before (source.Table from) apart = table_meets is_alone before from apart
  source_meets is_alone before (source.Changes table since alias) apart = changes_meets before table since alias
  source_meets is_alone before (source.Version from) apart = version_source_meets before closed from

  joined_on_meets : (first : BoundSource) (before : Shape) (kind : JoinKind) (other : Source) (on : Expr) → Here (of_source other ++ mentions on) (joined_on tables variables (sourced first before) kind other on)
  unfolding joined_on
  joined_on_meets first before kind other on =
      both (of_source other) (mentions on) _ (both_passed _ _ (source_meets false _ other (λ e. absurd cc)) (λ second _. first_passed _ _ (condition_meets _ on)))

  applied_meets : (first : BoundSource) (before : Shape) (other : VersionSource) → Here (version_mentions other.version) (applied tables variables (sourced first before) other)
  unfolding applied
  applied_meets first before other = first_passed _ _ (version_source_meets _ _ other)

  joined_with_meets : (first : BoundSource) (before : Shape) (join : JoinClause) → Here (of_join (Some join)) (joined_with tables variables (sourced first before) join)
  joined_with_meets first before (clause.On kind other on) = joined_on_meets first before kind other on
  joined_with_meets first before (clause.Apply other) = applied_meets first before other

  joined_by_meets : (from : Source) (join : Option JoinClause) → (Joins statement → IsSome join) → Here (of_source from ++ of_join join) (joined_by tables variables from join)
  joined_by_meets from None joins = last (of_source from) _ (first_passed _ _ (source_meets true [] from (λ _ two. let some : false ≡ true = joins two in absurd cc)))
  joined_by_meets from (Some join) joins =
      both (of_source from) (of_join (Some join)) _ (both_passed _ _ (source_meets false [] from (λ e. absurd cc)) (λ first _. joined_with_meets first.source first.shape join))

  from_meets : (from : Option FromClause) → (Joins statement → IsSomeAnd from (λ from. IsSome from.join)) → Here (of_from from) (from_of tables variables from)
  unfolding joined
  from_meets None joins = anyway _ tt
  from_meets (Some from) joins = joined_by_meets from.source from.join joins

  -- ---- SELECT

  one_item_meets : (all : List Shape) (value : Expr) (alias : Option (List ℕ)) → Here (mentions value) (one_item tables variables all value alias)
  unfolding one_item
  one_item_meets all value alias = first_passed _ _ (value_meets value _)

  item_meets : (all : List Shape) (it : SelectItem) → Here (of_item it) (bound_item tables variables all it)
  unfolding bound_item
  item_meets all wanted.All = anyway _ tt
  item_meets all (wanted.AllOf name) = anyway _ tt
  item_meets all (wanted.One value alias) = one_item_meets all value alias

  items_meet : (all : List Shape) (items : List SelectItem) → Here (flat_map of_item items) (items_of tables variables all items)
  unfolding items_of
  items_meet all [] = anyway _ tt
  items_meet all (it ∷ more) = both (of_item it) (flat_map of_item more) _ (both_passed _ _ (item_meets all it) (λ _ _. first_passed _ _ (items_meet all more)))

  orders_meet : (place : Place) (all : List OrderItem) → Here (flat_map (λ it. mentions it.value) all) (each (order_by tables variables place) all)
  unfolding order_by
  orders_meet place [] = anyway _ tt
  orders_meet place (it ∷ more) =
      both (mentions it.value) (flat_map (λ (one : OrderItem). mentions one.value) more) _
      (both_passed _ _ (first_passed _ _ (value_meets it.value place)) (λ _ _. first_passed _ _ (orders_meet place more)))

  parts_meet : (all : List Shape) (it : Select) → Here (flat_map of_item it.items ++ (of_optional it.condition ++ flat_map (λ one. mentions one.value) it.order)) (parts_of tables variables all it)
  unfolding parts_of
  parts_meet all it =
      let values : List Mention = flat_map (λ (one : OrderItem). mentions one.value) it.order in
      both (flat_map of_item it.items) (of_optional it.condition ++ values) _
      (both_passed _ _ (items_meet all it.items)
      (λ items _. both (of_optional it.condition) values _ (both_passed _ _ (filter_meets _ it.condition) (λ _ _. first_passed _ _ (orders_meet (order_place all items) it.order)))))

  pub select_meets : (it : Select) → (Joins statement → IsSomeAnd it.from (λ from. IsSome from.join)) → Here (of_select it) (select tables variables it)
  unfolding select
  select_meets it joins =
      both (of_from it.from) (flat_map of_item it.items ++ (of_optional it.condition ++ flat_map (λ (one : OrderItem). mentions one.value) it.order)) _
      (both_passed _ _ (from_meets it.from joins) (λ from _. first_passed _ _ (parts_meet from.shapes it)))

  -- ---- writes

  pub context_meets : (context : Option Expr) → Here (of_optional context) (optional (context_of tables variables) context)
  unfolding context_of
  context_meets context = optional_meets (context_of tables variables) context (kind_meets Bytes closed)

  -- a tuple has as many values as there are kinds, and as many are wanted
  row_meets : (kinds : List Kind) (columns : Option ℕ) (values : List Expr) → ((wanted : ℕ) → IsWanted tables statement columns wanted → wanted ≡ length kinds)
      → Here (of_tuple columns values) (tuple closed kinds (map (walk tables variables) values))
  row_meets kinds columns values wide =
      subst (λ all. Here (OfTuple columns (length values) ∷ all) (tuple closed kinds (map (walk tables variables) values))) (each_is values)
      (tuple_meets tables variables statement closed kinds (map (walk tables variables) values) (map mentions values) columns (length values) wide (length-map values (walk tables variables)) (walks_meet tables variables statement values))

  rows_meet : (kinds : List Kind) (columns : Option ℕ) (tuples : List (List Expr)) → ((wanted : ℕ) → IsWanted tables statement columns wanted → wanted ≡ length kinds)
      → Here (flat_map (of_tuple columns) tuples) (each (λ values. tuple closed kinds (map (walk tables variables) values)) tuples)
  rows_meet kinds columns [] wide = anyway _ tt
  rows_meet kinds columns (values ∷ more) wide =
      both (of_tuple columns values) (flat_map (of_tuple columns) more) _ (both_passed _ _ (row_meets kinds columns values wide) (λ _ _. first_passed _ _ (rows_meet kinds columns more wide)))

  -- the columns are there: what is left are the tuples
  tuples_meet : (ids : List ℕ) (kinds : List Kind) (columns : Option ℕ) (tuples : List (List Expr)) → ((wanted : ℕ) → IsWanted tables statement columns wanted → wanted ≡ length kinds)
      → Here (flat_map (of_tuple columns) tuples) (demand (nat_le (length tuples) 1000) (TooMany 1000) >> (each (λ values. tuple closed kinds (map (walk tables variables) values)) tuples >>= (λ rows. Ok (Insert ids rows))))
  tuples_meet ids kinds columns tuples wide = met_passed (nat_le (length tuples) 1000) (TooMany 1000) _ (λ _. first_passed _ _ (rows_meet kinds columns tuples wide))

  -- without a list a tuple has a value for each column of the table
  pub insert_change_meets : (table : Schema) (columns : Option (List (List ℕ))) (tuples : List (List Expr)) → ((wanted : ℕ) → InsertsInto tables statement wanted → wanted ≡ length table.columns)
      → Here (flat_map (of_tuple (option_map length columns)) tuples) (insert_change tables variables table columns tuples)
  unfolding insert_change insert_targets tuple_of
  insert_change_meets table None tuples into =
      tuples_meet _ (map (λ column. column.kind) (targets_from 1 table.columns)) None tuples (λ wanted is. into wanted is ∙ sym (targets_length 1 table.columns))
  insert_change_meets table (Some names) tuples into =
      next_passed (each_after (listed_target table) [] names) _
      (λ targets made. tuples_meet _ (map (λ column. column.kind) targets) (Some (length names)) tuples
      (λ wanted is. is ∙ sym (length-map targets (λ column. column.kind) ∙ each_after_length (listed_target table) [] names targets made)))

  sets_meet : (table : Schema) (place : Place) (before all : List SetColumn) → Here (flat_map (λ it. mentions it.value) all) (each_after (set_of tables variables table place) before all)
  unfolding set_of
  sets_meet table place before [] = anyway _ tt
  sets_meet table place before (it ∷ more) =
      both (mentions it.value) (flat_map (λ (one : SetColumn). mentions one.value) more) _
      (both_passed _ _ (next_passed (set_target table before it.column) _ (λ column _. first_passed _ _ (kind_meets column.kind place it.value))) (λ _ _. first_passed _ _ (sets_meet table place (before ++ it ∷ []) more)))

  pub update_change_meets : (table : Schema) (place : Place) (sets : List SetColumn) (filter : Option Expr)
      → Here (flat_map (λ it. mentions it.value) sets ++ of_optional filter) (update_change tables variables table place sets filter)
  unfolding update_change
  update_change_meets table place sets filter =
      both (flat_map (λ (one : SetColumn). mentions one.value) sets) (of_optional filter) _ (both_passed _ _ (sets_meet table place [] sets) (λ _ _. first_passed _ _ (filter_meets place filter)))

  pub delete_change_meets : (place : Place) (filter : Option Expr) → Here (of_optional filter) (delete_change tables variables place filter)
  unfolding delete_change
  delete_change_meets place filter = first_passed _ _ (filter_meets place filter)
