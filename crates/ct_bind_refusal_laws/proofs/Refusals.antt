-- What FROM, SELECT, the writes and the statements on variables refuse: each refusal has its cause.
use Rattle.std.proofs.Common.{◌≡◌, ◌<◌, ◌+◌, ℕ, nat_le, Bool, true, false, not, List, [], ◌∷◌, ◌++◌, length, map, flat_map, Option, Some, None, Ok, IsSome, IsFalse, is_some, inl, inr, refl, ap, leb-false, suc, ◌==◌, sym, subst, ◌∙◌, arith}
use Rattle.std.specs.List.{Contains, AllByRecursion}
use Rattle.std.specs.Option.{option_map, IsSomeAnd}
use Rattle.std.proofs.lemmas.Bool.{not-false}
use Rattle.std.proofs.lemmas.List.{length-map}
use Rattle.std.proofs.lemmas.List.Elements.{Contains-append_right}
use Rattle.ct_types.specs.declared.bound.BoundSource.{BoundSource}
use Rattle.ct_types.specs.declared.bound.RowChange.TheVariants.{Insert}
use Rattle.ct_types.specs.declared.catalogue.Catalogued.{Catalogued}
use Rattle.ct_types.specs.declared.catalogue.Variable.{Variable}
use Rattle.ct_types.specs.declared.entry.Keep.{Keep}
use Rattle.ct_types.specs.declared.expr.Expr.{Expr}
use Rattle.ct_types.specs.declared.expr.ObjectName.{ObjectName}
use Rattle.ct_types.specs.declared.refusal.Refusal.TheVariants.{NoColumn, NoObject, Ambiguous, CountClash, KeyUpdate, TooMany, TypeClash}
use Rattle.ct_types.specs.declared.schema.Column.{Column}
use Rattle.ct_types.specs.declared.schema.Schema.{Schema}
use Rattle.ct_types.specs.declared.stmt.FromClause.{FromClause}
use Rattle.ct_types.specs.declared.stmt.JoinClause.{JoinClause}
use Rattle.ct_types.specs.declared.stmt.JoinClause.TheVariants as clause
use Rattle.ct_types.specs.declared.stmt.JoinKind.{JoinKind}
use Rattle.ct_types.specs.declared.stmt.OrderItem.{OrderItem}
use Rattle.ct_types.specs.declared.stmt.Select.{Select}
use Rattle.ct_types.specs.declared.stmt.SelectItem.{SelectItem}
use Rattle.ct_types.specs.declared.stmt.SelectItem.TheVariants as wanted
use Rattle.ct_types.specs.declared.stmt.SetColumn.{SetColumn}
use Rattle.ct_types.specs.declared.stmt.Source.{Source}
use Rattle.ct_types.specs.declared.stmt.Source.TheVariants as source
use Rattle.ct_types.specs.declared.stmt.Stmt.{Stmt}
use Rattle.ct_types.specs.declared.stmt.TableSource.{TableSource}
use Rattle.ct_types.specs.declared.stmt.VersionSource.{VersionSource}
use Rattle.ct_types.specs.Answers.{Answer, ◌>>=◌, ◌>>◌, demand, optional, each, each_after}
use Rattle.ct_bind_kinds.specs.declared.kind.Kind.{Kind}
use Rattle.ct_bind_kinds.specs.declared.kind.Kind.TheVariants.{Number, Bytes, Condition}
use Rattle.ct_bind_names.specs.declared.catalogue.SystemTable.{SystemTable}
use Rattle.ct_bind_names.specs.Catalogue.{system_table, existing_table}
use Rattle.ct_bind_names.specs.Names.{same, is_among, table_name}
use Rattle.ct_bind_expr.specs.declared.place.Shape.{Shape}
use Rattle.ct_bind_expr.specs.declared.place.Place.{Place}
use Rattle.ct_bind_expr.specs.declared.place.Typed.{Typed}
use Rattle.ct_bind_expr.specs.Places.{of_kind, any_value, closed}
use Rattle.ct_bind_expr.specs.Versions.{tuple}
use Rattle.ct_bind_expr.specs.Walk.{walk}
use Rattle.ct_bind.specs.Sources.{source_name, unique, sourced, system_sourced, plain_sourced, table_by, table_source, condition, changes_source, version_source, one_source, joined_on, applied, joined_with, joined_by, joined}
use Rattle.ct_bind.specs.Queries.{is_empty, columns_of, one_item, bound_item, items_of, order_by, order_place, parts_of, from_of, select}
use Rattle.ct_bind.specs.Writes.{targets_from, target_from, is_set, is_key, table_target, listed_target, insert_targets, set_target, updated_name, context_of, tuple_of, insert_change, set_of, update_change, delete_change}
use Rattle.ct_bind_refusal_laws.specs.Mentions.{Mention, OfSource, OfTuple, of_tracked, of_each, mentions, version_mentions, of_values, of_tuple, of_optional, of_source, of_join, of_from, of_item, of_select, of_statement}
use Rattle.ct_bind_refusal_laws.specs.Causes.{Joins, UpdatesFromAnother, InsertsMoreThan, InsertsInto, IsWanted, HasKeyColumn, SetsKey, HasCause}
use Rattle.ct_bind_refusal_laws.proofs.Among.{Among, left, right, first, rest}
use Rattle.ct_types.proofs.AnswersCaused.{Caused, ok_caused, err_caused, weaker, then_caused, after_caused, demand_caused, met_caused, cond_caused, or_caused, found_caused, each_caused, each_after_caused}
use Rattle.ct_types.proofs.AnswersTaken.{each_after_length}
use Rattle.ct_types.proofs.Lists.{all_everywhere}
use Rattle.ct_bind_refusal_laws.proofs.Expressions.{IsExplained, widened, tracked_explained, of_kind_explained, any_value_explained, differ, values_explained, version_of_explained}
use Rattle.ct_bind_refusal_laws.proofs.Layers.{each_is, opened_version}
use Rattle.ct_bind_refusal_laws.proofs.Walked.{walk_explained, walks_explained}

-- the columns of a table have one kind each
pub targets_length : (id : ℕ) (columns : List Column) → length (map (λ column. column.kind) (targets_from id columns)) ≡ length columns
unfolding targets_from
targets_length id [] = refl
targets_length id (column ∷ more) = ap suc (targets_length (id + 1) more)

module _ (tables : List Catalogued) (keep : Option Keep) (variables : List Variable) (statement : Stmt) where
  -- whatever is refused is refused for a cause of this statement
  abbrev pub Fine : {A : Type 0} → Answer A → Type 0
  Fine answer = Caused (HasCause tables keep variables statement) answer

  -- what the statement mentions too
  abbrev pub Says : List Mention → Type 0
  Says some = Among some (of_statement statement)

  -- what is explained by the catalogue, the variables and what is mentioned
  pub explained : {A : Type 0} (answer : Answer A) → IsExplained tables variables (of_statement statement) answer → Fine answer
  explained answer caused = weaker answer (widened tables keep variables statement) caused

  -- ---- expressions

  walk_fine : (value : Expr) (place : Place) → Says (mentions value) → Fine (walk tables variables value place)
  walk_fine value place says = explained _ (walk_explained tables variables value (of_statement statement) says place)

  -- an expression of a kind
  pub kind_fine : (wanted : Kind) (place : Place) (value : Expr) → Says (mentions value) → Fine (walk tables variables value place >>= (λ it. of_kind wanted it))
  kind_fine wanted place value says = then_caused _ _ (walk_fine value place says) (λ it. explained _ (of_kind_explained tables variables (of_statement statement) wanted it))

  pub optional_fine : {A : Type 0} (step : Expr → Answer A) (o : Option Expr) → Says (of_optional o) → ((value : Expr) → Says (mentions value) → Fine (step value)) → Fine (optional step o)
  optional_fine step None says go = ok_caused None
  optional_fine step (Some value) says go = then_caused (step value) (λ it. Ok (Some it)) (go value says) (λ it. ok_caused (Some it))

  condition_fine : (place : Place) (value : Expr) → Says (mentions value) → Fine (condition tables variables place value)
  unfolding condition
  condition_fine place value says = kind_fine Condition place value says

  filter_fine : (place : Place) (filter : Option Expr) → Says (of_optional filter) → Fine (optional (condition tables variables place) filter)
  filter_fine place filter says = optional_fine (condition tables variables place) filter says (condition_fine place)

  -- ---- FROM

  unique_fine : (before : List Shape) (name : List ℕ) → Fine (unique before name)
  unfolding unique
  unique_fine before name = demand_caused _ (Ambiguous name) (λ _. tt)

  -- a source that is not alone is one of two that the statement joins
  system_fine : (is_alone : Bool) (table : SystemTable) (from : TableSource) → (is_alone ≡ false → Joins statement) → Says (OfSource (table_name from.table) ∷ []) → system_table (table_name from.table) ≡ Some table
      → Fine (system_sourced is_alone table from)
  unfolding system_sourced
  system_fine is_alone table from joins says is =
      met_caused is_alone (NoObject (table_name from.table)) _ (λ other. inr (inl (first (OfSource (table_name from.table)) [] says, inr (joins other, ap (λ o. is_some o) is)))) (λ _. ok_caused _)

  plain_fine : (before : List Shape) (from : TableSource) → Says (OfSource (table_name from.table) ∷ []) → system_table (table_name from.table) ≡ None → Fine (plain_sourced tables before from)
  unfolding plain_sourced existing_table
  plain_fine before from says is =
      then_caused _ _ (or_caused _ (NoObject (table_name from.table)) (λ none. inr (inl (first (OfSource (table_name from.table)) [] says, inl (ap (λ o. is_some o) is, ap (λ o. is_some o) none)))))
      (λ _. then_caused _ _ (unique_fine before _) (λ _. ok_caused _))

  table_by_fine : (is_alone : Bool) (before : List Shape) (from : TableSource) (o : Option SystemTable) → (is_alone ≡ false → Joins statement) → Says (OfSource (table_name from.table) ∷ []) → system_table (table_name from.table) ≡ o
      → Fine (table_by tables is_alone before from o)
  table_by_fine is_alone before from (Some table) joins says is = system_fine is_alone table from joins says is
  table_by_fine is_alone before from None joins says is = plain_fine before from says is

  table_fine : (is_alone : Bool) (before : List Shape) (from : TableSource) → (is_alone ≡ false → Joins statement) → Says (OfSource (table_name from.table) ∷ []) → Fine (table_source tables is_alone before from)
  unfolding table_source
  table_fine is_alone before from joins says = table_by_fine is_alone before from _ joins says refl

  changes_fine : (before : List Shape) (name : ObjectName) (since : Expr) (alias : List ℕ) → Says (of_tracked name ∷ mentions since) → Fine (changes_source tables variables before name since alias)
  unfolding changes_source
  changes_fine before name since alias says =
      then_caused _ _ (explained _ (tracked_explained tables variables (of_statement statement) name (first (of_tracked name) (mentions since) says)))
      (λ _. then_caused _ _ (unique_fine before alias) (λ _. then_caused _ _ (kind_fine Number closed since (rest (of_tracked name) (mentions since) says)) (λ _. ok_caused _)))

  version_fine : (before : List Shape) (place : Place) (from : VersionSource) → Says (version_mentions from.version) → Fine (version_source tables variables before place from)
  unfolding version_source
  version_fine before place from mentioned =
      let values : List Mention = of_each (map mentions from.version.values) in
      let own : Mention = OfTuple (Some (length from.version.columns)) (length (map mentions from.version.values)) in
      let long : length (map (walk tables variables) from.version.values) ≡ length (map mentions from.version.values) = length-map from.version.values (walk tables variables) ∙ sym (length-map from.version.values mentions) in
      let says : Says (of_tracked from.version.table ∷ own ∷ values) = subst (λ it. Says it) (opened_version from.version) mentioned in
      let behind : Says (own ∷ values) = rest (of_tracked from.version.table) (own ∷ values) says in
      then_caused _ _ (explained _ (tracked_explained tables variables (of_statement statement) from.version.table (first (of_tracked from.version.table) (own ∷ values) says)))
      (λ table. then_caused _ _ (unique_fine before from.alias)
      (λ _. then_caused _ _ (explained _ (version_of_explained tables variables (of_statement statement) table.schema from.version.columns _ place (length (map mentions from.version.values)) long (first own values behind)
      (walks_explained tables variables from.version.values (of_statement statement) (subst (λ all. Says all) (each_is from.version.values) (rest own values behind))))) (λ _. ok_caused _)))

  source_fine : (is_alone : Bool) (before : List Shape) (from : Source) → (is_alone ≡ false → Joins statement) → Says (of_source from) → Fine (one_source tables variables is_alone before from)
  unfolding one_source
  source_fine is_alone before (source.Table from) joins says = table_fine is_alone before from joins says
  source_fine is_alone before (source.Changes table since alias) joins says = changes_fine before table since alias says
  source_fine is_alone before (source.Version from) joins says = version_fine before closed from says

  joined_on_fine : (first : BoundSource) (before : Shape) (kind : JoinKind) (other : Source) (on : Expr) → Joins statement → Says (of_source other ++ mentions on)
      → Fine (joined_on tables variables (sourced first before) kind other on)
  unfolding joined_on
  joined_on_fine first before kind other on joins says =
      then_caused _ _ (source_fine false _ other (λ _. joins) (left (of_source other) (mentions on) says)) (λ second. then_caused _ _ (condition_fine _ on (right (of_source other) (mentions on) says)) (λ _. ok_caused _))

  applied_fine : (first : BoundSource) (before : Shape) (other : VersionSource) → Says (version_mentions other.version) → Fine (applied tables variables (sourced first before) other)
  unfolding applied
  applied_fine first before other says = then_caused _ _ (version_fine _ _ other says) (λ _. ok_caused _)

  joined_with_fine : (first : BoundSource) (before : Shape) (join : JoinClause) → Joins statement → Says (of_join (Some join)) → Fine (joined_with tables variables (sourced first before) join)
  joined_with_fine first before (clause.On kind other on) joins says = joined_on_fine first before kind other on joins says
  joined_with_fine first before (clause.Apply other) joins says = applied_fine first before other says

  joined_by_fine : (from : Source) (join : Option JoinClause) → (IsSome join → Joins statement) → Says (of_source from ++ of_join join) → Fine (joined_by tables variables from join)
  joined_by_fine from None joins says = then_caused _ _ (source_fine true [] from (λ e. absurd cc) (left (of_source from) [] says)) (λ _. ok_caused _)
  joined_by_fine from (Some join) joins says =
      then_caused _ _ (source_fine false [] from (λ _. joins refl) (left (of_source from) (of_join (Some join)) says))
      (λ first. joined_with_fine first.source first.shape join (joins refl) (right (of_source from) (of_join (Some join)) says))

  from_fine : (from : Option FromClause) → (IsSomeAnd from (λ from. IsSome from.join) → Joins statement) → Says (of_from from) → Fine (from_of tables variables from)
  unfolding joined
  from_fine None joins says = ok_caused _
  from_fine (Some from) joins says = joined_by_fine from.source from.join joins says

  -- ---- SELECT

  columns_of_fine : (name : List ℕ) (at : ℕ) (all : List Shape) → Fine (columns_of name at all)
  unfolding columns_of
  columns_of_fine name at [] = err_caused (NoColumn name) tt
  columns_of_fine name at (one ∷ more) = cond_caused (same one.name name) _ _ (ok_caused _) (columns_of_fine name (at + length one.columns) more)

  any_fine : (it : Typed) → Fine (any_value it)
  any_fine it = explained _ (any_value_explained tables variables (of_statement statement) it)

  one_item_fine : (all : List Shape) (value : Expr) (alias : Option (List ℕ)) → Says (mentions value) → Fine (one_item tables variables all value alias)
  unfolding one_item
  one_item_fine all value alias says = then_caused _ _ (walk_fine value _ says) (λ it. then_caused _ _ (any_fine it) (λ _. ok_caused _))

  item_fine : (all : List Shape) (it : SelectItem) → Says (of_item it) → Fine (bound_item tables variables all it)
  unfolding bound_item
  item_fine all wanted.All says = then_caused _ _ (demand_caused (not (is_empty all)) TypeClash (λ _. tt)) (λ _. ok_caused _)
  item_fine all (wanted.AllOf name) says = columns_of_fine name 0 all
  item_fine all (wanted.One value alias) says = one_item_fine all value alias says

  items_fine : (all : List Shape) (items : List SelectItem) → Says (flat_map of_item items) → Fine (items_of tables variables all items)
  unfolding items_of
  items_fine all [] says = ok_caused []
  items_fine all (it ∷ more) says =
      then_caused _ _ (item_fine all it (left (of_item it) (flat_map of_item more) says)) (λ _. then_caused _ _ (items_fine all more (right (of_item it) (flat_map of_item more) says)) (λ _. ok_caused _))

  order_fine : (place : Place) (it : OrderItem) → Says (mentions it.value) → Fine (order_by tables variables place it)
  unfolding order_by
  order_fine place it says = then_caused _ _ (walk_fine it.value place says) (λ bound. then_caused _ _ (any_fine bound) (λ _. ok_caused _))

  orders_fine : (place : Place) (all : List OrderItem) → Says (flat_map (λ it. mentions it.value) all) → AllByRecursion (λ it. Fine (order_by tables variables place it)) all
  orders_fine place [] says = tt
  orders_fine place (it ∷ more) says =
      (order_fine place it (left (mentions it.value) (flat_map (λ it. mentions it.value) more) says), orders_fine place more (right (mentions it.value) (flat_map (λ it. mentions it.value) more) says))

  parts_fine : (all : List Shape) (it : Select) → Says (flat_map of_item it.items ++ (of_optional it.condition ++ flat_map (λ one. mentions one.value) it.order))
      → Fine (parts_of tables variables all it)
  unfolding parts_of
  parts_fine all it says =
      let values : List Mention = flat_map (λ (one : OrderItem). mentions one.value) it.order in
      let behind : Says (of_optional it.condition ++ values) = right (flat_map of_item it.items) (of_optional it.condition ++ values) says in
      then_caused _ _ (items_fine all it.items (left (flat_map of_item it.items) (of_optional it.condition ++ values) says))
      (λ items. then_caused _ _ (filter_fine _ it.condition (left (of_optional it.condition) values behind))
      (λ _. then_caused _ _ (each_caused (order_by tables variables (order_place all items)) it.order (orders_fine _ it.order (right (of_optional it.condition) values behind))) (λ _. ok_caused _)))

  pub select_fine : (it : Select) → (IsSomeAnd it.from (λ from. IsSome from.join) → Joins statement) → Says (of_select it) → Fine (select tables variables it)
  unfolding select
  select_fine it joins says =
      let behind : List Mention = flat_map of_item it.items ++ (of_optional it.condition ++ flat_map (λ (one : OrderItem). mentions one.value) it.order) in
      then_caused _ _ (from_fine it.from joins (left (of_from it.from) behind says)) (λ from. then_caused _ _ (parts_fine from.shapes it (right (of_from it.from) behind says)) (λ _. ok_caused _))

  -- ---- writes

  pub context_fine : (context : Option Expr) → Says (of_optional context) → Fine (optional (context_of tables variables) context)
  unfolding context_of
  context_fine context says = optional_fine (context_of tables variables) context says (kind_fine Bytes closed)

  target_fine : (table : Schema) (name : List ℕ) → Fine (table_target table name)
  unfolding table_target
  target_fine table name = or_caused _ (NoColumn name) (λ _. tt)

  listed_fine : (table : Schema) (before : List (List ℕ)) (name : List ℕ) → Fine (listed_target table before name)
  unfolding listed_target
  listed_fine table before name =
      then_caused _ _ (target_fine table name) (λ column. then_caused _ _ (demand_caused (not (is_among name before)) (Ambiguous name) (λ _. tt)) (λ _. ok_caused column))

  row_fine : (kinds : List Kind) (columns : Option ℕ) (values : List Expr) → IsWanted tables statement columns (length kinds) → Says (of_tuple columns values)
      → Fine (tuple closed kinds (map (walk tables variables) values))
  unfolding tuple
  row_fine kinds columns values wanted says =
      let own : Mention = OfTuple columns (length values) in
      let long : length (map (walk tables variables) values) ≡ length values = length-map values (walk tables variables) in
      met_caused (length (map (walk tables variables) values) == length kinds) (CountClash (length kinds) (length (map (walk tables variables) values))) _
      (λ e. (differ (length (map (walk tables variables) values)) (length kinds) e, (columns, rw long (first own (of_values values) says), wanted)))
      (λ _. explained _ (values_explained tables variables (of_statement statement) closed kinds (map (walk tables variables) values)
      (walks_explained tables variables values (of_statement statement) (rest own (of_values values) says))))

  rows_fine : (kinds : List Kind) (columns : Option ℕ) (tuples : List (List Expr)) → IsWanted tables statement columns (length kinds) → Says (flat_map (of_tuple columns) tuples)
      → AllByRecursion (λ values. Fine (tuple closed kinds (map (walk tables variables) values))) tuples
  rows_fine kinds columns [] wanted says = tt
  rows_fine kinds columns (values ∷ more) wanted says = (
    row_fine kinds columns values wanted (left (of_tuple columns values) (flat_map (of_tuple columns) more) says),
    rows_fine kinds columns more wanted (right (of_tuple columns values) (flat_map (of_tuple columns) more) says),
  )

  -- the columns are there: what is left are the tuples
  tuples_fine : (ids : List ℕ) (kinds : List Kind) (columns : Option ℕ) (tuples : List (List Expr)) → (1000 < length tuples → InsertsMoreThan statement 1000)
      → IsWanted tables statement columns (length kinds) → Says (flat_map (of_tuple columns) tuples)
      → Fine (demand (nat_le (length tuples) 1000) (TooMany 1000) >> (each (λ values. tuple closed kinds (map (walk tables variables) values)) tuples >>= (λ rows. Ok (Insert ids rows))))
  tuples_fine ids kinds columns tuples many wanted says =
      met_caused (nat_le (length tuples) 1000) (TooMany 1000) _ (λ over. inl (refl, many (leb-false (length tuples) 1000 over)))
      (λ _. then_caused _ _ (each_caused (λ values. tuple closed kinds (map (walk tables variables) values)) tuples (rows_fine kinds columns tuples wanted says)) (λ _. ok_caused _))

  -- without a list a tuple is to have a value for each column of the table
  pub insert_change_fine : (table : Schema) (columns : Option (List (List ℕ))) (tuples : List (List Expr)) → (1000 < length tuples → InsertsMoreThan statement 1000)
      → InsertsInto tables statement (length table.columns) → Says (flat_map (of_tuple (option_map length columns)) tuples) → Fine (insert_change tables variables table columns tuples)
  unfolding insert_change insert_targets tuple_of
  insert_change_fine table None tuples many into says =
      tuples_fine _ (map (λ column. column.kind) (targets_from 1 table.columns)) None tuples many (subst (λ n. InsertsInto tables statement n) (sym (targets_length 1 table.columns)) into) says
  insert_change_fine table (Some names) tuples many into says =
      after_caused (each_after (listed_target table) [] names) _
      (each_after_caused (listed_target table) [] names (all_everywhere (λ name. (before : List (List ℕ)) → Fine (listed_target table before name)) (λ name before. listed_fine table before name) names))
      (λ targets made. tuples_fine _ (map (λ column. column.kind) targets) (Some (length names)) tuples many
      (length-map targets (λ column. column.kind) ∙ each_after_length (listed_target table) [] names targets made) says)

  pub updated_fine : (table : ObjectName) (from : Option TableSource)
      → ((name : List ℕ) → IsSomeAnd from (λ source. (name ≡ table_name source.table) × IsFalse (same name (table_name table))) → UpdatesFromAnother statement name)
      → Fine (updated_name table from)
  unfolding updated_name
  updated_fine table None another = ok_caused _
  updated_fine table (Some from) another =
      met_caused (same (table_name from.table) (table_name table)) (NoObject (table_name from.table)) _
      (λ other. inr (inr (another (table_name from.table) (refl, other)))) (λ _. ok_caused (source_name from))

  set_target_fine : (table : Schema) (before : List SetColumn) (name : List ℕ) → (HasKeyColumn table name → SetsKey tables statement name) → Fine (set_target table before name)
  unfolding set_target table_target
  set_target_fine table before name sets_key =
      found_caused (target_from name 1 table.columns) (NoColumn name) _ (λ _. tt)
      (λ column found. met_caused (not (is_set name before)) (Ambiguous name) _ (λ _. tt)
      (λ _. met_caused (not (is_key table column.column)) (KeyUpdate name) _
      (λ of_key. sets_key (rw found (not-false _ of_key))) (λ _. ok_caused column)))

  set_fine : (table : Schema) (place : Place) (it : SetColumn) (before : List SetColumn) → (HasKeyColumn table it.column → SetsKey tables statement it.column) → Says (mentions it.value)
      → Fine (set_of tables variables table place before it)
  unfolding set_of
  set_fine table place it before sets_key says =
      then_caused _ _ (set_target_fine table before it.column sets_key) (λ target. then_caused _ _ (kind_fine target.kind place it.value says) (λ _. ok_caused _))

  -- each SET is one of the list
  sets_fine : (table : Schema) (place : Place) (all : List SetColumn) → ((name : List ℕ) → Contains (map (λ set. set.column) all) name → HasKeyColumn table name → SetsKey tables statement name)
      → Says (flat_map (λ it. mentions it.value) all) → AllByRecursion (λ it. (before : List SetColumn) → Fine (set_of tables variables table place before it)) all
  sets_fine table place [] sets_key says = tt
  sets_fine table place (it ∷ more) sets_key says =
      let values : List Mention = flat_map (λ (one : SetColumn). mentions one.value) more in (
        (λ before. set_fine table place it before (sets_key it.column (0, omega arith, refl)) (left (mentions it.value) values says)),
        sets_fine table place more (λ name is. sets_key name (Contains-append_right (it.column ∷ []) (map (λ (one : SetColumn). one.column) more) name is)) (right (mentions it.value) values says),
      )

  pub update_change_fine : (table : Schema) (place : Place) (sets : List SetColumn) (filter : Option Expr)
      → ((name : List ℕ) → Contains (map (λ set. set.column) sets) name → HasKeyColumn table name → SetsKey tables statement name) → Says (flat_map (λ it. mentions it.value) sets ++ of_optional filter)
      → Fine (update_change tables variables table place sets filter)
  unfolding update_change
  update_change_fine table place sets filter sets_key says =
      let values : List Mention = flat_map (λ (one : SetColumn). mentions one.value) sets in
      then_caused _ _ (each_after_caused (set_of tables variables table place) [] sets (sets_fine table place sets sets_key (left values (of_optional filter) says)))
      (λ _. then_caused _ _ (filter_fine place filter (right values (of_optional filter) says)) (λ _. ok_caused _))

  pub delete_change_fine : (place : Place) (filter : Option Expr) → Says (of_optional filter) → Fine (delete_change tables variables place filter)
  unfolding delete_change
  delete_change_fine place filter says = then_caused _ _ (filter_fine place filter says) (λ _. ok_caused _)
