-- What is bound has none of the causes that stand in its statement alone: the settings, the definitions, the limits and the key.
use Rattle.std.proofs.Common.{◌≡◌, ◌<◌, ◌≤◌, ℕ, ◌+◌, nat_le, nat_lt, Bool, true, false, not, ◌==◌, ◌⊎◌, List, [], ◌∷◌, ◌++◌, length, map, Option, Some, None, IsSome, IsNone, IsTrue, IsFalse, is_some, inl, inr, refl, subst, leb-true, ltb-true, eqb-true, arith}
use Rattle.std.specs.List.{AllByRecursion, position_from}
use Rattle.std.specs.Option.{IsSomeAnd}
use Rattle.std.proofs.lemmas.Bool.{both_ways, not-true}
use Rattle.std.proofs.lemmas.List.Elements.{All-from_recursion, All-contains}
use Rattle.ct_types.specs.declared.catalogue.Catalogued.{Catalogued}
use Rattle.ct_types.specs.declared.catalogue.Variable.{Variable}
use Rattle.ct_types.specs.declared.entry.Keep.{Keep}
use Rattle.ct_types.specs.declared.expr.Expr.{Expr}
use Rattle.ct_types.specs.declared.expr.ObjectName.{ObjectName}
use Rattle.ct_types.specs.declared.refusal.Refusal.TheVariants.{NoColumn, NoObject, AlreadyTracked, Ambiguous, BadRetention, Exists, KeyUpdate, TablesTracked, TooMany, TrackingOff, VariableExists}
use Rattle.ct_types.specs.declared.schema.Schema.{Schema}
use Rattle.ct_types.specs.declared.stmt.ColumnDef.{ColumnDef}
use Rattle.ct_types.specs.declared.stmt.DatabaseOption.TheVariants as option
use Rattle.ct_types.specs.declared.stmt.Retention.{Retention}
use Rattle.ct_types.specs.declared.stmt.SetColumn.{SetColumn}
use Rattle.ct_types.specs.declared.stmt.Stmt.{Stmt}
use Rattle.ct_types.specs.declared.stmt.Stmt.TheVariants as stmt
use Rattle.ct_types.specs.declared.stmt.TableSource.{TableSource}
use Rattle.ct_types.specs.declared.stmt.TrackingOptions.{TrackingOptions}
use Rattle.ct_types.specs.declared.stmt.TypeName.{TypeName}
use Rattle.ct_types.specs.declared.stmt.WriteStmt.TheVariants as write
use Rattle.ct_types.specs.Answers.{optional, each_after}
use Rattle.ct_bind_names.specs.Catalogue.{table_named, existing_table, is_declared}
use Rattle.ct_bind_names.specs.Names.{same, table_name}
use Rattle.ct_bind_names.specs.Numbers.{within, column_type, retention_of}
use Rattle.ct_bind_definition.specs.Definitions.{create, enable, retention_or, settings, switch_on, switch_off, change, defaults, tracked_count, alter_database}
use Rattle.ct_bind_expr.specs.declared.place.Place.{Place}
use Rattle.ct_bind.specs.Writes as writes
use Rattle.ct_bind.specs.Writes.{target_from, is_key, is_set, table_target, set_target, set_of, updated_name, context_of, insert_targets, insert_change, update_change, write_of}
use Rattle.ct_bind.specs.Binding.{kind_of_name, value_of, declare, binding_by}
use Rattle.ct_bind_refusal_laws.specs.Causes.{HasTable, HasTracked, HasVariable, UpdatesFromAnother, Creates, IsAlreadyTracked, LeavesTablesTracked, NeedsTracking, IsBadRetention, WritesBadRetention, Declares, BreaksRule, IsTooMany, HasKeyColumn, SetsKey, has_length, rules}
use Rattle.ct_bind_refusal_laws.proofs.Rules.{length_kept, schema_kept}
use Rattle.ct_bind_refusal_laws.proofs.Passed.{Passed, anyway, refused, also, first_passed, next_passed, both_passed, met_passed, or_passed, found_passed}

-- ---- the settings

retention_passed : (old : ℕ) (written : Option Retention) → Passed (IsBadRetention written → ⊥) (retention_or old written)
unfolding retention_of
retention_passed old None = anyway _ (λ never. never)
retention_passed old (Some retention) = first_passed _ _ (also _ (λ some none. both_ways _ none some) (or_passed (within 1 2147483647 retention.amount) BadRetention))

settings_passed : (old : Keep) (options : TrackingOptions) → Passed (IsBadRetention options.retention → ⊥) (settings old options)
unfolding settings
settings_passed old options = first_passed _ _ (retention_passed old.retention options.retention)

on_passed : (keep : Option Keep) (options : TrackingOptions) → Passed (IsNone keep × (IsBadRetention options.retention → ⊥)) (switch_on keep options)
on_passed (Some keep) options = refused _
on_passed None options = also _ (λ fine. (refl, fine)) (first_passed _ _ (settings_passed defaults options))

change_passed : (keep : Option Keep) (options : TrackingOptions) → Passed (IsSome keep × (IsBadRetention options.retention → ⊥)) (change keep options)
change_passed None options = refused _
change_passed (Some keep) options = also _ (λ fine. (refl, fine)) (first_passed _ _ (settings_passed keep options))

off_passed : (tables : List Catalogued) (keep : Option Keep) → Passed (IsSome keep × (tracked_count tables ≡ 0)) (switch_off tables keep)
off_passed tables None = refused _
off_passed tables (Some keep) = met_passed (tracked_count tables == 0) (TablesTracked (tracked_count tables)) _ (λ none. anyway _ (refl, eqb-true (tracked_count tables) 0 none))

-- ---- definitions and declarations

create_passed : (tables : List Catalogued) (name : ObjectName) (columns : List ColumnDef) (key : Option (List (List ℕ)))
    → Passed ((length columns ≤ 64) × (length tables < 256) × (not (is_some (table_named tables (table_name name))) ≡ true) × (position_from not 1 (rules (table_name name) columns key) ≡ None)) (create tables name columns key)
unfolding create
create_passed tables name columns key =
    met_passed (nat_le (length columns) 64) (TooMany 64) _
    (λ few. met_passed (nat_lt (length tables) 256) (TooMany 256) _
    (λ room. met_passed (not (is_some (table_named tables (table_name name)))) (Exists (table_name name)) _
    (λ free. also _ (λ kept. (leb-true (length columns) 64 few, ltb-true (length tables) 256 room, free, kept)) (first_passed _ _ (schema_kept (table_name name) columns key (length tables + 1))))))

declare_passed : (tables : List Catalogued) (variables : List Variable) (name : List ℕ) (type : TypeName) (value : Option Expr)
    → Passed ((not (is_declared variables name) ≡ true) × (has_length type ≡ true)) (declare tables variables name type value)
unfolding declare
declare_passed tables variables name type value =
    met_passed (not (is_declared variables name)) (VariableExists name) _
    (λ free. next_passed (optional (value_of tables variables (kind_of_name type)) value) _ (λ _ _. next_passed (column_type type) _ (λ made is. anyway _ (free, length_kept type made is))))

-- ENABLE: the table is there and not tracked, and tracking is on
enable_passed : (tables : List Catalogued) (keep : Option Keep) (name : ObjectName) (masks : Bool)
    → Passed ((HasTracked tables (table_name name) → ⊥) × IsSome keep) (enable tables keep name masks)
unfolding enable existing_table
enable_passed tables keep name masks =
    found_passed (table_named tables (table_name name)) (NoObject (table_name name)) _
    (λ table found. met_passed (not (is_some table.tracked)) (AlreadyTracked (table_name name)) _
    (λ free. met_passed (is_some keep) TrackingOff _
    (λ on. anyway _ ((λ tracked. both_ways (is_some table.tracked) (not-true (is_some table.tracked) free) (subst (λ o. IsSomeAnd o (λ (it : Catalogued). IsSome it.tracked)) found tracked)), on))))

-- ---- writes

updated_passed : (table : ObjectName) (from : Option TableSource) (name : List ℕ)
    → Passed (IsSomeAnd from (λ source. (name ≡ table_name source.table) × IsFalse (same name (table_name table))) → ⊥) (updated_name table from)
unfolding updated_name
updated_passed table None name = anyway _ (λ never. never)
updated_passed table (Some from) name =
    met_passed (same (table_name from.table) (table_name table)) (NoObject (table_name from.table)) _
    (λ is. anyway _ (λ other. both_ways _ (subst (λ it. same it (table_name table) ≡ false) other.0 other.1) is))

set_passed : (table : Schema) (before : List SetColumn) (name : List ℕ) → Passed (HasKeyColumn table name → ⊥) (set_target table before name)
unfolding set_target table_target
set_passed table before name =
    found_passed (target_from name 1 table.columns) (NoColumn name) _
    (λ column found. met_passed (not (is_set name before)) (Ambiguous name) _
    (λ _. met_passed (not (is_key table column.column)) (KeyUpdate name) _
    (λ free. anyway _ (λ of_key. both_ways (is_key table column.column) (not-true (is_key table column.column) free) (subst (λ o. IsSomeAnd o (λ it. IsTrue (is_key table it.column))) found of_key)))))

module _ (tables : List Catalogued) (variables : List Variable) where
  sets_passed : (table : Schema) (place : Place) (before all : List SetColumn)
      → Passed (AllByRecursion (λ name. HasKeyColumn table name → ⊥) (map (λ set. set.column) all)) (each_after (set_of tables variables table place) before all)
  unfolding set_of
  sets_passed table place before [] = anyway _ tt
  sets_passed table place before (it ∷ more) = both_passed _ _ (first_passed _ _ (set_passed table before it.column)) (λ _ _. first_passed _ _ (sets_passed table place (before ++ it ∷ []) more))

  update_passed : (context : Option Expr) (table : ObjectName) (sets : List SetColumn) (from : Option TableSource) (filter : Option Expr) (name : List ℕ)
      → Passed (SetsKey tables (stmt.Write context (write.Update table sets from filter)) name → ⊥) (writes.update tables variables context table sets from filter)
  unfolding writes.update existing_table update_change
  update_passed context table sets from filter name =
      found_passed (table_named tables (table_name table)) (NoObject (table_name table)) _
      (λ found is. next_passed (updated_name table from) _ (λ _ _. next_passed (optional (context_of tables variables) context) _ (λ _ _. first_passed _ _ (first_passed _ _ (also _
      (λ free sets_key. All-contains (λ it. HasKeyColumn found.schema it → ⊥) (map (λ set. set.column) sets) name (All-from_recursion (λ it. HasKeyColumn found.schema it → ⊥) (map (λ set. set.column) sets) free) sets_key.0
      (subst (λ o. IsSomeAnd o (λ (it : Catalogued). HasKeyColumn it.schema name)) is sets_key.1)) (sets_passed found.schema _ [] sets))))))

  from_passed : (context : Option Expr) (table : ObjectName) (sets : List SetColumn) (from : Option TableSource) (filter : Option Expr) (name : List ℕ)
      → Passed (UpdatesFromAnother (stmt.Write context (write.Update table sets from filter)) name → ⊥) (writes.update tables variables context table sets from filter)
  unfolding writes.update
  from_passed context table sets from filter name = next_passed (existing_table tables table) _ (λ _ _. first_passed _ _ (updated_passed table from name))

  few_passed : (context : Option Expr) (table : ObjectName) (columns : Option (List (List ℕ))) (tuples : List (List Expr)) → Passed (length tuples ≤ 1000) (writes.insert tables variables context table columns tuples)
  unfolding writes.insert insert_change
  few_passed context table columns tuples =
      next_passed (existing_table tables table) _ (λ found _. next_passed (optional (context_of tables variables) context) _ (λ _ _. first_passed _ _ (next_passed (insert_targets found.schema columns) _ (λ _ _. met_passed (nat_le (length tuples) 1000) (TooMany 1000) _ (λ few. anyway _ (leb-true (length tuples) 1000 few))))))

-- ---- no statement that is bound has such a cause

-- of such alternatives none can hold
neither : {A B C : Type 0} → (⊥ × A) ⊎ (B × ⊥ × C) → ⊥
neither (inl one) = one.0
neither (inr other) = other.1

none_of_three : {A B C D : Type 0} → (A × ⊥) ⊎ ((B × ⊥) ⊎ (C × ⊥ × D)) → ⊥
none_of_three (inl one) = one.1
none_of_three (inr (inl other)) = other.1
none_of_three (inr (inr last)) = last.1

module _ (tables : List Catalogued) (keep : Option Keep) (variables : List Variable) where
  -- where the statement is bound, this is no cause

  abbrev pub Lacks : Stmt → Type 0 → Type 0
  Lacks statement Cause = Passed (Cause → ⊥) (binding_by tables variables keep statement)

  pub no_other : (statement : Stmt) (name : List ℕ) → Lacks statement (UpdatesFromAnother statement name)
  unfolding write_of
  no_other (stmt.Write context (write.Update table sets from filter)) name = first_passed _ _ (from_passed tables variables context table sets from filter name)
  no_other _ name = anyway _ (λ never. never)

  pub no_double : (statement : Stmt) (name : List ℕ) → Lacks statement (Creates statement name × HasTable tables name)
  no_double (stmt.CreateTable table columns key) name =
      also _ (λ made cause. both_ways _ (not-true _ made.2) (subst (λ it. HasTable tables it) cause.0 cause.1)) (create_passed tables table columns key)
  no_double _ name = anyway _ (λ cause. cause.0)

  enabled : (table : ObjectName) (masks : Bool) (name : List ℕ) → (HasTracked tables (table_name table) → ⊥) → IsAlreadyTracked tables keep (stmt.EnableTracking table masks) name → ⊥
  enabled table masks name free (inl cause) = free (subst (λ it. HasTracked tables it) cause.0 cause.1)
  enabled table masks name free (inr cause) = cause.1

  switched : (database : List ℕ) (options : TrackingOptions) (name : List ℕ) → IsNone keep → IsAlreadyTracked tables keep (stmt.AlterDatabase database (option.TrackingOn options)) name → ⊥
  switched database options name off (inl cause) = cause.0
  switched database options name off (inr cause) = both_ways _ off cause.2

  pub no_tracked : (statement : Stmt) (name : List ℕ) → Lacks statement (IsAlreadyTracked tables keep statement name)
  unfolding alter_database
  no_tracked (stmt.EnableTracking table masks) name = also _ (λ made. enabled table masks name made.0) (enable_passed tables keep table masks)
  no_tracked (stmt.AlterDatabase database (option.TrackingOn options)) name = also _ (λ made. switched database options name made.0) (on_passed keep options)
  no_tracked _ name = anyway _ (λ cause. neither cause)

  pub none_off : (statement : Stmt) → Lacks statement (NeedsTracking statement × IsNone keep)
  unfolding alter_database
  none_off (stmt.EnableTracking table masks) = also _ (λ made cause. both_ways _ cause.1 made.1) (enable_passed tables keep table masks)
  none_off (stmt.AlterDatabase database option.TrackingOff) = also _ (λ made cause. both_ways _ cause.1 made.0) (off_passed tables keep)
  none_off (stmt.AlterDatabase database (option.Tracking options)) = also _ (λ made cause. both_ways _ cause.1 made.0) (change_passed keep options)
  none_off _ = anyway _ (λ cause. cause.0)

  none_left : (count tracked : ℕ) → tracked ≡ 0 → count ≡ tracked → 0 < count → ⊥
  none_left count tracked none same some = absurd (omega arith)

  pub no_left : (statement : Stmt) (count : ℕ) → Lacks statement (LeavesTablesTracked tables keep statement count)
  unfolding alter_database
  no_left (stmt.AlterDatabase database option.TrackingOff) count = also _ (λ made cause. none_left count (tracked_count tables) made.1 cause.2 cause.3) (off_passed tables keep)
  no_left _ count = anyway _ (λ cause. cause.0)

  pub no_retention : (statement : Stmt) → Lacks statement (WritesBadRetention statement)
  unfolding alter_database
  no_retention (stmt.AlterDatabase database (option.TrackingOn options)) = also _ (λ made. made.1) (on_passed keep options)
  no_retention (stmt.AlterDatabase database (option.Tracking options)) = also _ (λ made. made.1) (change_passed keep options)
  no_retention _ = anyway _ (λ never. never)

  pub no_rule : (statement : Stmt) (rule : ℕ) → Lacks statement (BreaksRule statement rule)
  no_rule (stmt.CreateTable table columns key) rule = also _ (λ made cause. let kept : position_from not 1 (rules (table_name table) columns key) ≡ None = made.3 in absurd cc) (create_passed tables table columns key)
  no_rule (stmt.Declare variable type value) rule = also _ (λ made cause. both_ways _ cause.1 made.1) (declare_passed tables variables variable type value)
  no_rule _ rule = anyway _ (λ never. never)

  pub no_declared : (statement : Stmt) (name : List ℕ) → Lacks statement (Declares statement name × HasVariable variables name)
  no_declared (stmt.Declare variable type value) name =
      also _ (λ made cause. both_ways _ (not-true _ made.0) (subst (λ it. HasVariable variables it) cause.0 cause.1)) (declare_passed tables variables variable type value)
  no_declared _ name = anyway _ (λ cause. cause.0)

  pub no_key : (statement : Stmt) (name : List ℕ) → Lacks statement (SetsKey tables statement name)
  unfolding write_of
  no_key (stmt.Write context (write.Update table sets from filter)) name = first_passed _ _ (update_passed tables variables context table sets from filter name)
  no_key _ name = anyway _ (λ never. never)

  few : (context : Option Expr) (table : ObjectName) (columns : Option (List (List ℕ))) (tuples : List (List Expr)) (limit : ℕ) → length tuples ≤ 1000
      → IsTooMany tables (stmt.Write context (write.Insert table columns tuples)) limit → ⊥
  few context table columns tuples limit small (inl cause) = let same : limit ≡ 1000 = cause.0 in let more : limit < length tuples = cause.1 in absurd (omega arith)
  few context table columns tuples limit small (inr (inl cause)) = cause.1
  few context table columns tuples limit small (inr (inr cause)) = cause.1

  room : (table : ObjectName) (columns : List ColumnDef) (key : Option (List (List ℕ))) (limit : ℕ) → length columns ≤ 64 → length tables < 256 → IsTooMany tables (stmt.CreateTable table columns key) limit → ⊥
  room table columns key limit small free (inl cause) = cause.1
  room table columns key limit small free (inr (inl cause)) = let same : limit ≡ 64 = cause.0 in let more : limit < length columns = cause.1 in absurd (omega arith)
  room table columns key limit small free (inr (inr cause)) = let same : limit ≡ 256 = cause.0 in let more : limit ≤ length tables = cause.2 in absurd (omega arith)

  pub no_more : (statement : Stmt) (limit : ℕ) → Lacks statement (IsTooMany tables statement limit)
  unfolding write_of
  no_more (stmt.Write context (write.Insert table columns tuples)) limit = also _ (λ small. few context table columns tuples limit small) (first_passed _ _ (few_passed tables variables context table columns tuples))
  no_more (stmt.CreateTable table columns key) limit = also _ (λ made. room table columns key limit made.0 made.1) (create_passed tables table columns key)
  no_more _ limit = anyway _ (λ cause. none_of_three cause)
