-- What the definitions of tables, and what switches tracking, refuse: each refusal has its cause.
use Rattle.std.proofs.Common.{◌≡◌, ◌<◌, ℕ, ◌+◌, zero, suc, nat_le, nat_lt, Bool, false, not, ◌==◌, length, codes, List, [], ◌∷◌, Option, Some, None, IsSome, is_some, inl, inr, refl, sym, ap, subst, leb-false, ltb-false, arith}
use Rattle.std.specs.Option.{IsSomeAnd}
use Rattle.std.proofs.lemmas.Bool.{not-false}
use Rattle.ct_types.specs.declared.bound.Bound.TheVariants.{CreateTable, EnableTracking}
use Rattle.ct_types.specs.declared.catalogue.Catalogued.{Catalogued}
use Rattle.ct_types.specs.declared.catalogue.Variable.{Variable}
use Rattle.ct_types.specs.declared.entry.Keep.{Keep}
use Rattle.ct_types.specs.declared.expr.ObjectName.{ObjectName}
use Rattle.ct_types.specs.declared.refusal.Refusal.{Refusal}
use Rattle.ct_types.specs.declared.refusal.Refusal.TheVariants.{BadTable, TablesTracked, TooMany, Exists, AlreadyTracked, TrackingOff, BadRetention, NoObject}
use Rattle.ct_types.specs.declared.stmt.ColumnDef.{ColumnDef}
use Rattle.ct_types.specs.declared.stmt.DatabaseOption.{DatabaseOption}
use Rattle.ct_types.specs.declared.stmt.DatabaseOption.TheVariants as option
use Rattle.ct_types.specs.declared.stmt.Retention.{Retention}
use Rattle.ct_types.specs.declared.stmt.Stmt.{Stmt}
use Rattle.ct_types.specs.declared.stmt.Stmt.TheVariants as stmt
use Rattle.ct_types.specs.declared.stmt.TrackingOptions.{TrackingOptions}
use Rattle.ct_bind_names.specs.Names.{table_name}
use Rattle.ct_bind_names.specs.Numbers.{retention_of}
use Rattle.ct_bind_names.specs.Catalogue.{table_named, existing_table}
use Rattle.ct_bind_definition.specs.Definitions.{schema_of, create, enable, disable, retention_or, settings, switch_on, switch_off, change, tracked_count, alter_database}
use Rattle.ct_bind_refusal_laws.specs.Mentions.{of_table, of_tracked}
use Rattle.ct_bind_refusal_laws.specs.Causes.{IsBadRetention, rules, HasCause}
use Rattle.ct_bind_refusal_laws.proofs.Among.{itself, first}
use Rattle.ct_types.proofs.AnswersCaused.{Caused, ok_caused, err_caused, weaker, then_caused, met_caused, or_caused, found_caused}
use Rattle.ct_bind_refusal_laws.proofs.Expressions.{tracked_explained, widened}
use Rattle.ct_bind_refusal_laws.proofs.Rules.{BreaksFirst, schema_caused}

-- the number of a retention that is written is out of its range
abbrev IsBad : Option Retention → Refusal → Type 0
IsBad written refusal = (refusal ≡ BadRetention) × IsBadRetention written

retention_caused : (old : ℕ) (written : Option Retention) → Caused (IsBad written) (retention_or old written)
unfolding retention_of
retention_caused old None = ok_caused old
retention_caused old (Some retention) = then_caused _ _ (or_caused _ BadRetention (λ none. (refl, ap (λ o. is_some o) none))) (λ n. ok_caused _)

settings_caused : (old : Keep) (options : TrackingOptions) → Caused (IsBad options.retention) (settings old options)
unfolding settings
settings_caused old options = then_caused _ _ (retention_caused old.retention options.retention) (λ _. ok_caused _)

-- some are tracked where their count is not 0
some_tracked : (count : ℕ) → (count == 0) ≡ false → 0 < count
some_tracked zero e = absurd cc
some_tracked (suc count) e = omega arith

module _ (tables : List Catalogued) (variables : List Variable) where
  of_rules : (keep : Option Keep) (name : ObjectName) (columns : List ColumnDef) (key : Option (List (List ℕ))) (refusal : Refusal)
      → BreaksFirst (rules (table_name name) columns key) refusal → HasCause tables keep variables (stmt.CreateTable name columns key) refusal
  of_rules keep name columns key (BadTable rule) breaks = breaks
  of_rules keep name columns key _ breaks = absurd breaks

  pub create_caused : (keep : Option Keep) (name : ObjectName) (columns : List ColumnDef) (key : Option (List (List ℕ)))
      → Caused (HasCause tables keep variables (stmt.CreateTable name columns key)) (create tables name columns key)
  unfolding create
  create_caused keep name columns key =
      met_caused (nat_le (length columns) 64) (TooMany 64) _ (λ many. inr (inl (refl, leb-false (length columns) 64 many)))
      (λ _. met_caused (nat_lt (length tables) 256) (TooMany 256) _ (λ full. inr (inr (refl, tt, ltb-false (length tables) 256 full)))
      (λ _. met_caused (not (is_some (table_named tables (table_name name)))) (Exists (table_name name)) _ (λ there. (refl, not-false _ there))
      (λ _. then_caused _ _ (weaker (schema_of (length tables + 1) (table_name name) columns key) (of_rules keep name columns key) (schema_caused (table_name name) columns key (length tables + 1)))
      (λ schema. ok_caused (CreateTable schema)))))

  pub enable_caused : (keep : Option Keep) (name : ObjectName) (masks : Bool) → Caused (HasCause tables keep variables (stmt.EnableTracking name masks)) (enable tables keep name masks)
  unfolding enable existing_table
  enable_caused keep name masks =
      found_caused (table_named tables (table_name name)) (NoObject (table_name name)) _ (λ none. inl (inl (first (of_table name) [] (itself (of_table name ∷ []))), ap (λ o. is_some o) none))
      (λ table found. met_caused (not (is_some table.tracked)) (AlreadyTracked (table_name name)) _
      (λ tracked. inl (refl, subst (λ o. IsSomeAnd o (λ (it : Catalogued). IsSome it.tracked)) (sym found) (not-false _ tracked)))
      (λ _. met_caused (is_some keep) TrackingOff _ (λ off. (tt, off)) (λ _. ok_caused (EnableTracking table.schema.id masks))))

  pub disable_caused : (keep : Option Keep) (name : ObjectName) → Caused (HasCause tables keep variables (stmt.DisableTracking name)) (disable tables name)
  unfolding disable
  disable_caused keep name =
      then_caused _ _ (weaker _ (widened tables keep variables (stmt.DisableTracking name)) (tracked_explained tables variables (of_tracked name ∷ []) name (first (of_tracked name) [] (itself (of_tracked name ∷ []))))) (λ table. ok_caused _)

  of_settings : (keep : Option Keep) (statement : Stmt) (written : Option Retention) (refusal : Refusal)
      → (IsBadRetention written → HasCause tables keep variables statement BadRetention)
      → IsBad written refusal → HasCause tables keep variables statement refusal
  of_settings keep statement written refusal cause bad = subst (λ it. HasCause tables keep variables statement it) (sym bad.0) (cause bad.1)

  switch_on_caused : (database : List ℕ) (keep : Option Keep) (options : TrackingOptions)
      → Caused (HasCause tables keep variables (stmt.AlterDatabase database (option.TrackingOn options))) (switch_on keep options)
  switch_on_caused database (Some keep) options = err_caused (AlreadyTracked (codes "database")) (inr (refl, tt, refl))
  switch_on_caused database None options =
      then_caused _ _ (weaker _ (λ refusal bad. of_settings None (stmt.AlterDatabase database (option.TrackingOn options)) options.retention refusal (λ is. is) bad) (settings_caused _ options)) (λ _. ok_caused _)

  switch_off_caused : (database : List ℕ) (keep : Option Keep) → Caused (HasCause tables keep variables (stmt.AlterDatabase database option.TrackingOff)) (switch_off tables keep)
  switch_off_caused database None = err_caused TrackingOff (tt, refl)
  switch_off_caused database (Some keep) =
      met_caused (tracked_count tables == 0) (TablesTracked (tracked_count tables)) _ (λ some. (tt, refl, refl, some_tracked (tracked_count tables) some)) (λ _. ok_caused _)

  change_caused : (database : List ℕ) (keep : Option Keep) (options : TrackingOptions)
      → Caused (HasCause tables keep variables (stmt.AlterDatabase database (option.Tracking options))) (change keep options)
  change_caused database None options = err_caused TrackingOff (tt, refl)
  change_caused database (Some keep) options =
      then_caused _ _ (weaker _ (λ refusal bad. of_settings (Some keep) (stmt.AlterDatabase database (option.Tracking options)) options.retention refusal (λ is. is) bad) (settings_caused keep options)) (λ _. ok_caused _)

  pub database_caused : (database : List ℕ) (keep : Option Keep) (it : DatabaseOption) → Caused (HasCause tables keep variables (stmt.AlterDatabase database it)) (alter_database tables keep it)
  unfolding alter_database
  database_caused database keep (option.TrackingOn options) = switch_on_caused database keep options
  database_caused database keep option.TrackingOff = switch_off_caused database keep
  database_caused database keep (option.Tracking options) = change_caused database keep options
  database_caused database keep option.AllowSnapshotIsolation = ok_caused _
  database_caused database keep option.ReadCommittedSnapshot = ok_caused _
