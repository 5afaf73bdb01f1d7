-- What is bound has the cause of no refusal: what it mentions is met, and the other causes are false of it.
use Rattle.std.proofs.Common.{◌≡◌, ℕ, Bool, true, not, List, [], ◌∷◌, ◌++◌, length, flat_map, find, Option, Some, None, ◌⊎◌, IsSome, IsNone, is_some, inl, inr, refl, sym, ap, subst}
use Rattle.std.specs.Str.{bytes_eq}
use Rattle.std.specs.Option.{option_map, IsSomeAnd}
use Rattle.ct_types.proofs.Lists.{all_append}
use Rattle.std.proofs.lemmas.Bool.{both_ways}
use Rattle.std.proofs.lemmas.List.Elements.{All-from_recursion, All-contains}
use Rattle.std.proofs.lemmas.Slice.Eq.{bytes_eq-Decides}
use Rattle.ct_types.specs.declared.catalogue.Catalogued.{Catalogued}
use Rattle.ct_types.specs.declared.catalogue.Variable.{Variable}
use Rattle.ct_types.specs.declared.entry.Keep.{Keep}
use Rattle.ct_types.specs.declared.expr.Expr.{Expr}
use Rattle.ct_types.specs.declared.expr.ObjectName.{ObjectName}
use Rattle.ct_types.specs.declared.refusal.Refusal.{Refusal}
use Rattle.ct_types.specs.declared.refusal.Refusal.TheVariants.{NoColumn, NoObject, Exists, Overflow, NotTracked, AlreadyTracked, TrackingOff, TypeClash, BadRetention, TablesTracked, BadTable, Ambiguous, NoVariable, VariableExists, KeyUpdate, CountClash, TooMany}
use Rattle.ct_types.specs.declared.stmt.SetColumn.{SetColumn}
use Rattle.ct_types.specs.declared.stmt.Stmt.{Stmt}
use Rattle.ct_types.specs.declared.stmt.Stmt.TheVariants as stmt
use Rattle.ct_types.specs.declared.stmt.TableSource.{TableSource}
use Rattle.ct_types.specs.declared.stmt.TypeName.{TypeName}
use Rattle.ct_types.specs.declared.stmt.WriteStmt.{WriteStmt}
use Rattle.ct_types.specs.declared.stmt.WriteStmt.TheVariants as write
use Rattle.ct_model.specs.Names.{folded}
use Rattle.ct_bind_names.specs.Catalogue.{table_named, existing_table, is_declared}
use Rattle.ct_bind_names.specs.Names.{same, table_name}
use Rattle.ct_bind_definition.specs.Definitions.{enable, disable}
use Rattle.ct_bind.specs.Writes as writes
use Rattle.ct_bind.specs.Writes.{updated_name, write_of}
use Rattle.ct_bind.specs.Binding.{kind_of_name, truncate, value_of, set_variable, declare, binding, binding_by}
use Rattle.ct_bind_refusal_laws.specs.Mentions.{Mention, OfTable, OfTracked, OfSource, OfVariable, OfNumber, OfTuple, of_table, of_tracked, mentions, of_tuple, of_optional, of_updated, of_statement}
use Rattle.ct_bind_refusal_laws.specs.Causes.{Mentions, HasTable, UpdatesFromAnother, IsNoObject, HasCause, HasStatedCause}
use Rattle.ct_bind_refusal_laws.specs.Laws.{BoundHaveNoCause}
use Rattle.ct_bind_refusal_laws.proofs.Passed.{anyway, also, first_passed, both_passed, two_passed, met_passed, found_passed}
use Rattle.ct_bind_refusal_laws.proofs.Meets.{IsMet, AllMet, Meets, joined, existing_meets, tracked_meets, variable_meets}
use Rattle.ct_bind_refusal_laws.proofs.Meeting.{kind_meets, optional_meets, select_meets, context_meets, insert_change_meets, update_change_meets, delete_change_meets}
use Rattle.ct_bind_refusal_laws.proofs.Uncaused.{Lacks, no_other, no_double, no_tracked, none_off, no_left, no_retention, no_rule, no_declared, no_key, no_more}

-- a name that is the same as that of a table is the table's too
renamed : (tables : List Catalogued) (one other : List ℕ) → same one other ≡ true → HasTable tables other → HasTable tables one
unfolding same table_named
renamed tables one other is there =
    subst (λ name. is_some (find (λ (table : Catalogued). bytes_eq (folded table.schema.name) name) tables) ≡ true) (sym ((bytes_eq-Decides (folded one) (folded other)).0 is)) there

tracked_is_there : (o : Option Catalogued) → IsSomeAnd o (λ table. IsSome table.tracked) → IsSome o
tracked_is_there (Some table) tracked = refl
tracked_is_there None tracked = absurd tracked

not_both : (o : Option Catalogued) → IsSomeAnd o (λ table. IsSome table.tracked) → IsSomeAnd o (λ table. IsNone table.tracked) → ⊥
not_both (Some table) one other = both_ways (is_some table.tracked) other one
not_both None one other = absurd one

module _ (tables : List Catalogued) (keep : Option Keep) (variables : List Variable) where
  -- ---- what a statement mentions is met

  insert_meets : (context : Option Expr) (table : ObjectName) (columns : Option (List (List ℕ))) (tuples : List (List Expr))
      → Meets tables variables (stmt.Write context (write.Insert table columns tuples)) (of_statement (stmt.Write context (write.Insert table columns tuples))) (writes.insert tables variables context table columns tuples)
  unfolding writes.insert existing_table
  insert_meets context table columns tuples =
      let it : Stmt = stmt.Write context (write.Insert table columns tuples) in
      let values : List Mention = flat_map (of_tuple (option_map length columns)) tuples in
      found_passed (table_named tables (table_name table)) (NoObject (table_name table)) _
      (λ found is. also _ (λ met. all_append (IsMet tables variables it) (of_optional context) (of_table table ∷ values) met.0 (ap (λ o. is_some o) is, met.1))
      (both_passed _ _ (context_meets tables variables it context) (λ _ _. first_passed _ _ (insert_change_meets tables variables it found.schema columns tuples
      (λ wanted into. subst (λ o. IsSomeAnd o (λ (it : Catalogued). wanted ≡ length it.schema.columns)) is into)))))

  updated_meets : (statement : Stmt) (table : ObjectName) (from : Option TableSource) → HasTable tables (table_name table) → Meets tables variables statement (of_updated from) (updated_name table from)
  unfolding updated_name
  updated_meets statement table None there = anyway _ tt
  updated_meets statement table (Some from) there =
      met_passed (same (table_name from.table) (table_name table)) (NoObject (table_name from.table)) _ (λ is. anyway _ (renamed tables (table_name from.table) (table_name table) is there, tt))

  update_meets : (context : Option Expr) (table : ObjectName) (sets : List SetColumn) (from : Option TableSource) (filter : Option Expr)
      → Meets tables variables (stmt.Write context (write.Update table sets from filter)) (of_statement (stmt.Write context (write.Update table sets from filter))) (writes.update tables variables context table sets from filter)
  unfolding writes.update existing_table
  update_meets context table sets from filter =
      let it : Stmt = stmt.Write context (write.Update table sets from filter) in
      let values : List Mention = flat_map (λ (set : SetColumn). mentions set.value) sets ++ of_optional filter in
      found_passed (table_named tables (table_name table)) (NoObject (table_name table)) _
      (λ found is. let there : HasTable tables (table_name table) = ap (λ o. is_some o) is in
      also _ (λ met. all_append (IsMet tables variables it) (of_optional context) (of_table table ∷ (of_updated from ++ values)) met.1.0
      (there, all_append (IsMet tables variables it) (of_updated from) values met.0 met.1.1))
      (both_passed _ _ (updated_meets it table from there)
      (λ row _. both_passed _ _ (context_meets tables variables it context) (λ _ _. first_passed _ _ (update_change_meets tables variables it found.schema _ sets filter)))))

  delete_meets : (context : Option Expr) (table : ObjectName) (filter : Option Expr)
      → Meets tables variables (stmt.Write context (write.Delete table filter)) (of_statement (stmt.Write context (write.Delete table filter))) (writes.delete tables variables context table filter)
  unfolding writes.delete
  delete_meets context table filter =
      let it : Stmt = stmt.Write context (write.Delete table filter) in
      also _ (λ met. all_append (IsMet tables variables it) (of_optional context) (of_table table ∷ of_optional filter) met.1.0 (met.0.0, met.1.1))
      (both_passed _ _ (existing_meets tables variables it table)
      (λ found _. both_passed _ _ (context_meets tables variables it context) (λ _ _. first_passed _ _ (delete_change_meets tables variables it _ filter))))

  write_meets : (context : Option Expr) (it : WriteStmt) → Meets tables variables (stmt.Write context it) (of_statement (stmt.Write context it)) (write_of tables variables context it)
  unfolding write_of
  write_meets context (write.Insert table columns tuples) = insert_meets context table columns tuples
  write_meets context (write.Update table sets from filter) = update_meets context table sets from filter
  write_meets context (write.Delete table filter) = delete_meets context table filter

  set_variable_meets : (name : List ℕ) (value : Expr) → Meets tables variables (stmt.SetVariable name value) (OfVariable name ∷ mentions value) (set_variable tables variables name value)
  unfolding set_variable value_of
  set_variable_meets name value =
      let it : Stmt = stmt.SetVariable name value in
      joined tables variables it (OfVariable name ∷ []) (mentions value) _
      (both_passed _ _ (variable_meets tables variables it name) (λ found _. first_passed _ _ (kind_meets tables variables it _ _ value)))

  declare_meets : (name : List ℕ) (type : TypeName) (value : Option Expr) → Meets tables variables (stmt.Declare name type value) (of_optional value) (declare tables variables name type value)
  unfolding declare value_of
  declare_meets name type value =
      let it : Stmt = stmt.Declare name type value in
      met_passed (not (is_declared variables name)) (VariableExists name) _ (λ _. first_passed _ _ (optional_meets tables variables it (value_of tables variables (kind_of_name type)) value (kind_meets tables variables it _ _)))

  enable_meets : (table : ObjectName) (masks : Bool) → Meets tables variables (stmt.EnableTracking table masks) (of_table table ∷ []) (enable tables keep table masks)
  unfolding enable
  enable_meets table masks = first_passed _ _ (existing_meets tables variables (stmt.EnableTracking table masks) table)

  disable_meets : (table : ObjectName) → Meets tables variables (stmt.DisableTracking table) (of_tracked table ∷ []) (disable tables table)
  unfolding disable
  disable_meets table = first_passed _ _ (tracked_meets tables variables (stmt.DisableTracking table) table)

  truncate_meets : (table : ObjectName) → Meets tables variables (stmt.TruncateTable table) (of_table table ∷ []) (truncate tables variables table)
  unfolding truncate
  truncate_meets table = first_passed _ _ (existing_meets tables variables (stmt.TruncateTable table) table)

  all_met : (statement : Stmt) → Meets tables variables statement (of_statement statement) (binding_by tables variables keep statement)
  all_met (stmt.AlterDatabase name option) = anyway _ tt
  all_met (stmt.CreateTable table columns key) = anyway _ tt
  all_met (stmt.EnableTracking table masks) = enable_meets table masks
  all_met (stmt.DisableTracking table) = disable_meets table
  all_met (stmt.TruncateTable table) = truncate_meets table
  all_met (stmt.Write context it) = first_passed _ _ (write_meets context it)
  all_met (stmt.Select query) = first_passed _ _ (select_meets tables variables (stmt.Select query) query (λ joins. joins))
  all_met stmt.Begin = anyway _ tt
  all_met stmt.Commit = anyway _ tt
  all_met stmt.Rollback = anyway _ tt
  all_met (stmt.SetIsolation level) = anyway _ tt
  all_met stmt.SetLockTimeout = anyway _ tt
  all_met (stmt.SetVariable variable value) = set_variable_meets variable value
  all_met (stmt.Declare variable type value) = declare_meets variable type value

  -- ---- the causes, one by one

  met_of : (statement : Stmt) → AllMet tables variables statement (of_statement statement) → (mention : Mention) → Mentions statement mention → IsMet tables variables statement mention
  met_of statement met mention is = All-contains (IsMet tables variables statement) (of_statement statement) mention (All-from_recursion (IsMet tables variables statement) (of_statement statement) met) is

  there : (statement : Stmt) (name : List ℕ) → AllMet tables variables statement (of_statement statement) → Mentions statement (OfTable name) ⊎ Mentions statement (OfTracked name) → HasTable tables name
  there statement name met (inl is) = met_of statement met (OfTable name) is
  there statement name met (inr is) = tracked_is_there (table_named tables name) (met_of statement met (OfTracked name) is)

  no_object : (statement : Stmt) (name : List ℕ) → AllMet tables variables statement (of_statement statement) → (UpdatesFromAnother statement name → ⊥) → IsNoObject tables statement name → ⊥
  no_object statement name met other (inl cause) = both_ways _ cause.1 (there statement name met cause.0)
  no_object statement name met other (inr (inl cause)) = met_of statement met (OfSource name) cause.0 cause.1
  no_object statement name met other (inr (inr cause)) = other cause

  no_cause : (statement : Stmt) (refusal : Refusal) → HasStatedCause refusal → Lacks tables keep variables statement (HasCause tables keep variables statement refusal)
  no_cause statement (NoObject name) stated = also _ (λ known. no_object statement name known.0 known.1) (two_passed _ (all_met statement) (no_other tables keep variables statement name))
  no_cause statement (Exists name) stated = no_double tables keep variables statement name
  no_cause statement Overflow stated = also _ (λ met cause. both_ways _ cause.2 (met_of statement met (OfNumber cause.0) cause.1)) (all_met statement)
  no_cause statement (NotTracked name) stated = also _ (λ met cause. not_both (table_named tables name) (met_of statement met (OfTracked name) cause.0) cause.1) (all_met statement)
  no_cause statement (AlreadyTracked name) stated = no_tracked tables keep variables statement name
  no_cause statement TrackingOff stated = none_off tables keep variables statement
  no_cause statement (TablesTracked count) stated = no_left tables keep variables statement count
  no_cause statement BadRetention stated = no_retention tables keep variables statement
  no_cause statement (BadTable rule) stated = no_rule tables keep variables statement rule
  no_cause statement (NoVariable name) stated = also _ (λ met cause. both_ways _ cause.1 (met_of statement met (OfVariable name) cause.0)) (all_met statement)
  no_cause statement (VariableExists name) stated = no_declared tables keep variables statement name
  no_cause statement (KeyUpdate name) stated = no_key tables keep variables statement name
  no_cause statement (CountClash wanted got) stated = also _ (λ met cause. cause.0 (met_of statement met (OfTuple cause.1.0 got) cause.1.1 wanted cause.1.2)) (all_met statement)
  no_cause statement (TooMany limit) stated = no_more tables keep variables statement limit
  no_cause statement (NoColumn name) stated = absurd stated
  no_cause statement (Ambiguous name) stated = absurd stated
  no_cause statement TypeClash stated = absurd stated
  no_cause statement _ stated = anyway _ (λ never. never)

pub bound_have_no_cause : BoundHaveNoCause
unfolding binding
bound_have_no_cause tables keep variables statement bound e refusal stated cause = (no_cause tables keep variables statement refusal stated).holds bound e cause
