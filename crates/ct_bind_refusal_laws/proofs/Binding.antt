-- Whatever binding refuses has its cause: the forms of statements, one by one.
use Rattle.std.proofs.Common.{length, ◌≡◌, ℕ, not, List, [], ◌∷◌, ◌++◌, flat_map, Option, is_some, inl, refl, sym, ap, subst}
use Rattle.std.specs.Option.{option_map, IsSomeAnd}
use Rattle.std.proofs.lemmas.Bool.{not-false}
use Rattle.ct_types.specs.declared.catalogue.Catalogued.{Catalogued}
use Rattle.ct_types.specs.declared.catalogue.Variable.{Variable}
use Rattle.ct_types.specs.declared.entry.Keep.{Keep}
use Rattle.ct_types.specs.declared.expr.Expr.{Expr}
use Rattle.ct_types.specs.declared.expr.ObjectName.{ObjectName}
use Rattle.ct_types.specs.declared.refusal.Refusal.{Refusal}
use Rattle.ct_types.specs.declared.refusal.Refusal.TheVariants.{NoObject, VariableExists}
use Rattle.ct_types.specs.declared.stmt.SetColumn.{SetColumn}
use Rattle.ct_types.specs.declared.stmt.Stmt.{Stmt}
use Rattle.ct_types.specs.declared.stmt.Stmt.TheVariants as stmt
use Rattle.ct_types.specs.declared.stmt.TableSource.{TableSource}
use Rattle.ct_types.specs.declared.stmt.TypeName.{TypeName}
use Rattle.ct_types.specs.declared.stmt.WriteStmt.{WriteStmt}
use Rattle.ct_types.specs.declared.stmt.WriteStmt.TheVariants as write
use Rattle.ct_bind_kinds.specs.declared.kind.Kind.{Kind}
use Rattle.ct_bind_kinds.specs.Kinds.{kind_of_type}
use Rattle.ct_bind_names.specs.Catalogue.{table_named, existing_table, is_declared}
use Rattle.ct_bind_names.specs.Names.{table_name}
use Rattle.ct_bind_names.specs.Numbers.{column_type}
use Rattle.ct_bind_expr.specs.Places.{row_of}
use Rattle.ct_bind.specs.Writes as writes
use Rattle.ct_bind.specs.Writes.{write_of}
use Rattle.ct_bind.specs.Binding.{kind_of_name, truncate, value_of, set_variable, declare, binding, binding_by}
use Rattle.ct_bind_refusal_laws.specs.Mentions.{Mention, OfVariable, of_table, mentions, of_tuple, of_optional, of_select, of_updated, of_statement}
use Rattle.ct_bind_refusal_laws.specs.Causes.{has_length, HasKeyColumn, HasCause}
use Rattle.ct_bind_refusal_laws.specs.Laws.{RefusalsHaveCauses}
use Rattle.ct_bind_refusal_laws.proofs.Among.{Among, itself, left, right, first, rest}
use Rattle.ct_types.proofs.AnswersCaused.{Caused, ok_caused, weaker, then_caused, met_caused, found_caused}
use Rattle.ct_bind_refusal_laws.proofs.Expressions.{existing_explained, variable_explained}
use Rattle.ct_bind_refusal_laws.proofs.Rules.{Breaks, type_caused}
use Rattle.ct_bind_refusal_laws.proofs.Definitions.{create_caused, enable_caused, disable_caused, database_caused}
use Rattle.ct_bind_refusal_laws.proofs.Refusals.{explained, kind_fine, optional_fine, select_fine, context_fine, insert_change_fine, updated_fine, update_change_fine, delete_change_fine}

module _ (tables : List Catalogued) (keep : Option Keep) (variables : List Variable) where
  -- ---- writes

  insert_caused : (context : Option Expr) (table : ObjectName) (columns : Option (List (List ℕ))) (tuples : List (List Expr))
      → Caused (HasCause tables keep variables (stmt.Write context (write.Insert table columns tuples))) (writes.insert tables variables context table columns tuples)
  unfolding writes.insert existing_table
  insert_caused context table columns tuples =
      let it : Stmt = stmt.Write context (write.Insert table columns tuples) in
      let values : List Mention = flat_map (of_tuple (option_map length columns)) tuples in
      let behind : Among (of_table table ∷ values) (of_statement it) = right (of_optional context) (of_table table ∷ values) (itself (of_statement it)) in
      found_caused (table_named tables (table_name table)) (NoObject (table_name table)) _ (λ none. inl (inl (first (of_table table) values behind), ap (λ o. is_some o) none))
      (λ found is. then_caused _ _ (context_fine tables keep variables it context (left (of_optional context) (of_table table ∷ values) (itself (of_statement it))))
      (λ _. then_caused _ _ (insert_change_fine tables keep variables it found.schema columns tuples (λ many. many)
      (subst (λ o. IsSomeAnd o (λ (it : Catalogued). length found.schema.columns ≡ length it.schema.columns)) (sym is) refl) (rest (of_table table) values behind)) (λ _. ok_caused _)))

  update_caused : (context : Option Expr) (table : ObjectName) (sets : List SetColumn) (from : Option TableSource) (filter : Option Expr)
      → Caused (HasCause tables keep variables (stmt.Write context (write.Update table sets from filter))) (writes.update tables variables context table sets from filter)
  unfolding writes.update existing_table
  update_caused context table sets from filter =
      let it : Stmt = stmt.Write context (write.Update table sets from filter) in
      let values : List Mention = flat_map (λ (set : SetColumn). mentions set.value) sets ++ of_optional filter in
      let behind : Among (of_table table ∷ (of_updated from ++ values)) (of_statement it) = right (of_optional context) (of_table table ∷ (of_updated from ++ values)) (itself (of_statement it)) in
      let after : Among (of_updated from ++ values) (of_statement it) = rest (of_table table) (of_updated from ++ values) behind in
      found_caused (table_named tables (table_name table)) (NoObject (table_name table)) _ (λ none. inl (inl (first (of_table table) (of_updated from ++ values) behind), ap (λ o. is_some o) none))
      (λ found is. then_caused _ _ (updated_fine tables keep variables it table from (λ name another. another))
      (λ row. then_caused _ _ (context_fine tables keep variables it context (left (of_optional context) (of_table table ∷ (of_updated from ++ values)) (itself (of_statement it))))
      (λ _. then_caused _ _ (update_change_fine tables keep variables it found.schema _ sets filter
      (λ name set of_key. (set, subst (λ o. IsSomeAnd o (λ (it : Catalogued). HasKeyColumn it.schema name)) (sym is) of_key)) (right (of_updated from) values after))
      (λ _. ok_caused _))))

  delete_caused : (context : Option Expr) (table : ObjectName) (filter : Option Expr)
      → Caused (HasCause tables keep variables (stmt.Write context (write.Delete table filter))) (writes.delete tables variables context table filter)
  unfolding writes.delete
  delete_caused context table filter =
      let it : Stmt = stmt.Write context (write.Delete table filter) in
      let behind : Among (of_table table ∷ of_optional filter) (of_statement it) = right (of_optional context) (of_table table ∷ of_optional filter) (itself (of_statement it)) in
      then_caused _ _ (explained tables keep variables it _ (existing_explained tables variables (of_statement it) table (first (of_table table) (of_optional filter) behind)))
      (λ found. then_caused _ _ (context_fine tables keep variables it context (left (of_optional context) (of_table table ∷ of_optional filter) (itself (of_statement it))))
      (λ _. then_caused _ _ (delete_change_fine tables keep variables it _ filter (rest (of_table table) (of_optional filter) behind)) (λ _. ok_caused _)))

  write_caused : (context : Option Expr) (it : WriteStmt) → Caused (HasCause tables keep variables (stmt.Write context it)) (write_of tables variables context it)
  unfolding write_of
  write_caused context (write.Insert table columns tuples) = insert_caused context table columns tuples
  write_caused context (write.Update table sets from filter) = update_caused context table sets from filter
  write_caused context (write.Delete table filter) = delete_caused context table filter

  -- ---- variables

  value_caused : (statement : Stmt) (kind : Kind) (value : Expr) → Among (mentions value) (of_statement statement) → Caused (HasCause tables keep variables statement) (value_of tables variables kind value)
  unfolding value_of
  value_caused statement kind value says = kind_fine tables keep variables statement kind (row_of []) value says

  set_variable_caused : (name : List ℕ) (value : Expr) → Caused (HasCause tables keep variables (stmt.SetVariable name value)) (set_variable tables variables name value)
  unfolding set_variable
  set_variable_caused name value =
      let it : Stmt = stmt.SetVariable name value in
      let all : Among (OfVariable name ∷ mentions value) (of_statement it) = itself (of_statement it) in
      then_caused _ _ (explained tables keep variables it _ (variable_explained tables variables (of_statement it) name (first (OfVariable name) (mentions value) all)))
      (λ found. then_caused _ _ (value_caused it (kind_of_type found.1) value (rest (OfVariable name) (mentions value) all)) (λ _. ok_caused _))

  -- a type that is broken breaks the rule of types
  of_type : (name : List ℕ) (type : TypeName) (value : Option Expr) (refusal : Refusal) → Breaks 4 (has_length type) refusal → HasCause tables keep variables (stmt.Declare name type value) refusal
  of_type name type value refusal breaks = subst (λ it. HasCause tables keep variables (stmt.Declare name type value) it) (sym breaks.0) (refl, breaks.1)

  declare_caused : (name : List ℕ) (type : TypeName) (value : Option Expr) → Caused (HasCause tables keep variables (stmt.Declare name type value)) (declare tables variables name type value)
  unfolding declare
  declare_caused name type value =
      let it : Stmt = stmt.Declare name type value in
      met_caused (not (is_declared variables name)) (VariableExists name) _ (λ there. (refl, not-false _ there))
      (λ _. then_caused _ _ (optional_fine tables keep variables it (value_of tables variables (kind_of_name type)) value (itself (of_optional value)) (λ value says. value_caused it (kind_of_name type) value says))
      (λ _. then_caused _ _ (weaker (column_type type) (of_type name type value) (type_caused type)) (λ _. ok_caused _)))

  -- ---- the others

  truncate_caused : (name : ObjectName) → Caused (HasCause tables keep variables (stmt.TruncateTable name)) (truncate tables variables name)
  unfolding truncate
  truncate_caused name = then_caused _ _ (explained tables keep variables (stmt.TruncateTable name) _ (existing_explained tables variables (of_table name ∷ []) name (first (of_table name) [] (itself (of_table name ∷ []))))) (λ _. ok_caused _)

  statement_caused : (it : Stmt) → Caused (HasCause tables keep variables it) (binding_by tables variables keep it)
  statement_caused (stmt.AlterDatabase name option) = database_caused tables variables name keep option
  statement_caused (stmt.CreateTable table columns key) = create_caused tables variables keep table columns key
  statement_caused (stmt.EnableTracking table masks) = enable_caused tables variables keep table masks
  statement_caused (stmt.DisableTracking table) = disable_caused tables variables keep table
  statement_caused (stmt.TruncateTable table) = truncate_caused table
  statement_caused (stmt.Write context it) = then_caused _ _ (write_caused context it) (λ _. ok_caused _)
  statement_caused (stmt.Select query) = then_caused _ _ (select_fine tables keep variables (stmt.Select query) query (λ joins. joins) (itself (of_select query))) (λ _. ok_caused _)
  statement_caused stmt.Begin = ok_caused _
  statement_caused stmt.Commit = ok_caused _
  statement_caused stmt.Rollback = ok_caused _
  statement_caused (stmt.SetIsolation level) = ok_caused _
  statement_caused stmt.SetLockTimeout = ok_caused _
  statement_caused (stmt.SetVariable variable value) = set_variable_caused variable value
  statement_caused (stmt.Declare variable type value) = declare_caused variable type value

pub refusals_have_causes : RefusalsHaveCauses
unfolding binding
refusals_have_causes tables keep variables statement refusal e = (statement_caused tables keep variables statement).holds refusal e
