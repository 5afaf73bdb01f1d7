-- What INSERT, UPDATE and DELETE refuse of NoColumn, Ambiguous and TypeClash.
use Rattle.std.proofs.Common.{◌≡◌, ℕ, not, nat_le, List, [], ◌∷◌, ◌++◌, length, map, ◌⊎◌, Option, Some, None, is_some, Ok, inl, inr, refl, sym, ap, ◌∙◌, subst, append_assoc}
use Rattle.std.specs.List.{Contains}
use Rattle.std.proofs.lemmas.List.Elements.{Contains-append_right}
use Rattle.ct_types.specs.declared.catalogue.Catalogued.{Catalogued}
use Rattle.ct_types.specs.declared.catalogue.Variable.{Variable}
use Rattle.ct_types.specs.declared.expr.Expr.{Expr}
use Rattle.ct_types.specs.declared.expr.ObjectName.{ObjectName}
use Rattle.ct_types.specs.declared.refusal.Refusal.{Refusal}
use Rattle.ct_types.specs.declared.refusal.Refusal.TheVariants.{NoColumn, NoObject, Ambiguous, KeyUpdate, TooMany}
use Rattle.ct_types.specs.declared.schema.Schema.{Schema}
use Rattle.ct_types.specs.declared.stmt.SetColumn.{SetColumn}
use Rattle.ct_types.specs.declared.stmt.TableSource.{TableSource}
use Rattle.ct_types.specs.declared.stmt.WriteStmt.{WriteStmt}
use Rattle.ct_types.specs.declared.stmt.WriteStmt.TheVariants as write
use Rattle.ct_types.specs.Answers.{◌>>=◌, ◌>>◌, demand, or_refuse, optional, each, each_after}
use Rattle.ct_types.proofs.AnswersCaused.{Caused, ok_caused, weaker, then_caused, after_caused, met_caused, or_caused, each_caused}
use Rattle.ct_types.proofs.AnswersTaken.{steps, passed, there}
use Rattle.ct_bind_kinds.specs.declared.kind.Kind.TheVariants.{Bytes, Condition}
use Rattle.ct_bind_names.specs.Catalogue.{existing_table}
use Rattle.ct_bind_names.specs.Names.{same, is_among, table_name, last_part}
use Rattle.ct_bind_expr.specs.declared.place.Place.{Place}
use Rattle.ct_bind_expr.specs.Places.{of_kind, closed}
use Rattle.ct_bind_expr.specs.Walk.{walk}
use Rattle.ct_bind.specs.Sources.{condition}
use Rattle.ct_bind.specs.Writes.{table_target, target_from, listed_target, insert_targets, is_key, is_set, set_target, updated_name, row_named, context_of, tuple_of, insert_change, set_of, update_change, delete_change, write_of, insert, update, delete}
use Rattle.ct_bind_place_laws.specs.Statements.{IsNoTarget, ListRefuses, Refuses, OptionRefuses, TupleRefuses, SetRefuses, SomeSetRefuses, WriteRefuses, WritingRefuses}
use Rattle.ct_bind_place_laws.proofs.Members.{first_is_in, all_members}
use Rattle.ct_bind_place_laws.proofs.Sources.{Said, for_that, existing_by, existing_is, walk_by, kind_by, optional_by, condition_by}
use Rattle.ct_bind_place_laws.proofs.Versions.{tuple_by, not_true}

-- ---- columns that are written

target_by : (table : Schema) (name : List ℕ) → Caused (Said (IsNoTarget table name)) (table_target table name)
unfolding table_target
target_by table name = or_caused (target_from name 1 table.columns) (NoColumn name) (λ none is. (refl, ap (λ o. is_some o) none))

-- the list of an INSERT, from a name on
module _ (table : Schema) (names : List (List ℕ)) where
  listed_by : (before : List (List ℕ)) (name : List ℕ) (after : List (List ℕ)) → names ≡ before ++ name ∷ after → Caused (Said (ListRefuses table (Some names))) (listed_target table before name)
  unfolding listed_target
  listed_by before name after are =
      let is_in : Contains names name = subst (λ (ns : List (List ℕ)). Contains ns name) (sym are) (Contains-append_right before (name ∷ after) name (first_is_in name after)) in
      then_caused (table_target table name) _ (for_that (table_target table name) (λ refusal cause. (name, inl (is_in, cause))) (target_by table name))
      (λ column. met_caused (not (is_among name before)) (Ambiguous name) _ (λ e is. (name, inr (refl, (before, after, are, not_true (is_among name before) e)))) (λ _. ok_caused _))

  each_listed_by : (before more : List (List ℕ)) → names ≡ before ++ more → Caused (Said (ListRefuses table (Some names))) (each_after (listed_target table) before more)
  each_listed_by before [] are = ok_caused []
  each_listed_by before (name ∷ more) are =
      then_caused (listed_target table before name) _ (listed_by before name more are)
      (λ column. then_caused (each_after (listed_target table) (before ++ name ∷ []) more) _ (each_listed_by (before ++ name ∷ []) more (are ∙ sym (append_assoc before (name ∷ []) more))) (λ made. ok_caused _))

list_by : (table : Schema) (columns : Option (List (List ℕ))) → Caused (Said (ListRefuses table columns)) (insert_targets table columns)
unfolding insert_targets
list_by table None = ok_caused _
list_by table (Some names) = each_listed_by table names [] names refl

-- the column of a SET
target_is : (table : Schema) (before : List SetColumn) (name : List ℕ) (target : _) → set_target table before name ≡ Ok target → target_from name 1 table.columns ≡ Some target
unfolding set_target table_target
target_is table before name target e =
    let first = steps (or_refuse (target_from name 1 table.columns) (NoColumn name)) _ target e in
    let second = passed (not (is_set name before)) (Ambiguous name) (demand (not (is_key table first.came.column)) (KeyUpdate name) >> Ok first.came) target first.goes in
    let third = passed (not (is_key table first.came.column)) (KeyUpdate name) (Ok first.came) target second.goes in
    there (target_from name 1 table.columns) (NoColumn name) target (first.is ∙ third.goes)

updated_by_by : {Cause : Refusal → Type 0} (name : ObjectName) (from : Option TableSource) → Caused (Said Cause) (updated_name name from)
unfolding updated_name
updated_by_by name None = ok_caused _
updated_by_by name (Some from) = met_caused (same (table_name from.table) (table_name name)) (NoObject (table_name from.table)) _ (λ e is. absurd is) (λ _. ok_caused _)

module _ (tables : List Catalogued) (variables : List Variable) where
  context_by : (x : Expr) → Caused (Said (Refuses tables variables closed Bytes x)) (context_of tables variables x)
  unfolding context_of
  context_by x = kind_by tables variables closed Bytes x

  contexts_by : (context : Option Expr) → Caused (Said (OptionRefuses tables variables closed Bytes context)) (optional (context_of tables variables) context)
  contexts_by context = optional_by tables variables closed Bytes (context_of tables variables) context_by context

  filter_by : (place : Place) (filter : Option Expr) → Caused (Said (OptionRefuses tables variables place Condition filter)) (optional (condition tables variables place) filter)
  filter_by place filter = optional_by tables variables place Condition (condition tables variables place) (condition_by tables variables place) filter

  -- ---- INSERT

  tuple_by_by : (table : Schema) (columns : Option (List (List ℕ))) (targets : _) → insert_targets table columns ≡ Ok targets → (values : List Expr)
      → Caused (Said (TupleRefuses tables variables table columns values)) (tuple_of tables variables targets values)
  unfolding tuple_of
  tuple_by_by table columns targets are values =
      tuple_by tables variables closed (map (λ target. target.kind) targets) values
      (all_members (λ y. Caused (Said (TupleRefuses tables variables table columns values)) (walk tables variables y closed)) values
      (λ y is. weaker (walk tables variables y closed) (λ refusal cause places. inl (y, is, cause)) (walk_by tables variables closed y)))
      (λ wanted got is. absurd is) (λ at y kind stands is no places. inr (refl, (targets, are, (at, y, kind, stands, is, no))))

  insert_by : (table : Schema) (name : ObjectName) (columns : Option (List (List ℕ))) (tuples : List (List Expr)) → Caused (Said (WriteRefuses tables variables table (write.Insert name columns tuples))) (insert_change tables variables table columns tuples)
  unfolding insert_change
  insert_by table name columns tuples =
      after_caused (insert_targets table columns) _ (for_that (insert_targets table columns) (λ refusal cause. inl cause) (list_by table columns))
      (λ targets are. met_caused (nat_le (length tuples) 1000) (TooMany 1000) _ (λ e is. absurd is)
      (λ few. then_caused (each (tuple_of tables variables targets) tuples) _
      (each_caused (tuple_of tables variables targets) tuples
      (all_members (λ values. Caused (Said (WriteRefuses tables variables table (write.Insert name columns tuples))) (tuple_of tables variables targets values)) tuples
      (λ values is. for_that (tuple_of tables variables targets values) (λ refusal cause. inr (values, is, cause)) (tuple_by_by table columns targets are values)))) (λ rows. ok_caused _)))

  -- ---- UPDATE

  set_column_by : (table : Schema) (place : Place) (before : List SetColumn) (set : SetColumn) → Caused (Said (SetRefuses tables variables table place before set)) (set_target table before set.column)
  unfolding set_target
  set_column_by table place before set =
      then_caused (table_target table set.column) _ (for_that (table_target table set.column) (λ refusal cause. inl cause) (target_by table set.column))
      (λ column. met_caused (not (is_set set.column before)) (Ambiguous set.column) _ (λ e is. inr (inl (refl, not_true (is_set set.column before) e)))
      (λ free. met_caused (not (is_key table column.column)) (KeyUpdate set.column) _ (λ e is. absurd is) (λ _. ok_caused _)))

  set_by : (table : Schema) (place : Place) (before : List SetColumn) (set : SetColumn) → Caused (Said (SetRefuses tables variables table place before set)) (set_of tables variables table place before set)
  unfolding set_of
  set_by table place before set =
      after_caused (set_target table before set.column) _ (set_column_by table place before set)
      (λ target comes. then_caused (walk tables variables set.value place >>= of_kind target.kind) _
      (for_that (walk tables variables set.value place >>= of_kind target.kind) (λ refusal cause. inr (inr (target, target_is table before set.column target comes, cause))) (kind_by tables variables place target.kind set.value)) (λ value. ok_caused _))

  sets_by : (table : Schema) (place : Place) (sets before more : List SetColumn) → sets ≡ before ++ more → Caused (Said (SomeSetRefuses tables variables table place sets)) (each_after (set_of tables variables table place) before more)
  sets_by table place sets before [] are = ok_caused []
  sets_by table place sets before (set ∷ more) are =
      then_caused (set_of tables variables table place before set) _ (for_that (set_of tables variables table place before set) (λ refusal cause. (before, set, more, are, cause)) (set_by table place before set))
      (λ bound. then_caused (each_after (set_of tables variables table place) (before ++ set ∷ []) more) _ (sets_by table place sets (before ++ set ∷ []) more (are ∙ sym (append_assoc before (set ∷ []) more))) (λ made. ok_caused _))

  update_by : (table : Schema) (place : Place) (sets : List SetColumn) (filter : Option Expr)
      → Caused (Said (λ refusal. SomeSetRefuses tables variables table place sets refusal ⊎ OptionRefuses tables variables place Condition filter refusal)) (update_change tables variables table place sets filter)
  unfolding update_change
  update_by table place sets filter =
      then_caused (each_after (set_of tables variables table place) [] sets) _ (for_that (each_after (set_of tables variables table place) [] sets) (λ refusal cause. inl cause) (sets_by table place sets [] sets refl))
      (λ bound. then_caused (optional (condition tables variables place) filter) _ (for_that (optional (condition tables variables place) filter) (λ refusal cause. inr cause) (filter_by place filter)) (λ filter. ok_caused _))

  delete_by : (place : Place) (filter : Option Expr) → Caused (Said (OptionRefuses tables variables place Condition filter)) (delete_change tables variables place filter)
  unfolding delete_change
  delete_by place filter = then_caused (optional (condition tables variables place) filter) _ (filter_by place filter) (λ filter. ok_caused _)

  -- ---- the whole

  pub write_by : (context : Option Expr) (written : WriteStmt) → Caused (Said (WritingRefuses tables variables context written)) (write_of tables variables context written)
  unfolding write_of insert update delete
  write_by context (write.Insert name columns tuples) =
      after_caused (existing_table tables name) _ (existing_by tables name)
      (λ table there. then_caused (optional (context_of tables variables) context) _ (for_that (optional (context_of tables variables) context) (λ refusal cause. inl cause) (contexts_by context))
      (λ bound. then_caused (insert_change tables variables table.schema columns tuples) _
      (for_that (insert_change tables variables table.schema columns tuples) (λ refusal cause. inr (table, existing_is tables name table there, cause)) (insert_by table.schema name columns tuples)) (λ change. ok_caused _)))
  write_by context (write.Update name sets from filter) =
      after_caused (existing_table tables name) _ (existing_by tables name)
      (λ table there. after_caused (updated_name name from) _ (updated_by_by name from)
      (λ row named. then_caused (optional (context_of tables variables) context) _ (for_that (optional (context_of tables variables) context) (λ refusal cause. inl cause) (contexts_by context))
      (λ bound. then_caused (update_change tables variables table.schema (row_named row table.schema) sets filter) _
      (for_that (update_change tables variables table.schema (row_named row table.schema) sets filter) (λ refusal cause. inr (table, existing_is tables name table there, (row, named, cause)))
      (update_by table.schema (row_named row table.schema) sets filter)) (λ change. ok_caused _))))
  write_by context (write.Delete name filter) =
      after_caused (existing_table tables name) _ (existing_by tables name)
      (λ table there. then_caused (optional (context_of tables variables) context) _ (for_that (optional (context_of tables variables) context) (λ refusal cause. inl cause) (contexts_by context))
      (λ bound. then_caused (delete_change tables variables (row_named (last_part name) table.schema) filter) _
      (for_that (delete_change tables variables (row_named (last_part name) table.schema) filter) (λ refusal cause. inr (table, existing_is tables name table there, cause)) (delete_by (row_named (last_part name) table.schema) filter)) (λ change. ok_caused _)))
