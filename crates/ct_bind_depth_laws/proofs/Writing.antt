-- What an INSERT, an UPDATE or a DELETE comes to is at most as deep as the statement.
use Rattle.std.proofs.Common.{ℕ, nat_le, List, [], ◌++◌, map, length, Option, Ok}
use Rattle.std.specs.List.{AllByRecursion, flat_map}
use Rattle.std.specs.Option.{option_to_list}
use Rattle.ct_types.specs.declared.bound.BoundSet.{BoundSet}
use Rattle.ct_types.specs.declared.bound.BoundWrite.{BoundWrite}
use Rattle.ct_types.specs.declared.bound.RowChange.{RowChange}
use Rattle.ct_types.specs.declared.bound.RowChange.TheVariants.{Insert, Update, Delete}
use Rattle.ct_types.specs.declared.catalogue.Catalogued.{Catalogued}
use Rattle.ct_types.specs.declared.catalogue.Variable.{Variable}
use Rattle.ct_types.specs.declared.expr.Expr.{Expr}
use Rattle.ct_types.specs.declared.refusal.Refusal.TheVariants.{TooMany}
use Rattle.ct_types.specs.declared.schema.Schema.{Schema}
use Rattle.ct_types.specs.declared.stmt.SetColumn.{SetColumn}
use Rattle.ct_types.specs.declared.stmt.WriteStmt.{WriteStmt}
use Rattle.ct_types.specs.declared.stmt.WriteStmt.TheVariants as write
use Rattle.ct_bind_kinds.specs.declared.kind.Kind.TheVariants.{Bytes}
use Rattle.ct_model.proofs.Members.{all_map}
use Rattle.ct_types.specs.Answers.{Answer, ◌>>=◌, optional, each, each_after}
use Rattle.ct_bind_names.specs.Names.{last_part}
use Rattle.ct_bind_names.specs.Catalogue.{existing_table}
use Rattle.ct_bind_expr.specs.declared.place.Place.{Place}
use Rattle.ct_bind_expr.specs.Places.{of_kind, closed}
use Rattle.ct_bind_expr.specs.Walk.{walk}
use Rattle.ct_bind.specs.Sources.{condition}
use Rattle.ct_bind.specs.Writes.{insert_targets, set_target, updated_name, row_named, context_of, tuple_of, insert_change, set_of, update_change, delete_change, write_to, insert, update, delete, write_of}
use Rattle.ct_types.proofs.AnswersKept.{Kept, ok_kept, then_kept, after_kept, demand_kept}
use Rattle.ct_types.proofs.Lists.{all_append, all_front, all_back, all_mapped, all_joined, all_parts}
use Rattle.ct_bind_depth_laws.specs.Statements.{write_expressions, change_expressions}
use Rattle.ct_bind_depth_laws.proofs.Given.{each_given, each_after_given}
use Rattle.ct_bind_depth_laws.proofs.Operators.{NoDeeper}
use Rattle.ct_bind_depth_laws.proofs.Chains.{NoneDeeper}
use Rattle.ct_bind_depth_laws.proofs.Versions.{tuple_kept}
use Rattle.ct_bind_depth_laws.proofs.Operands.{Within, AllWithin, GivenNoDeeper, all_walked, operand_kept, condition_kept, given_kept}

module _ (tables : List Catalogued) (variables : List Variable) (n : ℕ) where
  abbrev ChangeNoDeeper : RowChange → Type 0
  ChangeNoDeeper change = NoneDeeper n (change_expressions change)

  -- ---- INSERT

  insert_kept : (table : Schema) (columns : Option (List (List ℕ))) (tuples : List (List Expr)) → AllWithin n (flat_map (λ tuple. tuple) tuples) → Kept ChangeNoDeeper (insert_change tables variables table columns tuples)
  unfolding insert_change tuple_of
  insert_kept table columns tuples within =
      after_kept ChangeNoDeeper (insert_targets table columns) _
      (λ targets. demand_kept ChangeNoDeeper (nat_le (length tuples) 1000) (TooMany 1000) _
      (λ _. then_kept (AllByRecursion (NoneDeeper n)) ChangeNoDeeper (each (tuple_of tables variables targets) tuples) _
      (each_given (AllWithin n) (NoneDeeper n) (tuple_of tables variables targets)
      (λ xs all. tuple_kept n closed (map (λ column. column.kind) targets) (map (walk tables variables) xs) (all_walked tables variables n closed xs all)) tuples (all_parts (Within n) tuples within))
      (λ rows all. ok_kept ChangeNoDeeper (Insert (map (λ column. column.column) targets) rows) (all_joined (NoDeeper n) rows all))))

  -- ---- UPDATE

  abbrev SetNoDeeper : BoundSet → Type 0
  SetNoDeeper set = NoDeeper n set.value

  set_kept : (table : Schema) (place : Place) (before : List SetColumn) (it : SetColumn) → Within n it.value → Kept SetNoDeeper (set_of tables variables table place before it)
  unfolding set_of
  set_kept table place before it within =
      after_kept SetNoDeeper (set_target table before it.column) _
      (λ column. then_kept (NoDeeper n) SetNoDeeper (walk tables variables it.value place >>= of_kind column.kind) _ (operand_kept tables variables n column.kind place it.value within)
      (λ value below. ok_kept SetNoDeeper (record { column = column.column; value = value }) below))

  update_kept : (table : Schema) (place : Place) (sets : List SetColumn) (filter : Option Expr) → AllWithin n (map (λ (set : SetColumn). set.value) sets) → AllWithin n (option_to_list filter)
      → Kept ChangeNoDeeper (update_change tables variables table place sets filter)
  unfolding update_change
  update_kept table place sets filter values within =
      then_kept (AllByRecursion SetNoDeeper) ChangeNoDeeper (each_after (set_of tables variables table place) [] sets) _
      (each_after_given (λ (set : SetColumn). Within n set.value) SetNoDeeper (set_of tables variables table place) (set_kept table place) [] sets (all_mapped (λ (set : SetColumn). set.value) (Within n) sets values))
      (λ made all. then_kept (GivenNoDeeper n) ChangeNoDeeper (optional (condition tables variables place) filter) _
      (given_kept tables variables n (condition tables variables place) (condition_kept tables variables n place) filter within)
      (λ found below. ok_kept ChangeNoDeeper (Update made found)
      (all_append (NoDeeper n) (map (λ (set : BoundSet). set.value) made) (option_to_list found) (all_map SetNoDeeper (NoDeeper n) (λ set. set.value) (λ _ below. below) made all) below)))

  -- ---- DELETE

  delete_kept : (place : Place) (filter : Option Expr) → AllWithin n (option_to_list filter) → Kept ChangeNoDeeper (delete_change tables variables place filter)
  unfolding delete_change
  delete_kept place filter within =
      then_kept (GivenNoDeeper n) ChangeNoDeeper (optional (condition tables variables place) filter) _
      (given_kept tables variables n (condition tables variables place) (condition_kept tables variables n place) filter within)
      (λ found below. ok_kept ChangeNoDeeper (Delete found) below)

  -- ---- the whole

  abbrev pub WriteNoDeeper : BoundWrite → Type 0
  WriteNoDeeper it = NoneDeeper n (option_to_list it.context ++ change_expressions it.change)

  -- the table is there: what is left is the context and the change
  then_change : (table : Catalogued) (context : Option Expr) (change : Answer RowChange) → AllWithin n (option_to_list context) → Kept ChangeNoDeeper change
      → Kept WriteNoDeeper (optional (context_of tables variables) context >>= (λ context. change >>= (λ change. Ok (write_to tables variables table.schema context change))))
  unfolding context_of
  then_change table context change within kept =
      then_kept (GivenNoDeeper n) WriteNoDeeper (optional (context_of tables variables) context) _
      (given_kept tables variables n (context_of tables variables) (operand_kept tables variables n Bytes closed) context within)
      (λ context below. then_kept ChangeNoDeeper WriteNoDeeper change _ kept
      (λ change all. ok_kept WriteNoDeeper (write_to tables variables table.schema context change) (all_append (NoDeeper n) (option_to_list context) (change_expressions change) below all)))

  abbrev sets_of : List SetColumn → List Expr
  sets_of sets = map (λ (set : SetColumn). set.value) sets

  write_by : (context : Option Expr) (given : WriteStmt) → AllWithin n (option_to_list context) → AllWithin n (write_expressions given) → Kept WriteNoDeeper (write_of tables variables context given)
  unfolding write_of insert update delete
  write_by context (write.Insert name columns tuples) within all =
      after_kept WriteNoDeeper (existing_table tables name) _
      (λ table. then_change table context (insert_change tables variables table.schema columns tuples) within (insert_kept table.schema columns tuples all))
  write_by context (write.Update name sets from filter) within all =
      after_kept WriteNoDeeper (existing_table tables name) _
      (λ table. after_kept WriteNoDeeper (updated_name name from) _
      (λ row. then_change table context (update_change tables variables table.schema (row_named row table.schema) sets filter) within
      (update_kept table.schema (row_named row table.schema) sets filter (all_front (Within n) (sets_of sets) (option_to_list filter) all) (all_back (Within n) (sets_of sets) (option_to_list filter) all))))
  write_by context (write.Delete name filter) within all =
      after_kept WriteNoDeeper (existing_table tables name) _
      (λ table. then_change table context (delete_change tables variables (row_named (last_part name) table.schema) filter) within (delete_kept (row_named (last_part name) table.schema) filter all))

  pub write_kept : (context : Option Expr) (given : WriteStmt) → AllWithin n (option_to_list context ++ write_expressions given) → Kept WriteNoDeeper (write_of tables variables context given)
  write_kept context given within =
      write_by context given (all_front (Within n) (option_to_list context) (write_expressions given) within) (all_back (Within n) (option_to_list context) (write_expressions given) within)
