-- That what an INSERT, an UPDATE or a DELETE comes to is well formed.
use Rattle.std.proofs.Common.{◌≡◌, ◌≢◌, ℕ, ◌<◌, ◌==◌, true, nat_eq, nat_le, List, [], ◌∷◌, map, length, Option, IfSome, Ok, refl, sym, ap, ◌∙◌, arith}
use Rattle.std.specs.List.{AllByRecursion, IsDistinct}
use Rattle.std.proofs.lemmas.Bool.Decides.{nat_tests}
use Rattle.std.proofs.lemmas.List.{length-map, append-nil}
use Rattle.ct_types.specs.declared.bound.BoundExpr.{BoundExpr}
use Rattle.ct_types.specs.declared.bound.BoundSet.{BoundSet}
use Rattle.ct_types.specs.declared.bound.RowChange.{RowChange}
use Rattle.ct_types.specs.declared.bound.RowChange.TheVariants.{Insert, Update, Delete}
use Rattle.ct_types.specs.declared.catalogue.Catalogued.{Catalogued}
use Rattle.ct_types.specs.declared.catalogue.Variable.{Variable}
use Rattle.ct_types.specs.declared.expr.Expr.{Expr}
use Rattle.ct_types.specs.declared.expr.ObjectName.{ObjectName}
use Rattle.ct_types.specs.declared.refusal.Refusal.TheVariants.{CountClash, TooMany}
use Rattle.ct_types.specs.declared.schema.Column.{Column}
use Rattle.ct_types.specs.declared.schema.Schema.{Schema}
use Rattle.ct_types.specs.declared.stmt.SetColumn.{SetColumn}
use Rattle.ct_types.specs.declared.stmt.TableSource.{TableSource}
use Rattle.ct_types.specs.declared.stmt.WriteStmt.{WriteStmt}
use Rattle.ct_types.specs.declared.stmt.WriteStmt.TheVariants as write
use Rattle.ct_bind_kinds.specs.declared.kind.Kind.{Kind}
use Rattle.ct_bind_kinds.specs.declared.kind.Kind.TheVariants.{Bytes, Condition}
use Rattle.ct_bind_kinds.specs.Kinds.{kind_of_type}
use Rattle.ct_bind_kinds.specs.WellFormed.{Scope, kind_of}
use Rattle.ct_types.specs.Answers.{Answer, ◌>>=◌, optional, each, each_after}
use Rattle.ct_bind_names.specs.Names.{last_part}
use Rattle.ct_bind_names.specs.Catalogue.{existing_table}
use Rattle.ct_bind_expr.specs.declared.place.Typed.{Typed}
use Rattle.ct_bind_expr.specs.declared.place.Place.{Place}
use Rattle.ct_bind_expr.specs.Places.{of_kind, closed}
use Rattle.ct_bind_expr.specs.Versions.{Walk, operand, values, tuple}
use Rattle.ct_bind_expr.specs.Walk.{walk}
use Rattle.ct_bind.specs.Sources.{shown, shown_columns, condition}
use Rattle.ct_bind.specs.Writes.{insert_targets, set_target, updated_name, row_named, context_of, tuple_of, insert_change, set_of, update_change, delete_change, write_to, insert, update, delete, write_of}
use Rattle.ct_bind_kind_laws.specs.Laws.{Sound, Shows, row_kinds, SetsSome}
use Rattle.ct_bind_kind_laws.specs.Statements.{IsOf, IsCondition, table_row, IsColumnList, FitsColumn, FitColumns, scope_of, IsChange, IsWrite}
use Rattle.ct_types.proofs.AnswersTaken.{steps}
use Rattle.ct_bind_kind_laws.proofs.Operators.{Answered, fits, fits_operand}
use Rattle.ct_bind_kind_laws.proofs.Versions.{IsThere, existing}
use Rattle.ct_bind_kind_laws.proofs.Walks.{every}
use Rattle.ct_types.proofs.AnswersKept.{Kept, ok_kept, then_kept, after_kept, demand_kept, optional_kept, each_kept, each_after_kept, each_after_some, two_kept}
use Rattle.ct_bind_kind_laws.proofs.Named.{each_once}
use Rattle.ct_bind_kind_laws.proofs.Targets.{HasKind, MaySet, NextSet, targets_are, set_target_kept, set_target_next, fits_column}

-- ---- places

pub closed_shows : Shows closed []
closed_shows = record { others = []; sources = refl; outputs = tt }

shown_kinds : (columns : List Column) → map (λ column. column.kind) (map (λ (column : Column). shown column.name (kind_of_type column.kind)) columns) ≡ map (λ column. kind_of_type column.kind) columns
shown_kinds [] = refl
shown_kinds (column ∷ more) = ap (λ kinds. kind_of_type column.kind ∷ kinds) (shown_kinds more)

pub table_kinds : (columns : List Column) → map (λ column. column.kind) (shown_columns columns) ≡ map (λ column. kind_of_type column.kind) columns
unfolding shown_columns
table_kinds columns = shown_kinds columns

row_shows : (name : List ℕ) (table : Schema) → Shows (row_named name table) (table_row table)
row_shows name table = record {
  others = [];
  sources = sym (append-nil (row_kinds (row_named name table).sources) ∙ append-nil (map (λ column. column.kind) (shown_columns table.columns)) ∙ table_kinds table.columns);
  outputs = tt;
}

-- ---- values of a kind

pub operand_kept : (scope : Scope) (wanted : Kind) (answer : Answer Typed) → Answered scope answer → Kept (λ value. fits wanted (kind_of scope value) ≡ true) (answer >>= of_kind wanted)
operand_kept scope wanted answer answered = record {
  holds = λ value e.
      let p = steps answer (of_kind wanted) value e in
      fits_operand scope wanted p.came value (answered p.came p.is) p.goes;
}

module _ {X : Type 0} (scope : Scope) (table : Schema) (id : X → ℕ) (kind : X → Kind) (place : Place) where
  values_kept : (targets : List X) (walks : List Walk) → AllByRecursion (λ it. HasKind table (id it) (kind it)) targets → length walks ≡ length targets → AllByRecursion (λ walk. Answered scope (walk place)) walks
      → Kept (FitColumns scope table (map id targets)) (values place (map kind targets) walks)
  unfolding values operand
  values_kept [] [] have many answered = ok_kept (FitColumns scope table []) [] tt
  values_kept [] (walk ∷ walks) have many answered = absurd cc
  values_kept (it ∷ targets) [] have many answered = absurd cc
  values_kept (it ∷ targets) (walk ∷ walks) have many answered =
      let fewer : length walks ≡ length targets = omega arith in
      then_kept (λ value. fits (kind it) (kind_of scope value) ≡ true) (FitColumns scope table (map id (it ∷ targets))) (walk place >>= of_kind (kind it)) _ (operand_kept scope (kind it) (walk place) answered.0)
      (λ value fit. then_kept (FitColumns scope table (map id targets)) (FitColumns scope table (map id (it ∷ targets))) (values place (map kind targets) walks) _ (values_kept targets walks have.1 fewer answered.1)
      (λ more rest. ok_kept (FitColumns scope table (map id (it ∷ targets))) (value ∷ more) (fits_column scope table (id it) (kind it) value have.0 fit, rest)))

  pub tuple_kept : (targets : List X) (walks : List Walk) → AllByRecursion (λ it. HasKind table (id it) (kind it)) targets → AllByRecursion (λ walk. Answered scope (walk place)) walks
      → Kept (FitColumns scope table (map id targets)) (tuple place (map kind targets) walks)
  unfolding tuple
  tuple_kept targets walks have answered =
      demand_kept (FitColumns scope table (map id targets)) (length walks == length (map kind targets)) (CountClash (length (map kind targets)) (length walks)) (values place (map kind targets) walks)
      (λ same. let many : length walks ≡ length targets = grind (arith, nat_tests, length-map targets kind, same) in values_kept targets walks have many answered)

-- ---- statements

module _ (tables : List Catalogued) (variables : List Variable) (sound : Sound tables) where
  -- each expression that is walked is well formed
  pub walked : (columns : List Kind) (place : Place) → Shows place columns → (e : Expr) → Answered (scope_of tables variables columns) (walk tables variables e place)
  walked columns place shows e = every tables variables columns place sound shows e

  all_walked : (columns : List Kind) (place : Place) → Shows place columns → (all : List Expr) → AllByRecursion (λ walk. Answered (scope_of tables variables columns) (walk place)) (map (walk tables variables) all)
  all_walked columns place shows [] = tt
  all_walked columns place shows (e ∷ more) = (walked columns place shows e, all_walked columns place shows more)

  pub condition_kept : (columns : List Kind) (place : Place) → Shows place columns → (e : Expr) → Kept (IsCondition (scope_of tables variables columns)) (condition tables variables place e)
  unfolding condition
  condition_kept columns place shows e = operand_kept (scope_of tables variables columns) Condition (walk tables variables e place) (walked columns place shows e)

  context_kept : (given : Option Expr) → Kept (λ found. IfSome found (IsOf (scope_of tables variables []) Bytes)) (optional (context_of tables variables) given)
  unfolding context_of
  context_kept given = optional_kept (IsOf (scope_of tables variables []) Bytes) (context_of tables variables)
      (λ e. operand_kept (scope_of tables variables []) Bytes (walk tables variables e closed) (walked [] closed closed_shows e)) given

  -- ---- INSERT

  insert_kept : (table : Schema) (columns : Option (List (List ℕ))) (tuples : List (List Expr)) → Kept (IsChange tables variables table) (insert_change tables variables table columns tuples)
  unfolding insert_change tuple_of
  insert_kept table columns tuples =
      then_kept (λ made. AllByRecursion (λ it. HasKind table it.column it.kind) made × IsColumnList table (map (λ it. it.column) made)) (IsChange tables variables table) (insert_targets table columns) _ (targets_are table columns)
      (λ targets are. demand_kept (IsChange tables variables table) (nat_le (length tuples) 1000) (TooMany 1000) _
      (λ _. then_kept (AllByRecursion (FitColumns (scope_of tables variables []) table (map (λ it. it.column) targets))) (IsChange tables variables table) (each (tuple_of tables variables targets) tuples) _
      (each_kept (FitColumns (scope_of tables variables []) table (map (λ it. it.column) targets)) (tuple_of tables variables targets)
      (λ all. tuple_kept (scope_of tables variables []) table (λ it. it.column) (λ it. it.kind) closed targets (map (walk tables variables) all) are.0 (all_walked [] closed closed_shows all)) tuples)
      (λ rows fit. ok_kept (IsChange tables variables table) (Insert (map (λ it. it.column) targets) rows) (are.1, fit))))

  -- ---- UPDATE

  abbrev set_id : BoundSet → ℕ
  set_id set = set.column

  abbrev OfSet : Schema → BoundSet → Type 0
  OfSet table set = FitsColumn (scope_of tables variables (table_row table)) table set.column set.value × AllByRecursion (λ key. key ≢ set.column) table.key

  set_kept : (table : Schema) (place : Place) → Shows place (table_row table) → (before : List SetColumn) (it : SetColumn) → Kept (OfSet table) (set_of tables variables table place before it)
  unfolding set_of
  set_kept table place shows before it =
      let scope : Scope = scope_of tables variables (table_row table) in
      then_kept (λ column. MaySet table column.column column.kind) (OfSet table) (set_target table before it.column) _ (set_target_kept table before it.column)
      (λ column may. then_kept (λ value. fits column.kind (kind_of scope value) ≡ true) (OfSet table) (walk tables variables it.value place >>= of_kind column.kind) _
      (operand_kept scope column.kind (walk tables variables it.value place) (walked (table_row table) place shows it.value))
      (λ value fit. ok_kept (OfSet table) (record { column = column.column; value = value }) (fits_column scope table column.column column.kind value may.0 fit, may.1)))

  set_next : (table : Schema) (place : Place) (before : List SetColumn) (it : SetColumn) → Kept (λ set. NextSet table before it set.column) (set_of tables variables table place before it)
  unfolding set_of
  set_next table place before it =
      then_kept (λ column. NextSet table before it column.column) (λ set. NextSet table before it set.column) (set_target table before it.column) _ (set_target_next table before it)
      (λ column next. after_kept (λ set. NextSet table before it set.column) (walk tables variables it.value place >>= of_kind column.kind) _
      (λ value. ok_kept (λ set. NextSet table before it set.column) (record { column = column.column; value = value }) next))

  split_sets : (table : Schema) (sets : List BoundSet) → AllByRecursion (OfSet table) sets
      → AllByRecursion (λ set. FitsColumn (scope_of tables variables (table_row table)) table set.column set.value) sets × AllByRecursion (λ set. AllByRecursion (λ key. key ≢ set.column) table.key) sets
  split_sets table [] all = (tt, tt)
  split_sets table (set ∷ more) all = let rest = split_sets table more all.1 in ((all.0.0, rest.0), (all.0.1, rest.1))

  update_kept : (table : Schema) (place : Place) (sets : List SetColumn) (filter : Option Expr) → Shows place (table_row table) → 0 < length sets
      → Kept (IsChange tables variables table) (update_change tables variables table place sets filter)
  unfolding update_change
  update_kept table place sets filter shows some =
      let scope : Scope = scope_of tables variables (table_row table) in
      let step : List SetColumn → SetColumn → Answer BoundSet = set_of tables variables table place in
      let once = each_once table (λ (set : SetColumn). set.column) set_id step (set_next table place) [] sets in
      let made_some = two_kept (λ made. 0 < length made) (λ made. IsDistinct nat_eq (map set_id made)) (each_after step [] sets) (each_after_some step [] sets some) (record { holds = λ made came. (once.holds made came).1 }) in
      then_kept (λ made. AllByRecursion (OfSet table) made × ((0 < length made) × IsDistinct nat_eq (map set_id made))) (IsChange tables variables table) (each_after step [] sets) _
      (two_kept (AllByRecursion (OfSet table)) (λ made. (0 < length made) × IsDistinct nat_eq (map set_id made)) (each_after step [] sets)
      (each_after_kept (OfSet table) step (set_kept table place shows) [] sets) made_some)
      (λ made fine. then_kept (λ found. IfSome found (IsCondition scope)) (IsChange tables variables table) (optional (condition tables variables place) filter) _
      (optional_kept (IsCondition scope) (condition tables variables place) (condition_kept (table_row table) place shows) filter)
      (λ found holds. let parts = split_sets table made fine.0 in
      ok_kept (IsChange tables variables table) (Update made found) (record { some = fine.1.0; values = parts.0; distinct = fine.1.1; no_key = parts.1 }, holds)))

  -- ---- DELETE

  delete_kept : (table : Schema) (place : Place) (filter : Option Expr) → Shows place (table_row table) → Kept (IsChange tables variables table) (delete_change tables variables place filter)
  unfolding delete_change
  delete_kept table place filter shows =
      then_kept (λ found. IfSome found (IsCondition (scope_of tables variables (table_row table)))) (IsChange tables variables table) (optional (condition tables variables place) filter) _
      (optional_kept (IsCondition (scope_of tables variables (table_row table))) (condition tables variables place) (condition_kept (table_row table) place shows) filter)
      (λ found holds. ok_kept (IsChange tables variables table) (Delete found) holds)

  -- ---- the whole

  -- the table is there: what is left is the change
  then_change : (table : Catalogued) (context : Option BoundExpr) (change : Answer RowChange) → IsThere tables table → IfSome context (IsOf (scope_of tables variables []) Bytes)
      → Kept (IsChange tables variables table.schema) change → Kept (IsWrite tables variables) (change >>= (λ change. Ok (write_to tables variables table.schema context change)))
  then_change table context change here bytes kept =
      then_kept (IsChange tables variables table.schema) (IsWrite tables variables) change _ kept
      (λ change is. ok_kept (IsWrite tables variables) (write_to tables variables table.schema context change) (record { table = table.schema; is = here.found; context = bytes; change = is }))

  insert_well : (context : Option Expr) (name : ObjectName) (columns : Option (List (List ℕ))) (tuples : List (List Expr)) → Kept (IsWrite tables variables) (insert tables variables context name columns tuples)
  unfolding insert
  insert_well context name columns tuples =
      then_kept (IsThere tables) (IsWrite tables variables) (existing_table tables name) _ (existing tables sound name)
      (λ table here. then_kept (λ found. IfSome found (IsOf (scope_of tables variables []) Bytes)) (IsWrite tables variables) (optional (context_of tables variables) context) _ (context_kept context)
      (λ context bytes. then_change table context (insert_change tables variables table.schema columns tuples) here bytes (insert_kept table.schema columns tuples)))

  update_well : (context : Option Expr) (name : ObjectName) (sets : List SetColumn) (from : Option TableSource) (filter : Option Expr) → 0 < length sets
      → Kept (IsWrite tables variables) (update tables variables context name sets from filter)
  unfolding update
  update_well context name sets from filter some =
      then_kept (IsThere tables) (IsWrite tables variables) (existing_table tables name) _ (existing tables sound name)
      (λ table here. after_kept (IsWrite tables variables) (updated_name name from) _
      (λ row. then_kept (λ found. IfSome found (IsOf (scope_of tables variables []) Bytes)) (IsWrite tables variables) (optional (context_of tables variables) context) _ (context_kept context)
      (λ context bytes. then_change table context (update_change tables variables table.schema (row_named row table.schema) sets filter) here bytes
      (update_kept table.schema (row_named row table.schema) sets filter (row_shows row table.schema) some))))

  delete_well : (context : Option Expr) (name : ObjectName) (filter : Option Expr) → Kept (IsWrite tables variables) (delete tables variables context name filter)
  unfolding delete
  delete_well context name filter =
      then_kept (IsThere tables) (IsWrite tables variables) (existing_table tables name) _ (existing tables sound name)
      (λ table here. then_kept (λ found. IfSome found (IsOf (scope_of tables variables []) Bytes)) (IsWrite tables variables) (optional (context_of tables variables) context) _ (context_kept context)
      (λ context bytes. then_change table context (delete_change tables variables (row_named (last_part name) table.schema) filter) here bytes
      (delete_kept table.schema (row_named (last_part name) table.schema) filter (row_shows (last_part name) table.schema))))

  pub write_kept : (context : Option Expr) (write : WriteStmt) → SetsSome write → Kept (IsWrite tables variables) (write_of tables variables context write)
  unfolding write_of
  write_kept context (write.Insert table columns tuples) some = insert_well context table columns tuples
  write_kept context (write.Update table sets from filter) some = update_well context table sets from filter some
  write_kept context (write.Delete table filter) some = delete_well context table filter
