-- The rows that a write comes to fit the columns of its table.
use Rattle.std.proofs.Common.{◌≡◌, ℕ, zero, suc, ◌-◌, ◌++◌, nat_le, List, [], ◌∷◌, map, length, Option, None, Ok, subst}
use Rattle.std.proofs.Math.ListN.{set}
use Rattle.std.specs.List.{AllByRecursion}
use Rattle.ct_types.specs.declared.bound.BoundExpr.{BoundExpr}
use Rattle.ct_types.specs.declared.bound.BoundSet.{BoundSet}
use Rattle.ct_types.specs.declared.bound.BoundWrite.{BoundWrite}
use Rattle.ct_types.specs.declared.bound.RowChange.{RowChange}
use Rattle.ct_types.specs.declared.bound.RowChange.TheVariants.{Insert, Update, Delete}
use Rattle.ct_types.specs.declared.catalogue.Catalogued.{Catalogued}
use Rattle.ct_types.specs.declared.catalogue.Variable.{Variable}
use Rattle.ct_types.specs.declared.entry.Write.{Write}
use Rattle.ct_types.specs.declared.expr.Expr.{Expr}
use Rattle.ct_types.specs.declared.refusal.Refusal.TheVariants.{TooMany}
use Rattle.ct_types.specs.declared.schema.Column.{Column}
use Rattle.ct_types.specs.declared.schema.Schema.{Schema}
use Rattle.ct_types.specs.declared.stmt.SetColumn.{SetColumn}
use Rattle.ct_types.specs.declared.stmt.WriteStmt.{WriteStmt}
use Rattle.ct_types.specs.declared.stmt.WriteStmt.TheVariants as write
use Rattle.ct_types.specs.declared.value.Row.{Row}
use Rattle.ct_types.specs.declared.value.Value.{Value}
use Rattle.ct_types.specs.Answers.{Answer, ◌>>=◌, optional, each, each_after}
use Rattle.ct_types.proofs.AnswersKept.{Kept, ok_kept, then_kept, after_kept, demand_kept}
use Rattle.ct_types.proofs.Lists.{all_everywhere}
use Rattle.ct_model.specs.declared.db.Table.{Table}
use Rattle.ct_model.specs.Tables.{catalogued}
use Rattle.ct_model.proofs.Members.{all_map}
use Rattle.ct_bind_names.specs.Names.{last_part}
use Rattle.ct_bind_names.specs.Catalogue.{existing_table}
use Rattle.ct_bind_expr.specs.declared.place.Place.{Place}
use Rattle.ct_bind_expr.specs.Places.{of_kind, closed}
use Rattle.ct_bind_expr.specs.Walk.{walk}
use Rattle.ct_bind.specs.Sources.{condition}
use Rattle.ct_bind.specs.Writes.{insert_targets, set_target, updated_name, row_named, context_of, tuple_of, insert_change, set_of, update_change, delete_change, write_to, insert, update, delete, write_of}
use Rattle.ct_expr.specs.Meaning.{World, on, value}
use Rattle.ct_write.specs.Fitting.{fit_row, IsFit}
use Rattle.ct_write.specs.Rows.{no_row, assigned, nulls, set_columns, targets, inserted, updated, deleted, with_its_key, with_key_of, changes_of}
use Rattle.ct_write.specs.Steps.{in_turn}
use Rattle.ct_write.specs.Writes as writing
use Rattle.ct_write.proofs.Parts.{came, same_ok, parts_of, each_all, targets_all}
use Rattle.ct_value_laws.specs.Values.{IsRepresentable, AreRepresentable, HaveRepresentable, HoldRepresentable}
use Rattle.ct_value_laws.specs.Texts.{IsOfCodePoints, AreOfCodePoints, WritesCodePoints}
use Rattle.ct_value_laws.specs.Laws.{BoundWritesFit}
use Rattle.ct_value_laws.proofs.Forms.{Sound, AllSound}
use Rattle.ct_value_laws.proofs.Walked.{AllGo, walked_good, operand_kept, tuple_kept}
use Rattle.ct_value_laws.proofs.Fitting.{RowRepresentable, row_fits}

-- ---- answers over what is given

each_given : {A B : Type 0} (P : A → Type 0) (Q : B → Type 0) (step : A → Answer B) → ((a : A) → P a → Kept Q (step a)) → (all : List A) → AllByRecursion P all → Kept (AllByRecursion Q) (each step all)
each_given P Q step go all given = record { holds = λ made e. each_all step P Q (λ x y is was. (go x is).holds y was) all made given e }

each_after_given : {A B : Type 0} (P : A → Type 0) (Q : B → Type 0) (step : List A → A → Answer B) → ((before : List A) (a : A) → P a → Kept Q (step before a)) → (before all : List A) → AllByRecursion P all
    → Kept (AllByRecursion Q) (each_after step before all)
each_after_given P Q step go before [] given = ok_kept (AllByRecursion Q) [] tt
each_after_given P Q step go before (a ∷ more) given =
    then_kept Q (AllByRecursion Q) (step before a) _ (go before a given.0)
    (λ b here. then_kept (AllByRecursion Q) (AllByRecursion Q) (each_after step (before ++ a ∷ []) more) _ (each_after_given P Q step go (before ++ a ∷ []) more given.1)
    (λ made rest. ok_kept (AllByRecursion Q) (b ∷ made) (here, rest)))

-- ---- what is bound

-- the world and a row whose values are representable
module _ (w : World) (held : HoldRepresentable w.env.variables.0) where
  -- each value that is written is representable: of tuples on no row, of a SET list on each such row
  abbrev pub Gives : RowChange → Type 0
  Gives (Insert columns tuples) = AllByRecursion (AllSound (on w no_row)) tuples
  Gives (Update sets filter) = AllByRecursion (λ set. (row : Row) → AreRepresentable row.0 → Sound (on w row) set.value) sets
  Gives (Delete filter) = Unit {0}

  module _ (tables : List Catalogued) (variables : List Variable) where
    all_walked : (xs : List Expr) → AreOfCodePoints xs → AllGo tables variables (on w no_row) tt held closed (map (walk tables variables) xs)
    all_walked [] texts = tt
    all_walked (x ∷ xs) texts = (walked_good tables variables (on w no_row) tt held closed x texts.0, all_walked xs texts.1)

    insert_kept : (table : Schema) (columns : Option (List (List ℕ))) (tuples : List (List Expr)) → AllByRecursion AreOfCodePoints tuples → Kept Gives (insert_change tables variables table columns tuples)
    unfolding insert_change tuple_of
    insert_kept table columns tuples texts =
        after_kept Gives (insert_targets table columns) _
        (λ found. demand_kept Gives (nat_le (length tuples) 1000) (TooMany 1000) _
        (λ _. then_kept (AllByRecursion (AllSound (on w no_row))) Gives (each (tuple_of tables variables found) tuples) _
        (each_given AreOfCodePoints (AllSound (on w no_row)) (tuple_of tables variables found)
        (λ xs all. tuple_kept tables variables (on w no_row) tt held closed (map (λ column. column.kind) found) (map (walk tables variables) xs) (all_walked xs all)) tuples texts)
        (λ rows all. ok_kept Gives (Insert (map (λ column. column.column) found) rows) all)))

    abbrev SetGives : BoundSet → Type 0
    SetGives set = (row : Row) → AreRepresentable row.0 → Sound (on w row) set.value

    set_kept : (table : Schema) (place : Place) (before : List SetColumn) (it : SetColumn) → IsOfCodePoints it.value → Kept SetGives (set_of tables variables table place before it)
    unfolding set_of
    set_kept table place before it texts =
        after_kept SetGives (set_target table before it.column) _
        (λ column. then_kept (λ x. (row : Row) → AreRepresentable row.0 → Sound (on w row) x) SetGives (walk tables variables it.value place >>= of_kind column.kind) _
        (record { holds = λ x came row are. (operand_kept tables variables (on w row) are held column.kind (walk tables variables it.value place) (walked_good tables variables (on w row) are held place it.value texts)).holds x came })
        (λ x good. ok_kept SetGives (record { column = column.column; value = x }) good))

    update_kept : (table : Schema) (place : Place) (sets : List SetColumn) (filter : Option Expr) → AllByRecursion (λ set. IsOfCodePoints set.value) sets → Kept Gives (update_change tables variables table place sets filter)
    unfolding update_change
    update_kept table place sets filter texts =
        then_kept (AllByRecursion SetGives) Gives (each_after (set_of tables variables table place) [] sets) _
        (each_after_given (λ (set : SetColumn). IsOfCodePoints set.value) SetGives (set_of tables variables table place) (set_kept table place) [] sets texts)
        (λ made all. after_kept Gives (optional (condition tables variables place) filter) _ (λ found. ok_kept Gives (Update made found) all))

    delete_kept : (place : Place) (filter : Option Expr) → Kept Gives (delete_change tables variables place filter)
    unfolding delete_change
    delete_kept place filter = after_kept Gives (optional (condition tables variables place) filter) _ (λ found. ok_kept Gives (Delete found) tt)

    abbrev pub WriteGives : BoundWrite → Type 0
    WriteGives it = Gives it.change

    then_change : (table : Catalogued) (context : Option Expr) (change : Answer RowChange) → Kept Gives change
        → Kept WriteGives (optional (context_of tables variables) context >>= (λ context. change >>= (λ change. Ok (write_to tables variables table.schema context change))))
    then_change table context change kept =
        after_kept WriteGives (optional (context_of tables variables) context) _
        (λ context. then_kept Gives WriteGives change _ kept (λ change all. ok_kept WriteGives (write_to tables variables table.schema context change) all))

    pub write_kept : (context : Option Expr) (given : WriteStmt) → WritesCodePoints given → Kept WriteGives (write_of tables variables context given)
    unfolding write_of insert update delete
    write_kept context (write.Insert name columns tuples) texts =
        after_kept WriteGives (existing_table tables name) _
        (λ table. then_change table context (insert_change tables variables table.schema columns tuples) (insert_kept table.schema columns tuples texts))
    write_kept context (write.Update name sets from filter) texts =
        after_kept WriteGives (existing_table tables name) _
        (λ table. after_kept WriteGives (updated_name name from) _
        (λ row. then_change table context (update_change tables variables table.schema (row_named row table.schema) sets filter) (update_kept table.schema (row_named row table.schema) sets filter texts)))
    write_kept context (write.Delete name filter) texts =
        after_kept WriteGives (existing_table tables name) _
        (λ table. then_change table context (delete_change tables variables (row_named (last_part name) table.schema) filter) (delete_kept (row_named (last_part name) table.schema) filter))

  -- ---- the rows that are made

  set_are : (values : List Value) (at : ℕ) (v : Value) → AreRepresentable values → IsRepresentable v → AreRepresentable (set values at v)
  set_are [] at v are is = tt
  set_are (x ∷ values) zero v are is = (is, are.1)
  set_are (x ∷ values) (suc at) v are is = (are.0, set_are values at v are.1 is)

  assigned_are : (ids : List ℕ) (values row : List Value) → AreRepresentable values → AreRepresentable row → AreRepresentable (assigned ids values row)
  assigned_are [] values row are has = has
  assigned_are (id ∷ ids) [] row are has = has
  assigned_are (id ∷ ids) (v ∷ values) row are has = assigned_are ids values (set row (id - 1) v) are.1 (set_are row (id - 1) v has are.0)

  nulls_are : (columns : List Column) → AreRepresentable (nulls columns)
  nulls_are [] = tt
  nulls_are (column ∷ columns) = (tt, nulls_are columns)

  inserted_are : (schema : Schema) (columns : List ℕ) (tuple : List BoundExpr) → AllSound (on w no_row) tuple → Kept (λ changed. RowRepresentable changed.row) (inserted w schema columns tuple)
  inserted_are schema columns tuple good =
      then_kept AreRepresentable (λ changed. RowRepresentable changed.row) (each (value (on w no_row)) tuple) _ (each_given (Sound (on w no_row)) IsRepresentable (value (on w no_row)) (λ x is. is) tuple good)
      (λ values are. ok_kept (λ changed. RowRepresentable changed.row) (with_its_key schema (assigned columns values (nulls schema.columns))) (assigned_are columns values (nulls schema.columns) are (nulls_are schema.columns)))

  updated_are : (schema : Schema) (sets : List BoundSet) (row : Row) → Gives (Update sets None) → AreRepresentable row.0 → Kept (λ changed. RowRepresentable changed.row) (updated w schema sets row)
  updated_are schema sets row good are =
      then_kept AreRepresentable (λ changed. RowRepresentable changed.row) (each (λ set. value (on w row) set.value) sets) _
      (each_given (λ (set : BoundSet). (row : Row) → AreRepresentable row.0 → Sound (on w row) set.value) IsRepresentable (λ set. value (on w row) set.value) (λ set is. is row are) sets good)
      (λ values fine. ok_kept (λ changed. RowRepresentable changed.row) (with_key_of schema row (assigned (set_columns sets) values row.0)) (assigned_are (set_columns sets) values row.0 fine are))

  changes_are : (schema : Schema) (change : RowChange) (rows : List Row) (changes : _) → Gives change → HaveRepresentable rows → changes_of w schema change rows ≡ Ok changes → AllByRecursion (λ changed. RowRepresentable changed.row) changes
  changes_are schema (Insert columns tuples) rows changes good are e = (each_given (AllSound (on w no_row)) (λ changed. RowRepresentable changed.row) (inserted w schema columns) (inserted_are schema columns) tuples good).holds changes e
  changes_are schema (Update sets filter) rows changes good are e =
      let c = came (targets w filter rows) _ changes e in
      (each_given (λ (row : Row). AreRepresentable row.0) (λ changed. RowRepresentable changed.row) (updated w schema sets) (λ row has. updated_are schema sets row good has) c.first (targets_all w filter (λ (row : Row). AreRepresentable row.0) rows c.first are c.was)).holds changes c.next
  changes_are schema (Delete filter) rows changes good are e =
      let c = came (targets w filter rows) _ changes e in
      let made : map (deleted schema) c.first ≡ changes = same_ok _ _ c.next in
      subst (AllByRecursion (λ changed. RowRepresentable changed.row)) made (all_map (λ (row : Row). Unit {0}) (λ changed. RowRepresentable changed.row) (deleted schema) (λ row u. tt) c.first (all_everywhere (λ (row : Row). Unit {0}) (λ row. tt) c.first))

-- ---- those that pass

all_pass : {X : Type 0} (columns : List Column) (row_of : X → Option Row) (xs : List X) (done : Unit {0}) → AllByRecursion (λ x. RowRepresentable (row_of x)) xs
    → in_turn (λ x. fit_row columns (row_of x)) xs ≡ Ok done → AllByRecursion (λ x. IsFit columns (row_of x)) xs
all_pass columns row_of [] done all e = tt
all_pass columns row_of (x ∷ xs) done all e =
    let c = came (fit_row columns (row_of x)) (λ passed. in_turn (λ x. fit_row columns (row_of x)) xs) done e in
    (row_fits columns (row_of x) c.first all.0 c.was, all_pass columns row_of xs done all.1 c.next)

pub writes_fit : (w : World) (table : Table) (bound : BoundWrite) (writes : List Write) → (held : HoldRepresentable w.env.variables.0) → Gives w held bound.change → HaveRepresentable table.rows
    → writing.writes_of w (catalogued table) bound table.rows ≡ Ok writes → AllByRecursion (λ one. IsFit table.schema.columns one.row) writes
writes_fit w table bound writes held good rows wrote =
    let parts = parts_of w (catalogued table) bound table.rows writes wrote in
    let fine = changes_are w held table.schema bound.change table.rows parts.changes good rows parts.changes_were in
    let fit = all_pass table.schema.columns (λ changed. changed.row) parts.changes tt fine parts.fit in
    subst (AllByRecursion (λ (one : Write). IsFit table.schema.columns one.row)) parts.writes_are
    (all_map (λ changed. IsFit table.schema.columns changed.row) (λ (one : Write). IsFit table.schema.columns one.row) (writing.write_of (catalogued table) bound.change parts.context) (λ changed is. is) parts.changes fit)

pub bound_writes_fit : BoundWritesFit
bound_writes_fit tables variables w table given context bound writes texts rows held came_to wrote =
    writes_fit w table bound writes held ((write_kept w held tables variables context given texts).holds bound came_to) rows wrote
