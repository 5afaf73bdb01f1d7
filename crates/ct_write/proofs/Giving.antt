-- What a statement comes to by what its steps came to.
use Rattle.std.proofs.Common.{◌≡◌, ◌≢◌, ℕ, List, [], map, Option, Some, Result, Ok, Err, refl, sym, ap, ◌∙◌, subst}
use Rattle.std.specs.List.{AllByRecursion}
use Rattle.ct_types.specs.declared.bound.BoundExpr.{BoundExpr}
use Rattle.ct_types.specs.declared.bound.BoundSet.{BoundSet}
use Rattle.ct_types.specs.declared.bound.BoundWrite.{BoundWrite}
use Rattle.ct_types.specs.declared.bound.RowChange.{RowChange}
use Rattle.ct_types.specs.declared.bound.RowChange.TheVariants.{Update}
use Rattle.ct_types.specs.declared.catalogue.Catalogued.{Catalogued}
use Rattle.ct_types.specs.declared.entry.Write.{Write}
use Rattle.ct_types.specs.declared.refusal.Refusal.{Refusal}
use Rattle.ct_types.specs.declared.refusal.Refusal.TheVariants.{Memory}
use Rattle.ct_types.specs.declared.schema.Column.{Column}
use Rattle.ct_types.specs.declared.schema.Schema.{Schema}
use Rattle.ct_types.specs.declared.value.Key.{Key}
use Rattle.ct_types.specs.declared.value.Row.{Row}
use Rattle.ct_types.specs.declared.value.Value.{Value}
use Rattle.ct_model.specs.Tables.{key_of}
use Rattle.ct_model.proofs.Members.{all_map}
use Rattle.ct_expr.specs.Conditions.{only}
use Rattle.ct_expr.specs.Meaning.{World, on, value, holds}
use Rattle.ct_types.specs.Answers.{Gives, ◌>>=◌, each}
use Rattle.ct_write.specs.declared.changes.Changed.{Changed}
use Rattle.ct_write.specs.Fitting.{fit_row, IsFit}
use Rattle.ct_write.specs.Rows.{assigned, nulls, inserted, updated, changes_of}
use Rattle.ct_write.specs.Steps.{in_turn}
use Rattle.ct_write.specs.Writes.{Context, context_of, write_of, fitted, writes_of}

abbrev row_of : List Value → Row
row_of values = record { 0 = values }

-- a tuple came to this row
pub inserted_as : (w : World) (schema : Schema) (columns : List ℕ) (tuple : List BoundExpr) (none values row : List Value) (key : Key) → none ≡ []
    → each (value (on w (record { 0 = none }))) tuple ≡ Ok values → row ≡ assigned columns values (nulls schema.columns) → key ≡ key_of schema (record { 0 = row })
    → inserted w schema columns tuple ≡ Ok (record { key = key; row = Some (record { 0 = row }) })
inserted_as w schema columns tuple none values row key empty came made its =
    let came_here : each (value (on w (record { 0 = [] }))) tuple ≡ Ok values = ap (λ (vs : List Value). each (value (on w (row_of vs))) tuple) (sym empty) ∙ came in
    rw (came_here, its, made) refl

-- the changes came to these, of which one does not fit
pub refused_fit : (w : World) (table : Catalogued) (bound : BoundWrite) (rows : List Row) (context : Context) (changes slice : List Changed) (columns : List Column) (e : Refusal)
    → context_of w bound.context ≡ Ok context → changes_of w table.schema bound.change rows ≡ Ok changes → columns ≡ table.schema.columns → slice ≡ changes
    → Gives (in_turn (λ changed. fit_row columns changed.row) slice) (Err e) → Gives (writes_of w table bound rows) (Err e)
unfolding writes_of
refused_fit w table bound rows context changes slice columns e context_was changes_were is are g other =
    let fit : fitted table.schema changes ≡ Err e =
    ap (λ (cs : List Column). in_turn (λ changed. fit_row cs changed.row) changes) (sym is) ∙ (ap (in_turn (λ changed. fit_row columns changed.row)) (sym are) ∙ g other) in
    rw (context_was, changes_were, fit) refl

-- the writes of changes that fit have rows that fit
pub writes_fit : (table : Catalogued) (change : RowChange) (context : Context) (changes slice : List Changed) (columns : List Column) (made : List Write)
    → columns ≡ table.schema.columns → slice ≡ changes → AllByRecursion (λ changed. IsFit columns changed.row) slice
    → made ≡ map (write_of table change context) changes → AllByRecursion (λ write. IsFit table.schema.columns write.row) made
writes_fit table change context changes slice columns made is are fit made_are =
    let here : AllByRecursion (λ changed. IsFit table.schema.columns changed.row) changes =
    subst (λ (cs : List Column). AllByRecursion (λ changed. IsFit cs changed.row) changes) is (subst (AllByRecursion (λ changed. IsFit columns changed.row)) are fit) in
    subst (AllByRecursion (λ write. IsFit table.schema.columns write.row)) (sym made_are) (all_map _ _ (write_of table change context) (λ x fits. fits) changes here)

-- ---- the rows that an UPDATE changes

-- the rows on which WHERE is true were refused
pub update_refused : (w : World) (schema : Schema) (change : RowChange) (sets : List BoundSet) (filter : Option BoundExpr) (rows : List Row) (refusal : Refusal) → change ≡ Update sets filter
    → (refusal ≢ Memory → only (holds w filter) rows ≡ Err refusal) → Gives (changes_of w schema change rows) (Err refusal)
update_refused w schema change sets filter rows refusal is told = rw is (λ other. ap (λ chosen. chosen >>= each (updated w schema sets)) (told other))

-- or they were found
pub update_made : (w : World) (schema of : Schema) (change : RowChange) (sets listed : List BoundSet) (filter : Option BoundExpr) (rows all lent : List Row) (result : Result (List Changed) Refusal)
    → change ≡ Update sets filter → only (holds w filter) rows ≡ Ok all → of ≡ schema → listed ≡ sets → lent ≡ all → Gives (each (updated w of listed) lent) result
    → Gives (changes_of w schema change rows) result
update_made w schema of change sets listed filter rows all lent result is found schema_is sets_are rows_are gives =
    let here : Gives (each (updated w schema sets) all) result =
    subst (λ rows. Gives (each (updated w schema sets) rows) result) rows_are
    (subst (λ (sets : List BoundSet). Gives (each (updated w schema sets) lent) result) sets_are (subst (λ (schema : Schema). Gives (each (updated w schema listed) lent) result) schema_is gives)) in
    rw (is, found) here
