-- What a write refuses has its cause.
use Rattle.std.proofs.Common.{◌≡◌, ℕ, ◌<◌, Bool, true, false, nat_le, codes, List, length, map, Option, Some, None, Ok, Err, if◌then◌else◌, inl, inr, refl, ap, arith}
use Rattle.std.specs.List.{Contains}
use Rattle.std.proofs.lemmas.Bool.Decides.{nat_tests}
use Rattle.ct_types.specs.declared.bound.BoundExpr.{BoundExpr}
use Rattle.ct_types.specs.declared.bound.BoundSet.{BoundSet}
use Rattle.ct_types.specs.declared.bound.BoundWrite.{BoundWrite}
use Rattle.ct_types.specs.declared.bound.RowChange.{RowChange}
use Rattle.ct_types.specs.declared.bound.RowChange.TheVariants.{Insert, Update, Delete}
use Rattle.ct_types.specs.declared.catalogue.Catalogued.{Catalogued}
use Rattle.ct_types.specs.declared.refusal.Refusal.TheVariants.{TooLong}
use Rattle.ct_types.specs.declared.schema.Schema.{Schema}
use Rattle.ct_types.specs.declared.value.Row.{Row}
use Rattle.ct_types.specs.declared.value.Value.{Value}
use Rattle.ct_types.specs.declared.value.Value.TheVariants.{Null, Int, Text, Bytes}
use Rattle.ct_types.specs.Answers.{◌>>=◌}
use Rattle.ct_types.proofs.AnswersCaused.{Caused, ok_caused, err_caused, weaker, then_caused, after_caused}
use Rattle.ct_expr.specs.Meaning.{World, on, value}
use Rattle.ct_write.specs.Rows.{no_row, targets, inserted, updated, changes_of}
use Rattle.ct_write.specs.Writes.{fit_context, context_of, fitted, writes_of}
use Rattle.ct_refusal_laws.specs.Laws.{WritesRefuse}
use Rattle.ct_refusal_laws.specs.Overflows.{Overflows}
use Rattle.ct_refusal_laws.specs.Queries.{SomeOverflows}
use Rattle.ct_refusal_laws.specs.Writes.{ContextRefuses, ChangeOverflows, WriteRefuses}
use Rattle.ct_refusal_laws.proofs.Answers.{By, for_that, value_by, filter_by, values_by}
use Rattle.ct_refusal_laws.proofs.Fitting.{first_misfit}
use Rattle.ct_refusal_laws.proofs.Steps.{each_member_caused}

-- ---- the context

far : (n : ℕ) → nat_le n 128 ≡ false → 128 < n
far n e = grind (arith, nat_tests)

module _ (w : World) where
  bytes_caused : (expr : BoundExpr) (bytes : List ℕ) → value (on w no_row) expr ≡ Ok (Bytes bytes) → Caused (ContextRefuses w (Some expr)) (fit_context (Bytes bytes))
  bytes_caused expr bytes comes =
      let step : (b : Bool) → nat_le (length bytes) 128 ≡ b
      → Caused (ContextRefuses w (Some expr)) (if b then Ok (Some bytes) else Err (TooLong (codes "CHANGE_TRACKING_CONTEXT"))) =
      elim [
        | true ↦ (λ e. ok_caused (Some bytes))
        | false ↦ (λ e. err_caused (TooLong (codes "CHANGE_TRACKING_CONTEXT")) (inr (refl, (bytes, comes, far (length bytes) e))))
      ] in
      step (nat_le (length bytes) 128) refl

  fit_caused : (expr : BoundExpr) (v : Value) → value (on w no_row) expr ≡ Ok v → Caused (ContextRefuses w (Some expr)) (fit_context v)
  fit_caused expr (Bytes bytes) comes = bytes_caused expr bytes comes
  fit_caused expr Null comes = ok_caused None
  fit_caused expr (Int n) comes = ok_caused None
  fit_caused expr (Text t) comes = ok_caused None

  context_caused : (context : Option BoundExpr) → Caused (ContextRefuses w context) (context_of w context)
  context_caused None = ok_caused None
  context_caused (Some expr) =
      after_caused (value (on w no_row) expr) fit_context (weaker (value (on w no_row) expr) (λ refusal why. inl why) (value_by (on w no_row) expr)) (λ v comes. fit_caused expr v comes)

  -- ---- what is evaluated

  inserted_by : (schema : Schema) (columns : List ℕ) (tuple : List BoundExpr) → Caused (By (SomeOverflows w no_row tuple)) (inserted w schema columns tuple)
  inserted_by schema columns tuple = then_caused _ _ (values_by w no_row tuple) (λ values. ok_caused _)

  updated_by : (schema : Schema) (sets : List BoundSet) (row : Row) → Caused (By ((set : BoundSet) × Contains sets set × Overflows (on w row) set.value)) (updated w schema sets row)
  updated_by schema sets row =
      then_caused _ _ (each_member_caused (λ set. value (on w row) set.value) sets (λ set is. for_that (value (on w row) set.value) (λ why. (set, is, why)) (value_by (on w row) set.value))) (λ values. ok_caused _)

  changes_by : (schema : Schema) (change : RowChange) (rows : List Row) → Caused (By (ChangeOverflows w change rows)) (changes_of w schema change rows)
  changes_by schema (Insert columns tuples) rows =
      each_member_caused (inserted w schema columns) tuples (λ tuple is. for_that (inserted w schema columns tuple) (λ why. (tuple, is, why)) (inserted_by schema columns tuple))
  changes_by schema (Update sets filter) rows =
      after_caused (targets w filter rows) _ (for_that (targets w filter rows) (λ why. inl why) (filter_by w filter rows))
      (λ chosen are. each_member_caused (updated w schema sets) chosen (λ row is. for_that (updated w schema sets row) (λ why. inr (chosen, are, (row, is, why))) (updated_by schema sets row)))
  changes_by schema (Delete filter) rows = then_caused _ _ (filter_by w filter rows) (λ chosen. ok_caused _)

  -- ---- the whole

  writes_caused : (table : Catalogued) (bound : BoundWrite) (rows : List Row) → Caused (WriteRefuses w table bound rows) (writes_of w table bound rows)
  unfolding writes_of
  writes_caused table bound rows =
      then_caused (context_of w bound.context) _ (weaker (context_of w bound.context) (λ refusal why. inl why) (context_caused bound.context))
      (λ context. after_caused (changes_of w table.schema bound.change rows) _
      (weaker (changes_of w table.schema bound.change rows) (λ refusal why. inr (inl why)) (changes_by table.schema bound.change rows))
      (λ changes are. then_caused (fitted table.schema changes) _
      (record {
        holds = λ refusal e. inr (inr (
          map (λ changed. changed.row) changes,
          ap (λ answer. answer >>= (λ changes. Ok (map (λ changed. changed.row) changes))) are,
          first_misfit table.schema.columns (λ changed. changed.row) changes refusal e,
        ));
      })
      (λ passed. ok_caused _)))

pub writes_refuse : WritesRefuse
writes_refuse w table bound rows refusal e = (writes_caused w table bound rows).holds refusal e
