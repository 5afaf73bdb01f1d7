-- What a SELECT refuses is Overflow in one of its expressions.
use Rattle.std.proofs.Common.{◌≡◌, Bool, List, Option, Some, None, Ok, inl, inr}
use Rattle.std.specs.List.{Contains}
use Rattle.ct_types.specs.declared.bound.BoundExpr.{BoundExpr}
use Rattle.ct_types.specs.declared.bound.Join.{Join}
use Rattle.ct_types.specs.declared.bound.Join.TheVariants.{One, Inner, Left, Right, Apply}
use Rattle.ct_types.specs.declared.bound.Plan.{Plan}
use Rattle.ct_types.specs.declared.refusal.Refusal.{Refusal}
use Rattle.ct_types.specs.declared.refusal.Refusal.TheVariants.{Overflow}
use Rattle.ct_types.specs.declared.value.Row.{Row}
use Rattle.ct_types.specs.declared.value.Value.{Value}
use Rattle.ct_types.specs.Answers.{Answer, each}
use Rattle.ct_types.proofs.AnswersCaused.{Caused, ok_caused, weaker, then_caused, after_caused}
use Rattle.ct_expr.specs.Conditions.{only}
use Rattle.ct_expr.specs.Meaning.{World, Scene, on, value, truth, holds}
use Rattle.ct_query.specs.Answer.{joined_rows, values_on, keys_on, with_items, shown, answer_over, answer}
use Rattle.ct_query.specs.Joins.{Joined, pair, row_of, with_right, with_left, joined}
use Rattle.ct_refusal_laws.specs.Overflows.{Overflows}
use Rattle.ct_refusal_laws.specs.Queries.{ConditionOverflows, FilterOverflows, SomeOverflows, OnOverflows, OrderOverflows, ShownOverflows, RowsOverflow, AnswerOverflows}
use Rattle.ct_refusal_laws.specs.Laws.{AnswersRefuseOverflow}
use Rattle.ct_refusal_laws.proofs.Evaluation.{values_refuse_overflow, truths_refuse_overflow}
use Rattle.ct_refusal_laws.proofs.Steps.{only_caused, only_made_caused, all_of_caused, each_member_caused}

-- Overflow, for this reason
abbrev pub By : Type 0 → Refusal → Type 0
By Why refusal = (refusal ≡ Overflow) × Why

pub for_that : {A Why Other : Type 0} (answer : Answer A) → (Why → Other) → Caused (By Why) answer → Caused (By Other) answer
for_that answer go caused = weaker answer (λ refusal by. (by.0, go by.1)) caused

pub value_by : (s : Scene) (x : BoundExpr) → Caused (By (Overflows s x)) (value s x)
value_by s x = record { holds = λ refusal e. values_refuse_overflow s x refusal e }

truth_by : (s : Scene) (x : BoundExpr) → Caused (By (Overflows s x)) (truth s x)
truth_by s x = record { holds = λ refusal e. truths_refuse_overflow s x refusal e }

pub holds_by : (world : World) (filter : Option BoundExpr) (row : Row) → Caused (By (ConditionOverflows world filter row)) (holds world filter row)
holds_by world None row = ok_caused _
holds_by world (Some condition) row = then_caused _ _ (truth_by (on world row) condition) (λ t. ok_caused _)

pub filter_by : (world : World) (filter : Option BoundExpr) (rows : List Row) → Caused (By (FilterOverflows world filter rows)) (only (holds world filter) rows)
filter_by world filter rows = only_caused (holds world filter) rows (λ row is. for_that (holds world filter row) (λ why. (row, is, why)) (holds_by world filter row))

pub values_by : (world : World) (row : Row) (exprs : List BoundExpr) → Caused (By (SomeOverflows world row exprs)) (each (value (on world row)) exprs)
values_by world row exprs = each_member_caused (value (on world row)) exprs (λ x is. for_that (value (on world row) x) (λ why. (x, is, why)) (value_by (on world row) x))

-- ---- FROM

module _ (world : World) (plan : Plan) where
  abbrev test : Joined → Answer Bool
  test one = holds world plan.on (row_of plan.left plan.right one)

  pair_by : (lefts rights : List Row) (left right : Row) → Contains lefts left → Contains rights right → Caused (By (OnOverflows world plan lefts rights)) (test (pair left right))
  pair_by lefts rights left right first second =
      for_that (test (pair left right)) (λ why. (left, first, (right, second, why))) (holds_by world plan.on (row_of plan.left plan.right (pair left right)))

  rights_by : (lefts rights : List Row) (left : Row) → Contains lefts left → Caused (By (OnOverflows world plan lefts rights)) (with_right test rights left)
  rights_by lefts rights left first = only_made_caused test (pair left) rights (λ right second. pair_by lefts rights left right first second)

  lefts_by : (lefts rights : List Row) (right : Row) → Contains rights right → Caused (By (OnOverflows world plan lefts rights)) (with_left test lefts right)
  lefts_by lefts rights right second = only_made_caused test (λ left. pair left right) lefts (λ left first. pair_by lefts rights left right first second)

  joined_by : (join : Join) (lefts rights : List Row) → Caused (By (OnOverflows world plan lefts rights)) (joined join plan.left test lefts rights)
  joined_by One lefts rights = ok_caused _
  joined_by Inner lefts rights = all_of_caused (with_right test rights) lefts (λ left first. rights_by lefts rights left first)
  joined_by Left lefts rights = all_of_caused _ lefts (λ left first. then_caused _ _ (rights_by lefts rights left first) (λ found. ok_caused _))
  joined_by Right lefts rights = all_of_caused _ rights (λ right second. then_caused _ _ (lefts_by lefts rights right second) (λ found. ok_caused _))
  joined_by Apply lefts rights = ok_caused _

  rows_by : (lefts rights : List Row) → Caused (By (OnOverflows world plan lefts rights)) (joined_rows world plan lefts rights)
  rows_by lefts rights = then_caused _ _ (joined_by plan.join lefts rights) (λ made. ok_caused _)

  -- ---- what is shown

  keys_by : (row : Row) (values : List Value) → values_on world row plan.items ≡ Ok values → Caused (By (OrderOverflows world plan row)) (keys_on world (with_items row values) plan.order)
  keys_by row values are =
      each_member_caused (λ part. value (on world (with_items row values)) part.expr) plan.order
      (λ part is. for_that (value (on world (with_items row values)) part.expr) (λ why. (values, are, (part, is, why))) (value_by (on world (with_items row values)) part.expr))

  shown_by : (row : Row) → Caused (By (ShownOverflows world plan row)) (shown world plan row)
  shown_by row =
      after_caused (values_on world row plan.items) _ (for_that (values_on world row plan.items) (λ why. inl why) (values_by world row plan.items))
      (λ values are. then_caused (keys_on world (with_items row values) plan.order) _ (for_that (keys_on world (with_items row values) plan.order) (λ why. inr why) (keys_by row values are)) (λ keys. ok_caused _))

  over_by : (rows : List Row) → Caused (By (RowsOverflow world plan rows)) (answer_over world plan rows)
  over_by rows =
      after_caused (only (holds world plan.filter) rows) _ (for_that (only (holds world plan.filter) rows) (λ why. inl why) (filter_by world plan.filter rows))
      (λ kept are. then_caused (each (shown world plan) kept) _
      (each_member_caused (shown world plan) kept (λ row is. for_that (shown world plan row) (λ why. inr (kept, are, (row, is, why))) (shown_by row))) (λ all. ok_caused _))

  answer_by : (lefts rights : List Row) → Caused (By (AnswerOverflows world plan lefts rights)) (answer world plan lefts rights)
  unfolding answer
  answer_by lefts rights =
      after_caused (joined_rows world plan lefts rights) (answer_over world plan) (for_that (joined_rows world plan lefts rights) (λ why. inl why) (rows_by lefts rights))
      (λ rows are. for_that (answer_over world plan rows) (λ why. inr (rows, are, why)) (over_by rows))

pub answers_refuse_overflow : AnswersRefuseOverflow
answers_refuse_overflow world plan lefts rights refusal e = (answer_by world plan lefts rights).holds refusal e
