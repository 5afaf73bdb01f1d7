-- Which rows are enough: all of them, and those with the value that the condition pins a column to.
use Rattle.std.proofs.Common.{◌≡◌, ℕ, zero, suc, ◌+◌, ◌-◌, ◌<◌, ◌≤◌, nat_lt, Bool, true, false, List, [], ◌∷◌, ◌++◌, length, Option, Some, None, Ok, refl, sym, ap, ◌∙◌, if◌then◌else◌, arith, tests}
use Rattle.std.specs.List.{AllByRecursion, filter, slice_get}
use Rattle.std.specs.Ordering.{is_eq}
use Rattle.ct_types.proofs.Lists.{all_everywhere}
use Rattle.ct_types.specs.Answers.{Answer}
use Rattle.ct_types.specs.Order.{value_cmp}
use Rattle.ct_types.specs.declared.bound.BoundExpr.{BoundExpr}
use Rattle.ct_types.specs.declared.value.Row.{Row}
use Rattle.ct_types.specs.declared.value.Value.{Value}
use Rattle.ct_model.proofs.Members.{all_weaken}
use Rattle.ct_source.proofs.OneColumn.{filter_same}
use Rattle.ct_source.specs.Cells.{or_null, has_value}
use Rattle.ct_expr.specs.Conditions.{only}
use Rattle.ct_expr.specs.Environment.{Environment}
use Rattle.ct_expr.specs.Meaning.{holds}
use Rattle.ct_expr.specs.Numbers.{is_null}
use Rattle.ct_scan.specs.Readings.{pinned}
use Rattle.ct_scan.specs.Seen.{Seen, nothing, Agrees}
use Rattle.ct_scan.specs.Steps.{with_pinned}
use Rattle.ct_scan.proofs.Filtering.{never_null, pinned_over, pinned_rows}
use Rattle.ct_scan.specs.Enough.{AreEnough, AreEnoughLefts, AreEnoughRights, pair_row}

-- what is seen of a row that stands from a place on
abbrev pub seen_from : ℕ → Row → Seen
seen_from from row = record { from = from; values = row.0 }

-- ---- all rows

pub all_are_enough : (env : Environment) (condition : Option BoundExpr) (all some : List Row) → some ≡ all → AreEnough env condition all some
all_are_enough env condition all some same world is = ap (λ (rows : List Row). only (holds world condition) rows) same

pub all_are_lefts : (env : Environment) (on : Option BoundExpr) (right : Row) (all some : List Row) → some ≡ all → AreEnoughLefts env on right all some
all_are_lefts env on right all some same world is = ap (λ (rows : List Row). only (λ left. holds world on (pair_row left right)) rows) same

pub all_are_rights : (env : Environment) (on : Option BoundExpr) (left : Row) (all some : List Row) → some ≡ all → AreEnoughRights env on left all some
all_are_rights env on left all some same world is = ap (λ (rows : List Row). only (λ right. holds world on (pair_row left right)) rows) same

-- ---- rows with the pinned value

pub pinned_are_enough : (env : Environment) (at : ℕ) (condition : BoundExpr) (v : Value) (all some : List Row)
    → pinned env nothing at condition ≡ Some v → some ≡ filter (has_value at v) all → AreEnough env (Some condition) all some
pinned_are_enough env at condition v all some pins same world is =
    let here : pinned world.env nothing at condition ≡ Some v = ap (λ (e : Environment). pinned e nothing at condition) is ∙ pins in
    ap (λ (rows : List Row). only (holds world (Some condition)) rows) same ∙ sym (pinned_rows world at condition v all here)

-- ---- the values of two rows side by side

in_front : (xs ys : List Value) (i : ℕ) → i < length xs → slice_get (xs ++ ys) i ≡ slice_get xs i
in_front [] ys i within = absurd (omega arith)
in_front (x ∷ xs) ys zero within = refl
in_front (x ∷ xs) ys (suc i) within = in_front xs ys i (omega arith)

found_in_front : (xs ys : List Value) (i : ℕ) (x : Value) → slice_get xs i ≡ Some x → slice_get (xs ++ ys) i ≡ Some x
found_in_front [] ys i x e = absurd cc
found_in_front (y ∷ xs) ys zero x e = e
found_in_front (y ∷ xs) ys (suc i) x e = found_in_front xs ys i x e

behind : (xs ys : List Value) (i : ℕ) → slice_get (xs ++ ys) (i + length xs) ≡ slice_get ys i
behind [] ys i = ap (slice_get ys) (let e : i + 0 ≡ i = omega arith in e)
behind (x ∷ xs) ys i = ap (slice_get (x ∷ xs ++ ys)) (let e : i + suc (length xs) ≡ suc (i + length xs) = omega arith in e) ∙ behind xs ys i

-- what is known at a place that is not before the others
known_behind : (place from : ℕ) (b : Bool) (o : Option Value) (v : Value) → nat_lt place from ≡ b → (if b then None else o) ≡ Some v → (from ≤ place) × (o ≡ Some v)
known_behind place from true o v is e = absurd cc
known_behind place from false o v is e = (search (tests, arith), e)

right_agrees : (columns : ℕ) (right left : Row) → length left.0 ≡ columns → Agrees (seen_from columns right) (pair_row left right)
right_agrees columns right left whole place v e =
    let known = known_behind place columns (nat_lt place columns) (slice_get right.0 (place - columns)) v refl e in
    let past : columns ≤ place = known.0 in
    let apart : place ≡ (place - columns) + length left.0 = omega arith in
    ap (λ n. or_null (slice_get (left.0 ++ right.0) n)) apart ∙ ap or_null (behind left.0 right.0 (place - columns)) ∙ ap or_null known.1

left_agrees : (left right : Row) → Agrees (seen_from 0 left) (pair_row left right)
left_agrees left right place v e =
    let known = known_behind place 0 (nat_lt place 0) (slice_get left.0 (place - 0)) v refl e in
    let same : place ≡ place - 0 = omega arith in
    ap (λ n. or_null (slice_get (left.0 ++ right.0) n)) same ∙ ap or_null (found_in_front left.0 right.0 (place - 0) v known.1)

-- ---- partners

-- what a test keeps of the rows that are to be asked is what it keeps of all, where it keeps none if the value is NULL, and else those
-- that have it
asked_alone : (test : Row → Answer Bool) (at : ℕ) (o : Option Value) (all some : List Row) → some ≡ with_pinned at o all
    → ((v : Value) → o ≡ Some v → is_null v ≡ true → only test all ≡ Ok []) → ((v : Value) → o ≡ Some v → only test all ≡ only test (filter (has_value at v) all))
    → only test some ≡ only test all
asked_alone test at None all some same none kept = ap (only test) same
asked_alone test at (Some v) all some same none kept = by (is_null v) refl same
  where
    by : (b : Bool) → is_null v ≡ b → some ≡ (if b then [] else filter (has_value at v) all) → only test some ≡ only test all
    by true null same = ap (only test) same ∙ sym (none v refl null)
    by false null same = ap (only test) same ∙ sym (kept v refl)

pub pinned_are_lefts : (env : Environment) (columns at : ℕ) (on : BoundExpr) (right : Row) (all some : List Row)
    → at < columns → AllByRecursion (λ (left : Row). length left.0 ≡ columns) all
    → some ≡ with_pinned at (pinned env (seen_from columns right) at on) all → AreEnoughLefts env (Some on) right all some
pinned_are_lefts env columns at on right all some within whole same world is =
    asked_alone (λ left. holds world (Some on) (pair_row left right)) at (pinned env (seen_from columns right) at on) all some same
    (λ v pins null. never_null world (seen_from columns right) at on v (λ left. pair_row left right) all agree (here v pins) null)
    (λ v pins.
    pinned_over world (seen_from columns right) at on v (λ left. pair_row left right) all agree (here v pins)
    ∙ ap (λ (rows : List Row). only (λ left. holds world (Some on) (pair_row left right)) rows) (filter_same (λ left. has_value at v (pair_row left right)) (has_value at v) all (alike v)))
  where
    here : (v : Value) → pinned env (seen_from columns right) at on ≡ Some v → pinned world.env (seen_from columns right) at on ≡ Some v
    here v pins = ap (λ (e : Environment). pinned e (seen_from columns right) at on) is ∙ pins

    agree : AllByRecursion (λ (left : Row). Agrees (seen_from columns right) (pair_row left right)) all
    agree = all_weaken (λ (left : Row). length left.0 ≡ columns) (λ (left : Row). Agrees (seen_from columns right) (pair_row left right)) (λ left wide. right_agrees columns right left wide) all whole

    front_value : (v : Value) (left : Row) → length left.0 ≡ columns → has_value at v (pair_row left right) ≡ has_value at v left
    front_value v left wide =
        let inside : at < length left.0 = omega arith in
        ap (λ (o : Option Value). is_eq (value_cmp (or_null o) v)) (in_front left.0 right.0 at inside)

    alike : (v : Value) → AllByRecursion (λ (left : Row). has_value at v (pair_row left right) ≡ has_value at v left) all
    alike v = all_weaken (λ (left : Row). length left.0 ≡ columns) (λ (left : Row). has_value at v (pair_row left right) ≡ has_value at v left) (λ left wide. front_value v left wide) all whole

pub pinned_are_rights : (env : Environment) (at place : ℕ) (on : BoundExpr) (left : Row) (all some : List Row)
    → place ≡ at + length left.0 → some ≡ with_pinned at (pinned env (seen_from 0 left) place on) all → AreEnoughRights env (Some on) left all some
pinned_are_rights env at place on left all some behind_left same world is =
    asked_alone (λ right. holds world (Some on) (pair_row left right)) at (pinned env (seen_from 0 left) place on) all some same
    (λ v pins null. never_null world (seen_from 0 left) place on v (λ right. pair_row left right) all agree (here v pins) null)
    (λ v pins.
    pinned_over world (seen_from 0 left) place on v (λ right. pair_row left right) all agree (here v pins)
    ∙ ap (λ (rows : List Row). only (λ right. holds world (Some on) (pair_row left right)) rows) (filter_same (λ right. has_value place v (pair_row left right)) (has_value at v) all (alike v)))
  where
    here : (v : Value) → pinned env (seen_from 0 left) place on ≡ Some v → pinned world.env (seen_from 0 left) place on ≡ Some v
    here v pins = ap (λ (e : Environment). pinned e (seen_from 0 left) place on) is ∙ pins

    agree : AllByRecursion (λ (right : Row). Agrees (seen_from 0 left) (pair_row left right)) all
    agree = all_everywhere (λ (right : Row). Agrees (seen_from 0 left) (pair_row left right)) (λ right. left_agrees left right) all

    back_value : (v : Value) (right : Row) → has_value place v (pair_row left right) ≡ has_value at v right
    back_value v right =
        ap (λ (n : ℕ). has_value n v (pair_row left right)) behind_left ∙ ap (λ (o : Option Value). is_eq (value_cmp (or_null o) v)) (behind left.0 right.0 at)

    alike : (v : Value) → AllByRecursion (λ (right : Row). has_value place v (pair_row left right) ≡ has_value at v right) all
    alike v = all_everywhere (λ (right : Row). has_value place v (pair_row left right) ≡ has_value at v right) (λ right. back_value v right) all
