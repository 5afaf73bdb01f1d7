-- The rows that the code joins are those of the definition.
use Rattle.std.proofs.Common.{◌≡◌, Bool, List, [], ◌∷◌, ◌++◌, map, Ok, Err, refl, sym, ap, ◌∙◌, inl, inr, ◌⊎◌, append_assoc}
use Rattle.std.proofs.lemmas.List.{append-nil, map-append}
use Rattle.ct_types.specs.declared.bound.Join.TheVariants.{One, Inner, Left, Right, Apply}
use Rattle.ct_types.specs.declared.bound.Plan.{Plan}
use Rattle.ct_types.specs.declared.refusal.Refusal.{Refusal}
use Rattle.ct_types.specs.declared.value.Row.{Row}
use Rattle.ct_types.specs.Answers.{Answer, ◌>>=◌}
use Rattle.ct_expr.specs.Conditions.{only}
use Rattle.ct_expr.specs.Meaning.{World, holds}
use Rattle.ct_query.specs.Answer.{joined_rows, answer_over, answer}
use Rattle.ct_query.specs.Joins.{Joined, alone, pair, left_only, right_only, row_of, only_source, with_right, with_left, or_else, side_by_side}
use Rattle.ct_scan.specs.Lists.{all_of}
use Rattle.ct_query.specs.declared.side.Side.{Side}
use Rattle.ct_query.specs.declared.side.Side.TheVariants as side
use Rattle.ct_query.specs.Steps.{row_in, pair_at, ArePartners, pairs_of, pairs_or_alone}
use Rattle.ct_query.proofs.Through.{all_of-through, only-mapped, only-through, or_else-through}

-- ON, on a joined row
abbrev on_joined : World → Plan → Joined → Answer Bool
on_joined world plan one = holds world plan.on (row_in plan one)

lefts_pairs : (world : World) (plan : Plan) (rights : List Row) (left : Row)
    → pairs_of world plan side.Left rights left ≡ (with_right (on_joined world plan) rights left >>= (λ a. Ok (map (row_in plan) a)))
lefts_pairs world plan rights left = only-through (holds world plan.on) (row_in plan) (pair left) rights

rights_pairs : (world : World) (plan : Plan) (lefts : List Row) (right : Row)
    → pairs_of world plan side.Right lefts right ≡ (with_left (on_joined world plan) lefts right >>= (λ a. Ok (map (row_in plan) a)))
rights_pairs world plan lefts right = only-through (holds world plan.on) (row_in plan) (λ left. pair left right) lefts

-- what a condition keeps of the members of lists, where it keeps the same of them before they are joined
kept_alike : (test : Row → Answer Bool) (join : Row → Row) (some all : List Row) → only (λ row. test (join row)) some ≡ only (λ row. test (join row)) all
    → only test (map join some) ≡ only test (map join all)
kept_alike test join some all same = only-mapped test join some ∙ ap (λ (found : Answer (List Row)). found >>= (λ a. Ok (map join a))) same ∙ sym (only-mapped test join all)

-- the pairs among rows that are enough are all pairs
pub partners_suffice : (world : World) (plan : Plan) (at : Side) (row : Row) (all some : List Row) → ArePartners at world.env plan.on row all some
    → pairs_of world plan at some row ≡ pairs_of world plan at all row
partners_suffice world plan side.Left row all some enough = kept_alike (holds world plan.on) (pair_at side.Left row) some all (enough world refl)
partners_suffice world plan side.Right row all some enough = kept_alike (holds world plan.on) (pair_at side.Right row) some all (enough world refl)

pub inner_rows : (world : World) (plan : Plan) (lefts rights : List Row) → plan.join ≡ Inner
    → all_of (pairs_of world plan side.Left rights) lefts ≡ joined_rows world plan lefts rights
inner_rows world plan lefts rights is =
    all_of-through (map (row_in plan)) refl (map-append (row_in plan)) (pairs_of world plan side.Left rights) (with_right (on_joined world plan) rights) (lefts_pairs world plan rights) lefts
    ∙ rw is

pub left_rows : (world : World) (plan : Plan) (lefts rights : List Row) → plan.join ≡ Left
    → all_of (pairs_or_alone world plan side.Left rights) lefts ≡ joined_rows world plan lefts rights
left_rows world plan lefts rights is =
    all_of-through (map (row_in plan)) refl (map-append (row_in plan)) (pairs_or_alone world plan side.Left rights) (λ left. with_right (on_joined world plan) rights left >>= (λ found. Ok (or_else (left_only left) found)))
    (λ left. or_else-through (row_in plan) (left_only left) (with_right (on_joined world plan) rights left) (pairs_of world plan side.Left rights left) (lefts_pairs world plan rights left)) lefts
    ∙ rw is

pub right_rows : (world : World) (plan : Plan) (lefts rights : List Row) → plan.join ≡ Right
    → all_of (pairs_or_alone world plan side.Right lefts) rights ≡ joined_rows world plan lefts rights
right_rows world plan lefts rights is =
    all_of-through (map (row_in plan)) refl (map-append (row_in plan)) (pairs_or_alone world plan side.Right lefts) (λ right. with_left (on_joined world plan) lefts right >>= (λ found. Ok (or_else (right_only right) found)))
    (λ right. or_else-through (row_in plan) (right_only right) (with_left (on_joined world plan) lefts right) (pairs_of world plan side.Right lefts right) (rights_pairs world plan lefts right)) rights
    ∙ rw is

side_by_side-any : (plan : Plan) (lefts rights : List Row) → map (row_of 0 0) (side_by_side lefts rights) ≡ map (row_in plan) (side_by_side lefts rights)
side_by_side-any plan [] rights = refl
side_by_side-any plan (left ∷ lefts) [] = refl
side_by_side-any plan (left ∷ lefts) (right ∷ rights) = ap (λ rows. row_of 0 0 (pair left right) ∷ rows) (side_by_side-any plan lefts rights)

pub applied_rows : (world : World) (plan : Plan) (lefts rights : List Row) → plan.join ≡ Apply
    → Ok (map (row_of 0 0) (side_by_side lefts rights)) ≡ joined_rows world plan lefts rights
applied_rows world plan lefts rights is = ap Ok (side_by_side-any plan lefts rights) ∙ rw is

-- the rows that are left to join, before and after one more
pub applied-more : (whole made next lefts rights more_left more_right : List Row) (left right row : Row)
    → whole ≡ made ++ map (row_of 0 0) (side_by_side lefts rights) → lefts ≡ left ∷ more_left → rights ≡ right ∷ more_right
    → row ≡ row_of 0 0 (pair left right) → next ≡ made ++ row ∷ [] → whole ≡ next ++ map (row_of 0 0) (side_by_side more_left more_right)
applied-more whole made next lefts rights more_left more_right left right row before is_left is_right is e =
    before ∙ rw (is_left, is_right, e, is) (sym (append_assoc made (row_of 0 0 (pair left right) ∷ []) (map (row_of 0 0) (side_by_side more_left more_right))))

none_beside : (lefts : List Row) → side_by_side lefts [] ≡ []
none_beside [] = refl
none_beside (left ∷ lefts) = refl

-- one side has no more
pub applied-all : {A B : Type 0} (f : A → Row) (g : B → Row) (whole made : List Row) (lefts : List A) (rights : List B)
    → whole ≡ made ++ map (row_of 0 0) (side_by_side (map f lefts) (map g rights)) → (lefts ≡ []) ⊎ (rights ≡ []) → made ≡ whole
applied-all f g whole made lefts rights before (inl none) = sym (before ∙ rw (none, append-nil))
applied-all f g whole made lefts rights before (inr none) = sym (before ∙ rw (none, none_beside, append-nil))

alone_rows : (plan : Plan) (rows : List Row) → rows ≡ map (row_in plan) (map alone rows)
alone_rows plan [] = refl
alone_rows plan (row ∷ rows) = ap (λ more. row ∷ more) (alone_rows plan rows)

pub one_rows : (world : World) (plan : Plan) (lefts rights : List Row) → plan.join ≡ One → Ok (only_source plan.left lefts) ≡ joined_rows world plan lefts rights
one_rows world plan lefts rights is = ap Ok (alone_rows plan (only_source plan.left lefts)) ∙ rw is

-- the answer, by what the joined rows come to
pub answer-over : (world : World) (plan : Plan) (lefts rights rows : List Row) → joined_rows world plan lefts rights ≡ Ok rows → answer world plan lefts rights ≡ answer_over world plan rows
unfolding answer
answer-over world plan lefts rights rows e = ap (λ o. o >>= answer_over world plan) e

pub answer-stops : (world : World) (plan : Plan) (lefts rights : List Row) (r : Refusal) → joined_rows world plan lefts rights ≡ Err r → answer world plan lefts rights ≡ Err r
unfolding answer
answer-stops world plan lefts rights r e = ap (λ o. o >>= answer_over world plan) e
