-- Rows that are enough to find those on which a condition is true, and orders in which all pairs of a join may be found.
-- This project's own.
use Rattle.std.specs.Prelude.{◌≡◌, List, ◌++◌, map, Option}
use Rattle.ct_types.specs.declared.bound.BoundExpr.{BoundExpr}
use Rattle.ct_types.specs.declared.value.Row.{Row}
use Rattle.ct_types.specs.Answers.{Answer}
use Rattle.ct_expr.specs.Conditions.{only}
use Rattle.ct_expr.specs.Environment.{Environment}
use Rattle.ct_expr.specs.Meaning.{World, holds}
use Rattle.ct_scan.specs.Lists.{all_of}

-- some of the rows are enough: over them the condition is true on the same rows as over all, with the same refusal
abbrev pub AreEnough : Environment → Option BoundExpr → List Row → List Row → Type 0
AreEnough env condition all some = (w : World) → w.env ≡ env → only (holds w condition) some ≡ only (holds w condition) all

-- the row of a pair: the left row's values, then the right row's
abbrev pub pair_row : Row → Row → Row
pair_row left right = record { 0 = left.0 ++ right.0 }

-- the same of the rows on the left of a row, of which each makes a pair with it
abbrev pub AreEnoughLefts : Environment → Option BoundExpr → Row → List Row → List Row → Type 0
AreEnoughLefts env on right all some =
    (w : World) → w.env ≡ env
    → only (λ left. holds w on (pair_row left right)) some ≡ only (λ left. holds w on (pair_row left right)) all

-- and of those on the right of one
abbrev pub AreEnoughRights : Environment → Option BoundExpr → Row → List Row → List Row → Type 0
AreEnoughRights env on left all some =
    (w : World) → w.env ≡ env
    → only (λ right. holds w on (pair_row left right)) some ≡ only (λ right. holds w on (pair_row left right)) all

-- the pairs for which ON is true, by left row and then right row
abbrev pub pairs_by_left : World → Option BoundExpr → List Row → List Row → Answer (List Row)
pairs_by_left w on lefts rights = all_of (λ left. only (holds w on) (map (λ right. pair_row left right) rights)) lefts

-- by right row and then left row
abbrev pub pairs_by_right : World → Option BoundExpr → List Row → List Row → Answer (List Row)
pairs_by_right w on lefts rights = all_of (λ right. only (holds w on) (map (λ left. pair_row left right) lefts)) rights

-- both have the same pairs in the same order, or the same refusal
abbrev pub StandAlike : Environment → Option BoundExpr → List Row → List Row → Type 0
StandAlike env on lefts rights = (w : World) → w.env ≡ env → pairs_by_left w on lefts rights ≡ pairs_by_right w on lefts rights
