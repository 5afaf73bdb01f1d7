-- The steps that the code takes. No promise speaks of them.
use Rattle.std.specs.Prelude.{Bool, true, false, List, map, Option, Ok}
use Rattle.ct_types.specs.declared.bound.BoundExpr.{BoundExpr}
use Rattle.ct_types.specs.declared.bound.Plan.{Plan}
use Rattle.ct_types.specs.declared.value.Row.{Row}
use Rattle.ct_types.specs.Answers.{Answer, ◌>>=◌}
use Rattle.ct_expr.specs.Conditions.{only}
use Rattle.ct_expr.specs.Environment.{Environment}
use Rattle.ct_expr.specs.Meaning.{World, holds}
use Rattle.ct_scan.specs.Enough.{AreEnoughLefts, AreEnoughRights, pair_row}
use Rattle.ct_query.specs.declared.side.Side.{Side}
use Rattle.ct_query.specs.declared.side.Side.TheVariants as side
use Rattle.ct_query.specs.Joins.{Joined, left_only, right_only, row_of, or_else}

-- the values of a joined row of a plan
abbrev pub row_in : Plan → Joined → Row
row_in plan = row_of plan.left plan.right

-- the row of the pair of a row of a side with a row of the other side
abbrev pub pair_at : Side → Row → Row → Row
pair_at side.Left row other = pair_row row other
pair_at side.Right row other = pair_row other row

-- a row of a side that stands without a pair
abbrev pub alone_at : Side → Row → Joined
alone_at side.Left row = left_only row
alone_at side.Right row = right_only row

-- some rows of the other side are enough for the pairs of a row of a side
abbrev pub ArePartners : Side → Environment → Option BoundExpr → Row → List Row → List Row → Type 0
ArePartners side.Left env on row all some = AreEnoughRights env on row all some
ArePartners side.Right env on row all some = AreEnoughLefts env on row all some

-- the pairs of a row of a side with rows of the other side
abbrev pub pairs_of : World → Plan → Side → List Row → Row → Answer (List Row)
pairs_of world plan at others row = only (holds world plan.on) (map (λ other. pair_at at row other) others)

-- these, or the row with NULLs
abbrev pub pairs_or_alone : World → Plan → Side → List Row → Row → Answer (List Row)
pairs_or_alone world plan at others row = pairs_of world plan at others row >>= (λ found. Ok (or_else (row_in plan (alone_at at row)) found))

-- the joined rows of a row, in a join that keeps each row of the side or in one that does not
abbrev pub rows_of : World → Plan → Side → Bool → List Row → Row → Answer (List Row)
rows_of world plan at true others row = pairs_or_alone world plan at others row
rows_of world plan at false others row = pairs_of world plan at others row
