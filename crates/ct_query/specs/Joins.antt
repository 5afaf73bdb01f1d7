-- The rows that a FROM clause joins, as T-SQL documents FROM with its joins and APPLY. That their order is stated is this
-- project's own: by left row and then right row, of a RIGHT JOIN by right row and then left row.
use Rattle.std.specs.Prelude.{ℕ, zero, suc, Bool, true, false, List, [], ◌∷◌, ◌++◌, map, replicate, Ok}
use Rattle.ct_types.specs.declared.bound.Join.{Join}
use Rattle.ct_types.specs.declared.bound.Join.TheVariants.{One, Inner, Left, Right, Apply}
use Rattle.ct_types.specs.declared.value.Row.{Row}
use Rattle.ct_types.specs.declared.value.Value.TheVariants.{Null}
use Rattle.ct_types.specs.Answers.{Answer, ◌>>=◌}
use Rattle.ct_expr.specs.Conditions.{only}
use Rattle.ct_scan.specs.Lists.{all_of}

-- a joined row: a row of the only source, a left and a right row, or a row that stands without a pair
pub data Joined : Type 0 where
  alone : Row → Joined
  pair : Row → Row → Joined
  left_only : Row → Joined
  right_only : Row → Joined

-- ---- its values

-- the left row's values, then the right row's; NULL for each column of a row that is missing
abbrev pub row_of : ℕ → ℕ → Joined → Row
row_of left_columns right_columns (alone row) = row
row_of left_columns right_columns (pair left right) = record { 0 = left.0 ++ right.0 }
row_of left_columns right_columns (left_only left) = record { 0 = left.0 ++ replicate right_columns Null }
row_of left_columns right_columns (right_only right) = record { 0 = replicate left_columns Null ++ right.0 }

-- ---- which there are

-- the rows of the only source; without FROM, so where it has no columns, one row
abbrev pub only_source : ℕ → List Row → List Row
only_source zero rows = record { 0 = [] } ∷ []
only_source (suc n) rows = rows

-- the pairs of a row with the other side's rows, those for which ON is true
abbrev pub with_right : (Joined → Answer Bool) → List Row → Row → Answer (List Joined)
with_right on rights left = only on (map (pair left) rights)

abbrev pub with_left : (Joined → Answer Bool) → List Row → Row → Answer (List Joined)
with_left on lefts right = only on (map (λ left. pair left right) lefts)

-- what was found, or one that stands for it
abbrev pub or_else : {A : Type 0} → A → List A → List A
or_else other [] = other ∷ []
or_else other (one ∷ more) = one ∷ more

-- each left row with the right row at its place
abbrev pub side_by_side : List Row → List Row → List Joined
side_by_side (left ∷ lefts) (right ∷ rights) = pair left right ∷ side_by_side lefts rights
side_by_side lefts rights = []

abbrev pub joined : Join → ℕ → (Joined → Answer Bool) → List Row → List Row → Answer (List Joined)
joined One left_columns on lefts rights = Ok (map alone (only_source left_columns lefts))
joined Inner left_columns on lefts rights = all_of (with_right on rights) lefts
joined Left left_columns on lefts rights = all_of (λ left. with_right on rights left >>= (λ found. Ok (or_else (left_only left) found))) lefts
joined Right left_columns on lefts rights = all_of (λ right. with_left on lefts right >>= (λ found. Ok (or_else (right_only right) found))) rights
joined Apply left_columns on lefts rights = Ok (side_by_side lefts rights)

-- ---- words of the laws

abbrev pub is_pair : Joined → Bool
is_pair (alone row) = false
is_pair (pair left right) = true
is_pair (left_only left) = false
is_pair (right_only right) = false

-- the same with left and right exchanged
abbrev pub turned : Joined → Joined
turned (alone row) = alone row
turned (pair left right) = pair right left
turned (left_only left) = right_only left
turned (right_only right) = left_only right
