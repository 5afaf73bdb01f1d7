-- Laws of joins, of WHERE and of ORDER BY.
use Rattle.std.specs.Prelude.{◌≡◌, ℕ, Bool, true, List, map, Ok, Option}
use Rattle.std.specs.List.{AllByRecursion, filter}
use Rattle.std.specs.List.Sorted.{IsPermutation, IsSortedBy, IsStableBy}
use Rattle.ct_types.specs.declared.bound.BoundExpr.{BoundExpr}
use Rattle.ct_types.specs.declared.bound.Join.TheVariants.{Inner, Left, Right}
use Rattle.ct_types.specs.declared.bound.OrderBy.{OrderBy}
use Rattle.ct_types.specs.declared.value.Row.{Row}
use Rattle.ct_types.specs.Answers.{Answer, ◌>>=◌}
use Rattle.ct_query.specs.declared.shown.Shown.{Shown}
use Rattle.ct_expr.specs.Meaning.{World, holds}
use Rattle.ct_query.specs.Answer.{comes_before}
use Rattle.ct_query.specs.Joins.{Joined, joined, is_pair, turned}
use Rattle.ct_expr.specs.Conditions.{only}
use Rattle.ct_query.specs.Sorting.{in_order}

-- an INNER JOIN is a LEFT JOIN without the rows that stand with NULLs
abbrev pub InnerIsLeftPaired : Type 0
InnerIsLeftPaired =
    (columns : ℕ) (on : Joined → Answer Bool) (lefts rights : List Row)
    → joined Inner columns on lefts rights ≡ (joined Left columns on lefts rights >>= (λ made. Ok (filter is_pair made)))

-- a RIGHT JOIN is a LEFT JOIN of the sources exchanged, with each row turned round
abbrev pub RightMirrorsLeft : Type 0
RightMirrorsLeft =
    (columns : ℕ) (on : Joined → Answer Bool) (lefts rights : List Row)
    → joined Right columns on lefts rights ≡ (joined Left columns (λ one. on (turned one)) rights lefts >>= (λ made. Ok (map turned made)))

-- LEFT JOIN and RIGHT JOIN have the same pairs, in another order
abbrev pub SamePairs : Type 0
SamePairs =
    (columns : ℕ) (on : Joined → Answer Bool) (lefts rights : List Row) (by_left by_right : List Joined)
    → joined Left columns on lefts rights ≡ Ok by_left
    → joined Right columns on lefts rights ≡ Ok by_right
    → IsPermutation (filter is_pair by_left) (filter is_pair by_right)

-- a WHERE that is true on each row changes nothing
abbrev pub TrueKeepsAll : Type 0
TrueKeepsAll = (world : World) (condition : Option BoundExpr) (rows : List Row) → AllByRecursion (λ row. holds world condition row ≡ Ok true) rows → only (holds world condition) rows ≡ Ok rows

-- what stands in order: the same rows, sorted, and those that tie as they stood
pub record IsOrdered (less : Shown → Shown → Bool) (before after : List Shown) : Type 0 where
  pub same : IsPermutation before after
  pub sorted : IsSortedBy less after
  pub stable : IsStableBy less before after

-- ORDER BY gives such rows
abbrev pub OrdersStably : Type 0
OrdersStably = (parts : List OrderBy) (rows : List Shown) → IsOrdered (comes_before parts) rows (in_order (comes_before parts) rows)

-- and there is but one list of them
abbrev pub OneOrder : Type 0
OneOrder = (parts : List OrderBy) (rows after : List Shown) → IsOrdered (comes_before parts) rows after → after ≡ in_order (comes_before parts) rows
