-- Rows in groups: one group more.
use Rattle.std.proofs.Common.{◌≡◌, ℕ, zero, suc, ◌-◌, ◌%◌, ◌<◌, ◌≤◌, List, [], ◌∷◌, ◌++◌, length, take, drop, refl, sym, ap, ◌∙◌, arith, length-append, length-drop}
use Rattle.std.proofs.lemmas.List.{take_all, drop_all, take-append-le, drop-append-le}
use Rattle.ct_types.specs.declared.value.Row.{Row}
use Rattle.ct_found.specs.Pieces.{groups}

groups_none : (n : ℕ) → groups n [] ≡ []
groups_none zero = refl
groups_none (suc n) = refl

-- behind full groups, the rows that come next are a group of their own
pub groups_push : (n m : ℕ) (rows more : List Row) → length rows ≤ n → length (rows ++ more) ≤ m → length rows % 256 ≡ 0 → 0 < length more → length more ≤ 256
    → groups m (rows ++ more) ≡ groups n rows ++ more ∷ []
groups_push n zero rows more le fits full some few = absurd (omega (arith, length-append rows more))
groups_push n (suc m) [] [] le fits full some few = absurd (omega arith)
groups_push n (suc m) [] (r ∷ more) le fits full some few =
    ap (λ front. front ∷ groups m (drop 256 (r ∷ more))) (take_all 256 (r ∷ more) few)
    ∙ ap (λ back. (r ∷ more) ∷ groups m back) (drop_all 256 (r ∷ more) few)
    ∙ ap (λ l. (r ∷ more) ∷ l) (groups_none m)
    ∙ ap (λ l. l ++ (r ∷ more) ∷ []) (sym (groups_none n))
groups_push zero (suc m) (r ∷ rows) more le fits full some few = absurd (omega arith)
groups_push (suc n) (suc m) (r ∷ rows) more le fits full some few =
    let long : 256 ≤ length (r ∷ rows) = omega arith in
    let less : length (drop 256 (r ∷ rows)) ≡ length (r ∷ rows) - 256 = length-drop 256 (r ∷ rows) in
    ap (λ front. front ∷ groups m (drop 256 (r ∷ (rows ++ more)))) (take-append-le 256 (r ∷ rows) more long)
    ∙ ap (λ back. take 256 (r ∷ rows) ∷ groups m back) (drop-append-le 256 (r ∷ rows) more long)
    ∙ ap (λ l. take 256 (r ∷ rows) ∷ l)
    (groups_push n m (drop 256 (r ∷ rows)) more (omega (arith, less)) (omega (arith, less, length-append (drop 256 (r ∷ rows)) more, length-append (r ∷ rows) more)) (omega (arith, less)) some few)

-- the count does not matter where it is great enough
groups_same : (m n : ℕ) (rows : List Row) → length rows ≤ m → length rows ≤ n → groups m rows ≡ groups n rows
groups_same m n [] le more = groups_none m ∙ sym (groups_none n)
groups_same zero n (r ∷ rows) le more = absurd (omega arith)
groups_same (suc m) zero (r ∷ rows) le more = absurd (omega arith)
groups_same (suc m) (suc n) (r ∷ rows) le more =
    let less : length (drop 256 (r ∷ rows)) ≡ length (r ∷ rows) - 256 = length-drop 256 (r ∷ rows) in
    ap (λ l. take 256 (r ∷ rows) ∷ l) (groups_same m n (drop 256 (r ∷ rows)) (omega (arith, less)) (omega (arith, less)))

-- the first group, and those of the rows behind it
pub groups_first : (rows : List Row) → 0 < length rows → groups (length rows) rows ≡ take 256 rows ∷ groups (length (drop 256 rows)) (drop 256 rows)
groups_first [] some = absurd (omega arith)
groups_first (r ∷ rows) some =
    let less : length (drop 256 (r ∷ rows)) ≡ length (r ∷ rows) - 256 = length-drop 256 (r ∷ rows) in
    ap (λ l. take 256 (r ∷ rows) ∷ l) (groups_same (length rows) (length (drop 256 (r ∷ rows))) (drop 256 (r ∷ rows)) (omega (arith, less)) (omega arith))
