-- A fold over those of a list that pass a test, with one more member at the end of the list.
use Rattle.std.proofs.Common.{◌≡◌, Bool, true, false, cond, if◌then◌else◌, List, [], ◌∷◌, ◌++◌, map, filter, fold, refl, ap, ◌∙◌}
use Rattle.std.proofs.lemmas.List.{map-append}
use Rattle.std.proofs.lemmas.List.Elements.{filter-append}
use Rattle.std.proofs.lemmas.List.Sums.{fold-append}

pub picked_behind : {S X Y : Type 0} (step : S → Y → S) (made : X → Y) (test : X → Bool) (start : S) (xs : List X) (x : X)
    → fold step start (map made (filter test (xs ++ x ∷ [])))
    ≡ (if test x then step (fold step start (map made (filter test xs))) (made x) else fold step start (map made (filter test xs)))
picked_behind step made test start xs x =
    ap (λ picked. fold step start (map made picked)) (filter-append test xs (x ∷ []))
    ∙ ap (fold step start) (map-append made (filter test xs) (filter test (x ∷ [])))
    ∙ fold-append step start (map made (filter test xs)) (map made (filter test (x ∷ [])))
    ∙ elim (test x) as (λ b. fold step (fold step start (map made (filter test xs))) (map made (cond b (x ∷ []) [])) ≡ (if b then step (fold step start (map made (filter test xs))) (made x) else fold step start (map made (filter test xs))))
    [ true ↦ refl | false ↦ refl ]
