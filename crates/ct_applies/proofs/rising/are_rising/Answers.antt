use Rattle.std.proofs.Common.{◌≡◌, ◌≤◌, ◌-◌, ◌∷◌, [], List, length, take, drop, get_or, sym, subst, ap₂, IfOk, IsTrue, ◌↔◌, arith}
use Rattle.std.proofs.lemmas.List.{take_all}
use Rattle.ct_model.specs.Valid.{AreRising}
use Rattle.ct_applies.proofs.Climbing.{told_first}
use Rattle.ct_applies.proofs.rising.are_rising.Goals as goal

-- a list is its first item and the rest
cut : {X : Type 0} (x : X) (xs : List X) → 1 ≤ length xs → x ≡ get_or xs 0 x → xs ≡ x ∷ take (length xs - 1) (drop 1 xs)
cut x [] le is = absurd (omega arith)
cut x (y ∷ xs) le is = ap₂ (λ z zs. z ∷ zs) (sym is) (sym (take_all (length (y ∷ xs) - 1) xs (omega arith)))

pub returns-in-len1-up : goal.returns-in-len1-up
returns-in-len1-up c =
    let row = c.row-item.result in
    let rows = c.args.rows.now in
    subst (λ l. IfOk c.climb_from.result (λ b. IsTrue b ↔ AreRising c.args.schema.now l)) (sym (cut row rows c.in-len1-up.len_at_least c.row-item.is))
    (told_first c.args.schema.now row (take (length rows - 1) (drop 1 rows)) c.climb_from.result c.climb_from.ensures)
