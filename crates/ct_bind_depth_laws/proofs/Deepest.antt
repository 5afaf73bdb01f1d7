-- The deepest of a list: it is at most as deep as a bound of all of them.
use Rattle.std.proofs.Common.{ℕ, ◌≤◌, List, [], ◌∷◌, map, arith}
use Rattle.std.specs.List.{AllByRecursion}
use Rattle.ct_bind_depth_laws.specs.Depth.{deepest}

module _ {X : Type 0} (depth : X → ℕ) (n : ℕ) where
  pub deepest_least : (xs : List X) → AllByRecursion (λ x. depth x ≤ n) xs → deepest (map depth xs) ≤ n
  deepest_least [] all = omega arith
  deepest_least (x ∷ xs) all =
      let here : depth x ≤ n = all.0 in
      let rest : deepest (map depth xs) ≤ n = deepest_least xs all.1 in
      omega arith

  pub below_deepest : (xs : List X) → deepest (map depth xs) ≤ n → AllByRecursion (λ x. depth x ≤ n) xs
  below_deepest [] whole = tt
  below_deepest (x ∷ xs) whole =
      let here : depth x ≤ n = omega arith in
      let rest : deepest (map depth xs) ≤ n = omega arith in
      (here, below_deepest xs rest)
