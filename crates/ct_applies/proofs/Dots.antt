-- Where a name of two parts is cut.
use Rattle.std.proofs.Common.{◌≡◌, ◌<◌, ◌+◌, ℕ, zero, suc, codes, List, [], ◌∷◌, ◌++◌, Some, take, drop, length, refl, sym, ap, ◌∙◌, subst, add-one, arith}
use Rattle.std.specs.List.{slice_get}
use Rattle.ct_applies.specs.Cuts.{IsTwoNames, IsCut}
use Rattle.ct_model.specs.Names.{IsName}

split_at : (name : List ℕ) (at : ℕ) → slice_get name at ≡ Some 46 → name ≡ take at name ++ 46 ∷ drop (suc at) name
split_at [] at e = cc
split_at (b ∷ bs) zero e = cc
split_at (b ∷ bs) (suc at) e = ap (λ xs. b ∷ xs) (split_at bs at e)

-- a full stop in front
dotted : (first second : List ℕ) → first ++ codes "." ++ second ≡ first ++ 46 ∷ second
dotted [] second = refl
dotted (x ∷ xs) second = ap (λ ys. x ∷ ys) (dotted xs second)

pub two_of_cut : (name : List ℕ) (at : ℕ) → IsCut name at → IsTwoNames name
two_of_cut name at cut = (take at name, drop (at + 1) name, rw add-one (split_at name at cut.0 ∙ sym (dotted (take at name) (drop (suc at) name))), cut.1, cut.2)

at_first : (first second : List ℕ) → slice_get (first ++ 46 ∷ second) (length first) ≡ Some 46
at_first [] second = refl
at_first (x ∷ xs) second = at_first xs second

take_first : (first second : List ℕ) → take (length first) (first ++ second) ≡ first
take_first [] second = refl
take_first (x ∷ xs) second = ap (λ ys. x ∷ ys) (take_first xs second)

drop_first : (first second : List ℕ) → drop (suc (length first)) (first ++ 46 ∷ second) ≡ second
drop_first [] second = refl
drop_first (x ∷ xs) second = drop_first xs second

first_within : (first second : List ℕ) → length first < length (first ++ 46 ∷ second)
first_within [] second = omega arith
first_within (x ∷ xs) second = omega (arith, first_within xs second)

-- a name of two parts is cut somewhere
pub cut_of_two : (name : List ℕ) → IsTwoNames name → (at : ℕ) × (at < length name) × IsCut name at
cut_of_two name two =
    let first = two.0 in
    let second = two.1 in
    let whole : name ≡ first ++ 46 ∷ second = two.2 ∙ dotted first second in
    subst (λ (n : List ℕ). (at : ℕ) × (at < length n) × IsCut n at) (sym whole) (
      length first,
      first_within first second,
      (
        at_first first second,
        subst IsName (sym (take_first first (46 ∷ second))) two.3,
        rw (add-one, drop_first) two.4,
      ),
    )

-- a name without a cut has not two parts
pub no_two : (name : List ℕ) → ((at : ℕ) → at < length name → IsCut name at → ⊥) → IsTwoNames name → ⊥
no_two name none two = let cut = cut_of_two name two in none cut.0 cut.1 cut.2
