-- The areas that a slot names are different ones.
use Rattle.std.proofs.Common.{◌≡◌, ◌≢◌, inl, inr, ⊎_elim, ℕ, ◌<◌, ◌≤◌, Bool, true, false, cond, eqb, List, refl, sym, ◌∙◌, ap, arith}
use Rattle.std.proofs.lemmas.Bool.Decides.{nat_tests}
use Rattle.ct_pages.specs.declared.slot.Super.{Super}
use Rattle.ct_pages.specs.Slots.{IsCanonical, IsLogArea, Names, IsNamed}
use Rattle.ct_pages.proofs.Decoding.{named_is_canonical}
use Rattle.ct_found.specs.Found.{last_of}

-- where each area that it names stands
pub record Apart (slot : Super) : Type 0 where
  pub front : slot.checkpoint < last_of slot
  pub back : 3 ≤ last_of slot
  pub within : last_of slot ≤ 5
  pub first : 0 < slot.second → slot.first ≢ last_of slot

pub last_one : (slot : Super) → slot.second ≡ 0 → last_of slot ≡ slot.first
last_one slot none = ap (λ n. cond (eqb n 0) slot.first n) none

pub last_two : (slot : Super) → 0 < slot.second → last_of slot ≡ slot.second
last_two slot some = grind (arith, nat_tests, some)

one_apart : (slot : Super) → slot.checkpoint ≤ 2 → IsLogArea slot.first → slot.second ≡ 0 → Apart slot
one_apart slot low first none =
    let e : last_of slot ≡ slot.first = last_one slot none in
    record { front = omega (arith, first.0, low, e); back = omega (arith, first.0, e); within = omega (arith, first.1, e); first = λ some. absurd (omega arith) }

two_apart : (slot : Super) → slot.checkpoint ≤ 2 → IsLogArea slot.second → slot.second ≢ slot.first → Apart slot
two_apart slot low second other =
    let e : last_of slot ≡ slot.second = last_two slot (omega (arith, second.0)) in
    record { front = omega (arith, second.0, low, e); back = omega (arith, second.0, e); within = omega (arith, second.1, e); first = λ some same. other (sym e ∙ sym same) }

pub canonical_apart : (slot : Super) → IsCanonical slot → Apart slot
canonical_apart slot canonical =
    ⊎_elim (λ none. one_apart slot canonical.checkpoint.0 canonical.first none) (λ two. two_apart slot canonical.checkpoint.0 two.0 two.1) canonical.second

pub named_apart : (bytes : List ℕ) (slot : Super) → Names bytes slot → Apart slot
named_apart bytes slot names = canonical_apart slot (named_is_canonical bytes slot names)

pub last_named : (slot : Super) → IsNamed slot (last_of slot)
last_named slot = of (eqb slot.second 0)
  where
    of : (b : Bool) → IsNamed slot (cond b slot.first slot.second)
    of true = inr (inr (inl refl))
    of false = inr (inr (inr refl))
