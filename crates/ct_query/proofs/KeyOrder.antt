-- The comparison of ORDER BY is a total order.
use Rattle.std.proofs.Common.{◌≡◌, Bool, true, false, List, [], ◌∷◌, Option, Some, None, refl, sym, ap, ◌∙◌}
use Rattle.std.specs.declared.cmp.Ordering.{Ordering}
use Rattle.std.specs.Ordering.{ordering_reverse, ordering_then}
use Rattle.std.specs.Option.{option_cmp}
use Rattle.std.specs.Cmp.{IsTotalOrder, IsStrictWeakOrder, on_total, then_total, back_total}
use Rattle.std.specs.Cmp.Lexicographic.{options_total}
use Rattle.std.proofs.lemmas.List.Sorted.{ranks_by}
use Rattle.ct_types.specs.declared.bound.OrderBy.{OrderBy}
use Rattle.ct_types.specs.declared.value.Value.{Value}
use Rattle.ct_types.specs.Order.{value_cmp}
use Rattle.ct_types.proofs.Orders.{value_cmp_total}
use Rattle.ct_query.specs.declared.shown.Shown.{Shown}
use Rattle.ct_query.specs.Answer.{comes_before}
use Rattle.ct_query.specs.Sorting.{part_cmp, keys_cmp}

-- what answers as a total order does is one
answers_alike : {K : Type 0} (R S : K → K → Ordering) → ((x y : K) → R x y ≡ S x y) → IsTotalOrder S → IsTotalOrder R
answers_alike R S alike total = record {
  antisymm = λ x y. alike x y ∙ total.antisymm x y ∙ ap ordering_reverse (sym (alike y x));
  trans = λ x y z p q. alike x z ∙ total.trans x y z (sym (alike x y) ∙ p) (sym (alike y z) ∙ q);
  congr = λ x y z p. alike x z ∙ total.congr x y z (sym (alike x y) ∙ p) ∙ sym (alike y z);
}

part_cmp_total : (down : Bool) → IsTotalOrder (part_cmp down)
part_cmp_total false = value_cmp_total
part_cmp_total true = answers_alike (part_cmp true) (λ x y. value_cmp y x) (λ x y. sym (value_cmp_total.antisymm y x)) (back_total value_cmp_total)

-- the first of a list and the others, if there is one
abbrev parted : List Value → Option (Value × List Value)
parted [] = None
parted (x ∷ xs) = Some (x, xs)

abbrev first_then : OrderBy → List OrderBy → Value × List Value → Value × List Value → Ordering
first_then part parts x y = ordering_then (part_cmp part.down x.0 y.0) (keys_cmp parts x.1 y.1)

keys_cmp-parted : (part : OrderBy) (parts : List OrderBy) (xs ys : List Value) → keys_cmp (part ∷ parts) xs ys ≡ option_cmp (first_then part parts) (parted xs) (parted ys)
keys_cmp-parted part parts [] [] = refl
keys_cmp-parted part parts [] (y ∷ ys) = refl
keys_cmp-parted part parts (x ∷ xs) [] = refl
keys_cmp-parted part parts (x ∷ xs) (y ∷ ys) = refl

pub keys_cmp_total : (parts : List OrderBy) → IsTotalOrder (keys_cmp parts)
keys_cmp_total [] = record { antisymm = λ x y. refl; trans = λ x y z p q. p; congr = λ x y z p. refl }
keys_cmp_total (part ∷ parts) =
    answers_alike (keys_cmp (part ∷ parts)) (λ xs ys. option_cmp (first_then part parts) (parted xs) (parted ys)) (keys_cmp-parted part parts)
    (on_total parted (options_total (then_total (on_total (λ (x : Value × List Value). x.0) (part_cmp_total part.down)) (on_total (λ (x : Value × List Value). x.1) (keys_cmp_total parts)))))

pub comes_before_order : (parts : List OrderBy) → IsStrictWeakOrder (comes_before parts)
comes_before_order parts = ranks_by (keys_cmp_total parts) (λ (one : Shown). one.keys)
