-- The laws of conditions.
use Rattle.std.proofs.Common.{◌≡◌, Bool, true, false, Some, None, if◌then◌else◌, refl, ap, ◌∙◌}
use Rattle.std.specs.declared.cmp.Ordering.{Ordering}
use Rattle.std.specs.declared.cmp.Ordering.TheVariants.{Less, Equal, Greater}
use Rattle.std.specs.Ordering.{ordering_reverse}
use Rattle.ct_types.specs.declared.expr.Comparison.{Comparison}
use Rattle.ct_types.specs.declared.expr.Comparison.TheVariants as comparison
use Rattle.ct_types.specs.Order.{value_cmp}
use Rattle.ct_types.proofs.Orders.{value_cmp_total}
use Rattle.ct_expr.specs.Laws.{DeMorgan, DoubleNegation, Mirror, mirrored}
use Rattle.ct_expr.specs.Numbers.{holds, is_null}

pub de_morgan : DeMorgan
de_morgan (Some true) (Some true) = (refl, refl)
de_morgan (Some true) (Some false) = (refl, refl)
de_morgan (Some true) None = (refl, refl)
de_morgan (Some false) (Some true) = (refl, refl)
de_morgan (Some false) (Some false) = (refl, refl)
de_morgan (Some false) None = (refl, refl)
de_morgan None (Some true) = (refl, refl)
de_morgan None (Some false) = (refl, refl)
de_morgan None None = (refl, refl)

pub double_negation : DoubleNegation
double_negation (Some true) = refl
double_negation (Some false) = refl
double_negation None = refl

holds_mirrored : (operator : Comparison) (o : Ordering) → holds operator (ordering_reverse o) ≡ holds (mirrored operator) o
holds_mirrored comparison.Equal Less = refl
holds_mirrored comparison.Equal Equal = refl
holds_mirrored comparison.Equal Greater = refl
holds_mirrored comparison.NotEqual Less = refl
holds_mirrored comparison.NotEqual Equal = refl
holds_mirrored comparison.NotEqual Greater = refl
holds_mirrored comparison.Less Less = refl
holds_mirrored comparison.Less Equal = refl
holds_mirrored comparison.Less Greater = refl
holds_mirrored comparison.AtMost Less = refl
holds_mirrored comparison.AtMost Equal = refl
holds_mirrored comparison.AtMost Greater = refl
holds_mirrored comparison.More Less = refl
holds_mirrored comparison.More Equal = refl
holds_mirrored comparison.More Greater = refl
holds_mirrored comparison.AtLeast Less = refl
holds_mirrored comparison.AtLeast Equal = refl
holds_mirrored comparison.AtLeast Greater = refl

of_either : (x y p q : Bool) → p ≡ q → (if x then None else (if y then None else Some p)) ≡ (if y then None else (if x then None else Some q))
of_either true true p q e = refl
of_either true false p q e = refl
of_either false true p q e = refl
of_either false false p q e = ap Some e

pub mirror : Mirror
mirror operator a b = of_either (is_null a) (is_null b) (holds operator (value_cmp a b)) (holds (mirrored operator) (value_cmp b a))
    (ap (holds operator) (value_cmp_total.antisymm a b) ∙ holds_mirrored operator (value_cmp b a))
