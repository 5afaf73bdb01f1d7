-- The orders of values and keys are total, and two that stand equal are the same.
use Rattle.std.proofs.Common.{◌≡◌, [], ◌∷◌, refl, sym, ap, ◌∙◌}
use Rattle.std.specs.declared.cmp.Ordering.{Ordering}
use Rattle.std.specs.declared.cmp.Ordering.TheVariants.{Less, Equal, Greater}
use Rattle.std.specs.Ordering.{ordering_reverse, ordering_then}
use Rattle.std.specs.Cmp.{IsTotalOrder, on_total}
use Rattle.std.specs.Cmp.Lexicographic.{lists_total, slice_cmp}
use Rattle.std.proofs.lemmas.Map.Lookups.{CmpEqualImpliesEq, exact_signed, exact_bytes}
use Rattle.ct_types.specs.declared.value.Value.{Value}
use Rattle.ct_types.specs.declared.value.Value.TheVariants.{Null, Int, Text, Bytes}
use Rattle.ct_types.specs.declared.value.Key.{Key}
use Rattle.ct_types.specs.Order.{value_cmp, key_cmp}
use Rattle.ct_types.specs.contracts.value.ValueOrd.TheImpl as derived

-- an order is total if it answers as a total one does
total_by_same : {K : Type 0} (R S : K → K → Ordering) → ((x y : K) → R x y ≡ S x y) → IsTotalOrder S → IsTotalOrder R
total_by_same R S same total = record {
  antisymm = λ x y. same x y ∙ total.antisymm x y ∙ ap ordering_reverse (sym (same y x));
  trans = λ x y z p q. same x z ∙ total.trans x y z (sym (same x y) ∙ p) (sym (same y z) ∙ q);
  congr = λ x y z p. same x z ∙ total.congr x y z (sym (same x y) ∙ p) ∙ sym (same y z);
}

-- the derived order is the stated one
derived_same : (x y : Value) → value_cmp x y ≡ derived.cmp-value.it x y
derived_same Null Null = refl
derived_same Null (Int b) = refl
derived_same Null (Text b) = refl
derived_same Null (Bytes b) = refl
derived_same (Int a) Null = refl
derived_same (Int a) (Int b) = refl
derived_same (Int a) (Text b) = refl
derived_same (Int a) (Bytes b) = refl
derived_same (Text a) Null = refl
derived_same (Text a) (Int b) = refl
derived_same (Text a) (Text b) = refl
derived_same (Text a) (Bytes b) = refl
derived_same (Bytes a) Null = refl
derived_same (Bytes a) (Int b) = refl
derived_same (Bytes a) (Text b) = refl
derived_same (Bytes a) (Bytes b) = refl

pub value_cmp_total : IsTotalOrder value_cmp
value_cmp_total = total_by_same value_cmp derived.cmp-value.it derived_same derived.Laws.total-law

pub key_cmp_total : IsTotalOrder key_cmp
key_cmp_total = on_total (λ (k : Key). k.0) (lists_total value_cmp_total)

value_cmp_exact : CmpEqualImpliesEq value_cmp
value_cmp_exact Null Null e = refl
value_cmp_exact Null (Int b) e = cc
value_cmp_exact Null (Text b) e = cc
value_cmp_exact Null (Bytes b) e = cc
value_cmp_exact (Int a) Null e = cc
value_cmp_exact (Int a) (Int b) e = ap Int (exact_signed a b e)
value_cmp_exact (Int a) (Text b) e = cc
value_cmp_exact (Int a) (Bytes b) e = cc
value_cmp_exact (Text a) Null e = cc
value_cmp_exact (Text a) (Int b) e = cc
value_cmp_exact (Text a) (Text b) e = ap Text (exact_bytes a b e)
value_cmp_exact (Text a) (Bytes b) e = cc
value_cmp_exact (Bytes a) Null e = cc
value_cmp_exact (Bytes a) (Int b) e = cc
value_cmp_exact (Bytes a) (Text b) e = cc
value_cmp_exact (Bytes a) (Bytes b) e = ap Bytes (exact_bytes a b e)

-- lists that stand equal are the same, where that holds of their members
lists_exact : {K : Type 0} (R : K → K → Ordering) → CmpEqualImpliesEq R → CmpEqualImpliesEq (slice_cmp R)
lists_exact R exact [] [] e = refl
lists_exact R exact [] (y ∷ ys) e = cc
lists_exact R exact (x ∷ xs) [] e = cc
lists_exact R exact (x ∷ xs) (y ∷ ys) e =
    let step : (o : Ordering) → o ≡ R x y → ordering_then o (slice_cmp R xs ys) ≡ Equal → x ∷ xs ≡ y ∷ ys =
    elim [ Less ↦ (λ h e. cc) | Equal ↦ (λ h e. cc (exact x y (sym h), lists_exact R exact xs ys e)) | Greater ↦ (λ h e. cc) ] in
    step (R x y) refl e

pub key_cmp_exact : (a b : Key) → key_cmp a b ≡ Equal → a ≡ b
key_cmp_exact a b e = ap (λ values. record { 0 = values }) (lists_exact value_cmp value_cmp_exact a.0 b.0 e)
