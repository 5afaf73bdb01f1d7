-- Steps that come to something, chains of AND that are true, and comparisons that are.
use Rattle.std.proofs.Common.{◌≡◌, Bool, true, false, List, [], ◌∷◌, Some, None, Ok, Err, refl, sym, ap, ◌∙◌, if◌then◌else◌}
use Rattle.std.specs.Prelude.{is_ok}
use Rattle.std.specs.Ordering.{is_eq, ordering_reverse}
use Rattle.std.specs.declared.cmp.Ordering.{Ordering}
use Rattle.std.specs.declared.cmp.Ordering.TheVariants.{Less, Equal, Greater}
use Rattle.ct_types.specs.declared.expr.Comparison.TheVariants as comparison
use Rattle.ct_types.specs.declared.value.Value.{Value}
use Rattle.ct_types.specs.Answers.{Answer, ◌>>=◌}
use Rattle.ct_types.specs.Order.{value_cmp}
use Rattle.ct_types.proofs.Orders.{value_cmp_total}
use Rattle.ct_expr.specs.Logic.{Truth, is_true, and3}
use Rattle.ct_expr.specs.Meaning.{Meaning, chain, conjoined}
use Rattle.ct_expr.specs.Numbers.{holds, is_null, compare}

-- ---- steps that come to something

pub comes_one : {A B : Type 0} (a : Answer A) (f : A → B) → is_ok a ≡ true → is_ok (a >>= (λ x. Ok (f x))) ≡ true
comes_one (Ok x) f comes = refl
comes_one (Err refusal) f comes = absurd cc

pub comes_then : {A B : Type 0} (a : Answer A) (next : A → Answer B) → is_ok a ≡ true → ((x : A) → is_ok (next x) ≡ true) → is_ok (a >>= next) ≡ true
comes_then (Ok x) next comes go = go x
comes_then (Err refusal) next comes go = absurd cc

-- ---- a chain of AND that is true: what it had come to is true, and each operand is

both_true : (t x : Truth) → and3 t x ≡ Some true → (t ≡ Some true) × (x ≡ Some true)
both_true (Some true) (Some true) e = (refl, refl)
both_true (Some true) (Some false) e = absurd cc
both_true (Some true) None e = absurd cc
both_true (Some false) (Some true) e = absurd cc
both_true (Some false) (Some false) e = absurd cc
both_true (Some false) None e = absurd cc
both_true None (Some true) e = absurd cc
both_true None (Some false) e = absurd cc
both_true None None e = absurd cc

step_true : (t : Truth) (a : Answer Truth) (rest : Truth → Answer Truth) → ((made : Truth) → rest made ≡ Ok (Some true) → made ≡ Some true)
    → ((a >>= (λ x. Ok (and3 t x))) >>= rest) ≡ Ok (Some true) → (t ≡ Some true) × (a ≡ Ok (Some true))
step_true t (Err refusal) rest go e = absurd cc
step_true t (Ok x) rest go e = let both = both_true t x (go (and3 t x) e) in (both.0, ap (λ truth. Ok truth) both.1)

chain_true : (t : Truth) (parts : List Meaning) → chain conjoined t parts ≡ Ok (Some true) → t ≡ Some true
chain_true t [] e = cc
chain_true t (m ∷ more) e = (step_true t m.truth (λ made. chain conjoined made more) (λ made. chain_true made more) e).0

pub first_true : (t : Truth) (m : Meaning) (more : List Meaning) → chain conjoined t (m ∷ more) ≡ Ok (Some true) → m.truth ≡ Ok (Some true)
first_true t m more e = (step_true t m.truth (λ made. chain conjoined made more) (λ made. chain_true made more) e).1

step_on : (t : Truth) (a : Answer Truth) (rest : Truth → Answer Truth) → ((a >>= (λ x. Ok (and3 t x))) >>= rest) ≡ Ok (Some true)
    → (made : Truth) × (rest made ≡ Ok (Some true))
step_on t (Err refusal) rest e = absurd cc
step_on t (Ok x) rest e = (and3 t x, e)

pub rest_true : (t : Truth) (m : Meaning) (more : List Meaning) → chain conjoined t (m ∷ more) ≡ Ok (Some true) → (made : Truth) × (chain conjoined made more ≡ Ok (Some true))
rest_true t m more e = step_on t m.truth (λ made. chain conjoined made more) e

-- ---- an equality that is true

equal_order : (o : Ordering) → Some (holds comparison.Equal o) ≡ Some true → is_eq o ≡ true
equal_order Less e = cc
equal_order Equal e = refl
equal_order Greater e = cc

neither_null : (p q : Bool) (o : Ordering) → (if p then None else (if q then None else Some (holds comparison.Equal o))) ≡ Some true → (is_eq o ≡ true) × ((p ≡ false) × (q ≡ false))
neither_null true q o e = absurd cc
neither_null false true o e = absurd cc
neither_null false false o e = (equal_order o e, (refl, refl))

-- the values are equal, and neither is NULL
pub equal_values : (a b : Value) → compare comparison.Equal a b ≡ Some true → (is_eq (value_cmp a b) ≡ true) × ((is_null a ≡ false) × (is_null b ≡ false))
equal_values a b e = neither_null (is_null a) (is_null b) (value_cmp a b) e

turned_round : (o : Ordering) → is_eq o ≡ is_eq (ordering_reverse o)
turned_round Less = refl
turned_round Equal = refl
turned_round Greater = refl

pub equal_turned : (a b : Value) → is_eq (value_cmp a b) ≡ true → is_eq (value_cmp b a) ≡ true
equal_turned a b e = turned_round (value_cmp b a) ∙ (ap is_eq (sym (value_cmp_total.antisymm a b)) ∙ e)

-- ---- a truth that is there and is not true

pub not_true : (a : Answer Truth) → is_ok a ≡ true → (a ≡ Ok (Some true) → false ≡ true) → (a >>= (λ t. Ok (is_true t))) ≡ Ok false
not_true (Err refusal) comes not = absurd cc
not_true (Ok (Some true)) comes not = let no : false ≡ true = not refl in absurd cc
not_true (Ok (Some false)) comes not = refl
not_true (Ok None) comes not = refl
