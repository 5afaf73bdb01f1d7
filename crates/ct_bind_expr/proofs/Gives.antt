-- What an operator gives on operands that are given.
use Rattle.std.proofs.Common.{◌≡◌, ◌≢◌, Bool, Ok, Err, refl, sym, ap, ◌∙◌, subst}
use Rattle.ct_types.specs.declared.refusal.Refusal.{Refusal}
use Rattle.ct_types.specs.declared.refusal.Refusal.TheVariants.{Memory}
use Rattle.ct_types.specs.Answers.{Answer, ◌>>=◌, Gives}
use Rattle.ct_bind_expr.specs.Walked.{both, made_of, meant, together}

pub gives_one : {A B : Type 0} (wanted given : Answer A) (rule : A → Answer B) (result : Answer B) → Gives wanted given → Gives (given >>= rule) result → Gives (wanted >>= rule) result
gives_one wanted (Ok a) rule (Ok b) operand whole = ap (λ it. it >>= rule) operand ∙ whole
gives_one wanted (Ok a) rule (Err refusal) operand whole = λ other. ap (λ it. it >>= rule) operand ∙ whole other
gives_one wanted (Err first) rule (Ok b) operand whole = absurd cc
gives_one wanted (Err first) rule (Err refusal) operand whole = λ other.
    let same : first ≡ refusal = let e = whole other in cc in
    ap (λ it. it >>= rule) (operand (λ is. other (sym same ∙ is))) ∙ ap (λ r. Err r) same

pub gives_exact : {A : Type 0} (wanted result : Answer A) → result ≡ wanted → Gives wanted result
gives_exact wanted (Ok a) same = sym same
gives_exact wanted (Err refusal) same = λ _. sym same

pub gives_same : {A : Type 0} (wanted other result : Answer A) → wanted ≡ other → Gives other result → Gives wanted result
gives_same wanted other (Ok a) same whole = same ∙ whole
gives_same wanted other (Err refusal) same whole = λ not_memory. same ∙ whole not_memory

pub gives_both : {A B : Type 0} (wanted given : Answer A) (wanted_second given_second : Answer B) → Gives wanted given → Gives wanted_second given_second → Gives (both wanted wanted_second) (both given given_second)
gives_both wanted (Ok a) wanted_second (Ok b) first second = ap (λ w. both w wanted_second) first ∙ ap (both (Ok a)) second
gives_both wanted (Ok a) wanted_second (Err refusal) first second = λ other. ap (λ w. both w wanted_second) first ∙ ap (both (Ok a)) (second other)
gives_both wanted (Err refusal) wanted_second given_second first second = λ other. ap (λ w. both w wanted_second) (first other)

made_later : {A B C : Type 0} (make : B → C) (answer : Answer A) (rule : A → Answer B) → made_of make (answer >>= rule) ≡ (answer >>= (λ it. made_of make (rule it)))
made_later make (Ok a) rule = refl
made_later make (Err refusal) rule = refl

-- what is made of what two operands come to
pub gives_two : {A B C D : Type 0} (make : C → D) (rule : A × B → Answer C) (wanted given : Answer A) (wanted_second given_second : Answer B) (result : Answer D)
    → Gives wanted given → Gives wanted_second given_second → Gives (made_of make (both given given_second >>= rule)) result → Gives (made_of make (both wanted wanted_second >>= rule)) result
gives_two make rule wanted given wanted_second given_second result first second whole =
    gives_same _ (both wanted wanted_second >>= (λ it. made_of make (rule it))) result (made_later make (both wanted wanted_second) rule)
    (gives_one (both wanted wanted_second) (both given given_second) (λ it. made_of make (rule it)) result (gives_both wanted given wanted_second given_second first second)
    (gives_same _ (made_of make (both given given_second >>= rule)) result (sym (made_later make (both given given_second) rule)) whole))

-- what is made of what one comes to
pub gives_made : {A B C : Type 0} (make : B → C) (rule : A → Answer B) (wanted given : Answer A) (result : Answer C) → Gives wanted given → Gives (made_of make (given >>= rule)) result → Gives (made_of make (wanted >>= rule)) result
gives_made make rule wanted given result first whole =
    gives_same _ (wanted >>= (λ it. made_of make (rule it))) result (made_later make wanted rule)
    (gives_one wanted given (λ it. made_of make (rule it)) result first (gives_same _ (made_of make (given >>= rule)) result (sym (made_later make given rule)) whole))

-- two values in boxes, where they go together
pub gives_together : {A : Type 0} (is_meant : Bool) (left right first second : A) (boxed boxed_second : Answer A) (result : Answer (A × A))
    → meant {A = A × A} is_meant (left, right) ≡ Ok (first, second) → Gives (Ok first) boxed → Gives (Ok second) boxed_second → result ≡ both boxed boxed_second → Gives (together is_meant left right) result
gives_together is_meant left right first second boxed boxed_second result are in_first in_second is =
    gives_same (together is_meant left right) (Ok (first, second)) result are
    (subst (λ it. Gives (Ok (first, second)) it) (sym is) (gives_both (Ok first) boxed (Ok second) boxed_second in_first in_second))

-- two steps on what is given, the first of which that fails ends both
both_first : {A B C : Type 0} (a : Answer A) (b : Answer B) (rule : A → B → Answer C) → (a >>= (λ x. b >>= (λ y. rule x y))) ≡ (both a b >>= (λ it. rule it.0 it.1))
both_first (Err refusal) b rule = refl
both_first (Ok a) (Err refusal) rule = refl
both_first (Ok a) (Ok b) rule = refl

pub both_stop : {A B C : Type 0} (wanted given : Answer A) (wanted_second given_second : Answer B) (rule : A → B → Answer C) (refusal : Refusal)
    → Gives wanted given → Gives wanted_second given_second → Err refusal ≡ both given given_second → refusal ≢ Memory → (wanted >>= (λ x. wanted_second >>= (λ y. rule x y))) ≡ Err refusal
both_stop wanted given wanted_second given_second rule refusal first second is other =
    let whole : refusal ≢ Memory → both wanted wanted_second ≡ Err refusal = subst (λ it. Gives (both wanted wanted_second) it) (sym is) (gives_both wanted given wanted_second given_second first second) in
    both_first wanted wanted_second rule ∙ ap (λ it. it >>= (λ it. rule it.0 it.1)) (whole other)

three_first : {A B C D : Type 0} (a : Answer A) (b : Answer B) (c : Answer C) (rule : A → B → C → Answer D)
    → (a >>= (λ x. b >>= (λ y. c >>= (λ z. rule x y z)))) ≡ (both a (both b c) >>= (λ it. rule it.0 it.1.0 it.1.1))
three_first (Err refusal) b c rule = refl
three_first (Ok a) (Err refusal) c rule = refl
three_first (Ok a) (Ok b) (Err refusal) rule = refl
three_first (Ok a) (Ok b) (Ok c) rule = refl

pub three_stop : {A B C D : Type 0} (wanted given : Answer A) (wanted_second given_second : Answer B) (wanted_third given_third : Answer C) (rule : A → B → C → Answer D) (later : Answer (B × C)) (refusal : Refusal)
    → Gives wanted given → Gives wanted_second given_second → Gives wanted_third given_third → later ≡ both given_second given_third → Err refusal ≡ both given later
    → refusal ≢ Memory → (wanted >>= (λ x. wanted_second >>= (λ y. wanted_third >>= (λ z. rule x y z)))) ≡ Err refusal
three_stop wanted given wanted_second given_second wanted_third given_third rule later refusal first second third are is other =
    let whole : refusal ≢ Memory → both wanted (both wanted_second wanted_third) ≡ Err refusal = subst (λ it. Gives (both wanted (both wanted_second wanted_third)) it) (sym (is ∙ ap (both given) are))
    (gives_both wanted given (both wanted_second wanted_third) (both given_second given_third) first (gives_both wanted_second given_second wanted_third given_third second third)) in
    three_first wanted wanted_second wanted_third rule ∙ ap (λ it. it >>= (λ it. rule it.0 it.1.0 it.1.1)) (whole other)

pub itself : {A : Type 0} (answer : Answer A) → Gives answer answer
itself (Ok a) = refl
itself (Err refusal) = λ _. refl
