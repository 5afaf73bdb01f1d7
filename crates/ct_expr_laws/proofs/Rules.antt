-- The rules of values against those of kinds: what each form comes to is of its kind, where its parts are of theirs.
use Rattle.std.proofs.Common.{◌≡◌, ◌+ℤ◌, ◌-ℤ◌, ◌*ℤ◌, Bool, true, false, ◌&&◌, List, [], ◌∷◌, Option, Some, None, Ok, refl, ap, subst, ◌∙◌, if◌then◌else◌}
use Rattle.std.proofs.lemmas.Bool.{false≢true}
use Rattle.ct_types.specs.declared.value.Value.{Value}
use Rattle.ct_types.specs.Answers.{Answer, ◌>>=◌}
use Rattle.ct_bind_kinds.specs.declared.kind.Kind.{Kind}
use Rattle.ct_bind_kinds.specs.declared.kind.Kind.TheVariants.{Number, Condition}
use Rattle.ct_bind_kinds.specs.Kinds.{agree, is_value, suits, IsOfKind}
use Rattle.ct_bind_kinds.specs.WellFormed.{is_of, go_together, when, either_of}
use Rattle.ct_expr.specs.Functions.{if_null}
use Rattle.ct_expr.specs.Meaning.{Meaning, Operand, chain, multiplied, added}
use Rattle.ct_expr.specs.Numbers.{plus, minus}
use Rattle.ct_expr_laws.proofs.Fitting.{fits_other, agree_sym, if_null_fits, on_numbers_kept}
use Rattle.ct_types.proofs.AnswersKept.{Kept, ok_kept, then_kept, after_kept}
use Rattle.ct_types.proofs.Tests.{both}

-- what comes of an expression, if it is a value, is of the kind that was found for it
abbrev pub Of : Option Kind → Answer Value → Type 0
Of found answer = (kind : Kind) → found ≡ Some kind → is_value kind ≡ true → Kept (IsOfKind kind) answer

pub of_kept : (kind : Kind) (answer : Answer Value) → Kept (IsOfKind kind) answer → Of (Some kind) answer
of_kept kind answer kept other is value = let same : kind ≡ other = cc in subst (λ k. Kept (IsOfKind k) answer) same kept

pub of_value : (kind : Kind) (x : Value) → IsOfKind kind x → Of (Some kind) (Ok x)
of_value kind x fits = of_kept kind (Ok x) (ok_kept (IsOfKind kind) x fits)

pub of_when : (test : Bool) (found : Option Kind) (answer : Answer Value) → (test ≡ true → Of found answer) → Of (when test found) answer
of_when true found answer go = go refl
of_when false found answer go = λ kind is value. absurd cc

pub of_condition : (test : Bool) (answer : Answer Value) → Of (when test (Some Condition)) answer
of_condition true answer kind is value = let same : Condition ≡ kind = cc in absurd (false≢true (ap is_value same ∙ value))
of_condition false answer kind is value = absurd cc

-- a number, whatever the parts are
pub of_number : (test : Bool) (answer : Answer Value) → Kept (IsOfKind Number) answer → Of (when test (Some Number)) answer
of_number test answer kept = of_when test (Some Number) answer (λ _. of_kept Number answer kept)

-- ---- ISNULL

pub if_null_of : (a b : Option Kind) (x y : Answer Value) → Of a x → Of b y → Of (when (go_together a b) (either_of a b)) (x >>= (λ p. y >>= (λ q. Ok (if_null p q))))
if_null_of None b x y fx fy = λ kind is value. absurd cc
if_null_of (Some a) None x y fx fy = λ kind is value. absurd cc
if_null_of (Some a) (Some b) x y fx fy = of_when (is_value a && suits b a) (either_of (Some a) (Some b)) _ (λ holds kind is value.
    let first = both (is_value a) (suits b a) holds in
    let second = both (is_value b) (agree b a) first.1 in
    then_kept (IsOfKind a) (IsOfKind kind) x _ (fx a refl first.0) (λ p fp. then_kept (IsOfKind b) (IsOfKind kind) y _ (fy b refl second.0)
    (λ q fq. ok_kept (IsOfKind kind) (if_null p q) (if_null_fits a b kind p q first.0 (agree_sym a b ∙ second.1) is fp fq))))

-- ---- chains

pub chain_kept : {X : Type 0} (step : Value → X → Answer Value) → ((so_far : Value) (x : X) → Kept (IsOfKind Number) (step so_far x))
    → (so_far : Value) → IsOfKind Number so_far → (all : List X) → Kept (IsOfKind Number) (chain step so_far all)
chain_kept step steps so_far fits [] = ok_kept (IsOfKind Number) so_far fits
chain_kept step steps so_far fits (x ∷ more) =
    then_kept (IsOfKind Number) (IsOfKind Number) (step so_far x) _ (steps so_far x) (λ made fit. chain_kept step steps made fit more)

pub multiplied_kept : (so_far : Value) (factor : Meaning) → Kept (IsOfKind Number) (multiplied so_far factor)
multiplied_kept so_far factor = after_kept (IsOfKind Number) factor.value _ (λ x. on_numbers_kept (λ a b. a *ℤ b) so_far x)

one_of_two : (subtracts : Bool) (so_far x : Value) → Kept (IsOfKind Number) (if subtracts then minus so_far x else plus so_far x)
one_of_two true so_far x = on_numbers_kept (λ a b. a -ℤ b) so_far x
one_of_two false so_far x = on_numbers_kept (λ a b. a +ℤ b) so_far x

pub added_kept : (so_far : Value) (operand : Operand) → Kept (IsOfKind Number) (added so_far operand)
added_kept so_far operand = after_kept (IsOfKind Number) operand.meaning.value _ (λ x. one_of_two operand.subtracts so_far x)

number_given : (kind : Kind) (x : Value) → agree kind Number ≡ true → IsOfKind kind x → IsOfKind Number x
number_given kind x agrees fits = fits_other Number kind x (λ same. cc) refl (agree_sym Number kind ∙ agrees) fits

pub sum_of : (found : Option Kind) (first : Answer Value) (test : Bool) (more : List Operand) → Of found first
    → Of (when (is_of Number found && test) (Some Number)) (first >>= (λ x. chain added x more))
sum_of None first test more of = λ kind is value. absurd cc
sum_of (Some given) first test more of = of_when (is_of Number (Some given) && test) (Some Number) _ (λ holds.
    let it = both (is_of Number (Some given)) test holds in
    let suited = both (is_value given) (agree given Number) it.0 in
    of_kept Number _ (then_kept (IsOfKind given) (IsOfKind Number) first _ (of given refl suited.0)
    (λ x fits. chain_kept added added_kept x (number_given given x suited.1 fits) more)))
