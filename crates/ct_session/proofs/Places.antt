-- The place of a variable, and the variables with another value there.
use Rattle.std.proofs.Common.{◌≡◌, ℕ, zero, suc, ◌<◌, nat_lt, cond, Bool, true, false, List, [], ◌∷◌, length, get_or, set, Some, None, Ok, Err, refl, ap, ◌∙◌, arith}
use Rattle.std.specs.List.{position, position_or_len}
use Rattle.std.proofs.lemmas.List.Sums.{fails_before_first}
use Rattle.std.proofs.lemmas.List.Folds.{list_any_none, list_any_at}
use borrow.Author.Tests.{ltb-false}
use Rattle.std.proofs.lemmas.List.Quantifiers.{position-Some}
use Rattle.ct_types.specs.declared.catalogue.Variable.{Variable}
use Rattle.ct_types.specs.declared.value.Value.{Value}
use Rattle.ct_bind_names.specs.Names.{same}
use Rattle.ct_bind_names.specs.Catalogue.{is_declared}
use Rattle.ct_types.specs.Answers.{demand}
use Rattle.ct_types.specs.declared.refusal.Refusal.TheVariants.{NoVariable}
use Rattle.ct_session.specs.SetDeclare.{may_set, with_value}

-- another value at the place of a name, the first with it, is another value of its first variable
put_at : (xs : List Variable) (i : ℕ) (d : Variable) (name : List ℕ) (value : Value) → i < length xs
    → ((k : ℕ) → k < i → same (get_or xs k d).name name ≡ false) → same (get_or xs i d).name name ≡ true
    → set xs i (record (get_or xs i d) { value = value }) ≡ with_value xs name value
put_at [] i d name value within before here = absurd (omega arith)
put_at (x ∷ xs) zero d name value within before here = rw here
put_at (x ∷ xs) (suc i) d name value within before here =
    let other : same x.name name ≡ false = before 0 (omega arith) in
    rw other (ap (λ rest. x ∷ rest) (put_at xs i d name value (omega arith) (λ k lt. before (suc k) (omega arith)) here))

pub put_at_place : (xs : List Variable) (i : ℕ) (d : Variable) (name : List ℕ) (value : Value) → position (λ (v : Variable). same v.name name) xs ≡ Some i
    → set xs i (record (get_or xs i d) { value = value }) ≡ with_value xs name value
put_at_place xs i d name value at =
    let found = position-Some (λ (v : Variable). same v.name name) xs i d at in
    put_at xs i d name value found.0 found.2 found.1

-- the same of the item that stands there
pub put_item : (xs items made : List Variable) (i : ℕ) (item : Variable) (name : List ℕ) (value : Value) → position (λ (v : Variable). same v.name name) xs ≡ Some i
    → items ≡ xs → item ≡ get_or items i item → made ≡ set items i (record item { value = value }) → made ≡ with_value xs name value
put_item xs items made i item name value at is here after =
    let there : item ≡ get_or xs i item = here ∙ ap (λ ys. get_or ys i item) is in
    let whole : made ≡ set xs i (record (get_or xs i item) { value = value }) = after ∙ ap (λ ys. set ys i (record item { value = value })) is ∙ ap (λ (v : Variable). set xs i (record v { value = value })) there in
    whole ∙ put_at_place xs i item name value at

none_test : (b : Bool) (n : ℕ) → cond b (Some n) None ≡ None → b ≡ false
none_test true n e = cc
none_test false n e = refl

-- a name without a place is not declared, and one with a place is
pub no_place : (xs : List Variable) (name : List ℕ) → position (λ (v : Variable). same v.name name) xs ≡ None → is_declared xs name ≡ false
unfolding is_declared
no_place xs name none =
    let p : Variable → Bool = λ v. same v.name name in
    let over : nat_lt (position_or_len p xs) (length xs) ≡ false = none_test (nat_lt (position_or_len p xs) (length xs)) (position_or_len p xs) none in
    list_any_none p xs (λ k d lt. fails_before_first p xs k d (omega (arith, ltb-false, over)))

some_place_by : (xs : List Variable) (name : List ℕ) (i : ℕ) (d : Variable) → position (λ (v : Variable). same v.name name) xs ≡ Some i → is_declared xs name ≡ true
unfolding is_declared
some_place_by xs name i d at =
    let found = position-Some (λ (v : Variable). same v.name name) xs i d at in
    list_any_at (λ (v : Variable). same v.name name) xs i d found.0 found.1

pub some_place : (xs : List Variable) (name : List ℕ) (i : ℕ) → position (λ (v : Variable). same v.name name) xs ≡ Some i → is_declared xs name ≡ true
some_place [] name i at = cc
some_place (x ∷ xs) name i at = some_place_by (x ∷ xs) name i x at

-- what SET answers by the place that was found
pub refused : (xs : List Variable) (name : List ℕ) → position (λ (v : Variable). same v.name name) xs ≡ None → may_set xs name ≡ Err (NoVariable name)
refused xs name none = ap (λ declared. demand declared (NoVariable name)) (no_place xs name none)

pub accepted : (xs : List Variable) (name : List ℕ) (i : ℕ) → position (λ (v : Variable). same v.name name) xs ≡ Some i → may_set xs name ≡ Ok tt
accepted xs name i at = ap (λ declared. demand declared (NoVariable name)) (some_place xs name i at)
