-- One turn of a loop that goes through a chain from left to right.
use Rattle.std.proofs.Common.{◌≡◌, ◌≢◌, ℕ, suc, ◌+◌, ◌<◌, ◌≤◌, List, [], ◌∷◌, map, length, get_or, drop, Ok, Err, refl, sym, ◌∙◌, ap, drop-cons, arith}
use Rattle.std.proofs.lemmas.List.{drop_all}
use Rattle.ct_types.specs.declared.refusal.Refusal.{Refusal}
use Rattle.ct_types.specs.declared.refusal.Refusal.TheVariants.{Memory}
use Rattle.ct_types.specs.Answers.{Answer, ◌>>=◌}
use Rattle.ct_expr.specs.Meaning.{chain}

-- what a loop has come to, before the part at this place: the chain from there on gives the whole
pub record Goes {A X Y : Type 0} (step : A → Y → Answer A) (f : X → Y) (all : List X) (i : ℕ) (so_far : A) (whole : Answer A) : Type 0 where
  pub rest : chain step so_far (map f (drop i all)) ≡ whole

pub begins : {A X Y : Type 0} (step : A → Y → Answer A) (f : X → Y) (all : List X) (so_far : A) → Goes step f all 0 so_far (chain step so_far (map f all))
begins step f all so_far = record { rest = refl }

pub turns : {A X Y : Type 0} (step : A → Y → Answer A) (f : X → Y) (all : List X) (i : ℕ) (x : X) (so_far : A) (whole : Answer A)
    → i < length all → x ≡ get_or all i x → Goes step f all i so_far whole → step so_far (f x) >>= (λ made. chain step made (map f (drop (i + 1) all))) ≡ whole
turns step f all i x so_far whole within is goes =
    let front : drop i all ≡ x ∷ drop (i + 1) all = drop-cons all i x within ∙ (ap (λ y. y ∷ drop (suc i) all) (sym is) ∙ ap (λ k. x ∷ drop k all) (let next : suc i ≡ i + 1 = omega arith in next)) in
    ap (λ xs. chain step so_far (map f xs)) (sym front) ∙ goes.rest

pub goes_on : {A X Y : Type 0} (step : A → Y → Answer A) (f : X → Y) (all : List X) (i : ℕ) (x : X) (so_far made : A) (whole : Answer A)
    → i < length all → x ≡ get_or all i x → Goes step f all i so_far whole → step so_far (f x) ≡ Ok made → Goes step f all (i + 1) made whole
goes_on step f all i x so_far made whole within is goes gave = record { rest = ap (λ o. o >>= (λ m. chain step m (map f (drop (i + 1) all)))) (sym gave) ∙ turns step f all i x so_far whole within is goes }

pub ends : {A X Y : Type 0} (step : A → Y → Answer A) (f : X → Y) (all : List X) (i : ℕ) (x : X) (so_far : A) (whole : Answer A) (refusal : Refusal)
    → i < length all → x ≡ get_or all i x → Goes step f all i so_far whole → step so_far (f x) ≡ Err refusal → whole ≡ Err refusal
ends step f all i x so_far whole refusal within is goes gave = sym (turns step f all i x so_far whole within is goes) ∙ ap (λ o. o >>= (λ m. chain step m (map f (drop (i + 1) all)))) gave

pub stops : {A X Y : Type 0} (step : A → Y → Answer A) (f : X → Y) (all : List X) (i : ℕ) (x : X) (so_far : A) (whole : Answer A) (refusal : Refusal)
    → i < length all → x ≡ get_or all i x → Goes step f all i so_far whole → (refusal ≢ Memory → step so_far (f x) ≡ Err refusal) → refusal ≢ Memory → whole ≡ Err refusal
stops step f all i x so_far whole refusal within is goes gave other = ends step f all i x so_far whole refusal within is goes (gave other)

drop_past : {X : Type 0} (all : List X) (i : ℕ) → length all ≤ i → drop i all ≡ []
drop_past all i past = drop_all i all past

pub finishes : {A X Y : Type 0} (step : A → Y → Answer A) (f : X → Y) (all : List X) (i : ℕ) (so_far : A) (whole : Answer A)
    → length all ≤ i → Goes step f all i so_far whole → whole ≡ Ok so_far
finishes step f all i so_far whole past goes = sym goes.rest ∙ ap (λ xs. chain step so_far (map f xs)) (drop_past all i past)

pub ruleset loops = (begins, goes_on, stops, finishes)
