-- One turn of a loop that walks its items in turn, each onto those made before it.
use Rattle.std.proofs.Common.{◌≡◌, ℕ, suc, ◌+◌, ◌<◌, ◌≤◌, List, [], ◌∷◌, map, length, get_or, drop, Ok, Err, refl, sym, ◌∙◌, ap, drop-cons, arith}
use Rattle.std.proofs.lemmas.List.{append-nil, drop_all}
use Rattle.ct_types.specs.declared.bound.BoundExpr.{BoundExpr}
use Rattle.ct_types.specs.declared.refusal.Refusal.{Refusal}
use Rattle.ct_bind_kinds.specs.declared.kind.Kind.{Kind}
use Rattle.ct_types.specs.Answers.{Answer, ◌>>=◌, each, onto, Gives}
use Rattle.ct_bind_names.proofs.Walks.{onto_one}
use Rattle.ct_bind_expr.specs.declared.place.Place.{Place}
use Rattle.ct_bind_expr.specs.Versions.{Walk, operand, values}
use Rattle.ct_bind_expr.specs.Walked.{extended, made_of}

-- what the steps from this place on give, onto those made so far, is what all give
pub record Goes {X A B : Type 0} (step : A → Answer B) (f : X → A) (all : List X) (i : ℕ) (made : List B) (whole : Answer (List B)) : Type 0 where
  pub rest : onto made (each step (map f (drop i all))) ≡ whole

-- the item at this place, and those behind it
pub front : {X : Type 0} (all : List X) (i : ℕ) (x : X) → i < length all → x ≡ get_or all i x → drop i all ≡ x ∷ drop (i + 1) all
front all i x within is =
    let next : suc i ≡ i + 1 = omega arith in
    drop-cons all i x within ∙ (ap (λ y. y ∷ drop (suc i) all) (sym is) ∙ ap (λ k. x ∷ drop k all) next)

-- one item, and then the rest
pub onto_step : {B : Type 0} (made : List B) (item : Answer B) (rest : Answer (List B))
    → onto made (item >>= (λ b. rest >>= (λ more. Ok (b ∷ more)))) ≡ (extended made item >>= (λ next. onto next rest))
onto_step made (Ok b) rest = onto_one made b rest
onto_step made (Err refusal) rest = refl

pub turns : {X A B : Type 0} (step : A → Answer B) (f : X → A) (all : List X) (i : ℕ) (x : X) (made : List B) (whole : Answer (List B))
    → i < length all → x ≡ get_or all i x → Goes step f all i made whole → (extended made (step (f x)) >>= (λ next. onto next (each step (map f (drop (i + 1) all))))) ≡ whole
turns step f all i x made whole within is goes =
    sym (onto_step made (step (f x)) (each step (map f (drop (i + 1) all)))) ∙ ap (λ xs. onto made (each step (map f xs))) (sym (front all i x within is)) ∙ goes.rest

pub goes_on : {X A B : Type 0} (step : A → Answer B) (f : X → A) (all : List X) (i : ℕ) (x : X) (made next : List B) (whole : Answer (List B))
    → i < length all → x ≡ get_or all i x → Goes step f all i made whole → extended made (step (f x)) ≡ Ok next → Goes step f all (i + 1) next whole
goes_on step f all i x made next whole within is goes gave =
    record { rest = ap (λ it. it >>= (λ next. onto next (each step (map f (drop (i + 1) all))))) (sym gave) ∙ turns step f all i x made whole within is goes }

pub stops : {X A B : Type 0} (step : A → Answer B) (f : X → A) (all : List X) (i : ℕ) (x : X) (made : List B) (whole : Answer (List B)) (refusal : Refusal)
    → i < length all → x ≡ get_or all i x → Goes step f all i made whole → extended made (step (f x)) ≡ Err refusal → whole ≡ Err refusal
stops step f all i x made whole refusal within is goes gave =
    sym (turns step f all i x made whole within is goes) ∙ ap (λ it. it >>= (λ next. onto next (each step (map f (drop (i + 1) all))))) gave

pub finishes : {X A B : Type 0} (step : A → Answer B) (f : X → A) (all : List X) (i : ℕ) (made : List B) (whole : Answer (List B))
    → length all ≤ i → Goes step f all i made whole → whole ≡ Ok made
finishes step f all i made whole past goes =
    sym goes.rest ∙ ap (λ xs. onto made (each step (map f xs))) (drop_all i all past) ∙ ap (λ all. Ok all) (append-nil made)

-- what an item comes to, onto those made so far, where what it was made of is given
pub gives_more : {A B : Type 0} (wanted given : Answer A) (rule : A → Answer B) (made : List B) (result : Answer (List B))
    → Gives wanted given → Gives (extended made (given >>= rule)) result → Gives (extended made (wanted >>= rule)) result
gives_more wanted (Ok a) rule made (Ok b) operand whole = ap (λ it. extended made (it >>= rule)) operand ∙ whole
gives_more wanted (Ok a) rule made (Err refusal) operand whole = λ other. ap (λ it. extended made (it >>= rule)) operand ∙ whole other
gives_more wanted (Err first) rule made (Ok b) operand whole = absurd cc
gives_more wanted (Err first) rule made (Err refusal) operand whole = λ other.
    let same : first ≡ refusal = let e = whole other in cc in
    ap (λ it. extended made (it >>= rule)) (operand (λ is. other (sym same ∙ is))) ∙ ap (λ r. Err r) same

-- the same, where something is made of it
pub gives_more_made : {A B C : Type 0} (make : B → C) (rule : A → Answer B) (made : List C) (wanted given : Answer A) (result : Answer (List C))
    → Gives wanted given → Gives (extended made (made_of make (given >>= rule))) result → Gives (extended made (made_of make (wanted >>= rule))) result
gives_more_made make rule made wanted (Ok a) (Ok b) operand whole = ap (λ it. extended made (made_of make (it >>= rule))) operand ∙ whole
gives_more_made make rule made wanted (Ok a) (Err refusal) operand whole = λ other. ap (λ it. extended made (made_of make (it >>= rule))) operand ∙ whole other
gives_more_made make rule made wanted (Err first) (Ok b) operand whole = absurd cc
gives_more_made make rule made wanted (Err first) (Err refusal) operand whole = λ other.
    let same : first ≡ refusal = let e = whole other in cc in
    ap (λ it. extended made (made_of make (it >>= rule))) (operand (λ is. other (sym same ∙ is))) ∙ ap (λ r. Err r) same

-- ---- values, each of the kind at its place

pub record Fills {X : Type 0} (place : Place) (f : X → Walk) (kinds : List Kind) (all : List X) (i : ℕ) (made : List BoundExpr) (whole : Answer (List BoundExpr)) : Type 0 where
  pub rest : onto made (values place kinds (map f (drop i all))) ≡ whole

fills_begin : (walked : Answer (List BoundExpr)) → onto [] walked ≡ walked
fills_begin (Ok made) = refl
fills_begin (Err refusal) = refl

pub fills_begins : {X : Type 0} (place : Place) (f : X → Walk) (kinds : List Kind) (all : List X) (made : List BoundExpr) → made ≡ [] → Fills place f kinds all 0 made (values place kinds (map f all))
fills_begins place f kinds all made none = record { rest = ap (λ made. onto made (values place kinds (map f all))) none ∙ fills_begin (values place kinds (map f all)) }

pub fills_turn : {X : Type 0} (place : Place) (f : X → Walk) (kind : Kind) (kinds left : List Kind) (all : List X) (i : ℕ) (x : X) (made : List BoundExpr) (whole : Answer (List BoundExpr))
    → i < length all → x ≡ get_or all i x → left ≡ kind ∷ kinds → Fills place f left all i made whole
    → (extended made (operand kind place (f x)) >>= (λ next. onto next (values place kinds (map f (drop (i + 1) all))))) ≡ whole
unfolding values
fills_turn place f kind kinds left all i x made whole within is has fills =
    sym (onto_step made (operand kind place (f x)) (values place kinds (map f (drop (i + 1) all))))
    ∙ ap (λ xs. onto made (values place (kind ∷ kinds) (map f xs))) (sym (front all i x within is))
    ∙ ap (λ kinds. onto made (values place kinds (map f (drop i all)))) (sym has) ∙ fills.rest

pub fills_on : {X : Type 0} (place : Place) (f : X → Walk) (kind : Kind) (kinds left : List Kind) (all : List X) (i : ℕ) (x : X) (made next : List BoundExpr) (whole : Answer (List BoundExpr))
    → i < length all → x ≡ get_or all i x → left ≡ kind ∷ kinds → Fills place f left all i made whole → extended made (operand kind place (f x)) ≡ Ok next → Fills place f kinds all (i + 1) next whole
fills_on place f kind kinds left all i x made next whole within is has fills gave =
    record { rest = ap (λ it. it >>= (λ next. onto next (values place kinds (map f (drop (i + 1) all))))) (sym gave) ∙ fills_turn place f kind kinds left all i x made whole within is has fills }

pub fills_stop : {X : Type 0} (place : Place) (f : X → Walk) (kind : Kind) (kinds left : List Kind) (all : List X) (i : ℕ) (x : X) (made : List BoundExpr) (whole : Answer (List BoundExpr)) (refusal : Refusal)
    → i < length all → x ≡ get_or all i x → left ≡ kind ∷ kinds → Fills place f left all i made whole → extended made (operand kind place (f x)) ≡ Err refusal → whole ≡ Err refusal
fills_stop place f kind kinds left all i x made whole refusal within is has fills gave =
    sym (fills_turn place f kind kinds left all i x made whole within is has fills) ∙ ap (λ it. it >>= (λ next. onto next (values place kinds (map f (drop (i + 1) all))))) gave

-- no kind is left, or no value
no_kind : (place : Place) (walks : List Walk) → values place [] walks ≡ Ok []
unfolding values
no_kind place walks = refl

no_value : (place : Place) (kinds : List Kind) → values place kinds [] ≡ Ok []
unfolding values
no_value place [] = refl
no_value place (kind ∷ kinds) = refl

pub fills_no_kind : {X : Type 0} (place : Place) (f : X → Walk) (left : List Kind) (all : List X) (i : ℕ) (made : List BoundExpr) (whole : Answer (List BoundExpr))
    → left ≡ [] → Fills place f left all i made whole → whole ≡ Ok made
fills_no_kind place f left all i made whole none fills =
    sym fills.rest ∙ ap (λ kinds. onto made (values place kinds (map f (drop i all)))) none ∙ ap (onto made) (no_kind place (map f (drop i all))) ∙ ap (λ all. Ok all) (append-nil made)

pub fills_no_value : {X : Type 0} (place : Place) (f : X → Walk) (left : List Kind) (all : List X) (i : ℕ) (made : List BoundExpr) (whole : Answer (List BoundExpr))
    → length all ≤ i → Fills place f left all i made whole → whole ≡ Ok made
fills_no_value place f left all i made whole past fills =
    sym fills.rest ∙ ap (λ xs. onto made (values place left (map f xs))) (drop_all i all past) ∙ ap (onto made) (no_value place left) ∙ ap (λ all. Ok all) (append-nil made)
