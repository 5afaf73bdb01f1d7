-- One turn of a loop over parts: what the parts from here on come to is what all come to.
use Rattle.std.proofs.Common.{◌≡◌, ℕ, suc, ◌+◌, ◌<◌, ◌≤◌, true, false, ◌&&◌, List, ◌∷◌, map, length, get_or, drop, Some, None, refl, sym, ◌∙◌, ap, drop-cons, arith}
use Rattle.std.proofs.lemmas.List.{drop_all}
use Rattle.std.specs.Option.{option_or}
use Rattle.ct_types.specs.declared.value.Value.{Value}
use Rattle.ct_scan.specs.Readings.{Reading, all_quiet, first_pin}

front : {X : Type 0} (all : List X) (i : ℕ) (x : X) → i < length all → x ≡ get_or all i x → drop i all ≡ x ∷ drop (i + 1) all
front all i x within is = drop-cons all i x within ∙ (ap (λ y. y ∷ drop (suc i) all) (sym is) ∙ ap (λ k. x ∷ drop k all) (let next : suc i ≡ i + 1 = omega arith in next))

-- ---- all are quiet

pub record QuietSoFar {X : Type 0} (f : X → Reading) (all : List X) (i : ℕ) : Type 0 where
  pub rest : all_quiet (map f (drop i all)) ≡ all_quiet (map f all)

pub quiet_begins : {X : Type 0} (f : X → Reading) (all : List X) → QuietSoFar f all 0
quiet_begins f all = record { rest = refl }

quiet_turn : {X : Type 0} (f : X → Reading) (all : List X) (i : ℕ) (x : X) → i < length all → x ≡ get_or all i x → QuietSoFar f all i
    → ((f x).quiet && all_quiet (map f (drop (i + 1) all))) ≡ all_quiet (map f all)
quiet_turn f all i x within is so_far = ap (λ xs. all_quiet (map f xs)) (sym (front all i x within is)) ∙ so_far.rest

pub quiet_goes_on : {X : Type 0} (f : X → Reading) (all : List X) (i : ℕ) (x : X) → i < length all → x ≡ get_or all i x → (f x).quiet ≡ true → QuietSoFar f all i
    → QuietSoFar f all (i + 1)
quiet_goes_on f all i x within is quiet so_far = record { rest = ap (λ b. b && all_quiet (map f (drop (i + 1) all))) (sym quiet) ∙ quiet_turn f all i x within is so_far }

pub quiet_stops : {X : Type 0} (f : X → Reading) (all : List X) (i : ℕ) (x : X) → i < length all → x ≡ get_or all i x → (f x).quiet ≡ false → QuietSoFar f all i
    → all_quiet (map f all) ≡ false
quiet_stops f all i x within is loud so_far = sym (quiet_turn f all i x within is so_far) ∙ ap (λ b. b && all_quiet (map f (drop (i + 1) all))) loud

pub quiet_ends : {X : Type 0} (f : X → Reading) (all : List X) (i : ℕ) → length all ≤ i → QuietSoFar f all i → all_quiet (map f all) ≡ true
quiet_ends f all i past so_far = sym so_far.rest ∙ ap (λ xs. all_quiet (map f xs)) (drop_all i all past)

-- ---- none pins

pub record PinsLater {X : Type 0} (f : X → Reading) (all : List X) (i : ℕ) : Type 0 where
  pub rest : first_pin (map f (drop i all)) ≡ first_pin (map f all)

pub pin_begins : {X : Type 0} (f : X → Reading) (all : List X) → PinsLater f all 0
pin_begins f all = record { rest = refl }

pin_turn : {X : Type 0} (f : X → Reading) (all : List X) (i : ℕ) (x : X) → i < length all → x ≡ get_or all i x → PinsLater f all i
    → option_or (f x).pins (first_pin (map f (drop (i + 1) all))) ≡ first_pin (map f all)
pin_turn f all i x within is so_far = ap (λ xs. first_pin (map f xs)) (sym (front all i x within is)) ∙ so_far.rest

pub pin_goes_on : {X : Type 0} (f : X → Reading) (all : List X) (i : ℕ) (x : X) → i < length all → x ≡ get_or all i x → (f x).pins ≡ None → PinsLater f all i
    → PinsLater f all (i + 1)
pin_goes_on f all i x within is none so_far = record { rest = ap (λ o. option_or o (first_pin (map f (drop (i + 1) all)))) (sym none) ∙ pin_turn f all i x within is so_far }

pub pin_stops : {X : Type 0} (f : X → Reading) (all : List X) (i : ℕ) (x : X) (v : Value) → i < length all → x ≡ get_or all i x → (f x).pins ≡ Some v → PinsLater f all i
    → first_pin (map f all) ≡ Some v
pin_stops f all i x v within is some so_far = sym (pin_turn f all i x within is so_far) ∙ ap (λ o. option_or o (first_pin (map f (drop (i + 1) all)))) some

pub pin_ends : {X : Type 0} (f : X → Reading) (all : List X) (i : ℕ) → length all ≤ i → PinsLater f all i → first_pin (map f all) ≡ None
pin_ends f all i past so_far = sym so_far.rest ∙ ap (λ xs. first_pin (map f xs)) (drop_all i all past)

pub ruleset quiet_loop = (quiet_begins, quiet_goes_on, quiet_stops, quiet_ends)

pub ruleset pin_loop = (pin_begins, pin_goes_on, pin_stops, pin_ends)
