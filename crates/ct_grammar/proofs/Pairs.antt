-- Hexadecimal digits by pairs.
use Rattle.std.proofs.Common.{◌≡◌, ℕ, suc, ◌+◌, ◌*◌, ◌<◌, ◌≤◌, List, [], ◌∷◌, length, get_or, drop, drop-cons, length-drop, refl, arith}
use Rattle.ct_grammar.specs.Words.{hex_digit, hex_pairs}

pub next_pair : (digits : List ℕ) (i j k : ℕ) → j ≡ suc i → k ≡ suc j → j < length digits
    → hex_pairs (drop i digits) ≡ (hex_digit (get_or digits i 0) * 16 + hex_digit (get_or digits j 0)) ∷ hex_pairs (drop k digits)
unfolding hex_pairs
next_pair digits i j k e f h =
    let one : drop i digits ≡ get_or digits i 0 ∷ drop (suc i) digits = drop-cons digits i 0 (omega arith) in
    let two : drop j digits ≡ get_or digits j 0 ∷ drop (suc j) digits = drop-cons digits j 0 h in
    rw (one, ← e, two, ← f) refl

short : (xs : List ℕ) → length xs ≤ 1 → hex_pairs xs ≡ []
unfolding hex_pairs
short [] h = refl
short (x ∷ []) h = refl
short (x ∷ y ∷ xs) h = absurd (omega arith)

pub no_pair : (digits : List ℕ) (i : ℕ) → length digits ≤ i + 1 → hex_pairs (drop i digits) ≡ []
no_pair digits i h = short (drop i digits) (omega (arith, length-drop i digits))
