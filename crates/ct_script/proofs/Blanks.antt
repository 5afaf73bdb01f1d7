-- A text may be cut where its blanks end, and where the blanks at its end begin.
use Rattle.std.proofs.Common.{◌≡◌, ℕ, ◌-◌, ◌<◌, true, zero, suc, List, length, get_or, take_while, reverse, subst, ◌∙◌, arith}
use Rattle.std.specs.List.{prefix_len}
use Rattle.std.specs.Str.{IsUtf8, IsCharBoundary}
use Rattle.std.proofs.lemmas.List.{get_or-reverse, length-reverse}
use Rattle.std.proofs.lemmas.List.Folds.{length-prefix_len}
use Rattle.std.proofs.lemmas.List.Sums.{prefix_len_passes, prefix_len-le-length}
use Rattle.std.proofs.lemmas.Bool.Decides.{nat_tests}
use Rattle.std.proofs.lemmas.Str.{IsCharBoundary-start, IsCharBoundary-end, IsCharBoundary-after_ascii, IsCharBoundary-before_ascii}
use Rattle.ct_script.specs.Forms.{is_blank}

-- a blank is ASCII
blank_is_ascii : (byte : ℕ) → is_blank byte ≡ true → byte < 128
blank_is_ascii byte h = grind (arith, nat_tests)

after_blanks : (bs : List ℕ) (n : ℕ) → IsUtf8 bs → n ≡ prefix_len is_blank bs → IsCharBoundary bs n
after_blanks bs zero utf8 e = IsCharBoundary-start bs utf8
after_blanks bs (suc n) utf8 e =
    let within : n < prefix_len is_blank bs = omega arith in
    let bound = prefix_len-le-length is_blank bs in
    let low : get_or bs n 0 < 128 = blank_is_ascii _ (prefix_len_passes is_blank bs n 0 within) in
    subst (IsCharBoundary bs) (omega arith) (IsCharBoundary-after_ascii bs n utf8 (omega arith) low)

pub IsCharBoundary-after_blanks : (bs : List ℕ) (n : ℕ) → IsUtf8 bs → n ≡ length (take_while is_blank bs) → IsCharBoundary bs n
IsCharBoundary-after_blanks bs n utf8 e = after_blanks bs n utf8 (e ∙ length-prefix_len is_blank bs)

before_blanks : (bs : List ℕ) (n : ℕ) → IsUtf8 bs → n ≡ prefix_len is_blank (reverse bs) → IsCharBoundary bs (length bs - n)
before_blanks bs zero utf8 e = subst (IsCharBoundary bs) (omega arith) (IsCharBoundary-end bs)
before_blanks bs (suc n) utf8 e =
    let within : n < prefix_len is_blank (reverse bs) = omega arith in
    let bound = prefix_len-le-length is_blank (reverse bs) in
    let inside : n < length bs = omega (arith, length-reverse bs) in
    let passes = prefix_len_passes is_blank (reverse bs) n 0 within in
    let low : get_or bs (length bs - 1 - n) 0 < 128 = blank_is_ascii _ (subst (λ b. is_blank b ≡ true) (get_or-reverse bs n 0 inside) passes) in
    subst (IsCharBoundary bs) (omega arith) (IsCharBoundary-before_ascii bs (length bs - 1 - n) (omega arith) low)

pub IsCharBoundary-before_blanks : (bs : List ℕ) (n : ℕ) → IsUtf8 bs → n ≡ length (take_while is_blank (reverse bs)) → IsCharBoundary bs (length bs - n)
IsCharBoundary-before_blanks bs n utf8 e = before_blanks bs n utf8 (e ∙ length-prefix_len is_blank (reverse bs))
