-- Numbers: that the bytes which are read as a number are the number's own bytes.
use Rattle.std.proofs.Common.{◌≡◌, ℕ, zero, suc, ◌+◌, ◌*◌, ◌/◌, ◌%◌, ◌^◌, ◌<◌, ◌≤◌, Bool, true, false, cond, List, [], ◌∷◌, ◌++◌, length, drop, slice_index, Some, None, refl, sym, ◌∙◌, ap, subst, arith}
use Rattle.std.specs.Prelude.{nat_lt, nat_le, ◌&&◌}
use Rattle.std.specs.Int.{byte_at, bytes_low_first}
use Rattle.std.proofs.Math.Nat.{pow-suc, div-div-eq-div-mul, pow-succ'}
use Rattle.std.proofs.lemmas.Bool.Decides.{nat_tests}
use Rattle.std.proofs.lemmas.List.{drop_at}
use Rattle.byteorder.specs.Endian.{little_number, little_bytes}
use Rattle.byteorder.specs.Numbers.{little_from-cons, little_number-reads_back, length-bytes_low_first}
use Rattle.ct_codec.specs.Readers.{Outcome, begins_with_bytes, number}
use Rattle.ct_codec.specs.Codes.{IsCode}
use Rattle.ct_codec.proofs.Combined.{found_same}

-- a byte of a number is one of its 256th part
byte_at-next : (i x : ℕ) → byte_at (suc i) x ≡ byte_at i (x / 256)
byte_at-next zero x = refl
byte_at-next (suc i) x = ap (λ n. n % 256) (ap (λ p. x / p) (pow-succ' 256 (suc i)) ∙ sym (div-div-eq-div-mul x 256 (256 ^ suc i)))

bytes-next : (i size x : ℕ) → bytes_low_first (suc i) size x ≡ bytes_low_first i size (x / 256)
bytes-next i zero x = refl
bytes-next i (suc size) x = (λ j. byte_at-next i x j ∷ bytes-next (suc i) size x j)

front : (a b : Bool) → (a && b) ≡ true → (a ≡ true) × (b ≡ true)
front true b e = (refl, e)
front false b e = absurd (cc e)

-- what is read is a number of so many bytes, whose own bytes stood there
own_bytes : (size : ℕ) (bytes : List ℕ) → begins_with_bytes size bytes ≡ true → (bytes ≡ little_bytes size (little_number size bytes) ++ drop size bytes) × (little_number size bytes < 256 ^ size)
own_bytes zero bytes e = (refl, omega arith)
own_bytes (suc size) [] e = absurd (cc e)
own_bytes (suc size) (byte ∷ bytes) e =
    let both = front (nat_lt byte 256) (begins_with_bytes size bytes) e in
    let small : byte < 256 = grind (arith, nat_tests, both.0) in
    let more = own_bytes size bytes both.1 in
    let high = little_number size bytes in
    let is : little_number (suc size) (byte ∷ bytes) ≡ byte + 256 * high = ap (λ n. byte + 256 * n) (little_from-cons 0 size byte bytes) in
    let low : byte ≡ (byte + 256 * high) % 256 = omega (arith, small) in
    let part : high ≡ (byte + 256 * high) / 256 = omega (arith, small) in
    let power = pow-suc 256 size in (
      subst (λ n. byte ∷ bytes ≡ little_bytes (suc size) n ++ drop size bytes) (sym is)
          ((λ i. low i ∷ more.0 i) ∙ ap (λ l. (byte + 256 * high) % 256 ∷ (l ++ drop size bytes)) (ap (little_bytes size) part ∙ sym (bytes-next 0 size (byte + 256 * high)))),
      subst (λ n. n < 256 ^ suc size) (sym is) (omega (arith, small, more.1, power)),
    )

are_bytes : (i size n : ℕ) (rest : List ℕ) → begins_with_bytes size (bytes_low_first i size n ++ rest) ≡ true
are_bytes i zero n rest = refl
are_bytes i (suc size) n rest =
    let small : nat_lt (byte_at i n) 256 ≡ true = grind (arith, nat_tests, below i n) in
    (λ j. small j && begins_with_bytes size (bytes_low_first (suc i) size n ++ rest)) ∙ are_bytes (suc i) size n rest
  where
    below : (i n : ℕ) → byte_at i n < 256
    below zero n = omega arith
    below (suc i) n = omega arith

was_number : (size n : ℕ) (bytes rest : List ℕ) (t : Bool) → begins_with_bytes size bytes ≡ t → cond {A = Outcome ℕ} t (Some (little_number size bytes, drop size bytes)) None ≡ Some (n, rest)
    → (bytes ≡ little_bytes size n ++ rest) × (n < 256 ^ size)
was_number size n bytes rest true is e =
    let same = found_same (little_number size bytes) n (drop size bytes) rest e in
    let own = own_bytes size bytes is in
    (own.0 ∙ (λ i. little_bytes size (same.0 i) ++ same.1 i), subst (λ n. n < 256 ^ size) same.0 own.1)
was_number size n bytes rest false is e = absurd (cc e)

pub law_number : (size : ℕ) → IsCode (number size) (little_bytes size) (λ n. n < 256 ^ size)
unfolding number
law_number size = record {
  sound = λ bytes rest n e. was_number size n bytes rest (begins_with_bytes size bytes) refl e;
  complete = λ n rest f.
      ap (λ t. cond {A = Outcome ℕ} t (Some (little_number size (little_bytes size n ++ rest), drop size (little_bytes size n ++ rest))) None) (are_bytes 0 size n rest)
      ∙ (λ i. Some (little_number-reads_back size n rest f i, drop_at (little_bytes size n) rest size (length-bytes_low_first 0 size n) i));
}

-- of a list of bytes the test asks for its length alone
pub long_enough : (size : ℕ) (bytes : List ℕ) → ((i : ℕ) → slice_index bytes i < 256) → begins_with_bytes size bytes ≡ nat_le size (length bytes)
long_enough zero bytes all = grind (arith, nat_tests)
long_enough (suc size) [] all = grind (arith, nat_tests)
long_enough (suc size) (byte ∷ bytes) all =
    let small : nat_lt byte 256 ≡ true = grind (arith, nat_tests, all 0) in
    ap (λ t. t && begins_with_bytes size bytes) small ∙ long_enough size bytes (λ i. all (suc i)) ∙ step (nat_le size (length bytes)) (nat_le (suc size) (suc (length bytes))) (grind (arith, nat_tests)) (grind (arith, nat_tests))
  where
    step : (a b : Bool) → (a ≡ true → b ≡ true) → (b ≡ true → a ≡ true) → a ≡ b
    step true b to from = sym (to refl)
    step false true to from = from refl
    step false false to from = refl

pub number_here : (size : ℕ) (bytes : List ℕ) → ((i : ℕ) → slice_index bytes i < 256) → size ≤ length bytes → number size bytes ≡ Some (little_number size bytes, drop size bytes)
unfolding number
number_here size bytes all enough =
    let long : nat_le size (length bytes) ≡ true = grind (arith, nat_tests, enough) in
    ap (λ t. cond {A = Outcome ℕ} t (Some (little_number size bytes, drop size bytes)) None) (long_enough size bytes all ∙ long)
