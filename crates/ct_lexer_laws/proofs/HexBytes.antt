-- Bytes are read back, and were written so.
use Rattle.std.proofs.Common.{◌≡◌, ℕ, ◌+◌, ◌*◌, ◌/◌, ◌%◌, true, List, [], ◌∷◌, length, drop, inl, inr, refl, sym, ap, ◌∙◌, subst, arith}
use Rattle.std.proofs.lemmas.List.Elements.{All-nil, All-cons, All-head, All-tail}
use Rattle.ct_lexer.specs.declared.byte.ByteClass.TheVariants as byte
use Rattle.ct_lexer.specs.declared.token.TokenKind.TheVariants as kind
use Rattle.ct_lexer.specs.Bytes.{belongs, AllOf, Stops}
use Rattle.ct_lexer.specs.Tokens.{IsBytes}
use Rattle.ct_lexer.proofs.Opening.{mark_cases}
use Rattle.ct_grammar.specs.Words.{hex_digit, hex_pairs, bytes_in}
use Rattle.ct_lexer_laws.specs.Laws.{IsDigitOf, ArePairs, AreWrittenBytes, BytesAreReadBack, BytesWereWritten}
use Rattle.ct_lexer_laws.proofs.Lone.{read_as}
use Rattle.ct_lexer_laws.proofs.HexDigits.{hex_of, number_of_hex}

abbrev IsHexDigit : ℕ → Type 0
IsHexDigit b = belongs byte.HexDigit b ≡ true

-- ---- what pairs of digits spell

record Spelled (bytes digits : List ℕ) : Type 0 where
  read : hex_pairs digits ≡ bytes
  hex : AllOf byte.HexDigit digits
  even : length digits % 2 ≡ 0

spelled : (bytes digits : List ℕ) → ArePairs bytes digits → Spelled bytes digits
unfolding hex_pairs
spelled [] [] are = record { read = refl; hex = All-nil IsHexDigit; even = refl }
spelled [] (high ∷ digits) are = absurd are
spelled (b ∷ bytes) [] are = absurd are
spelled (b ∷ bytes) (high ∷ []) are = absurd are
spelled (b ∷ bytes) (high ∷ low ∷ digits) are =
    let first = hex_of (b / 16) high are.0 in
    let second = hex_of (b % 16) low are.1 in
    let rest = spelled bytes digits are.2 in
    let byte_is : hex_digit high * 16 + hex_digit low ≡ b = omega (arith, first.means, second.means) in
    record {
      read = ap (λ (n : ℕ). n ∷ hex_pairs digits) byte_is ∙ ap (λ (bs : List ℕ). b ∷ bs) rest.read;
      hex = All-cons IsHexDigit high (low ∷ digits) first.digit_of (All-cons IsHexDigit low digits second.digit_of rest.hex);
      even = omega (arith, rest.even);
    }

-- digits in pairs are those of the bytes that they spell
pairs_of : (digits : List ℕ) → AllOf byte.HexDigit digits → length digits % 2 ≡ 0 → ArePairs (hex_pairs digits) digits
unfolding hex_pairs
pairs_of [] hex even = tt
pairs_of (high ∷ []) hex even = let odd : 1 % 2 ≡ 0 = even in absurd (omega arith)
pairs_of (high ∷ low ∷ digits) hex even =
    let tail = All-tail IsHexDigit high (low ∷ digits) hex in
    let first = number_of_hex high (All-head IsHexDigit high (low ∷ digits) hex) in
    let second = number_of_hex low (All-head IsHexDigit low digits tail) in
    let b : ℕ = hex_digit high * 16 + hex_digit low in
    let upper : hex_digit high ≡ b / 16 = omega (arith, first.small, second.small) in
    let lower : hex_digit low ≡ b % 16 = omega (arith, first.small, second.small) in
    (subst (λ (n : ℕ). IsDigitOf n high) upper first.is, subst (λ (n : ℕ). IsDigitOf n low) lower second.is, pairs_of digits (All-tail IsHexDigit low digits tail) (omega (arith, even)))

-- ---- tokens

token_of : (word digits more : List ℕ) (mark : ℕ) → belongs byte.BytesMark mark ≡ true → AllOf byte.HexDigit digits → length digits % 2 ≡ 0 → word ≡ 48 ∷ mark ∷ digits → Stops byte.HexDigit more
    → IsBytes word more
token_of word digits more mark marks hex even e stops = record { mark = mark; digits = digits; spelled = e; marks = marks; bytes = hex; even = even; whole = stops }

is_bytes : (bytes word more : List ℕ) → AreWrittenBytes word bytes → Stops byte.HexDigit more → IsBytes word more
is_bytes bytes word more written stops =
    let it = spelled bytes written.0 written.1 in
    elim written.2 [ inl e ↦ token_of word written.0 more 120 refl it.hex it.even e stops | inr e ↦ token_of word written.0 more 88 refl it.hex it.even e stops ]

behind_mark : (word digits : List ℕ) (mark : ℕ) → word ≡ 48 ∷ mark ∷ digits → bytes_in word ≡ hex_pairs digits
behind_mark word digits mark e = ap (λ (w : List ℕ). hex_pairs (drop 2 w)) e

read_back : (bytes word : List ℕ) → AreWrittenBytes word bytes → bytes_in word ≡ bytes
read_back bytes word written =
    let it = spelled bytes written.0 written.1 in
    elim written.2 [ inl e ↦ behind_mark word written.0 120 e ∙ it.read | inr e ↦ behind_mark word written.0 88 e ∙ it.read ]

pub bytes_are_read_back : BytesAreReadBack
bytes_are_read_back bytes word written = (read_as kind.Bytes byte.HexDigit word (λ more stops. is_bytes bytes word more written stops), read_back bytes word written)

pub bytes_were_written : BytesWereWritten
bytes_were_written word more token =
    let pairs : ArePairs (bytes_in word) token.digits =
    subst (λ (bs : List ℕ). ArePairs bs token.digits) (sym (behind_mark word token.digits token.mark token.spelled)) (pairs_of token.digits token.bytes token.even) in
    elim (mark_cases token.mark 120 88 token.marks) [
      | inl lower ↦ (token.digits, pairs, inl (token.spelled ∙ ap (λ (m : ℕ). 48 ∷ m ∷ token.digits) lower))
      | inr upper ↦ (token.digits, pairs, inr (token.spelled ∙ ap (λ (m : ℕ). 48 ∷ m ∷ token.digits) upper))
    ]
