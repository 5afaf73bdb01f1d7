-- What is written of bytes and characters: two hexadecimal digits, and the escapes of a text between quotes.
use Rattle.std.proofs.Common.{inl, inr, ◌≡◌, ◌≢◌, ℕ, suc, ◌/◌, ◌%◌, ◌^◌, ◌-◌, ◌<◌, ◌≤◌, true, false, List, [], ◌∷◌, ◌++◌, ◌⊎◌, length, get_or, flat_map, codes, refl, sym, ap, ◌∙◌, arith, append-nil, encode_utf8, append_assoc}
use Rattle.std.specs.Fmt.{digits, digit_glyph, padded_integral, format_spec}
use Rattle.std.proofs.lemmas.Fmt.{hex_byte}
use Rattle.std.proofs.lemmas.Bool.{cases_lt}
use Rattle.std.proofs.lemmas.Bool.Decides.{nat_tests}
use Rattle.std.proofs.lemmas.Str.{encode_ascii, encodes-append, inside_one}
use Rattle.std.proofs.lemmas.Grind.{flat_map-append}
use Rattle.std.specs.Str.{encode_utf8_all}
use Rattle.ct_machine.specs.Transcript.{lower_digit, upper_digit, lower_hex, upper_hex, escaped}

lower_glyph : (d : ℕ) → digit_glyph false d ≡ lower_digit d
lower_glyph d = grind arith

upper_glyph : (d : ℕ) → digit_glyph true d ≡ upper_digit d
upper_glyph d = grind arith

pub lower_hex_shown : (n : ℕ) → n < 256 → padded_integral (format_spec 32 0 4 2 (2 ^ 64 - 1)) false [] (digits 16 false n) ≡ lower_hex n
lower_hex_shown n small = hex_byte false n small ∙ ap (λ d. d ∷ digit_glyph false (n % 16) ∷ []) (lower_glyph (n / 16)) ∙ ap (λ d. lower_digit (n / 16) ∷ d ∷ []) (lower_glyph (n % 16))

pub upper_hex_shown : (n : ℕ) → n < 256 → padded_integral (format_spec 32 0 4 2 (2 ^ 64 - 1)) false [] (digits 16 true n) ≡ upper_hex n
upper_hex_shown n small = hex_byte true n small ∙ ap (λ d. d ∷ digit_glyph true (n % 16) ∷ []) (upper_glyph (n / 16)) ∙ ap (λ d. upper_digit (n / 16) ∷ d ∷ []) (upper_glyph (n % 16))

-- a byte that is neither doubled nor a control character stays
stays : (b : ℕ) → 32 ≤ b → b ≢ 39 → b ≢ 92 → b ≢ 127 → escaped b ≡ b ∷ []
stays b low quote slash delete = grind (arith, nat_tests)

all_stay : (bs : List ℕ) → ((k : ℕ) → k < length bs → escaped (get_or bs k 0) ≡ get_or bs k 0 ∷ []) → flat_map escaped bs ≡ bs
all_stay [] each = refl
all_stay (b ∷ bs) each =
    let first : escaped b ≡ b ∷ [] = each 0 (omega arith) in
    let rest : flat_map escaped bs ≡ bs = all_stay bs (λ k h. each (suc k) (omega arith)) in
    ap (λ text. text ++ flat_map escaped bs) first ∙ ap (λ text. b ∷ text) rest

-- a byte below 128 stands only in its own character
byte_stays : (c k : ℕ) → 32 ≤ c → c ≢ 39 → c ≢ 92 → c ≢ 127 → k < length (encode_utf8 c) → escaped (get_or (encode_utf8 c) k 0) ≡ get_or (encode_utf8 c) k 0 ∷ []
byte_stays c k low quote slash delete within = elim (cases_lt (get_or (encode_utf8 c) k 0) 128) [
  | inl small ↦ let own : c ≡ get_or (encode_utf8 c) k 0 = inside_one c [] (encode_utf8 c) k (sym (append-nil (encode_utf8 c))) within small in
      stays _ (omega arith) (λ e. quote (own ∙ e)) (λ e. slash (own ∙ e)) (λ e. delete (own ∙ e))
  | inr large ↦ stays _ (omega arith) (λ e. absurd (omega arith)) (λ e. absurd (omega arith)) (λ e. absurd (omega arith))
]

pub char_stays : (c : ℕ) → 32 ≤ c → c ≢ 39 → c ≢ 92 → c ≢ 127 → flat_map escaped (encode_utf8 c) ≡ encode_utf8 c
char_stays c low quote slash delete = all_stay (encode_utf8 c) (λ k within. byte_stays c k low quote slash delete within)

control_escaped : (c : ℕ) → (c < 32) ⊎ (c ≡ 127) → escaped c ≡ codes "\\x" ++ lower_hex c
control_escaped c h = elim h [
  | inl low ↦ grind (arith, nat_tests)
  | inr delete ↦ grind (arith, nat_tests)
]

pub control_char : (c : ℕ) → c < 128 → (c < 32) ⊎ (c ≡ 127) → flat_map escaped (encode_utf8 c) ≡ codes "\\x" ++ lower_hex c
control_char c ascii h = ap (flat_map escaped) (encode_ascii c ascii) ∙ append-nil (escaped c) ∙ control_escaped c h

-- one character more of an escaped text
pub escaped_push : (before cs : List ℕ) (c : ℕ) → (before ++ flat_map escaped (encode_utf8_all cs)) ++ flat_map escaped (encode_utf8 c) ≡ before ++ flat_map escaped (encode_utf8_all (cs ++ c ∷ []))
escaped_push before cs c =
    let one : encode_utf8_all (c ∷ []) ≡ encode_utf8 c = append-nil (encode_utf8 c) in
    let all : encode_utf8_all (cs ++ c ∷ []) ≡ encode_utf8_all cs ++ encode_utf8 c = encodes-append cs (c ∷ []) ∙ ap (λ text. encode_utf8_all cs ++ text) one in
    append_assoc before (flat_map escaped (encode_utf8_all cs)) (flat_map escaped (encode_utf8 c))
    ∙ ap (λ text. before ++ text) (sym (ap (flat_map escaped) all ∙ flat_map-append escaped (encode_utf8_all cs) (encode_utf8 c)))
