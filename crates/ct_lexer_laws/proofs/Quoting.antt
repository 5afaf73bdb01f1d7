-- A text between quotes, by its characters: the bytes of a character are a quote only where it is one.
use Rattle.std.proofs.Common.{◌≡◌, ℕ, suc, ◌<◌, Bool, true, false, cond, List, [], ◌∷◌, ◌++◌, length, get_or, encode_utf8, encode_utf8_all, IsUtf8, refl, sym, ap, ◌∙◌, arith, append-nil, append_assoc}
use Rattle.std.specs.Prelude.{◌==◌}
use Rattle.std.specs.Str.{chars, all_scalars}
use Rattle.std.proofs.lemmas.Bool.{eqb-true, ne_eqb, cond-false, both_ways, and_from}
use Rattle.std.proofs.lemmas.Str.{IsUtf8-append, chars_past_char, encode_ascii, inside_one}
use Rattle.ct_types.proofs.Tests.{both}
use Rattle.ct_lexer.specs.Tokens.{spelling}
use Rattle.ct_grammar.specs.Words.{text_from, text_in}

-- no byte is a quote
abbrev pub HasNoQuote : List ℕ → Type 0
HasNoQuote bytes = (k : ℕ) → k < length bytes → ¬ (get_or bytes k 0 ≡ 39)

pub none_behind : (b : ℕ) (bytes : List ℕ) → HasNoQuote (b ∷ bytes) → HasNoQuote bytes
none_behind b bytes none k below = none (suc k) (omega arith)

pub none_first : (b : ℕ) (bytes : List ℕ) → HasNoQuote (b ∷ bytes) → ¬ (b ≡ 39)
none_first b bytes none = none 0 (omega arith)

-- no number that a test tells from a quote is one
pub no_quote : (b : ℕ) → (b == 39) ≡ false → ¬ (b ≡ 39)
no_quote b e is = both_ways (39 == 39) (ap (λ n. n == 39) (sym is) ∙ e) refl

pub quote_code : encode_utf8 39 ≡ 39 ∷ []
quote_code = encode_ascii 39 (omega arith)

-- of a character that is no quote, no byte is
pub plain_bytes : (c : ℕ) → ¬ (c ≡ 39) → HasNoQuote (encode_utf8 c)
plain_bytes c other k below is =
    let low : get_or (encode_utf8 c) k 0 < 128 = omega arith in
    other (inside_one c [] (encode_utf8 c) k (sym (append-nil (encode_utf8 c))) below low ∙ is)

-- bytes without a quote are written as they are
spelling_plain : (front more : List ℕ) → HasNoQuote front → spelling (front ++ more) ≡ front ++ spelling more
spelling_plain [] more none = refl
spelling_plain (b ∷ front) more none =
    cond-false (b == 39) (39 ∷ 39 ∷ spelling (front ++ more)) (b ∷ spelling (front ++ more)) (ne_eqb b 39 (none_first b front none))
    ∙ ap (λ (bs : List ℕ). b ∷ bs) (spelling_plain front more (none_behind b front none))

-- the bytes of a text are written as its characters are
spelling_chars : (cs : List ℕ) → spelling (encode_utf8_all cs) ≡ encode_utf8_all (spelling cs)
spelling_chars [] = refl
spelling_chars (c ∷ cs) =
    let further : spelling (encode_utf8_all cs) ≡ encode_utf8_all (spelling cs) = spelling_chars cs in
    let by : (is : Bool) → (c == 39) ≡ is → spelling (encode_utf8 c ++ encode_utf8_all cs) ≡ encode_utf8_all (cond is (39 ∷ 39 ∷ spelling cs) (c ∷ spelling cs)) =
    elim [
      | true ↦
          (λ e. let front : encode_utf8 c ≡ 39 ∷ [] = ap encode_utf8 (eqb-true c 39 e) ∙ quote_code in
          ap (λ (f : List ℕ). spelling (f ++ encode_utf8_all cs)) front
          ∙ (ap (λ (bs : List ℕ). 39 ∷ 39 ∷ bs) further ∙ ap (λ (f : List ℕ). f ++ (f ++ encode_utf8_all (spelling cs))) (sym quote_code)))
      | false ↦
          (λ e. spelling_plain (encode_utf8 c) (encode_utf8_all cs) (plain_bytes c (no_quote c e)) ∙ ap (λ (bs : List ℕ). encode_utf8 c ++ bs) further)
    ] in
    by (c == 39) refl

spelling_scalars : (cs : List ℕ) → all_scalars cs ≡ true → all_scalars (spelling cs) ≡ true
spelling_scalars [] s = refl
spelling_scalars (c ∷ cs) s =
    let parts = both _ (all_scalars cs) s in
    let further : all_scalars (spelling cs) ≡ true = spelling_scalars cs parts.1 in
    let by : (is : Bool) → all_scalars (cond is (39 ∷ 39 ∷ spelling cs) (c ∷ spelling cs)) ≡ true =
    elim [ true ↦ further | false ↦ and_from _ _ parts.0 further ] in
    by (c == 39)

-- ---- what is read of it

-- an ASCII quote is one character
chars_quote : (behind : List ℕ) → chars (39 ∷ behind) ≡ 39 ∷ chars behind
unfolding chars
chars_quote [] = refl
chars_quote (b ∷ behind) = refl

-- behind the first quote two in a row stand for one
pair_read : (behind : List ℕ) → text_in (39 ∷ 39 ∷ 39 ∷ behind) ≡ 39 ∷ text_in (39 ∷ behind)
unfolding text_from chars
pair_read [] = ap (λ (f : List ℕ). (f ++ []) ++ []) quote_code
pair_read (b ∷ behind) = ap (λ (f : List ℕ). (f ++ []) ++ text_in (39 ∷ b ∷ behind)) quote_code

-- and another character for itself
plain_read : (c : ℕ) (behind : List ℕ) → IsUtf8 (encode_utf8 c ++ behind) → (c == 39) ≡ false → text_in (39 ∷ (encode_utf8 c ++ behind)) ≡ encode_utf8 c ++ text_in (39 ∷ behind)
unfolding text_from
plain_read c behind u other =
    let next : chars (encode_utf8 c ++ behind) ≡ c ∷ chars behind = chars_past_char (encode_utf8 c ++ behind) behind c u refl in
    rw (chars_quote (encode_utf8 c ++ behind), next, chars_quote behind, other, append-nil (encode_utf8 c)) refl

end_read : text_in (39 ∷ 39 ∷ []) ≡ []
unfolding text_from chars
end_read = refl

written_utf8 : (cs : List ℕ) → all_scalars cs ≡ true → IsUtf8 (spelling (encode_utf8_all cs) ++ 39 ∷ [])
written_utf8 cs s =
    IsUtf8-append (spelling (encode_utf8_all cs)) (39 ∷ []) (spelling cs, (spelling_scalars cs s, sym (spelling_chars cs))) (39 ∷ [], (refl, ap (λ (f : List ℕ). f ++ []) quote_code))

chars_back : (cs : List ℕ) → all_scalars cs ≡ true → text_in (39 ∷ (spelling (encode_utf8_all cs) ++ 39 ∷ [])) ≡ encode_utf8_all cs
chars_back [] s = end_read
chars_back (c ∷ cs) s =
    let parts = both _ (all_scalars cs) s in
    let written : List ℕ = spelling (encode_utf8_all cs) ++ 39 ∷ [] in
    let further : text_in (39 ∷ written) ≡ encode_utf8_all cs = chars_back cs parts.1 in
    let by : (is : Bool) → (c == 39) ≡ is → text_in (39 ∷ (spelling (encode_utf8 c ++ encode_utf8_all cs) ++ 39 ∷ [])) ≡ encode_utf8 c ++ encode_utf8_all cs =
    elim [
      | true ↦
          (λ e. let front : encode_utf8 c ≡ 39 ∷ [] = ap encode_utf8 (eqb-true c 39 e) ∙ quote_code in
          ap (λ (f : List ℕ). text_in (39 ∷ (spelling (f ++ encode_utf8_all cs) ++ 39 ∷ []))) front
          ∙ (pair_read written ∙ (ap (λ (bs : List ℕ). 39 ∷ bs) further ∙ ap (λ (f : List ℕ). f ++ encode_utf8_all cs) (sym front))))
      | false ↦
          (λ e. let one : IsUtf8 (encode_utf8 c) = (c ∷ [], (and_from _ true parts.0 refl, append-nil (encode_utf8 c))) in
          ap (λ (bs : List ℕ). text_in (39 ∷ (bs ++ 39 ∷ []))) (spelling_plain (encode_utf8 c) (encode_utf8_all cs) (plain_bytes c (no_quote c e)))
          ∙ (ap (λ (bs : List ℕ). text_in (39 ∷ bs)) (append_assoc (encode_utf8 c) (spelling (encode_utf8_all cs)) (39 ∷ []))
          ∙ (plain_read c written (IsUtf8-append (encode_utf8 c) written one (written_utf8 cs parts.1)) e ∙ ap (λ (bs : List ℕ). encode_utf8 c ++ bs) further)))
    ] in
    by (c == 39) refl

pub text_back : (text : List ℕ) → IsUtf8 text → text_in (39 ∷ (spelling text ++ 39 ∷ [])) ≡ text
text_back text u =
    ap (λ (t : List ℕ). text_in (39 ∷ (spelling t ++ 39 ∷ []))) (sym u.1.1) ∙ (chars_back u.0 u.1.0 ∙ u.1.1)

-- a mark before the first quote is no part of the text
pub upper_mark : (behind : List ℕ) → text_in (78 ∷ 39 ∷ behind) ≡ text_in (39 ∷ behind)
unfolding text_from chars
upper_mark behind = refl

pub lower_mark : (behind : List ℕ) → text_in (110 ∷ 39 ∷ behind) ≡ text_in (39 ∷ behind)
unfolding text_from chars
lower_mark behind = refl
