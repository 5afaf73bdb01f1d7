-- Where a text between quotes is UTF-8, the text itself is.
use Rattle.std.proofs.Common.{◌≡◌, ℕ, zero, suc, ◌≤◌, Bool, true, false, cond, List, [], ◌∷◌, ◌++◌, length, encode_utf8, encode_utf8_all, IsUtf8, refl, sym, ap, ◌∙◌, subst, arith, append-nil}
use Rattle.std.specs.Prelude.{◌==◌}
use Rattle.std.specs.Str.{all_scalars}
use Rattle.std.proofs.lemmas.Bool.{eqb-true, and_from}
use Rattle.std.proofs.lemmas.Str.{IsUtf8-nil, IsUtf8-append, IsUtf8-past_char, cons_from_encodes}
use Rattle.ct_types.proofs.Tests.{both}
use Rattle.ct_lexer.specs.Tokens.{spelling}
use Rattle.ct_lexer_laws.proofs.Quoting.{HasNoQuote, none_behind, none_first, no_quote, quote_code, plain_bytes}

-- a text that begins with these bytes, and how the rest of it is written
record Front (front rest text : List ℕ) : Type 0 where
  more : List ℕ
  is : text ≡ front ++ more
  written : spelling more ++ 39 ∷ [] ≡ rest

plain_front : (front rest text : List ℕ) → HasNoQuote front → spelling text ++ 39 ∷ [] ≡ front ++ rest → Front front rest text
plain_front [] rest text none e = record { more = text; is = refl; written = e }
plain_front (b ∷ front) rest [] none e = let quote : b ≡ 39 = cc in absurd (none_first b front none quote)
plain_front (b ∷ front) rest (v ∷ text) none e =
    let by : (is : Bool) → cond is (39 ∷ 39 ∷ spelling text) (v ∷ spelling text) ++ 39 ∷ [] ≡ b ∷ (front ++ rest) → Front (b ∷ front) rest (v ∷ text) =
    elim [
      | true ↦ (λ e. let quote : b ≡ 39 = cc in absurd (none_first b front none quote))
      | false ↦
          (λ e. let same : v ≡ b = cc in
          let behind : spelling text ++ 39 ∷ [] ≡ front ++ rest = cc in
          let it = plain_front front rest text (none_behind b front none) behind in
          record { more = it.more; is = ap (λ (n : ℕ). n ∷ text) same ∙ ap (λ (bs : List ℕ). b ∷ bs) it.is; written = it.written })
    ] in
    by (v == 39) e

-- the bytes of one character and a text
char_utf8 : (c : ℕ) (cs more : List ℕ) → all_scalars (c ∷ cs) ≡ true → IsUtf8 more → IsUtf8 (encode_utf8 c ++ more)
char_utf8 c cs more s u =
    let one : IsUtf8 (encode_utf8 c) = (c ∷ [], (and_from _ true (both _ (all_scalars cs) s).0 refl, append-nil (encode_utf8 c))) in
    IsUtf8-append (encode_utf8 c) more one u

quote_utf8 : (more : List ℕ) → IsUtf8 more → IsUtf8 (39 ∷ more)
quote_utf8 more u = subst (λ (f : List ℕ). IsUtf8 (f ++ more)) quote_code (char_utf8 39 [] more refl u)

-- by the number of the characters
unwritten : (n : ℕ) (cs text : List ℕ) → length cs ≤ n → all_scalars cs ≡ true → spelling text ++ 39 ∷ [] ≡ encode_utf8_all cs → IsUtf8 text
unwritten n cs [] few s e = IsUtf8-nil
unwritten n [] (v ∷ text) few s e =
    let by : (is : Bool) → cond is (39 ∷ 39 ∷ spelling text) (v ∷ spelling text) ++ 39 ∷ [] ≡ [] → IsUtf8 (v ∷ text) = elim [ true ↦ (λ e. absurd cc) | false ↦ (λ e. absurd cc) ] in
    by (v == 39) e
unwritten zero (c ∷ cs) (v ∷ text) few s e = absurd (omega arith)
unwritten (suc n) (c ∷ cs) (v ∷ text) few s e =
    let parts = both _ (all_scalars cs) s in
    -- a character that is no quote is written as it is
    let plain : (c == 39) ≡ false → IsUtf8 (v ∷ text) =
    λ is. let it = plain_front (encode_utf8 c) (encode_utf8_all cs) (v ∷ text) (plain_bytes c (no_quote c is)) e in
    let more : IsUtf8 it.more = unwritten n cs it.more (omega arith) parts.1 it.written in
    subst IsUtf8 (sym it.is) (char_utf8 c cs it.more s more) in
    -- of a quote there are two
    let pair : c ≡ 39 → IsUtf8 (v ∷ text) =
    λ is. let first : encode_utf8 c ++ encode_utf8_all cs ≡ 39 ∷ encode_utf8_all cs = ap (λ (n : ℕ). encode_utf8 n ++ encode_utf8_all cs) is ∙ ap (λ (f : List ℕ). f ++ encode_utf8_all cs) quote_code in
    let by : (twice : Bool) → (v == 39) ≡ twice → cond twice (39 ∷ 39 ∷ spelling text) (v ∷ spelling text) ++ 39 ∷ [] ≡ 39 ∷ encode_utf8_all cs → IsUtf8 (v ∷ text) =
    elim [
      | true ↦
          (λ same e. let second : encode_utf8_all cs ≡ 39 ∷ (spelling text ++ 39 ∷ []) = cc in
          let it = cons_from_encodes cs (spelling text ++ 39 ∷ []) 39 (second ∙ ap (λ (f : List ℕ). f ++ (spelling text ++ 39 ∷ [])) (sym quote_code)) in
          let fewer : length it.0 ≤ n = omega (arith, ap (λ (ds : List ℕ). length ds) it.1) in
          let fine : all_scalars it.0 ≡ true = ap all_scalars (sym it.1) ∙ parts.1 in
          let more : IsUtf8 text = unwritten n it.0 text fewer fine (sym it.2) in
          subst (λ (q : ℕ). IsUtf8 (q ∷ text)) (sym (eqb-true v 39 same)) (quote_utf8 text more))
      | false ↦ (λ other e. let quote : v ≡ 39 = cc in absurd (no_quote v other quote))
    ] in
    by (v == 39) refl (e ∙ first) in
    let step : (b : Bool) → (c == 39) ≡ b → IsUtf8 (v ∷ text) = elim [ true ↦ (λ is. pair (eqb-true c 39 is)) | false ↦ plain ] in
    step (c == 39) refl

pub unquoted : (text : List ℕ) → IsUtf8 (39 ∷ (spelling text ++ 39 ∷ [])) → IsUtf8 text
unquoted text u =
    let behind : IsUtf8 (spelling text ++ 39 ∷ []) =
    IsUtf8-past_char (39 ∷ (spelling text ++ 39 ∷ [])) (spelling text ++ 39 ∷ []) 39 u (ap (λ (f : List ℕ). f ++ (spelling text ++ 39 ∷ [])) (sym quote_code)) in
    unwritten (length behind.0) behind.0 text (omega arith) behind.1.0 (sym behind.1.1)

-- behind an ASCII character
pub unmarked : (mark : ℕ) (rest : List ℕ) → encode_utf8 mark ≡ mark ∷ [] → IsUtf8 (mark ∷ rest) → IsUtf8 rest
unmarked mark rest code u = IsUtf8-past_char (mark ∷ rest) rest mark u (ap (λ (f : List ℕ). f ++ rest) (sym code))
