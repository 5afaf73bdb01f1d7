-- What a cut text says of the spans of its tokens.
use Rattle.std.proofs.Common.{◌≡◌, ℕ, ◌+◌, ◌-◌, ◌<◌, ◌≤◌, List, [], ◌∷◌, ◌++◌, length, drop, get_or, refl, sym, ap, ◌∙◌, subst, arith}
use Rattle.std.specs.List.{All}
use Rattle.std.specs.Prelude.{slice_range}
use Rattle.std.proofs.lemmas.List.{take_at, get_or-drop, get_or_append_left}
use Rattle.std.proofs.lemmas.List.Elements.{All-nil, All-cons}
use Rattle.ct_lexer.specs.declared.token.Token.{Token}
use Rattle.ct_lexer.specs.declared.token.TokenKind.{TokenKind}
use Rattle.ct_lexer.specs.Tokens.{IsToken}
use Rattle.ct_lexer.specs.Cutting.{Cuts, here, gap, token, IsCut}
use Rattle.ct_lexer.specs.Spans.{Rises, Stands, Fits, AllFit}
use Rattle.ct_lexer.proofs.Sizes.{some_token}
use Rattle.ct_lexer.proofs.Ascii.{ascii_ends}
use Rattle.ct_lexer.proofs.Cutting.{behind_word}

-- the spans rise
earlier : (from at end : ℕ) (tokens : List Token) → from ≤ at → Rises at tokens end → Rises from tokens end
earlier from at end [] h r = omega arith
earlier from at end (t ∷ tokens) h r = (omega (arith, r.0), r.1, r.2)

cut_rises : {at end : ℕ} {bytes : List ℕ} {tokens : List Token} {rest : List ℕ} → Cuts at bytes tokens end rest → Rises at tokens end
cut_rises here = omega arith
cut_rises {at = at} {end = end} (gap {tokens = tokens} word more g c) = earlier at (at + length word) end tokens (omega arith) (cut_rises c)
cut_rises (token kind word more t c) = (omega arith, omega (arith, some_token kind word more t), cut_rises c)

pub spans_rise : (text : List ℕ) (tokens : List Token) → IsCut text tokens → Rises 0 tokens (length text)
spans_rise text tokens c = cut_rises c

-- the bytes of a span
span_word : (text : List ℕ) (at : ℕ) (word more : List ℕ) → word ++ more ≡ drop at text → at ≤ length text → slice_range text at (at + length word) ≡ word
span_word text at word more e h =
    let size : at + length word - at ≡ length word = omega arith in
    rw (size, ← e) (take_at word more (length word) refl)

one_stands : (text : List ℕ) (at : ℕ) (kind : TokenKind) (word more : List ℕ) → word ++ more ≡ drop at text → at ≤ length text → IsToken kind word more
    → Stands text (record { kind = kind; from = at; to = at + length word })
one_stands text at kind word more e h t =
    let next = behind_word text at (length word) word more (sym e) refl h in
    rw (span_word text at word more e h, ← next.0) t

cut_stands : {at end : ℕ} {bytes : List ℕ} {tokens : List Token} {rest : List ℕ} (text : List ℕ) → Cuts at bytes tokens end rest → bytes ≡ drop at text → at ≤ length text → All (Stands text) tokens
cut_stands text here e h = All-nil (Stands text)
cut_stands {at = at} text (gap word more g c) e h =
    let next = behind_word text at (length word) word more (sym e) refl h in
    cut_stands text c next.0 next.1
cut_stands {at = at} text (token {tokens = tokens} kind word more t c) e h =
    let next = behind_word text at (length word) word more (sym e) refl h in
    All-cons (Stands text) (record { kind = kind; from = at; to = at + length word }) tokens (one_stands text at kind word more e h t) (cut_stands text c next.0 next.1)

pub tokens_stand : (text : List ℕ) (tokens : List Token) → IsCut text tokens → All (Stands text) tokens
tokens_stand text tokens c = cut_stands text c refl (omega arith)

one_fits : (text : List ℕ) (at : ℕ) (kind : TokenKind) (word more : List ℕ) → word ++ more ≡ drop at text → at ≤ length text → IsToken kind word more
    → Fits text (record { kind = kind; from = at; to = at + length word })
one_fits text at kind word more e h t =
    let some = some_token kind word more t in
    let next = behind_word text at (length word) word more (sym e) refl h in
    let ends = ascii_ends kind word more t in
    record {
      rises = omega arith;
      ends = next.1;
      first = let place : at ≡ at + 0 = omega arith in rw place (subst (λ b. b < 128) (byte_at text at word more e 0 some) ends.first);
      last = let place : at + length word - 1 ≡ at + (length word - 1) = omega arith in
          rw place (subst (λ b. b < 128) (byte_at text at word more e (length word - 1) (omega arith)) ends.last);
    }
  where
    byte_at : (text : List ℕ) (at : ℕ) (word more : List ℕ) → word ++ more ≡ drop at text → (k : ℕ) → k < length word → get_or word k 0 ≡ get_or text (at + k) 0
    byte_at text at word more e k lt = sym (get_or_append_left word more 0 k lt) ∙ ap (λ z. get_or z k 0) e ∙ get_or-drop at text k 0

cut_fits : {at end : ℕ} {bytes : List ℕ} {tokens : List Token} {rest : List ℕ} (text : List ℕ) → Cuts at bytes tokens end rest → bytes ≡ drop at text → at ≤ length text → AllFit text tokens
cut_fits text here e h = tt
cut_fits {at = at} text (gap word more g c) e h =
    let next = behind_word text at (length word) word more (sym e) refl h in
    cut_fits text c next.0 next.1
cut_fits {at = at} text (token kind word more t c) e h =
    let next = behind_word text at (length word) word more (sym e) refl h in
    (one_fits text at kind word more e h t, cut_fits text c next.0 next.1)

pub tokens_fit : (text : List ℕ) (tokens : List Token) → IsCut text tokens → AllFit text tokens
tokens_fit text tokens c = cut_fits text c refl (omega arith)
