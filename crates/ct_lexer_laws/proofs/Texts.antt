-- Texts are read back, and were written so.
use Rattle.std.proofs.Common.{◌≡◌, ℕ, List, ◌∷◌, IsUtf8, inl, inr, refl, sym, ap, ◌∙◌, subst, arith}
use Rattle.std.proofs.lemmas.Str.{encode_ascii}
use Rattle.ct_lexer.specs.declared.byte.ByteClass.TheVariants as byte
use Rattle.ct_lexer.specs.declared.token.TokenKind.TheVariants as kind
use Rattle.ct_lexer.specs.Bytes.{Stops}
use Rattle.ct_lexer.specs.Tokens.{IsQuoted, IsMarked, IsText}
use Rattle.ct_lexer.proofs.Opening.{mark_cases}
use Rattle.ct_grammar.specs.Words.{text_in}
use Rattle.ct_lexer_laws.specs.Laws.{quoted, IsWrittenText, TextsAreReadBack, TextsWereWritten}
use Rattle.ct_lexer_laws.proofs.Lone.{read_as}
use Rattle.ct_lexer_laws.proofs.Quoting.{text_back, upper_mark, lower_mark}
use Rattle.ct_lexer_laws.proofs.Unquoting.{unquoted, unmarked}

plain_token : (text more : List ℕ) → Stops byte.Quote more → IsQuoted (quoted text) more
plain_token text more stops = record { value = text; spelled = refl; closed = stops }

is_text : (word text more : List ℕ) → IsWrittenText word text → Stops byte.Quote more → IsText word more
is_text word text more (inl e) stops = inl (subst (λ (w : List ℕ). IsQuoted w more) (sym e) (plain_token text more stops))
is_text word text more (inr (inl e)) stops = inr (record { mark = 78; quoted = quoted text; spelled = e; marks = refl; text = plain_token text more stops })
is_text word text more (inr (inr e)) stops = inr (record { mark = 110; quoted = quoted text; spelled = e; marks = refl; text = plain_token text more stops })

read_back : (word text : List ℕ) → IsUtf8 text → IsWrittenText word text → text_in word ≡ text
read_back word text u (inl e) = ap text_in e ∙ text_back text u
read_back word text u (inr (inl e)) = ap text_in e ∙ (upper_mark _ ∙ text_back text u)
read_back word text u (inr (inr e)) = ap text_in e ∙ (lower_mark _ ∙ text_back text u)

pub texts_are_read_back : TextsAreReadBack
texts_are_read_back text word u written = (read_as kind.Text byte.Quote word (λ more stops. is_text word text more written stops), read_back word text u written)

-- a word that was written is what it stands for, written so
stands_for : (word text : List ℕ) → IsUtf8 text → IsWrittenText word text → IsWrittenText word (text_in word)
stands_for word text u written = subst (λ (t : List ℕ). IsWrittenText word t) (sym (read_back word text u written)) written

marked : (word more : List ℕ) (m : IsMarked word more) → IsUtf8 word → IsWrittenText word (text_in word)
marked word more m u =
    let is : word ≡ m.mark ∷ quoted m.text.value = m.spelled ∙ ap (λ (bs : List ℕ). m.mark ∷ bs) m.text.spelled in
    elim (mark_cases m.mark 78 110 m.marks) [
      | inl upper ↦
          (let at : word ≡ 78 ∷ quoted m.text.value = is ∙ ap (λ (b : ℕ). b ∷ quoted m.text.value) upper in
          let text : IsUtf8 m.text.value = unquoted m.text.value (unmarked 78 (quoted m.text.value) (encode_ascii 78 (omega arith)) (subst IsUtf8 at u)) in
          stands_for word m.text.value text (inr (inl at)))
      | inr lower ↦
          (let at : word ≡ 110 ∷ quoted m.text.value = is ∙ ap (λ (b : ℕ). b ∷ quoted m.text.value) lower in
          let text : IsUtf8 m.text.value = unquoted m.text.value (unmarked 110 (quoted m.text.value) (encode_ascii 110 (omega arith)) (subst IsUtf8 at u)) in
          stands_for word m.text.value text (inr (inr at)))
    ]

written_of : (word more : List ℕ) → IsUtf8 word → IsText word more → IsWrittenText word (text_in word)
written_of word more u (inl q) = stands_for word q.value (unquoted q.value (subst IsUtf8 q.spelled u)) (inl q.spelled)
written_of word more u (inr m) = marked word more m u

pub texts_were_written : TextsWereWritten
texts_were_written word more u token = written_of word more u token
