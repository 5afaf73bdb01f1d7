-- At one place there is one token or gap at most, of one length.
use Rattle.std.proofs.Common.{◌≡◌, ℕ, ◌<◌, true, false, List, [], ◌∷◌, ◌++◌, length, drop, Some, None, refl, sym, ap, ◌∙◌, arith, inl, inr}
use Rattle.std.proofs.lemmas.Bool.{both_ways}
use Rattle.std.proofs.lemmas.List.{drop_at}
use Rattle.ct_lexer.specs.declared.byte.ByteClass.TheVariants as byte
use Rattle.ct_lexer.specs.declared.token.TokenKind.{TokenKind}
use Rattle.ct_lexer.specs.declared.token.TokenKind.TheVariants as kind
use Rattle.ct_lexer.specs.Bytes.{belongs}
use Rattle.ct_lexer.specs.Scanning.{kind_at}
use Rattle.ct_lexer.specs.Tokens.{IsBareName, IsBracketed, IsVariable, IsNumber, IsText, IsQuoted, IsMarked, IsBytes, IsToken, IsGap, IsBlank, IsComment, begins_pair}
use Rattle.ct_lexer.proofs.Names.{name_front, variable_front, number_size, bracket_front}
use Rattle.ct_lexer.proofs.Quotes.{one_quoted, quoted_first}
use Rattle.ct_lexer.proofs.Marks.{bytes_front, bytes_two, SignFront, sign_front, comment_front, blank_front}
use Rattle.ct_lexer.proofs.Opening.{opens, no_kind}

-- ---- none is empty

pub some_token : (kind : TokenKind) (word more : List ℕ) → IsToken kind word more → 0 < length word
some_token kind.Name [] more t = absurd (both_ways false refl t.0.first)
some_token kind.Name (b ∷ word) more t = omega arith
some_token kind.Bracketed word more t = rw t.spelled (omega arith)
some_token kind.Variable word more t = rw t.spelled (omega arith)
some_token kind.Number word more t = t.0.some
some_token kind.Text word more (inl t) = rw t.spelled (omega arith)
some_token kind.Text word more (inr t) = rw t.spelled (omega arith)
some_token kind.Bytes word more t = rw t.spelled (omega arith)
some_token kind.Sign [] more t = absurd t
some_token kind.Sign (b ∷ word) more t = omega arith

pub some_gap : (word more : List ℕ) → IsGap word more → 0 < length word
some_gap word more (inl t) = rw t.spelled (omega arith)
some_gap word more (inr t) = rw t.spelled (omega arith)

-- ---- one kind

pub one_kind : (kind twin : TokenKind) (word more other others : List ℕ) → word ++ more ≡ other ++ others → IsToken kind word more → IsToken twin other others → kind ≡ twin
one_kind kind twin word more other others e t u = let f : Some kind ≡ Some twin = sym (opens kind word more t) ∙ ap kind_at e ∙ opens twin other others u in cc

pub no_both : (kind : TokenKind) (word more other others : List ℕ) → word ++ more ≡ other ++ others → IsToken kind word more → IsGap other others → ⊥
no_both kind word more other others e t g = let f : Some kind ≡ None = sym (opens kind word more t) ∙ ap kind_at e ∙ no_kind other others g in cc

-- ---- one length

-- two words at the front of the same bytes
record Twins (bytes word more other others : List ℕ) : Type 0 where
  first : bytes ≡ word ++ more
  second : bytes ≡ other ++ others

name_size : {bytes word more other others : List ℕ} → Twins bytes word more other others → IsBareName word more → IsBareName other others → length word ≡ length other
name_size {bytes = bytes} {word = word} {more = more} {other = other} {others = others} t a b =
    sym (name_front bytes word more t.first a).size ∙ (name_front bytes other others t.second b).size

variable_size : {b : ℕ} {tail word more other others : List ℕ} → Twins (b ∷ tail) word more other others → IsVariable word more → IsVariable other others → length word ≡ length other
variable_size {b = b} {tail = tail} {word = word} {more = more} {other = other} {others = others} t x y =
    let f = variable_front b tail word more t.first x in
    let g = variable_front b tail other others t.second y in
    let names = name_size (record { first = f.cut; second = g.cut }) f.named g.named in
    omega (arith, f.size, g.size, names)

bracketed_size : {b : ℕ} {tail word more other others : List ℕ} → Twins (b ∷ tail) word more other others → IsBracketed word more → IsBracketed other others → length word ≡ length other
bracketed_size {b = b} {tail = tail} {word = word} {more = more} {other = other} {others = others} t x y =
    (bracket_front b tail word more t.first x).size ∙ sym (bracket_front b tail other others t.second y).size

number_length : {bytes word more other others : List ℕ} → Twins bytes word more other others → IsNumber word more → IsNumber other others → length word ≡ length other
number_length {bytes = bytes} {word = word} {more = more} {other = other} {others = others} t a b =
    sym (number_size bytes word more t.first a) ∙ number_size bytes other others t.second b

no_mark : (mark : ℕ) → belongs byte.TextMark mark ≡ true → mark ≡ 39 → ⊥
no_mark mark h e = both_ways false refl (rw e at h)

-- a text with a mark before its quote is none without
mark_apart : {b : ℕ} {tail word more other others : List ℕ} → Twins (b ∷ tail) word more other others → IsMarked word more → IsQuoted other others → ⊥
mark_apart {b = b} {tail = tail} {word = word} {more = more} {other = other} {others = others} t x y =
    let f : b ∷ tail ≡ (x.mark ∷ x.quoted) ++ more = rw x.spelled at t.first in
    let same : x.mark ≡ b = cc in
    no_mark x.mark x.marks (same ∙ quoted_first b tail other others t.second y)

text_size : {b : ℕ} {tail word more other others : List ℕ} → Twins (b ∷ tail) word more other others → IsText word more → IsText other others → length word ≡ length other
text_size {word = word} {more = more} {other = other} {others = others} t (inl x) (inl y) = one_quoted word more other others (sym t.first ∙ t.second) x y
text_size t (inl x) (inr y) = absurd (mark_apart (record { first = t.second; second = t.first }) y x)
text_size t (inr x) (inl y) = absurd (mark_apart t x y)
text_size {b = b} {tail = tail} {word = word} {more = more} {other = other} {others = others} t (inr x) (inr y) =
    let f : b ∷ tail ≡ (x.mark ∷ x.quoted) ++ more = rw x.spelled at t.first in
    let g : b ∷ tail ≡ (y.mark ∷ y.quoted) ++ others = rw y.spelled at t.second in
    let e : x.quoted ++ more ≡ y.quoted ++ others = cc in
    rw (x.spelled, y.spelled) (omega (arith, one_quoted x.quoted more y.quoted others e x.text y.text))

bytes_size : {b : ℕ} {tail word more other others : List ℕ} → Twins (b ∷ tail) word more other others → IsBytes word more → IsBytes other others → length word ≡ length other
bytes_size {b = b} {tail = []} {word = word} {more = more} t x y = absurd (bytes_two b word more t.first x)
bytes_size {b = b} {tail = c ∷ tail} {word = word} {more = more} {other = other} {others = others} t x y =
    (bytes_front b c tail word more t.first x).size ∙ sym (bytes_front b c tail other others t.second y).size

sign_size : (b : ℕ) (tail word other : List ℕ) → SignFront b tail word → SignFront b tail other → length word ≡ length other
sign_size b tail word other (inl x) (inl y) = x.1 ∙ sym y.1
sign_size b tail word other (inl x) (inr y) = absurd (both_ways (begins_pair b tail) y.0 x.0)
sign_size b tail word other (inr x) (inl y) = absurd (both_ways (begins_pair b tail) x.0 y.0)
sign_size b tail word other (inr x) (inr y) = x.3 ∙ sym y.3

token_size : {b : ℕ} {tail word more other others : List ℕ} (kind : TokenKind) → Twins (b ∷ tail) word more other others → IsToken kind word more → IsToken kind other others → length word ≡ length other
token_size kind.Name t x y = name_size t x.0 y.0
token_size kind.Bracketed t x y = bracketed_size t x y
token_size kind.Variable t x y = variable_size t x y
token_size kind.Number t x y = number_length t x.0 y.0
token_size kind.Text t x y = text_size t x y
token_size kind.Bytes t x y = bytes_size t x y
token_size {b = b} {tail = tail} {word = word} {more = more} {other = other} {others = others} kind.Sign t x y = sign_size b tail word other (sign_front b tail word more t.first x) (sign_front b tail other others t.second y)

no_blank : (b : ℕ) → belongs byte.Blank b ≡ true → b ≡ 45 → ⊥
no_blank b h e = both_ways false refl (rw e at h)

-- a comment begins with no blank
blank_apart : {b : ℕ} {tail word more other others : List ℕ} → Twins (b ∷ tail) word more other others → IsBlank word more → IsComment other others → ⊥
blank_apart {b = b} {tail = tail} {word = word} {more = more} {other = other} {others = others} t x y =
    let f : b ∷ tail ≡ (45 ∷ 45 ∷ y.said) ++ others = rw y.spelled at t.second in
    no_blank b (blank_front b tail word more t.first x).blank (cc)

gap_size : {b : ℕ} {tail word more other others : List ℕ} → Twins (b ∷ tail) word more other others → IsGap word more → IsGap other others → length word ≡ length other
gap_size {b = b} {tail = tail} {word = word} {more = more} {other = other} {others = others} t (inl x) (inl y) =
    (blank_front b tail word more t.first x).size ∙ sym (blank_front b tail other others t.second y).size
gap_size t (inl x) (inr y) = absurd (blank_apart t x y)
gap_size t (inr x) (inl y) = absurd (blank_apart (record { first = t.second; second = t.first }) y x)
gap_size {b = b} {tail = tail} {word = word} {more = more} {other = other} {others = others} t (inr x) (inr y) =
    (comment_front b tail word more t.first x).size ∙ sym (comment_front b tail other others t.second y).size

pub one_token_size : (kind : TokenKind) (word more other others : List ℕ) → word ++ more ≡ other ++ others → IsToken kind word more → IsToken kind other others → length word ≡ length other
one_token_size kind [] more other others e t u = absurd (omega (arith, some_token kind [] more t))
one_token_size kind (b ∷ word) more other others e t u = token_size kind (record { first = refl; second = e }) t u

pub one_gap_size : (word more other others : List ℕ) → word ++ more ≡ other ++ others → IsGap word more → IsGap other others → length word ≡ length other
one_gap_size [] more other others e t u = absurd (omega (arith, some_gap [] more t))
one_gap_size (b ∷ word) more other others e t u = gap_size (record { first = refl; second = e }) t u

-- what is left behind words of one length
pub same_rest : (word more other others : List ℕ) → word ++ more ≡ other ++ others → length word ≡ length other → more ≡ others
same_rest word more other others e size =
    sym (drop_at word more (length word) refl) ∙ ap (λ z. drop (length word) z) e ∙ drop_at other others (length word) (sym size)
