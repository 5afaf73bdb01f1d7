-- Every text is cut into tokens, or stuck at a place.
use Rattle.std.proofs.Common.{◌≡◌, ℕ, zero, suc, ◌+◌, ◌<◌, ◌≤◌, ◌⊎◌, Bool, true, false, List, [], ◌∷◌, ◌++◌, length, drop, Option, Some, None, refl, sym, ap, ◌∙◌, arith, inl, inr}
use Rattle.std.specs.Prelude.{◌%◌, ◌==◌, ◌&&◌, nat_lt, nat_le}
use Rattle.std.specs.List.{prefix_len}
use Rattle.std.proofs.lemmas.Bool.{both_ways, eqb-true, eqb-false, eq-eqb, leb-true, leb-false, le-leb, ltb-true, ltb-false, lt-ltb, and_parts, and_from, cond-true, cond-false, false_from_ne_true, cases_lt}
use Rattle.ct_lexer.specs.declared.byte.ByteClass.TheVariants as byte
use Rattle.ct_lexer.specs.declared.token.Token.{Token}
use Rattle.ct_lexer.specs.declared.token.TokenKind.{TokenKind}
use Rattle.ct_lexer.specs.declared.token.TokenKind.TheVariants as kind
use Rattle.ct_lexer.specs.Bytes.{belongs, starts}
use Rattle.ct_lexer.specs.Tokens.{IsBareName, IsBracketed, IsVariable, IsNumber, IsQuoted, IsText, IsBytes, IsSign, IsToken, IsGap, begins_text, begins_bytes, begins_pair, begins_comment}
use Rattle.ct_lexer.specs.Cutting.{Never, IsCutOrStuck}
use Rattle.ct_lexer.specs.Scanning.{Begins, kind_at}
use Rattle.ct_lexer.proofs.Names.{name_front, name_begins, variable_front, variable_begins, number_size, number_begins, bracket_front, bracket_begins}
use Rattle.ct_lexer.proofs.Quotes.{Opened, opened_plain, opened_pair, closed, not_closed, quoted_first, text_begins, plain_begins}
use Rattle.ct_lexer.proofs.Marks.{bytes_front, bytes_begins, bytes_two, SignFront, sign_front, pair_begins, single_begins, comment_front, comment_begins, blank_front, blank_begins}
use Rattle.ct_lexer.proofs.Opening.{no_token, no_other}
use Rattle.ct_lexer.proofs.Sizes.{some_token, some_gap}
use Rattle.ct_lexer.proofs.Cutting.{CutTo, cut_none, past_gap, past_token, whole, over_end}

-- so long a front of the bytes is one of these, or no front is
abbrev Told : (List ℕ → List ℕ → Type 0) → List ℕ → Type 0
Told Is bytes = ((size : ℕ) × Begins Is bytes size) ⊎ Never Is bytes

-- ---- names and numbers

name_told : (bytes : List ℕ) → Told IsBareName bytes
name_told bytes = by (starts byte.Letter bytes) (nat_le (prefix_len (belongs byte.Name) bytes) 128) refl refl
  where
    by : (first short : Bool) → starts byte.Letter bytes ≡ first → nat_le (prefix_len (belongs byte.Name) bytes) 128 ≡ short → Told IsBareName bytes
    by true true e f = inl (prefix_len (belongs byte.Name) bytes, name_begins bytes e (leb-true (prefix_len (belongs byte.Name) bytes) 128 f))
    by true false e f = inr (λ word more cut name.
        let g = name_front bytes word more cut name in omega (arith, g.size, g.short, leb-false (prefix_len (belongs byte.Name) bytes) 128 f))
    by false short e f = inr (λ word more cut name. both_ways (starts byte.Letter bytes) e (name_front bytes word more cut name).first)

variable_told : (b : ℕ) (tail : List ℕ) → Told IsVariable (b ∷ tail)
variable_told b tail = by (b == 64) refl (name_told tail)
  where
    by : (sign : Bool) → (b == 64) ≡ sign → Told IsBareName tail → Told IsVariable (b ∷ tail)
    by true e (inl found) = inl (1 + found.0, variable_begins (b ∷ tail) tail b found.0 refl (eqb-true b 64 e) found.1)
    by true e (inr never) = inr (λ word more cut variable. let f = variable_front b tail word more cut variable in never f.name f.more f.cut f.named)
    by false e told = inr (λ word more cut variable. eqb-false b 64 e (variable_front b tail word more cut variable).at_sign)

number_told : (bytes : List ℕ) → Told IsNumber bytes
number_told bytes = by (nat_lt 0 (prefix_len (belongs byte.Digit) bytes)) refl
  where
    by : (some : Bool) → nat_lt 0 (prefix_len (belongs byte.Digit) bytes) ≡ some → Told IsNumber bytes
    by true e = inl (prefix_len (belongs byte.Digit) bytes, number_begins bytes (ltb-true 0 (prefix_len (belongs byte.Digit) bytes) e))
    by false e = inr (λ word more cut number.
        omega (arith, number_size bytes word more cut number, number.some, ltb-false 0 (prefix_len (belongs byte.Digit) bytes) e))

-- what stands behind an opening bracket is a name and its end
abbrev fills : List ℕ → Bool
fills tail =
    starts byte.CloseBracket (drop (prefix_len (belongs byte.Bracketed) tail) tail)
    && (nat_lt 0 (prefix_len (belongs byte.Bracketed) tail) && nat_le (prefix_len (belongs byte.Bracketed) tail) 128)

bracketed_told : (b : ℕ) (tail : List ℕ) → Told IsBracketed (b ∷ tail)
bracketed_told b tail = by (b == 91 && fills tail) refl
  where
    size : ℕ
    size = prefix_len (belongs byte.Bracketed) tail

    closes : Bool
    closes = starts byte.CloseBracket (drop (prefix_len (belongs byte.Bracketed) tail) tail)

    by : (is : Bool) → (b == 91 && fills tail) ≡ is → Told IsBracketed (b ∷ tail)
    by true e =
        let parts = and_parts (b == 91) (fills tail) e in
        let inside = and_parts closes (nat_lt 0 size && nat_le size 128) parts.1 in
        let sizes = and_parts (nat_lt 0 size) (nat_le size 128) inside.1 in
        inl (size + 2, bracket_begins (b ∷ tail) tail b refl (eqb-true b 91 parts.0) (ltb-true 0 size sizes.0) (leb-true size 128 sizes.1) inside.0)
    by false e = inr (λ word more cut name.
        let f = bracket_front b tail word more cut name in
        both_ways (b == 91 && fills tail) e (and_from (b == 91) (fills tail) (eq-eqb b 91 f.opens)
        (and_from closes (nat_lt 0 size && nat_le size 128) f.closes (and_from (nat_lt 0 size) (nat_le size 128) (lt-ltb 0 size f.some) (le-leb size 128 f.short)))))

-- ---- texts

quote_first : (more : List ℕ) → starts byte.Quote more ≡ true → more ≡ 39 ∷ drop 1 more
quote_first [] h = absurd (both_ways false refl h)
quote_first (c ∷ behind) h = ap (λ c. c ∷ behind) (eqb-true c 39 h)

-- one character of an opened text, or its end
next : (bytes : List ℕ) (b : ℕ) (more : List ℕ) (size : ℕ) (quote follows : Bool) → (b == 39) ≡ quote → starts byte.Quote more ≡ follows → Opened bytes (b ∷ more) size
    → (Opened bytes more (size + 1) → Told IsQuoted bytes) → (Opened bytes (drop 1 more) (size + 2) → Told IsQuoted bytes) → Told IsQuoted bytes
next bytes b more size false follows e f o plain pair = plain (opened_plain bytes (b ∷ more) more size b o refl (eqb-false b 39 e))
next bytes b more size true false e f o plain pair = inl (size + 1, closed bytes (b ∷ more) more size b o refl (eqb-true b 39 e) f)
next bytes b more size true true e f o plain pair = pair (opened_pair bytes (b ∷ more) more (drop 1 more) size b o refl (eqb-true b 39 e) (quote_first more f))

close : (bytes rest : List ℕ) (size : ℕ) → Opened bytes rest size → Told IsQuoted bytes
close bytes [] size o = inr (not_closed bytes [] size o refl)
close bytes (b ∷ []) size o = next bytes b [] size (b == 39) false refl refl o (λ o. close bytes [] (size + 1) o) (λ o. close bytes [] (size + 2) o)
close bytes (b ∷ c ∷ behind) size o =
    next bytes b (c ∷ behind) size (b == 39) (c == 39) refl refl o (λ o. close bytes (c ∷ behind) (size + 1) o) (λ o. close bytes behind (size + 2) o)

quoted_told : (bytes : List ℕ) → Told IsQuoted bytes
quoted_told [] = inr (λ word more cut text. let f : [] ≡ (39 ∷ _) ++ more = rw text.spelled at cut in cc)
quoted_told (b ∷ tail) = by (b == 39) refl
  where
    by : (quote : Bool) → (b == 39) ≡ quote → Told IsQuoted (b ∷ tail)
    by true e = close (b ∷ tail) tail 1 (record { value = []; cut = ap (λ b. b ∷ tail) (eqb-true b 39 e); long = refl })
    by false e = inr (λ word more cut text. eqb-false b 39 e (quoted_first b tail word more cut text))

text_told : (b : ℕ) (tail : List ℕ) → Told IsText (b ∷ tail)
text_told b tail = by (belongs byte.TextMark b) refl (quoted_told tail) (quoted_told (b ∷ tail))
  where
    marked : Never IsQuoted tail → belongs byte.TextMark b ≡ true → Never IsText (b ∷ tail)
    marked never e word more cut (inl text) = both_ways (belongs byte.TextMark b) (rw (quoted_first b tail word more cut text) refl) e
    marked never e word more cut (inr text) =
        let f : b ∷ tail ≡ (text.mark ∷ text.quoted) ++ more = rw text.spelled at cut in
        let behind : tail ≡ text.quoted ++ more = cc in
        never text.quoted more behind text.text

    plain : Never IsQuoted (b ∷ tail) → belongs byte.TextMark b ≡ false → Never IsText (b ∷ tail)
    plain never e word more cut (inl text) = never word more cut text
    plain never e word more cut (inr text) =
        let f : b ∷ tail ≡ (text.mark ∷ text.quoted) ++ more = rw text.spelled at cut in
        let same : text.mark ≡ b = cc in
        both_ways (belongs byte.TextMark b) e (rw same at text.marks)

    by : (mark : Bool) → belongs byte.TextMark b ≡ mark → Told IsQuoted tail → Told IsQuoted (b ∷ tail) → Told IsText (b ∷ tail)
    by true e (inl found) told = inl (1 + found.0, text_begins (b ∷ tail) tail b found.0 refl e found.1)
    by true e (inr never) told = inr (marked never e)
    by false e told (inl found) = inl (found.0, plain_begins (b ∷ tail) found.0 found.1)
    by false e told (inr never) = inr (plain never e)

-- ---- bytes, signs and gaps

bytes_told : (b : ℕ) (tail : List ℕ) → Told IsBytes (b ∷ tail)
bytes_told b [] = inr (λ word more cut bytes. bytes_two b word more cut bytes)
bytes_told b (c ∷ tail) = by (b == 48 && (belongs byte.BytesMark c && (size % 2 == 0))) refl
  where
    size : ℕ
    size = prefix_len (belongs byte.HexDigit) tail

    by : (is : Bool) → (b == 48 && (belongs byte.BytesMark c && (size % 2 == 0))) ≡ is → Told IsBytes (b ∷ c ∷ tail)
    by true e =
        let parts = and_parts (b == 48) (belongs byte.BytesMark c && (size % 2 == 0)) e in
        let behind = and_parts (belongs byte.BytesMark c) (size % 2 == 0) parts.1 in
        inl (2 + size, bytes_begins (b ∷ c ∷ tail) (c ∷ tail) tail b c refl refl (eqb-true b 48 parts.0) behind.0 (eqb-true (size % 2) 0 behind.1))
    by false e = inr (λ word more cut bytes.
        let f = bytes_front b c tail word more cut bytes in
        both_ways (b == 48 && (belongs byte.BytesMark c && (size % 2 == 0))) e
        (and_from (b == 48) (belongs byte.BytesMark c && (size % 2 == 0)) (eq-eqb b 48 f.zero) (and_from (belongs byte.BytesMark c) (size % 2 == 0) f.marks (eq-eqb (size % 2) 0 f.even))))

sign_told : (b : ℕ) (tail : List ℕ) → Told IsSign (b ∷ tail)
sign_told b tail = by (begins_pair b tail) (belongs byte.Sign b) (begins_comment b tail) refl refl refl
  where
    no_single : begins_pair b tail ≡ false → (belongs byte.Sign b ≡ true → begins_comment b tail ≡ false → ⊥) → Never IsSign (b ∷ tail)
    no_single e refuted word more cut sign = at (sign_front b tail word more cut sign)
      where
        at : SignFront b tail word → ⊥
        at (inl x) = both_ways (begins_pair b tail) e x.0
        at (inr x) = refuted x.1 x.2

    by : (pair sign comment : Bool) → begins_pair b tail ≡ pair → belongs byte.Sign b ≡ sign → begins_comment b tail ≡ comment → Told IsSign (b ∷ tail)
    by true sign comment e f g = inl (2, pair_begins (b ∷ tail) tail b refl e)
    by false true false e f g = inl (1, single_begins (b ∷ tail) tail b refl e f g)
    by false true true e f g = inr (no_single e (λ sign comment. both_ways (begins_comment b tail) comment g))
    by false false comment e f g = inr (no_single e (λ sign comment. both_ways (belongs byte.Sign b) f sign))

gap_told : (bytes : List ℕ) → Told IsGap bytes
gap_told [] = inr over_end.no_gap
gap_told (b ∷ tail) = by (belongs byte.Blank b) (begins_comment b tail) refl refl
  where
    none : belongs byte.Blank b ≡ false → begins_comment b tail ≡ false → Never IsGap (b ∷ tail)
    none e f word more cut (inl blank) = both_ways (belongs byte.Blank b) e (blank_front b tail word more cut blank).blank
    none e f word more cut (inr comment) = both_ways (begins_comment b tail) f (comment_front b tail word more cut comment).dashes

    by : (blank comment : Bool) → belongs byte.Blank b ≡ blank → begins_comment b tail ≡ comment → Told IsGap (b ∷ tail)
    by true comment e f = inl (1, blank_begins (b ∷ tail) tail b refl e)
    by false true e f = inl (1 + prefix_len (belongs byte.Comment) tail, comment_begins (b ∷ tail) tail b refl f)
    by false false e f = inr (none e f)

-- ---- tokens

name_no_text : (b : ℕ) (tail : List ℕ) → kind_at (b ∷ tail) ≡ Some kind.Name → begins_text (b ∷ tail) ≡ false
name_no_text b tail told = false_from_ne_true (begins_text (b ∷ tail)) (λ text.
    let other : kind_at (b ∷ tail) ≡ Some kind.Text = cond-true (begins_text (b ∷ tail)) _ _ text in
    let f : Some kind.Name ≡ Some kind.Text = sym told ∙ other in cc)

number_no_bytes : (b : ℕ) (tail : List ℕ) → kind_at (b ∷ tail) ≡ Some kind.Number → begins_bytes (b ∷ tail) ≡ false
number_no_bytes b tail told = false_from_ne_true (begins_bytes (b ∷ tail)) (λ bytes. by bytes (begins_text (b ∷ tail)) refl)
  where
    by : begins_bytes (b ∷ tail) ≡ true → (text : Bool) → begins_text (b ∷ tail) ≡ text → ⊥
    by bytes true text =
        let other : kind_at (b ∷ tail) ≡ Some kind.Text = cond-true (begins_text (b ∷ tail)) _ _ text in
        let f : Some kind.Number ≡ Some kind.Text = sym told ∙ other in cc
    by bytes false text =
        let other : kind_at (b ∷ tail) ≡ Some kind.Bytes = cond-false (begins_text (b ∷ tail)) _ _ text ∙ cond-true (begins_bytes (b ∷ tail)) _ _ bytes in
        let f : Some kind.Number ≡ Some kind.Bytes = sym told ∙ other in cc

-- one of these and more, where the bytes say more
also_told : (Is And : List ℕ → List ℕ → Type 0) (bytes : List ℕ) → ((word more : List ℕ) → bytes ≡ word ++ more → And word more) → Told Is bytes → Told (λ word more. Is word more × And word more) bytes
also_told Is And bytes and (inl found) = inl (
  found.0,
  record {
    word = found.1.word;
    more = found.1.more;
    cut = found.1.cut;
    long = found.1.long;
    is = (found.1.is, and found.1.word found.1.more found.1.cut);
  },
)
also_told Is And bytes and (inr never) = inr (λ word more cut is. never word more cut is.0)

of_kind : (which : TokenKind) (b : ℕ) (tail : List ℕ) → kind_at (b ∷ tail) ≡ Some which → Told (IsToken which) (b ∷ tail)
of_kind kind.Name b tail told =
    also_told IsBareName (λ word more. begins_text (word ++ more) ≡ false) (b ∷ tail) (λ word more cut. rw (← cut) (name_no_text b tail told)) (name_told (b ∷ tail))
of_kind kind.Bracketed b tail told = bracketed_told b tail
of_kind kind.Variable b tail told = variable_told b tail
of_kind kind.Number b tail told =
    also_told IsNumber (λ word more. begins_bytes (word ++ more) ≡ false) (b ∷ tail) (λ word more cut. rw (← cut) (number_no_bytes b tail told)) (number_told (b ∷ tail))
of_kind kind.Text b tail told = text_told b tail
of_kind kind.Bytes b tail told = bytes_told b tail
of_kind kind.Sign b tail told = sign_told b tail

abbrev TokenTold : List ℕ → Type 0
TokenTold bytes = ((which : TokenKind) × ((size : ℕ) × Begins (IsToken which) bytes size)) ⊎ ((which : TokenKind) → Never (IsToken which) bytes)

token_told : (bytes : List ℕ) → TokenTold bytes
token_told [] = inr over_end.no_token
token_told (b ∷ tail) = by (kind_at (b ∷ tail)) refl
  where
    of : (which : TokenKind) → kind_at (b ∷ tail) ≡ Some which → Told (IsToken which) (b ∷ tail) → TokenTold (b ∷ tail)
    of which e (inl found) = inl (which, found)
    of which e (inr never) = inr (no_other (b ∷ tail) which e never)

    by : (told : Option TokenKind) → kind_at (b ∷ tail) ≡ told → TokenTold (b ∷ tail)
    by None e = inr (no_token (b ∷ tail) e)
    by (Some which) e = of which e (of_kind which b tail e)

-- ---- texts

-- the whole text is cut, or it is stuck here
ends : (text : List ℕ) (tokens : List Token) (at : ℕ) → CutTo text tokens at → Never IsGap (drop at text) → ((which : TokenKind) → Never (IsToken which) (drop at text)) → (at < length text) ⊎ (length text ≤ at)
    → IsCutOrStuck text
ends text tokens at c no_gap no_token (inl before) = inr (at, record { within = before; tokens = tokens; rest = drop at text; cut = c.cut; no_gap = no_gap; no_token = no_token })
ends text tokens at c no_gap no_token (inr over) = inl (tokens, whole text tokens at c over)

-- one piece more, or the end
one_on : (text : List ℕ) (tokens : List Token) (at left : ℕ) → CutTo text tokens at → length text < at + suc left
    → ((more : List Token) (on : ℕ) → CutTo text more on → length text < on + left → IsCutOrStuck text) → Told IsGap (drop at text) → TokenTold (drop at text) → IsCutOrStuck text
one_on text tokens at left c h go (inl found) told =
    let some : 0 < length found.1.word = some_gap found.1.word found.1.more found.1.is in
    go tokens (at + found.0) (past_gap text (drop at text) tokens at found.0 c refl found.1) (omega (arith, h, some, found.1.long))
one_on text tokens at left c h go (inr no_gap) (inl found) =
    let some : 0 < length found.1.1.word = some_token found.0 found.1.1.word found.1.1.more found.1.1.is in
    go (tokens ++ record { kind = found.0; from = at; to = at + found.1.0 } ∷ []) (at + found.1.0)
    (past_token text (drop at text) tokens _ at found.1.0 found.0 c refl found.1.1 refl) (omega (arith, h, some, found.1.1.long))
one_on text tokens at left c h go (inr no_gap) (inr no_token) = ends text tokens at c no_gap no_token (cases_lt at (length text))

-- the number bounds the pieces
cut_on : (left : ℕ) (text : List ℕ) (tokens : List Token) (at : ℕ) → CutTo text tokens at → length text < at + left → IsCutOrStuck text
cut_on zero text tokens at c h = absurd (omega (arith, h, c.within))
cut_on (suc left) text tokens at c h = one_on text tokens at left c h (λ more on d k. cut_on left text more on d k) (gap_told (drop at text)) (token_told (drop at text))

pub cut_or_stuck : (text : List ℕ) → IsCutOrStuck text
cut_or_stuck text = cut_on (suc (length text)) text [] 0 (cut_none text [] refl) (omega arith)
