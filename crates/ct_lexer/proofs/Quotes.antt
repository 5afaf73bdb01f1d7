-- Texts in quotes: where they close.
use Rattle.std.proofs.Common.{◌≡◌, ℕ, ◌+◌, Bool, true, false, cond, List, [], ◌∷◌, ◌++◌, length, refl, sym, ap, ◌∙◌, arith, append_assoc, length-append, inl, inr}
use Rattle.std.proofs.lemmas.Bool.{both_ways, ne_eqb, cond-false}
use Rattle.std.proofs.lemmas.List.{append-nil}
use Rattle.ct_lexer.specs.declared.byte.ByteClass.TheVariants as byte
use Rattle.ct_lexer.specs.Bytes.{belongs, Stops}
use Rattle.ct_lexer.specs.Tokens.{IsQuoted, IsText, spelling}
use Rattle.ct_lexer.specs.Cutting.{Never}
use Rattle.ct_lexer.specs.Scanning.{Begins}

-- the bytes of a text as they are written, one character after another
data Written : List ℕ → Type 0 where
  none : Written []
  plain : {bytes : List ℕ} (b : ℕ) → belongs byte.Quote b ≡ false → Written bytes → Written (b ∷ bytes)
  pair : {bytes : List ℕ} → Written bytes → Written (39 ∷ 39 ∷ bytes)

one_written : (b : ℕ) (bytes : List ℕ) (quote : Bool) → belongs byte.Quote b ≡ quote → Written bytes → Written (cond quote (39 ∷ 39 ∷ bytes) (b ∷ bytes))
one_written b bytes true e w = pair w
one_written b bytes false e w = plain b e w

written : (value : List ℕ) → Written (spelling value)
written [] = none
written (b ∷ value) = one_written b (spelling value) (belongs byte.Quote b) refl (written value)

no_quote : (b : ℕ) → belongs byte.Quote b ≡ false → b ≡ 39 → ⊥
no_quote b h e = both_ways true (rw e at h) refl

-- the quote that follows what is written, and is not spelling, is the first of its kind
one_close : {xs ys : List ℕ} (more others : List ℕ) → Written xs → Written ys → Stops byte.Quote more → Stops byte.Quote others → xs ++ 39 ∷ more ≡ ys ++ 39 ∷ others → length xs ≡ length ys
one_close more others none none h k e = refl
one_close more others none (plain b f t) h k e = absurd (no_quote b f (cc))
one_close more others none (pair {bytes = ys} t) h k e = let f : more ≡ 39 ∷ (ys ++ 39 ∷ others) = cc in absurd (both_ways true (rw f at h) refl)
one_close more others (plain b f s) none h k e = absurd (no_quote b f (cc))
one_close more others (plain {bytes = xs} b f s) (plain {bytes = ys} c g t) h k e =
    let rest : xs ++ 39 ∷ more ≡ ys ++ 39 ∷ others = cc in omega (arith, one_close more others s t h k rest)
one_close more others (plain b f s) (pair t) h k e = absurd (no_quote b f (cc))
one_close more others (pair {bytes = xs} s) none h k e = let f : others ≡ 39 ∷ (xs ++ 39 ∷ more) = cc in absurd (both_ways true (rw f at k) refl)
one_close more others (pair s) (plain b f t) h k e = absurd (no_quote b f (cc))
one_close more others (pair {bytes = xs} s) (pair {bytes = ys} t) h k e =
    let rest : xs ++ 39 ∷ more ≡ ys ++ 39 ∷ others = cc in omega (arith, one_close more others s t h k rest)

-- what is written has no quote of its own
no_close : {xs ys : List ℕ} (more : List ℕ) → Written xs → Written ys → Stops byte.Quote more → xs ≡ ys ++ 39 ∷ more → ⊥
no_close more none none h e = cc
no_close more none (plain b f t) h e = cc
no_close more none (pair t) h e = cc
no_close more (plain b f s) none h e = no_quote b f (cc)
no_close more (plain {bytes = xs} b f s) (plain {bytes = ys} c g t) h e = let rest : xs ≡ ys ++ 39 ∷ more = cc in no_close more s t h rest
no_close more (plain b f s) (pair t) h e = no_quote b f (cc)
no_close more (pair {bytes = xs} s) none h e = let f : more ≡ 39 ∷ xs = cc in both_ways true (rw f at h) refl
no_close more (pair s) (plain b f t) h e = no_quote b f (cc)
no_close more (pair {bytes = xs} s) (pair {bytes = ys} t) h e = let rest : xs ≡ ys ++ 39 ∷ more = cc in no_close more s t h rest

-- ---- a text that is being read

-- a quote and what is written behind it, up to the rest
pub record Opened (bytes rest : List ℕ) (size : ℕ) : Type 0 where
  pub value : List ℕ
  pub cut : bytes ≡ 39 ∷ (spelling value ++ rest)
  pub long : 1 + length (spelling value) ≡ size

spelling-append : (xs ys : List ℕ) → spelling (xs ++ ys) ≡ spelling xs ++ spelling ys
spelling-append [] ys = refl
spelling-append (b ∷ xs) ys = by (belongs byte.Quote b) (spelling (xs ++ ys)) (spelling xs) (spelling ys) (spelling-append xs ys)
  where
    by : (quote : Bool) (all front back : List ℕ) → all ≡ front ++ back → cond quote (39 ∷ 39 ∷ all) (b ∷ all) ≡ cond quote (39 ∷ 39 ∷ front) (b ∷ front) ++ back
    by true all front back e = ap (λ z. 39 ∷ 39 ∷ z) e
    by false all front back e = ap (λ z. b ∷ z) e

-- one more character
further : (bytes rest : List ℕ) (size : ℕ) (b : ℕ) (spelled : List ℕ) → spelling (b ∷ []) ≡ spelled → Opened bytes (spelled ++ rest) size → Opened bytes rest (size + length spelled)
further bytes rest size b spelled e o = record {
  value = o.value ++ b ∷ [];
  cut = o.cut ∙ ap (λ z. 39 ∷ z) (sym (append_assoc (spelling o.value) spelled rest) ∙ ap (λ z. z ++ rest) (ap (λ z. spelling o.value ++ z) (sym e) ∙ sym (spelling-append o.value (b ∷ []))));
  long = rw (spelling-append o.value (b ∷ []), e) (simp length-append (omega (arith, o.long)));
}

pub opened_plain : (bytes rest more : List ℕ) (size b : ℕ) → Opened bytes rest size → rest ≡ b ∷ more → (b ≡ 39 → ⊥) → Opened bytes more (size + 1)
opened_plain bytes rest more size b o e f =
    let plain : belongs byte.Quote b ≡ false = ne_eqb b 39 f in
    further bytes more size b (b ∷ []) (cond-false (belongs byte.Quote b) (39 ∷ 39 ∷ []) (b ∷ []) plain) (rw e at o)

pub opened_pair : (bytes rest more behind : List ℕ) (size b : ℕ) → Opened bytes rest size → rest ≡ b ∷ more → b ≡ 39 → more ≡ 39 ∷ behind → Opened bytes behind (size + 2)
opened_pair bytes rest more behind size b o e f g = further bytes behind size 39 (39 ∷ 39 ∷ []) refl (rw (e, f, g) at o)

pub closed : (bytes rest more : List ℕ) (size b : ℕ) → Opened bytes rest size → rest ≡ b ∷ more → b ≡ 39 → Stops byte.Quote more → Begins IsQuoted bytes (size + 1)
closed bytes rest more size b o e f stops = record {
  word = 39 ∷ (spelling o.value ++ 39 ∷ []);
  more = more;
  cut = o.cut ∙ ap (λ z. 39 ∷ z) (ap (λ z. spelling o.value ++ z) (e ∙ ap (λ b. b ∷ more) f) ∙ sym (append_assoc (spelling o.value) (39 ∷ []) more));
  long = simp length-append (omega (arith, o.long));
  is = record { value = o.value; spelled = refl; closed = stops };
}

pub not_closed : (bytes rest : List ℕ) (size : ℕ) → Opened bytes rest size → rest ≡ [] → Never IsQuoted bytes
not_closed bytes rest size o e word more f text =
    let cut : 39 ∷ (spelling o.value ++ rest) ≡ (39 ∷ (spelling text.value ++ 39 ∷ [])) ++ more = sym o.cut ∙ rw text.spelled at f in
    let inside : spelling o.value ++ rest ≡ (spelling text.value ++ 39 ∷ []) ++ more = cc in
    let all : spelling o.value ≡ spelling text.value ++ 39 ∷ more = sym (append-nil (spelling o.value)) ∙ ap (λ z. spelling o.value ++ z) (sym e) ∙ inside ∙ append_assoc (spelling text.value) (39 ∷ []) more in
    no_close more (written o.value) (written text.value) text.closed all

pub quoted_first : (b : ℕ) (tail word more : List ℕ) → b ∷ tail ≡ word ++ more → IsQuoted word more → b ≡ 39
quoted_first b tail word more e text =
    let f : b ∷ tail ≡ (39 ∷ (spelling text.value ++ 39 ∷ [])) ++ more = rw text.spelled at e in cc

pub one_quoted : (word more other others : List ℕ) → word ++ more ≡ other ++ others → IsQuoted word more → IsQuoted other others → length word ≡ length other
one_quoted word more other others e text twin =
    let f : (39 ∷ (spelling text.value ++ 39 ∷ [])) ++ more ≡ (39 ∷ (spelling twin.value ++ 39 ∷ [])) ++ others = rw (text.spelled, twin.spelled) at e in
    let inside : (spelling text.value ++ 39 ∷ []) ++ more ≡ (spelling twin.value ++ 39 ∷ []) ++ others = cc in
    let all : spelling text.value ++ 39 ∷ more ≡ spelling twin.value ++ 39 ∷ others =
    sym (append_assoc (spelling text.value) (39 ∷ []) more) ∙ inside ∙ append_assoc (spelling twin.value) (39 ∷ []) others in
    let same : length (spelling text.value) ≡ length (spelling twin.value) = one_close more others (written text.value) (written twin.value) text.closed twin.closed all in
    rw (text.spelled, twin.spelled) (simp length-append (omega (arith, same)))

-- ---- texts, with an N or without

pub text_begins : (bytes tail : List ℕ) (b n : ℕ) → bytes ≡ b ∷ tail → belongs byte.TextMark b ≡ true → Begins IsQuoted tail n → Begins IsText bytes (1 + n)
text_begins bytes tail b n e marks text = record {
  word = b ∷ text.word;
  more = text.more;
  cut = e ∙ ap (λ z. b ∷ z) text.cut;
  long = omega (arith, text.long);
  is = inr (record { mark = b; quoted = text.word; spelled = refl; marks = marks; text = text.is });
}

pub plain_begins : (bytes : List ℕ) (n : ℕ) → Begins IsQuoted bytes n → Begins IsText bytes n
plain_begins bytes n text = record { word = text.word; more = text.more; cut = text.cut; long = text.long; is = inl text.is }
