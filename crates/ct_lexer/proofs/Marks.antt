-- Bytes, signs, blanks and comments: forms whose first two bytes tell them.
use Rattle.std.proofs.Common.{◌≡◌, ℕ, ◌+◌, ◌⊎◌, true, false, List, [], ◌∷◌, ◌++◌, length, refl, ap, ◌∙◌, arith, inl, inr}
use Rattle.std.specs.Prelude.{◌%◌, ◌==◌}
use Rattle.std.specs.List.{prefix_len}
use Rattle.std.proofs.lemmas.Bool.{both_ways, eqb-true, and_parts}
use Rattle.ct_lexer.specs.declared.byte.ByteClass.TheVariants as byte
use Rattle.ct_lexer.specs.Bytes.{belongs}
use Rattle.ct_lexer.specs.Tokens.{IsBytes, IsSign, IsBlank, IsComment, IsGap, begins_pair, begins_comment}
use Rattle.ct_lexer.specs.Scanning.{Begins}
use Rattle.ct_lexer.proofs.Runs.{run_size, front_run}

-- ---- bytes

pub record BytesFront (b c : ℕ) (tail word : List ℕ) : Type 0 where
  pub zero : b ≡ 48
  pub marks : belongs byte.BytesMark c ≡ true
  pub size : length word ≡ 2 + prefix_len (belongs byte.HexDigit) tail
  pub even : prefix_len (belongs byte.HexDigit) tail % 2 ≡ 0

pub bytes_front : (b c : ℕ) (tail word more : List ℕ) → b ∷ c ∷ tail ≡ word ++ more → IsBytes word more → BytesFront b c tail word
bytes_front b c tail word more e bytes =
    let f : b ∷ c ∷ tail ≡ (48 ∷ bytes.mark ∷ bytes.digits) ++ more = rw bytes.spelled at e in
    let zero : b ≡ 48 = cc in
    let mark : c ≡ bytes.mark = cc in
    let cut : tail ≡ bytes.digits ++ more = cc in
    let size : prefix_len (belongs byte.HexDigit) tail ≡ length bytes.digits = rw cut (run_size byte.HexDigit bytes.digits more bytes.bytes bytes.whole) in
    record { zero = zero; marks = rw mark bytes.marks; size = rw (size, bytes.spelled) (omega arith); even = rw size bytes.even }

pub bytes_begins : (all marked tail : List ℕ) (b c : ℕ) → all ≡ b ∷ marked → marked ≡ c ∷ tail → b ≡ 48 → belongs byte.BytesMark c ≡ true → prefix_len (belongs byte.HexDigit) tail % 2 ≡ 0
    → Begins IsBytes all (2 + prefix_len (belongs byte.HexDigit) tail)
bytes_begins all marked tail b c e f zero marks even =
    let run = front_run byte.HexDigit tail in
    record {
      word = 48 ∷ c ∷ run.word;
      more = run.more;
      cut = e ∙ ap (λ z. b ∷ z) f ∙ ap (λ b. b ∷ c ∷ tail) zero ∙ ap (λ z. 48 ∷ c ∷ z) run.cut;
      long = omega (arith, run.long);
      is = record { mark = c; digits = run.word; spelled = refl; marks = marks; bytes = run.is.bytes; even = rw run.long even; whole = run.is.whole };
    }

pub bytes_two : (b : ℕ) (word more : List ℕ) → b ∷ [] ≡ word ++ more → IsBytes word more → ⊥
bytes_two b word more e bytes = let f : b ∷ [] ≡ (48 ∷ bytes.mark ∷ bytes.digits) ++ more = rw bytes.spelled at e in cc

-- ---- signs

-- a sign of two bytes, or of one
abbrev pub SignFront : ℕ → List ℕ → List ℕ → Type 0
SignFront b tail word =
    ((begins_pair b tail ≡ true) × (length word ≡ 2))
    ⊎ ((begins_pair b tail ≡ false) × (belongs byte.Sign b ≡ true) × (begins_comment b tail ≡ false) × (length word ≡ 1))

pub sign_front : (b : ℕ) (tail word more : List ℕ) → b ∷ tail ≡ word ++ more → IsSign word more → SignFront b tail word
sign_front b tail [] more e s = absurd s
sign_front b tail (c ∷ []) more e s =
    let f : b ≡ c = cc in let g : tail ≡ more = cc in
    inr (rw (f, g) s.1, rw f s.0, rw (f, g) s.2, refl)
sign_front b tail (c ∷ d ∷ []) more e s =
    let f : b ≡ c = cc in let g : tail ≡ d ∷ more = cc in
    inl (rw (f, g) s, refl)
sign_front b tail (c ∷ d ∷ x ∷ xs) more e s = absurd s

pub pair_begins : (bytes tail : List ℕ) (b : ℕ) → bytes ≡ b ∷ tail → begins_pair b tail ≡ true → Begins IsSign bytes 2
pair_begins bytes [] b e h = absurd (both_ways false refl h)
pair_begins bytes (c ∷ tail) b e h = record { word = b ∷ c ∷ []; more = tail; cut = e; long = refl; is = h }

pub single_begins : (bytes tail : List ℕ) (b : ℕ) → bytes ≡ b ∷ tail → begins_pair b tail ≡ false → belongs byte.Sign b ≡ true → begins_comment b tail ≡ false → Begins IsSign bytes 1
single_begins bytes tail b e pair sign comment = record { word = b ∷ []; more = tail; cut = e; long = refl; is = (sign, pair, comment) }

-- ---- gaps

pub record CommentFront (b : ℕ) (tail word : List ℕ) : Type 0 where
  pub dashes : begins_comment b tail ≡ true
  pub size : length word ≡ 1 + prefix_len (belongs byte.Comment) tail

pub comment_front : (b : ℕ) (tail word more : List ℕ) → b ∷ tail ≡ word ++ more → IsComment word more → CommentFront b tail word
comment_front b tail word more e comment =
    let f : b ∷ tail ≡ (45 ∷ 45 ∷ comment.said) ++ more = rw comment.spelled at e in
    let dash : b ≡ 45 = cc in
    let cut : tail ≡ 45 ∷ (comment.said ++ more) = cc in
    let size : prefix_len (belongs byte.Comment) (comment.said ++ more) ≡ length comment.said = run_size byte.Comment comment.said more comment.bytes comment.whole in
    record { dashes = rw (dash, cut) refl; size = rw (cut, comment.spelled) (omega (arith, size)) }

pub record BlankFront (b : ℕ) (word : List ℕ) : Type 0 where
  pub blank : belongs byte.Blank b ≡ true
  pub size : length word ≡ 1

pub blank_front : (b : ℕ) (tail word more : List ℕ) → b ∷ tail ≡ word ++ more → IsBlank word more → BlankFront b word
blank_front b tail word more e blank =
    let f : b ∷ tail ≡ (blank.blank ∷ []) ++ more = rw blank.spelled at e in
    let same : b ≡ blank.blank = cc in
    record { blank = rw same blank.separates; size = rw blank.spelled refl }

pub blank_begins : (bytes tail : List ℕ) (b : ℕ) → bytes ≡ b ∷ tail → belongs byte.Blank b ≡ true → Begins IsGap bytes 1
blank_begins bytes tail b e h = record { word = b ∷ []; more = tail; cut = e; long = refl; is = inl (record { blank = b; spelled = refl; separates = h }) }

pub comment_begins : (bytes tail : List ℕ) (b : ℕ) → bytes ≡ b ∷ tail → begins_comment b tail ≡ true → Begins IsGap bytes (1 + prefix_len (belongs byte.Comment) tail)
comment_begins bytes [] b e h = absurd (both_ways false refl h)
comment_begins bytes (c ∷ tail) b e h =
    let both = and_parts (b == 45) (c == 45) h in
    let first : b ≡ 45 = eqb-true b 45 both.0 in
    let second : c ≡ 45 = eqb-true c 45 both.1 in
    let run = front_run byte.Comment tail in
    let cut : bytes ≡ 45 ∷ 45 ∷ (run.word ++ run.more) = e ∙ ap (λ b. b ∷ c ∷ tail) first ∙ ap (λ c. 45 ∷ c ∷ tail) second ∙ ap (λ z. 45 ∷ 45 ∷ z) run.cut in
    let size : prefix_len (belongs byte.Comment) (c ∷ tail) ≡ 1 + prefix_len (belongs byte.Comment) tail = rw second refl in
    rw size (record {
      word = 45 ∷ 45 ∷ run.word;
      more = run.more;
      cut = cut;
      long = omega (arith, run.long);
      is = inr (record { said = run.word; spelled = refl; bytes = run.is.bytes; whole = run.is.whole });
    })
