-- The first bytes of a token tell its kind, and those of a gap that no token begins.
use Rattle.std.proofs.Common.{◌≡◌, ℕ, ◌≤◌, ◌⊎◌, Bool, true, false, cond, List, [], ◌∷◌, ◌++◌, Option, Some, None, refl, sym, ap, ◌∙◌, subst, arith, inl, inr}
use Rattle.std.specs.Prelude.{◌==◌, ◌&&◌, ◌||◌, not}
use Rattle.std.specs.Int.{is_in_range}
use Rattle.std.proofs.lemmas.Bool.{both_ways, eqb-true, ne_eqb, and_parts, and_from, and_left, or_cases, or_from, or_left, or_right, not_from_false, cond-true, cond-false, leb-true, false_from_ne_true}
use Rattle.ct_lexer.specs.declared.byte.ByteClass.TheVariants as byte
use Rattle.ct_lexer.specs.declared.token.TokenKind.{TokenKind}
use Rattle.ct_lexer.specs.declared.token.TokenKind.TheVariants as kind
use Rattle.ct_lexer.specs.Bytes.{belongs, starts}
use Rattle.ct_lexer.specs.Scanning.{begins_sign, kind_at}
use Rattle.ct_lexer.specs.Tokens.{IsBareName, IsNumber, IsText, IsQuoted, IsBytes, IsSign, IsToken, IsGap, begins_text, begins_bytes, begins_pair, begins_comment, is_pair}
use Rattle.ct_lexer.specs.Cutting.{Never}

-- ---- which bytes are not of which class

not_this : (b : ℕ) (is : ℕ → Bool) (n : ℕ) → is b ≡ true → is n ≡ false → (b == n) ≡ false
not_this b is n h k = ne_eqb b n (λ e. both_ways (is n) k (subst (λ b. is b ≡ true) e h))

digit_range : (b : ℕ) → belongs byte.Digit b ≡ true → (48 ≤ b) × (b ≤ 57)
digit_range b h = let p = and_parts _ _ h in (leb-true 48 b p.0, leb-true b 57 p.1)

in_range : (low high b : ℕ) → is_in_range low high b ≡ true → (low ≤ b) × (b ≤ high)
in_range low high b h = let p = and_parts _ _ h in (leb-true low b p.0, leb-true b high p.1)

digit_no_letter : (b : ℕ) → belongs byte.Digit b ≡ true → belongs byte.Letter b ≡ false
digit_no_letter b h = false_from_ne_true (belongs byte.Letter b) (λ k. at (or_cases (is_in_range 65 90 b || is_in_range 97 122 b) (b == 95) k))
  where
    upper : (is_in_range 65 90 b ≡ true) ⊎ (is_in_range 97 122 b ≡ true) → ⊥
    upper (inl k) = let r = digit_range b h in let s = in_range 65 90 b k in omega arith
    upper (inr k) = let r = digit_range b h in let s = in_range 97 122 b k in omega arith

    at : ((is_in_range 65 90 b || is_in_range 97 122 b) ≡ true) ⊎ ((b == 95) ≡ true) → ⊥
    at (inl k) = upper (or_cases (is_in_range 65 90 b) (is_in_range 97 122 b) k)
    at (inr k) = let r = digit_range b h in let e = eqb-true b 95 k in omega arith

-- ---- the tests of kind_at, one after another

name_kind : (text bytes letter : Bool) (others : Option TokenKind) → text ≡ false → bytes ≡ false → letter ≡ true
    → cond text (Some kind.Text) (cond bytes (Some kind.Bytes) (cond letter (Some kind.Name) others)) ≡ Some kind.Name
name_kind text bytes letter others e f g = rw (e, f, g) refl

number_kind : (text bytes letter digit : Bool) (others : Option TokenKind) → text ≡ false → bytes ≡ false → letter ≡ false → digit ≡ true
    → cond text (Some kind.Text) (cond bytes (Some kind.Bytes) (cond letter (Some kind.Name) (cond digit (Some kind.Number) others))) ≡ Some kind.Number
number_kind text bytes letter digit others e f g h = rw (e, f, g, h) refl

name_opens : (word more : List ℕ) → IsBareName word more → begins_text (word ++ more) ≡ false → kind_at (word ++ more) ≡ Some kind.Name
name_opens [] more name h = absurd (both_ways false refl name.first)
name_opens (b ∷ word) more name h =
    let zero : (b == 48) ≡ false = not_this b (belongs byte.Letter) 48 name.first refl in
    name_kind _ _ _ _ h (and_left (b == 48) (starts byte.BytesMark (word ++ more)) zero) name.first

number_opens : (word more : List ℕ) → IsNumber word more → begins_bytes (word ++ more) ≡ false → kind_at (word ++ more) ≡ Some kind.Number
number_opens [] more number h = absurd (omega (arith, number.some))
number_opens (b ∷ word) more number h =
    let digit : belongs byte.Digit b ≡ true = number.bytes 0 0 (omega arith) in
    let quote : (b == 39) ≡ false = not_this b (belongs byte.Digit) 39 digit refl in
    let upper : (b == 78) ≡ false = not_this b (belongs byte.Digit) 78 digit refl in
    let lower : (b == 110) ≡ false = not_this b (belongs byte.Digit) 110 digit refl in
    let text : begins_text (b ∷ (word ++ more)) ≡ false =
    or_from (b == 39) (belongs byte.TextMark b && starts byte.Quote (word ++ more)) quote (and_left (belongs byte.TextMark b) (starts byte.Quote (word ++ more)) (or_from (b == 78) (b == 110) upper lower)) in
    number_kind _ _ _ _ _ text h (digit_no_letter b digit) digit

marked_opens : (mark : ℕ) (quoted more : List ℕ) → (mark ≡ 78) ⊎ (mark ≡ 110) → IsQuoted quoted more → kind_at (mark ∷ (quoted ++ more)) ≡ Some kind.Text
marked_opens mark quoted more (inl e) text = rw (e, text.spelled) refl
marked_opens mark quoted more (inr e) text = rw (e, text.spelled) refl

pub mark_cases : (b m n : ℕ) → (b == m || b == n) ≡ true → (b ≡ m) ⊎ (b ≡ n)
mark_cases b m n h = at (or_cases (b == m) (b == n) h)
  where
    at : ((b == m) ≡ true) ⊎ ((b == n) ≡ true) → (b ≡ m) ⊎ (b ≡ n)
    at (inl e) = inl (eqb-true b m e)
    at (inr e) = inr (eqb-true b n e)

text_opens : (word more : List ℕ) → IsText word more → kind_at (word ++ more) ≡ Some kind.Text
text_opens word more (inl text) = rw text.spelled refl
text_opens word more (inr text) = rw text.spelled (marked_opens text.mark text.quoted more (mark_cases text.mark 78 110 text.marks) text.text)

bytes_at : (mark : ℕ) (rest : List ℕ) → (mark ≡ 120) ⊎ (mark ≡ 88) → kind_at (48 ∷ mark ∷ rest) ≡ Some kind.Bytes
bytes_at mark rest (inl e) = rw e refl
bytes_at mark rest (inr e) = rw e refl

bytes_opens : (word more : List ℕ) → IsBytes word more → kind_at (word ++ more) ≡ Some kind.Bytes
bytes_opens word more bytes = rw bytes.spelled (bytes_at bytes.mark (bytes.digits ++ more) (mark_cases bytes.mark 120 88 bytes.marks))

-- ---- signs

-- with this byte a sign begins, where its next byte does not forbid it
Opens : ℕ → Type 0
Opens b = (more : List ℕ) → begins_sign b more ≡ true → kind_at (b ∷ more) ≡ Some kind.Sign

at_sign : (b : ℕ) → ((more : List ℕ) → kind_at (b ∷ more) ≡ cond (begins_sign b more) (Some kind.Sign) None) → Opens b
unfolding Opens
at_sign b e more h = e more ∙ cond-true (begins_sign b more) (Some kind.Sign) None h

one_of : (P : ℕ → Type 0) (b x : ℕ) (rest : Bool) → P x → (rest ≡ true → P b) → (x == b || rest) ≡ true → P b
one_of P b x rest p q h = at (or_cases (x == b) rest h)
  where
    at : ((x == b) ≡ true) ⊎ (rest ≡ true) → P b
    at (inl e) = subst P (eqb-true x b e) p
    at (inr e) = q e

single_opens : (b : ℕ) → belongs byte.Sign b ≡ true → Opens b
single_opens b =
    one_of Opens b 40 _ (at_sign 40 (λ m. refl)) (
    one_of Opens b 41 _ (at_sign 41 (λ m. refl)) (
    one_of Opens b 44 _ (at_sign 44 (λ m. refl)) (
    one_of Opens b 46 _ (at_sign 46 (λ m. refl)) (
    one_of Opens b 59 _ (at_sign 59 (λ m. refl)) (
    one_of Opens b 61 _ (at_sign 61 (λ m. refl)) (
    one_of Opens b 60 _ (at_sign 60 (λ m. refl)) (
    one_of Opens b 62 _ (at_sign 62 (λ m. refl)) (
    one_of Opens b 43 _ (at_sign 43 (λ m. refl)) (
    one_of Opens b 45 _ (at_sign 45 (λ m. refl)) (
    one_of Opens b 42 _ (at_sign 42 (λ m. refl)) (λ h. absurd (both_ways false refl h))))))))))))

pair_first : (b c : ℕ) → is_pair b c ≡ true → (b ≡ 60) ⊎ ((b ≡ 62) ⊎ (b ≡ 33))
pair_first b c h = at (or_cases (b == 60 && (c == 62 || c == 61)) ((b == 62 || b == 33) && c == 61) h)
  where
    at : ((b == 60 && (c == 62 || c == 61)) ≡ true) ⊎ (((b == 62 || b == 33) && c == 61) ≡ true) → (b ≡ 60) ⊎ ((b ≡ 62) ⊎ (b ≡ 33))
    at (inl k) = inl (eqb-true b 60 (and_parts _ _ k).0)
    at (inr k) = inr (mark_cases b 62 33 (and_parts _ _ k).0)

pair_opens : (b : ℕ) → (b ≡ 60) ⊎ ((b ≡ 62) ⊎ (b ≡ 33)) → Opens b
pair_opens b (inl e) = subst Opens (sym e) (at_sign 60 (λ m. refl))
pair_opens b (inr (inl e)) = subst Opens (sym e) (at_sign 62 (λ m. refl))
pair_opens b (inr (inr e)) = subst Opens (sym e) (at_sign 33 (λ m. refl))

sign_opens : (word more : List ℕ) → IsSign word more → kind_at (word ++ more) ≡ Some kind.Sign
unfolding Opens
sign_opens [] more s = absurd s
sign_opens (b ∷ []) more s =
    single_opens b s.0 more (or_right (begins_pair b more) (belongs byte.Sign b && not (begins_comment b more)) (and_from (belongs byte.Sign b) (not (begins_comment b more)) s.0 (not_from_false (begins_comment b more) s.2)))
sign_opens (b ∷ c ∷ []) more s =
    pair_opens b (pair_first b c s) (c ∷ more) (or_left (is_pair b c) (belongs byte.Sign b && not (begins_comment b (c ∷ more))) s)
sign_opens (b ∷ c ∷ d ∷ bs) more s = absurd s

-- ---- tokens and gaps

pub opens : (kind : TokenKind) (word more : List ℕ) → IsToken kind word more → kind_at (word ++ more) ≡ Some kind
opens kind.Name word more t = name_opens word more t.0 t.1
opens kind.Bracketed word more t = rw t.spelled refl
opens kind.Variable word more t = rw t.spelled refl
opens kind.Number word more t = number_opens word more t.0 t.1
opens kind.Text word more t = text_opens word more t
opens kind.Bytes word more t = bytes_opens word more t
opens kind.Sign word more t = sign_opens word more t

no_pair : (b : ℕ) → ((c : ℕ) → is_pair b c ≡ false) → (more : List ℕ) → begins_pair b more ≡ false
no_pair b h [] = refl
no_pair b h (c ∷ more) = h c

at_blank : (b : ℕ) (more : List ℕ) → kind_at (b ∷ more) ≡ cond (begins_sign b more) (Some kind.Sign) None → belongs byte.Sign b ≡ false → ((c : ℕ) → is_pair b c ≡ false) → kind_at (b ∷ more) ≡ None
at_blank b more e sign pair =
    e ∙ cond-false (begins_sign b more) (Some kind.Sign) None
    (or_from (begins_pair b more) (belongs byte.Sign b && not (begins_comment b more)) (no_pair b pair more) (and_left (belongs byte.Sign b) (not (begins_comment b more)) sign))

blank_opens : (b : ℕ) (more : List ℕ) → belongs byte.Blank b ≡ true → kind_at (b ∷ more) ≡ None
blank_opens b more h = last (or_cases (b == 32 || b == 9 || b == 13) (b == 10) h)
  where
    P : ℕ → Type 0
    P b = kind_at (b ∷ more) ≡ None

    first : (b ≡ 32) ⊎ (b ≡ 9) → kind_at (b ∷ more) ≡ None
    first (inl e) = rw e (at_blank 32 more refl refl (λ c. refl))
    first (inr e) = rw e (at_blank 9 more refl refl (λ c. refl))

    third : ((b == 32 || b == 9) ≡ true) ⊎ ((b == 13) ≡ true) → kind_at (b ∷ more) ≡ None
    third (inl k) = first (mark_cases b 32 9 k)
    third (inr k) = rw (eqb-true b 13 k) (at_blank 13 more refl refl (λ c. refl))

    last : ((b == 32 || b == 9 || b == 13) ≡ true) ⊎ ((b == 10) ≡ true) → kind_at (b ∷ more) ≡ None
    last (inl k) = third (or_cases (b == 32 || b == 9) (b == 13) k)
    last (inr k) = rw (eqb-true b 10 k) (at_blank 10 more refl refl (λ c. refl))

pub no_kind : (word more : List ℕ) → IsGap word more → kind_at (word ++ more) ≡ None
no_kind word more (inl blank) = rw blank.spelled (blank_opens blank.blank more blank.separates)
no_kind word more (inr comment) = rw comment.spelled refl

-- no token begins where the first bytes tell of none, and no other kind than the one that they tell of
pub no_token : (bytes : List ℕ) → kind_at bytes ≡ None → (kind : TokenKind) → Never (IsToken kind) bytes
no_token bytes none kind word more e t = let f : Some kind ≡ None = sym (opens kind word more t) ∙ sym (ap kind_at e) ∙ none in cc

pub no_other : (bytes : List ℕ) (kind : TokenKind) → kind_at bytes ≡ Some kind → Never (IsToken kind) bytes → (other : TokenKind) → Never (IsToken other) bytes
no_other bytes kind told never other word more e t =
    let f : Some other ≡ Some kind = sym (opens other word more t) ∙ sym (ap kind_at e) ∙ told in
    let same : other ≡ kind = cc in
    never word more e (subst (λ k. IsToken k word more) same t)
