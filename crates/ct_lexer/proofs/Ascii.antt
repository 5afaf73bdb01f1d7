-- Tokens begin and end with ASCII characters.
use Rattle.std.proofs.Common.{◌≡◌, ℕ, suc, ◌-◌, ◌<◌, ◌≤◌, ◌⊎◌, Bool, true, false, List, [], ◌∷◌, ◌++◌, length, get_or, refl, arith, inl, inr, length-append}
use Rattle.std.specs.Prelude.{◌==◌, ◌&&◌, ◌||◌, nat_lt, nat_le, not, codes}
use Rattle.std.specs.Int.{is_in_range}
use Rattle.std.specs.List.{All, list_all, list_any}
use Rattle.std.proofs.lemmas.Bool.{both_ways, eqb-true, and_parts, or_cases, leb-true, ltb-true}
use Rattle.std.proofs.lemmas.List.{get_or_push}
use Rattle.std.proofs.lemmas.List.Elements.{All-nil, All-cons, All-append, All-weaker}
use Rattle.ct_lexer.specs.declared.byte.ByteClass.{ByteClass}
use Rattle.ct_lexer.specs.declared.byte.ByteClass.TheVariants as byte
use Rattle.ct_lexer.specs.declared.token.TokenKind.{TokenKind}
use Rattle.ct_lexer.specs.declared.token.TokenKind.TheVariants as kind
use Rattle.ct_lexer.specs.Bytes.{belongs, AllOf}
use Rattle.ct_lexer.specs.Tokens.{IsBracketed, IsText, IsBytes, IsSign, IsToken, is_pair, spelling}
use Rattle.ct_lexer.proofs.Opening.{mark_cases}
use Rattle.ct_lexer.proofs.Sizes.{some_token}

-- ---- classes of ASCII

range_ascii : (low high b : ℕ) → high < 128 → is_in_range low high b ≡ true → b < 128
range_ascii low high b h k =
    let top : b ≤ high = leb-true b high (and_parts (nat_le low b) (nat_le b high) k).1 in omega arith

this_ascii : (b n : ℕ) → n < 128 → (b == n) ≡ true → b < 128
this_ascii b n h k = let e : b ≡ n = eqb-true b n k in omega arith

either : (x y : Bool) (b : ℕ) → (x ≡ true → b < 128) → (y ≡ true → b < 128) → (x || y) ≡ true → b < 128
either x y b f g h = at (or_cases x y h)
  where
    at : (x ≡ true) ⊎ (y ≡ true) → b < 128
    at (inl k) = f k
    at (inr k) = g k

name_ascii : (b : ℕ) → belongs byte.Name b ≡ true → b < 128
name_ascii b =
    either _ _ b (either _ _ b (either _ _ b (range_ascii 48 57 b (omega arith)) (range_ascii 65 90 b (omega arith))) (range_ascii 97 122 b (omega arith))) (this_ascii b 95 (omega arith))

hex_ascii : (b : ℕ) → belongs byte.HexDigit b ≡ true → b < 128
hex_ascii b = either _ _ b (either _ _ b (range_ascii 48 57 b (omega arith)) (range_ascii 65 70 b (omega arith))) (range_ascii 97 102 b (omega arith))

bracketed_ascii : (b : ℕ) → belongs byte.Bracketed b ≡ true → b < 128
bracketed_ascii b h =
    let both : (nat_le 32 b && nat_le b 126) ≡ true = (and_parts (nat_le 32 b && nat_le b 126) (not (b == 93)) h).0 in
    let top : b ≤ 126 = leb-true b 126 (and_parts (nat_le 32 b) (nat_le b 126) both).1 in omega arith

either_ascii : (b m n : ℕ) → m < 128 → n < 128 → (b ≡ m) ⊎ (b ≡ n) → b < 128
either_ascii b m n h k (inl e) = omega arith
either_ascii b m n h k (inr e) = omega arith

among : (p : ℕ → Bool) (xs : List ℕ) (b : ℕ) → list_all p xs ≡ true → list_any (λ x. x == b) xs ≡ true → p b ≡ true
among p [] b h k = absurd (both_ways false refl k)
among p (x ∷ xs) b h k = at (or_cases (x == b) (list_any (λ x. x == b) xs) k) (among p xs b (and_parts (p x) (list_all p xs) h).1)
  where
    at : ((x == b) ≡ true) ⊎ (list_any (λ x. x == b) xs ≡ true) → (list_any (λ x. x == b) xs ≡ true → p b ≡ true) → p b ≡ true
    at (inl e) next = rw (← eqb-true x b e) (and_parts (p x) (list_all p xs) h).0
    at (inr e) next = next e

sign_ascii : (b : ℕ) → belongs byte.Sign b ≡ true → b < 128
sign_ascii b h = ltb-true b 128 (among (λ x. nat_lt x 128) (codes "(),.;=<>+-*") b refl h)

pair_ascii : (b c : ℕ) → is_pair b c ≡ true → (b < 128) × (c < 128)
pair_ascii b c h = at (or_cases (b == 60 && (c == 62 || c == 61)) ((b == 62 || b == 33) && c == 61) h)
  where
    at : ((b == 60 && (c == 62 || c == 61)) ≡ true) ⊎ (((b == 62 || b == 33) && c == 61) ≡ true) → (b < 128) × (c < 128)
    at (inl k) = let p = and_parts _ _ k in
        (this_ascii b 60 (omega arith) p.0, either_ascii c 62 61 (omega arith) (omega arith) (mark_cases c 62 61 p.1))
    at (inr k) = let p = and_parts _ _ k in
        (either_ascii b 62 33 (omega arith) (omega arith) (mark_cases b 62 33 p.0), this_ascii c 61 (omega arith) p.1)

-- ---- words that begin and end with ASCII

pub record HasAsciiEnds (word : List ℕ) : Type 0 where
  pub first : get_or word 0 0 < 128
  pub last : get_or word (length word - 1) 0 < 128

within : (word : List ℕ) → All (λ b. b < 128) word → 0 < length word → HasAsciiEnds word
within word each some = record { first = each 0 0 some; last = each (length word - 1) 0 (omega arith) }

-- each byte of a class of ASCII
all_of : (class : ByteClass) (word : List ℕ) → ((b : ℕ) → belongs class b ≡ true → b < 128) → AllOf class word → All (λ b. b < 128) word
all_of class word ascii each = let P : ℕ → Type 0 = λ b. belongs class b ≡ true in All-weaker P (λ b. b < 128) ascii word each

put : (b : ℕ) (word : List ℕ) → b < 128 → All (λ b. b < 128) word → All (λ b. b < 128) (b ∷ word)
put b word h each = let P : ℕ → Type 0 = λ b. b < 128 in All-cons P b word h each

one : (b : ℕ) → b < 128 → All (λ b. b < 128) (b ∷ [])
one b h = let P : ℕ → Type 0 = λ b. b < 128 in put b [] h (All-nil P)

bracketed_each : (word more : List ℕ) → IsBracketed word more → All (λ b. b < 128) word
bracketed_each word more t =
    let P : ℕ → Type 0 = λ b. b < 128 in
    rw t.spelled (put 91 (t.inside ++ 93 ∷ []) (omega arith)
    (All-append P t.inside (93 ∷ []) (all_of byte.Bracketed t.inside bracketed_ascii t.bytes) (one 93 (omega arith))))

bytes_each : (word more : List ℕ) → IsBytes word more → All (λ b. b < 128) word
bytes_each word more t =
    rw t.spelled (put 48 (t.mark ∷ t.digits) (omega arith)
    (put t.mark t.digits (either_ascii t.mark 120 88 (omega arith) (omega arith) (mark_cases t.mark 120 88 t.marks)) (all_of byte.HexDigit t.digits hex_ascii t.bytes)))

sign_each : (word more : List ℕ) → IsSign word more → All (λ b. b < 128) word
sign_each [] more t = absurd t
sign_each (b ∷ []) more t = one b (sign_ascii b t.0)
sign_each (b ∷ c ∷ []) more t = let p = pair_ascii b c t in put b (c ∷ []) p.0 (one c p.1)
sign_each (b ∷ c ∷ d ∷ bs) more t = absurd t

-- between quotes anything may stand
quoted_ends : (b : ℕ) (front : List ℕ) → b < 128 → HasAsciiEnds (b ∷ (front ++ 39 ∷ []))
quoted_ends b front h =
    let size : length (b ∷ (front ++ 39 ∷ [])) - 1 ≡ suc (length front) = simp length-append (omega arith) in
    record { first = h; last = rw (size, get_or_push front 39 0 (length front) refl) (omega arith) }

text_ends : (word more : List ℕ) → IsText word more → HasAsciiEnds word
text_ends word more (inl t) = rw t.spelled (quoted_ends 39 (spelling t.value) (omega arith))
text_ends word more (inr t) =
    rw (t.spelled, t.text.spelled) (quoted_ends t.mark (39 ∷ spelling t.text.value) (either_ascii t.mark 78 110 (omega arith) (omega arith) (mark_cases t.mark 78 110 t.marks)))

pub ascii_ends : (kind : TokenKind) (word more : List ℕ) → IsToken kind word more → HasAsciiEnds word
ascii_ends kind.Name word more t = within word (all_of byte.Name word name_ascii t.0.bytes) (some_token kind.Name word more t)
ascii_ends kind.Bracketed word more t = within word (bracketed_each word more t) (some_token kind.Bracketed word more t)
ascii_ends kind.Variable word more t =
    within word (rw t.spelled (put 64 t.name (omega arith) (all_of byte.Name t.name name_ascii t.named.bytes))) (some_token kind.Variable word more t)
ascii_ends kind.Number word more t = within word (all_of byte.Digit word (λ b. range_ascii 48 57 b (omega arith)) t.0.bytes) (some_token kind.Number word more t)
ascii_ends kind.Text word more t = text_ends word more t
ascii_ends kind.Bytes word more t = within word (bytes_each word more t) (some_token kind.Bytes word more t)
ascii_ends kind.Sign word more t = within word (sign_each word more t) (some_token kind.Sign word more t)
