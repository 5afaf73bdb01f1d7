-- What the lines of a plain script are.
use Rattle.std.proofs.Common.{◌≡◌, ℕ, ◌+◌, ◌-◌, ◌*◌, ◌^◌, ◌<◌, ◌≤◌, Bool, true, false, cond, eqb, nat_lt, List, [], ◌∷◌, ◌++◌, length, get_or, take, drop, take_while, reverse, refl, sym, ap, subst, ◌∙◌, append_assoc, arith, rules}
use Rattle.std.specs.Prelude.{◌≢◌, ◌&&◌, ◌||◌, not, nat_eq, codes, slice_index}
use Rattle.std.specs.List.{list_all, fold, starts_with, prefix_len, position_or_len, AllByRecursion}
use Rattle.std.specs.Char.{is_ascii_digit}
use Rattle.std.specs.Str.{IsUtf8}
use Rattle.std.specs.Fmt.{decimal}
use Rattle.std.proofs.lemmas.Grind.{common_steps}
use Rattle.std.proofs.lemmas.List.{take_all, get_or-reverse, get_or_append_left}
use Rattle.std.proofs.lemmas.List.Folds.{length-prefix_len}
use Rattle.std.proofs.lemmas.Str.{IsUtf8-append, IsUtf8-from_ascii}
use Rattle.std.proofs.lemmas.Str.Parse.{IsNumeralModel, numerals_by_fold}
use Rattle.std.proofs.lemmas.Fmt.{digits_decimal, digits_value-decimal, decimal_nonempty, first_decimal, IsAscii-decimal}
use Rattle.std.proofs.lemmas.Bool.Decides.{nat_tests}
use Rattle.ct_script.specs.Forms.{is_blank, is_colon, without_end, trimmed, is_number, number_of, before_colon, head_text, headed, numbered, directive, form_of, kind_of}
use Rattle.ct_script.specs.Plain.{first_byte, last_byte, IsFirstLine, IsFurtherLine}
use Rattle.ct_script.specs.declared.kind.Kind.{Kind}
use Rattle.ct_script.specs.declared.kind.Kind.TheVariants.{Ignored, Mark, Head, More, Fault}
use Rattle.ct_script.proofs.Steps.{kind_of-utf8}
use lib.Utf8.{encode}
use Rattle.ct_script.proofs.Parts.{take-before, drop-past, last_byte-append}

and-false : (x y : Bool) → x ≡ false → (x && y) ≡ false
and-false false y e = refl
and-false true y e = cc

-- the form of a line by its four tests
by_tests : (a b c d : Bool) (x y : Kind) → a ≡ false → b ≡ false → c ≡ false → cond a Ignored (cond b Ignored (cond c x (cond d More y))) ≡ cond d More y
by_tests a b c d x y e f g =
    ap (λ t. cond t Ignored (cond b Ignored (cond c x (cond d More y)))) e
    ∙ ap (λ t. cond t Ignored (cond c x (cond d More y))) f
    ∙ ap (λ t. cond t x (cond d More y)) g

no_comment : (b : ℕ) (bs : List ℕ) → b ≢ 45 → starts_with nat_eq (b ∷ bs) (codes "--") ≡ false
no_comment b bs other = and-false (eqb 45 b) _ (grind (arith, nat_tests))

-- a line that begins with a blank and has more than blanks
form_of-further : (line : List ℕ) → is_blank (first_byte line) ≡ true → list_all is_blank line ≡ false → form_of line ≡ More
unfolding form_of
form_of-further [] blank more = cc
form_of-further (b ∷ bs) blank more =
    let low : b < 33 = grind (arith, nat_tests) in
    let dash : b ≢ 45 = omega arith in
    let hash : eqb b 35 ≡ false = grind (arith, nat_tests) in
    by_tests _ _ _ (is_blank b) _ _ more (no_comment b bs dash) hash ∙ ap (λ t. cond t More (numbered (b ∷ bs))) blank

pub kind_of-further : (line : List ℕ) → IsUtf8 line → IsFurtherLine line → kind_of line ≡ More
kind_of-further line utf8 plain = kind_of-utf8 line line More (refl, utf8) (form_of-further line plain.indented plain.not_blank)

-- a line that begins with a digit
form_of-digit : (line : List ℕ) → is_ascii_digit (first_byte line) ≡ true → form_of line ≡ numbered line
unfolding form_of
form_of-digit [] digit = cc
form_of-digit (b ∷ bs) digit =
    let low : 48 ≤ b = grind (arith, nat_tests) in
    let unindented : is_blank b ≡ false = grind (arith, nat_tests) in
    let dash : b ≢ 45 = omega arith in
    let hash : eqb b 35 ≡ false = grind (arith, nat_tests) in
    by_tests _ _ _ (is_blank b) _ _ (and-false (is_blank b) (list_all is_blank bs) unindented) (no_comment b bs dash) hash
    ∙ ap (λ t. cond t More (numbered (b ∷ bs))) unindented

and-both : (x y : Bool) → (x && y) ≡ true → (x ≡ true) × (y ≡ true)
and-both true y e = (refl, e)
and-both false y e = cc

and-true : (x y : Bool) → x ≡ true → y ≡ true → (x && y) ≡ true
and-true true y e f = f
and-true false y e f = cc

or-true : (x y : Bool) → y ≡ true → (x || y) ≡ true
or-true true y e = refl
or-true false y e = e

list_all-weaker : (p q : ℕ → Bool) → ((x : ℕ) → p x ≡ true → q x ≡ true) → (xs : List ℕ) → list_all p xs ≡ true → list_all q xs ≡ true
list_all-weaker p q weaker [] all = refl
list_all-weaker p q weaker (x ∷ xs) all =
    let both = and-both (p x) (list_all p xs) all in
    and-true (q x) (list_all q xs) (weaker x both.0) (list_all-weaker p q weaker xs both.1)

-- bytes that pass a test are not the byte that fails it
pub none_is : (p : ℕ → Bool) (c : ℕ) → p c ≡ false → (xs : List ℕ) → list_all p xs ≡ true → AllByRecursion (λ x. eqb x c ≡ false) xs
none_is p c fails [] all = tt
none_is p c fails (x ∷ xs) all =
    let both = and-both (p x) (list_all p xs) all in
    let other : x ≢ c = λ e. absurd (same_false (sym both.0 ∙ ap p e ∙ fails)) in
    let test : eqb x c ≡ false = grind (arith, nat_tests) in
    (test, none_is p c fails xs both.1)
  where
    same_false : true ≡ false → ⊥
    same_false e = cc

-- the first place that passes, behind elements that fail
position_or_len-at : (p : ℕ → Bool) (front : List ℕ) (y : ℕ) (rest : List ℕ) → AllByRecursion (λ x. p x ≡ false) front → p y ≡ true → position_or_len p (front ++ y ∷ rest) ≡ length front
position_or_len-at p [] y rest fail passes = ap (λ b. cond (not b) (1 + position_or_len p rest) 0) passes
position_or_len-at p (x ∷ front) y rest fail passes =
    let count : 1 + length front ≡ length (x ∷ front) = omega arith in
    ap (λ b. cond (not b) (1 + position_or_len p (front ++ y ∷ rest)) 0) fail.0 ∙ ap (λ n. 1 + n) (position_or_len-at p front y rest fail.1 passes) ∙ count

decimal_model : IsNumeralModel (λ ds. list_all is_ascii_digit ds ≡ true) number_of
decimal_model = numerals_by_fold _ (search rules) (λ n ds. fold (λ number digit. 10 * number + (digit - 48)) n ds) (search rules)

pub decimal_digits : (n : ℕ) → n < 2 ^ 64 → list_all is_ascii_digit (decimal n) ≡ true
decimal_digits n small = digits_decimal decimal_model n small

first_digit : (ds : List ℕ) → 0 < length ds → list_all is_ascii_digit ds ≡ true → is_ascii_digit (slice_index ds 0) ≡ true
first_digit [] some all = absurd (omega arith)
first_digit (d ∷ ds) some all = (and-both (is_ascii_digit d) (list_all is_ascii_digit ds) all).0

is_number-decimal : (n : ℕ) → 0 < n → n < 2 ^ 64 → is_number (decimal n) ≡ true
unfolding is_number
is_number-decimal n positive small =
    let some : 0 < length (decimal n) = decimal_nonempty n small in
    let first : 48 < get_or (decimal n) 0 0 = first_decimal n positive small in
    let has : nat_lt 0 (length (decimal n)) ≡ true = grind (arith, nat_tests) in
    let no_zero : eqb (get_or (decimal n) 0 0) 48 ≡ false = grind (arith, nat_tests) in
    and-true (nat_lt 0 (length (decimal n)) && list_all is_ascii_digit (decimal n)) (eqb (length (decimal n)) 1 || not (eqb (get_or (decimal n) 0 0) 48))
    (and-true (nat_lt 0 (length (decimal n))) (list_all is_ascii_digit (decimal n)) has (decimal_digits n small))
    (or-true (eqb (length (decimal n)) 1) (not (eqb (get_or (decimal n) 0 0) 48)) (ap not no_zero))

module _ (digits text : List ℕ) (all : list_all is_ascii_digit digits ≡ true) where
  colon_at : position_or_len is_colon (digits ++ 58 ∷ text) ≡ length digits
  colon_at = position_or_len-at is_colon digits 58 text (none_is is_ascii_digit 58 refl digits all) refl

  before_colon-digits : before_colon (digits ++ 58 ∷ text) ≡ digits
  before_colon-digits =
      ap (λ n. take n (digits ++ 58 ∷ text)) colon_at ∙ take-before digits (58 ∷ text)

  head_text-digits : head_text (digits ++ 58 ∷ text) ≡ trimmed text
  unfolding head_text
  head_text-digits =
      ap trimmed (ap (λ n. drop (n + 1) (digits ++ 58 ∷ text)) colon_at ∙ drop-past digits 58 text)

  numbered-digits : is_number digits ≡ true → numbered (digits ++ 58 ∷ text) ≡ headed (number_of digits) (trimmed text)
  unfolding numbered
  numbered-digits number =
      let line : List ℕ = digits ++ 58 ∷ text in
      let within : length digits < length (digits ++ 58 ∷ text) = grind (arith, common_steps) in
      let place : position_or_len is_colon (digits ++ 58 ∷ text) < length (digits ++ 58 ∷ text) = subst (λ n. n < length (digits ++ 58 ∷ text)) (sym colon_at) within in
      let found : nat_lt (position_or_len is_colon (digits ++ 58 ∷ text)) (length (digits ++ 58 ∷ text)) ≡ true = grind (arith, nat_tests) in
      let test = and-true _ _ found (ap is_number before_colon-digits ∙ number) in
      ap (λ b. cond b (headed (number_of (before_colon line)) (head_text line)) (Fault 2)) test
      ∙ ap (λ d. headed (number_of d) (head_text line)) before_colon-digits
      ∙ ap (headed (number_of digits)) head_text-digits

headed-known : (session : ℕ) (text : List ℕ) → 1 ≤ session → session ≤ 32 → first_byte text ≢ 64 → headed session text ≡ Head session
unfolding headed
headed-known session text low high other =
    let test : (eqb session 0 || nat_lt 32 session) ≡ false = grind (arith, nat_tests) in
    let command : eqb (first_byte text) 64 ≡ false = grind (arith, nat_tests) in
    ap (λ b. cond b (Fault 3) (cond (eqb (first_byte text) 64) (Fault 4) (Head session))) test
    ∙ ap (λ b. cond b (Fault 4) (Head session)) command

no_blanks : (p : ℕ → Bool) (bytes : List ℕ) → p (slice_index bytes 0) ≡ false → length (take_while p bytes) ≡ 0
no_blanks p [] none = refl
no_blanks p (b ∷ bytes) none = length-prefix_len p (b ∷ bytes) ∙ ap (λ t. cond t (1 + prefix_len p bytes) 0) none

-- text with no blank at its end
without_end-same : (bytes : List ℕ) → is_blank (last_byte bytes) ≡ false → without_end bytes ≡ bytes
without_end-same [] none = refl
without_end-same (b ∷ bytes) none =
    let inside : 0 < length (b ∷ bytes) = grind (arith, common_steps) in
    let first : slice_index (reverse (b ∷ bytes)) 0 ≡ last_byte (b ∷ bytes) = get_or-reverse (b ∷ bytes) 0 0 inside ∙ ap (λ n. get_or (b ∷ bytes) n 0) (omega arith) in
    let count : length (take_while is_blank (reverse (b ∷ bytes))) ≡ 0 = no_blanks is_blank (reverse (b ∷ bytes)) (ap is_blank first ∙ none) in
    take_all (length (b ∷ bytes) - length (take_while is_blank (reverse (b ∷ bytes)))) (b ∷ bytes) (omega arith)

-- text behind a space, with no blank at either end
trimmed-space : (text : List ℕ) → is_blank (first_byte text) ≡ false → is_blank (last_byte text) ≡ false → trimmed (32 ∷ text) ≡ text
unfolding trimmed
trimmed-space text first last =
    let count : length (take_while is_blank (32 ∷ text)) ≡ 1 =
    length-prefix_len is_blank (32 ∷ text) ∙ ap (λ n. 1 + n) (sym (length-prefix_len is_blank text) ∙ no_blanks is_blank text first) in
    ap (λ n. without_end (drop n (32 ∷ text))) count ∙ without_end-same text last

IsUtf8-colon : IsUtf8 (codes ": ")
unfolding encode
IsUtf8-colon = (codes ": ", (refl, refl))

-- the first line of a statement, by its session and the first line of its text
abbrev pub head_line : ℕ → List ℕ → List ℕ
head_line session text = decimal session ++ codes ": " ++ text

head_line-is : (session : ℕ) (text : List ℕ) → head_line session text ≡ decimal session ++ 58 ∷ 32 ∷ text
head_line-is session text = append_assoc (decimal session) (codes ": ") text

module _ (session : ℕ) (text : List ℕ) (low : 1 ≤ session) (high : session ≤ 32) (first : IsFirstLine text) where
  small : session < 2 ^ 64
  small = omega arith

  pub head_text-head_line : head_text (head_line session text) ≡ text
  head_text-head_line =
      ap head_text (head_line-is session text) ∙ head_text-digits (decimal session) (32 ∷ text) (decimal_digits session small)
      ∙ trimmed-space text first.no_blank_before first.no_blank_behind

  form_of-head_line : form_of (head_line session text) ≡ Head session
  form_of-head_line =
      let line : List ℕ = decimal session ++ 58 ∷ 32 ∷ text in
      let digits = decimal_digits session small in
      let some : 0 < length (decimal session) = decimal_nonempty session small in
      let same : first_byte line ≡ first_byte (decimal session) = get_or_append_left (decimal session) (58 ∷ 32 ∷ text) 0 0 some in
      let number : number_of (decimal session) ≡ session = digits_value-decimal decimal_model session small in
      ap form_of (head_line-is session text)
      ∙ form_of-digit line (ap is_ascii_digit same ∙ first_digit (decimal session) some digits)
      ∙ numbered-digits (decimal session) (32 ∷ text) digits (is_number-decimal session (omega arith) small)
      ∙ ap (λ n. headed n (trimmed (32 ∷ text))) number
      ∙ ap (headed session) (trimmed-space text first.no_blank_before first.no_blank_behind)
      ∙ headed-known session text low high first.no_command

  pub kind_of-head_line : IsUtf8 text → kind_of (head_line session text) ≡ Head session
  kind_of-head_line utf8 =
      let ascii : IsUtf8 (decimal session) = IsUtf8-from_ascii (decimal session) (IsAscii-decimal session small) in
      let whole : IsUtf8 (head_line session text) = IsUtf8-append (decimal session ++ codes ": ") text (IsUtf8-append (decimal session) (codes ": ") ascii IsUtf8-colon) utf8 in
      kind_of-utf8 (head_line session text) (head_line session text) (Head session) (refl, whole) form_of-head_line

-- it has no CR at its end where the text has none
pub head_line-no_return : (session : ℕ) (text : List ℕ) → last_byte text ≢ 13 → last_byte (head_line session text) ≢ 13
head_line-no_return session [] other =
    let last : last_byte (head_line session []) ≡ 32 = ap last_byte (head_line-is session []) ∙ last_byte-append (decimal session) 58 (32 ∷ []) in
    omega arith
head_line-no_return session (b ∷ text) other =
    let last = last_byte-append (decimal session ++ codes ": ") b text in
    λ e. other (sym last ∙ e)

-- the line between two phases
IsUtf8-mark : IsUtf8 (codes "#phase")
unfolding encode
IsUtf8-mark = (codes "#phase", (refl, refl))

pub kind_of-mark : kind_of (codes "#phase") ≡ Mark
unfolding form_of directive
kind_of-mark = kind_of-utf8 (codes "#phase") (codes "#phase") Mark (refl, IsUtf8-mark) refl
