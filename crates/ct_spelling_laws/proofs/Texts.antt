-- How many bytes a text takes by its code points, and that names are texts.
use Rattle.std.proofs.Common.{◌≡◌, ℕ, zero, suc, ◌+◌, ◌*◌, ◌/◌, ◌%◌, ◌≤◌, ◌<◌, Bool, true, false, cond, ◌||◌, nat_lt, nat_le, ltb, List, [], ◌∷◌, ◌++◌, length, codes, inl, inr, refl, sym, ap, ◌∙◌, subst, arith, length-append}
use Rattle.std.specs.List.{AllByRecursion}
use Rattle.std.specs.Str.{IsUtf8, IsAscii}
use Rattle.std.proofs.Math.Utf8.{encode, encodes}
use Rattle.std.proofs.lemmas.Bool.{or_right}
use Rattle.std.proofs.lemmas.Bool.Decides.{nat_tests}
use Rattle.std.proofs.lemmas.List.Sums.{sum_by-cons, sum_by-append}
use Rattle.std.proofs.lemmas.Str.{IsUtf8-from_ascii}
use Rattle.ct_types.specs.ColumnFit.{starts_code_point, code_points}
use Rattle.ct_types.proofs.Lists.{all_append}
use Rattle.ct_model.specs.Names.{IsNameByte, IsName, IsTableName}
use Rattle.ct_model.proofs.Members.{all_weaken}

-- ---- code points

-- bytes are at most four for each code point
abbrev AreFew : List ℕ → Type 0
AreFew bytes = length bytes ≤ 4 * code_points bytes

counted_one : (byte : ℕ) (bytes : List ℕ) → starts_code_point byte ≡ true → 1 ≤ code_points (byte ∷ bytes)
counted_one byte bytes starts =
    let first : ℕ = 1 in
    let one : cond (starts_code_point byte) first 0 ≡ first = ap (λ b. cond b first 0) starts in
    omega (arith, one, sum_by-cons (λ b. cond (starts_code_point b) 1 0) byte bytes)

few_of_first : (byte : ℕ) (bytes : List ℕ) → starts_code_point byte ≡ true → length bytes ≤ 3 → AreFew (byte ∷ bytes)
few_of_first byte bytes starts short = omega (arith, short, counted_one byte bytes starts)

low_starts : (byte : ℕ) → byte < 128 → starts_code_point byte ≡ true
low_starts byte low = let is : nat_lt byte 128 ≡ true = grind (arith, nat_tests, low) in ap (λ b. b || nat_le 192 byte) is

high_starts : (byte : ℕ) → 192 ≤ byte → starts_code_point byte ≡ true
high_starts byte high = or_right (nat_lt byte 128) (nat_le 192 byte) (grind (arith, nat_tests, high))

chosen : (b : Bool) (xs ys : List ℕ) → (b ≡ true → AreFew xs) → AreFew ys → AreFew (cond b xs ys)
chosen true xs ys first second = first refl
chosen false xs ys first second = second

one_few : (c : ℕ) → AreFew (encode c)
unfolding encode
one_few c =
    chosen (ltb c 128) _ _ (λ e. few_of_first c [] (low_starts c (grind (arith, nat_tests, e))) (omega arith))
    (chosen (ltb c 2048) _ _ (λ e. few_of_first (192 + c / 64) ((128 + c % 64) ∷ []) (high_starts (192 + c / 64) (omega arith)) (omega arith))
    (chosen (ltb c 65536) _ _ (λ e. few_of_first (224 + c / 4096) ((128 + c / 64 % 64) ∷ (128 + c % 64) ∷ []) (high_starts (224 + c / 4096) (omega arith)) (omega arith))
    (few_of_first (240 + c / 262144) ((128 + c / 4096 % 64) ∷ (128 + c / 64 % 64) ∷ (128 + c % 64) ∷ []) (high_starts (240 + c / 262144) (omega arith)) (omega arith))))

all_few : (cs : List ℕ) → AreFew (encodes cs)
all_few [] = omega arith
all_few (c ∷ cs) =
    omega (arith, one_few c, all_few cs, length-append (encode c) (encodes cs), sum_by-append (λ b. cond (starts_code_point b) 1 0) (encode c) (encodes cs))

pub text_few : (text : List ℕ) → IsUtf8 text → length text ≤ 4 * code_points text
text_few text utf8 = subst AreFew utf8.1.1 (all_few utf8.0)

-- ---- names

below_ascii : (bytes : List ℕ) → AllByRecursion (λ byte. byte < 128) bytes → IsAscii bytes
below_ascii [] all i = omega arith
below_ascii (byte ∷ bytes) all zero = all.0
below_ascii (byte ∷ bytes) all (suc i) = below_ascii bytes all.1 i

name_below : (name : List ℕ) → IsName name → AllByRecursion (λ byte. byte < 128) name
name_below name is = all_weaken IsNameByte _ (λ byte b. omega (arith, b.1)) name is.2

pub name_utf8 : (name : List ℕ) → IsName name → IsUtf8 name
name_utf8 name is = IsUtf8-from_ascii name (below_ascii name (name_below name is))

-- the name of a table is at most two names and a full stop
pub table_name : (name : List ℕ) → IsTableName name → IsUtf8 name × (length name ≤ 257)
table_name name (inl is) = (name_utf8 name is, omega (arith, is.1))
table_name name (inr two) =
    let first : List ℕ = two.0 in
    let second : List ℕ = two.1 in
    let dotted : List ℕ = first ++ codes "." in
    let whole : AllByRecursion (λ byte. byte < 128) (dotted ++ second) =
    all_append (λ byte. byte < 128) dotted second (all_append (λ byte. byte < 128) first (codes ".") (name_below first two.3) (omega arith, tt)) (name_below second two.4) in
    let long : length name ≡ length dotted + length second = ap length two.2 ∙ length-append dotted second in (
      IsUtf8-from_ascii name (below_ascii name (subst (AllByRecursion (λ byte. byte < 128)) (sym two.2) whole)),
      omega (arith, long, length-append first (codes "."), two.3.1, two.4.1),
    )
