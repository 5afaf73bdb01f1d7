-- The words of names, bare and in brackets, stand for names.
use Rattle.std.proofs.Common.{◌≡◌, ℕ, ◌-◌, ◌<◌, ◌≤◌, Bool, true, false, not, ◌&&◌, ◌||◌, List, [], ◌∷◌, ◌++◌, length, refl, ⊎_elim, arith, length-append}
use Rattle.std.specs.Prelude.{nat_le, ◌==◌}
use Rattle.std.specs.Int.{is_in_range}
use Rattle.std.specs.List.{AllByRecursion}
use Rattle.std.proofs.lemmas.Bool.{both_ways, and_parts, or_cases, not-true, leb-true, eqb-true, eqb-false}
use Rattle.std.proofs.lemmas.List.{take_at}
use Rattle.std.proofs.lemmas.List.Elements.{All-weaker, recursion_from_All}
use Rattle.ct_model.specs.Names.{IsNameByte, IsName}
use Rattle.ct_lexer.specs.declared.byte.ByteClass.{ByteClass}
use Rattle.ct_lexer.specs.declared.byte.ByteClass.TheVariants as byte
use Rattle.ct_lexer.specs.Bytes.{belongs, AllOf}
use Rattle.ct_lexer.specs.Tokens.{IsBareName, IsBracketed}
use Rattle.ct_grammar.specs.Words.{inner}

-- ---- bytes

either : {P : Type 0} (x y : Bool) → (x ≡ true → P) → (y ≡ true → P) → (x || y) ≡ true → P
either x y f g h = ⊎_elim f g (or_cases x y h)

in_range : (low high b : ℕ) → is_in_range low high b ≡ true → (low ≤ b) × (b ≤ high)
in_range low high b h =
    let tests = and_parts (nat_le low b) (nat_le b high) h in
    (leb-true low b tests.0, leb-true b high tests.1)

-- what stands in a range below `]`, or above it
below : (low high b : ℕ) → 32 ≤ low → high < 93 → is_in_range low high b ≡ true → IsNameByte b
below low high b from to h = let it = in_range low high b h in (omega arith, omega arith, λ e. omega arith)

above : (low high b : ℕ) → 93 < low → high ≤ 126 → is_in_range low high b ≡ true → IsNameByte b
above low high b from to h = let it = in_range low high b h in (omega arith, omega arith, λ e. omega arith)

underscore : (b : ℕ) → (b == 95) ≡ true → IsNameByte b
underscore b h = let e : b ≡ 95 = eqb-true b 95 h in (omega arith, omega arith, λ f. omega arith)

bare_byte : (b : ℕ) → belongs byte.Name b ≡ true → IsNameByte b
bare_byte b =
    either _ _ (either _ _ (either _ _ (below 48 57 b (omega arith) (omega arith)) (below 65 90 b (omega arith) (omega arith))) (above 97 122 b (omega arith) (omega arith))) (underscore b)

bracketed_byte : (b : ℕ) → belongs byte.Bracketed b ≡ true → IsNameByte b
bracketed_byte b h =
    let tests = and_parts (nat_le 32 b && nat_le b 126) (not (b == 93)) h in
    let range = in_range 32 126 b tests.0 in
    (range.0, range.1, eqb-false b 93 (not-true (b == 93) tests.1))

-- ---- words

name_bytes : (class : ByteClass) (word : List ℕ) → ((b : ℕ) → belongs class b ≡ true → IsNameByte b) → AllOf class word → AllByRecursion IsNameByte word
name_bytes class word each all = recursion_from_All IsNameByte word (All-weaker (λ b. belongs class b ≡ true) IsNameByte each word all)

pub bare_name : (word more : List ℕ) → IsBareName word more → IsName word
bare_name [] more t = absurd (both_ways false refl t.first)
bare_name (b ∷ word) more t = (omega arith, t.short, name_bytes byte.Name (b ∷ word) bare_byte t.bytes)

inner_is : (inside : List ℕ) → inner (91 ∷ (inside ++ 93 ∷ [])) ≡ inside
inner_is inside =
    let size : length (91 ∷ (inside ++ 93 ∷ [])) - 1 - 1 ≡ length inside = simp length-append (omega arith) in
    rw size (take_at inside (93 ∷ []) (length inside) refl)

-- what stands between the brackets
pub bracketed_name : (word more : List ℕ) → IsBracketed word more → IsName (inner word)
bracketed_name word more t =
    rw (t.spelled, inner_is t.inside) (t.some, t.short, name_bytes byte.Bracketed t.inside bracketed_byte t.bytes)
