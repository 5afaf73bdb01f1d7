-- Flags, values, rows and keys.
use Rattle.std.proofs.Common.{◌≡◌, ℕ, ◌^◌, ◌<◌, ℤ, Bool, true, false, cond, eqb, eqb-true, List, [], ◌∷◌, ◌++◌, Option, Some, None, refl, sym, ◌∙◌, ap, subst, arith}
use Rattle.std.specs.Int.{cast_unsigned, cast_signed, w64}
use Rattle.std.specs.List.{flat_map}
use Rattle.std.proofs.lemmas.List.{append-nil}
use Rattle.byteorder.specs.Endian.{little_bytes}
use Rattle.ct_types.specs.ColumnFit.{IsBigInt}
use Rattle.ct_types.specs.declared.value.Value.{Value}
use Rattle.ct_types.specs.declared.value.Value.TheVariants.{Null, Int, Text, Bytes}
use Rattle.ct_codec.specs.Readers.{Reader, pure, choosing, number}
use Rattle.ct_codec.specs.EntryReaders.{flag_of, flag, integer, content, value, row, one, key}
use Rattle.ct_codec.specs.Spellings.{flag_byte, spell_flag, tag_of, spell_content, spell_value, ValueFits, spell_row, RowFits, spell_key, KeyFits, IsOne}
use Rattle.ct_codec.specs.Codes.{IsCode}
use Rattle.ct_codec.proofs.Combined.{steps_of, found_same, some_same, law_then, law_choosing, law_making}
use Rattle.ct_codec.proofs.Families.{IsSoundAt, none_here, either, constant, variant, variant_back, law_family}
use Rattle.ct_codec.proofs.Numbers.{law_number}
use Rattle.ct_codec.proofs.Lists.{law_measured, law_text, law_counted}

-- whatever fits
abbrev pub Any : {A : Type 0} → A → Type 0
Any a = Unit {0}

-- ---- tables of numbers

-- what a table gives has the number by which it was found
pub record IsFoundAt {B : Type 0} (tag : B → ℕ) (k : ℕ) (found : Option B) : Type 0 where
  pub was : (b : B) → found ≡ Some b → tag b ≡ k

pub not_found : {B : Type 0} {tag : B → ℕ} {k : ℕ} → IsFoundAt tag k None
not_found = record { was = λ b e. absurd (cc e) }

pub found_or : {B : Type 0} {tag : B → ℕ} {others : Option B} (k : ℕ) (v : B) → IsFoundAt tag k others → IsFoundAt tag k (cond (eqb k (tag v)) (Some v) others)
found_or {B = B} {tag = tag} {others = others} k v more = by (eqb k (tag v)) refl
  where
    by : (t : Bool) → eqb k (tag v) ≡ t → IsFoundAt tag k (cond t (Some v) others)
    by true is = record { was = λ b e. ap tag (sym (some_same v b e)) ∙ sym (eqb-true k (tag v) is) }
    by false is = more

-- a value of one byte, by a table
pub law_table : {B : Type 0} (table : ℕ → Option B) (tag : B → ℕ) → ((k : ℕ) → IsFoundAt tag k (table k)) → ((b : B) → (table (tag b) ≡ Some b) × (tag b < 256)) → IsCode (choosing table (number 1)) (λ b. little_bytes 1 (tag b)) Any
law_table table tag found all = law_choosing table tag (λ k b small e. ((found k).was b e, tt)) (λ b f. ((all b).0, omega (arith, (all b).1))) (law_number 1)

pub law_flag : IsCode flag spell_flag Any
unfolding flag
law_flag = law_table flag_of flag_byte (λ k. found_or k false (found_or k true not_found)) back
  where
    back : (b : Bool) → (flag_of (flag_byte b) ≡ Some b) × (flag_byte b < 256)
    back true = (refl, omega arith)
    back false = (refl, omega arith)

-- ---- values

to_signed : (z : ℤ) → IsBigInt z → cast_signed w64 (cast_unsigned w64 z) ≡ z
to_signed z f = grind (arith, f)

pub law_integer : IsCode integer (λ z. little_bytes 8 (cast_unsigned w64 z)) IsBigInt
unfolding integer
law_integer = law_making (cast_signed w64) (cast_unsigned w64) forth (λ z f. (to_signed z f, in_word z f)) (law_number 8)
  where
    forth : (n : ℕ) → n < 256 ^ 8 → (cast_unsigned w64 (cast_signed w64 n) ≡ n) × IsBigInt (cast_signed w64 n)
    forth n f = grind (arith, f)

    in_word : (z : ℤ) → IsBigInt z → cast_unsigned w64 z < 256 ^ 8
    in_word z f = grind (arith, f)

content_sound : (k : ℕ) → IsSoundAt spell_content tag_of ValueFits k (content k)
unfolding content
content_sound k =
    either k 0 (constant Null refl tt)
    (either k 1 (variant Int (λ n f. (refl, (refl, f))) law_integer)
    (either k 2 (variant Text (λ t f. (refl, (refl, f))) (law_text 4))
    (either k 3 (variant Bytes (λ b f. (refl, (refl, f))) (law_measured 4)) none_here)))

content_complete : (v : Value) (rest : List ℕ) → ValueFits v → content (tag_of v) (spell_content v ++ rest) ≡ Some (v, rest)
unfolding content
content_complete Null rest f = refl
content_complete (Int n) rest f = variant_back Int law_integer n rest f
content_complete (Text t) rest f = variant_back Text (law_text 4) t rest f
content_complete (Bytes b) rest f = variant_back Bytes (law_measured 4) b rest f

pub law_value : IsCode value spell_value ValueFits
unfolding value
law_value = law_then tag_of (λ v f. small v) (law_number 1) (λ k f. law_family content_sound content_complete k)
  where
    small : (v : Value) → tag_of v < 256 ^ 1
    small Null = omega arith
    small (Int n) = omega arith
    small (Text t) = omega arith
    small (Bytes b) = omega arith

pub law_row : IsCode row spell_row RowFits
unfolding row
law_row = law_making (λ values. record { 0 = values }) (λ row. row.0) (λ values f. (refl, f)) (λ row f. (refl, f)) (law_counted 2 law_value)

-- ---- lists of one

one_or : {A : Type 0} → A → List A → A
one_or other [] = other
one_or other (a ∷ more) = a

pub law_one : {A : Type 0} {reader : Reader A} {s : A → List ℕ} {F : A → Type 0} → IsCode reader s F → IsCode (one reader) (flat_map s) (IsOne F)
law_one {A = A} {reader = reader} {s = s} {F = F} law = record {
  sound = λ bytes rest l e.
      let steps = steps_of (reader bytes) (λ a. pure (a ∷ [])) l rest e in
      let is = law.sound bytes steps.between steps.first steps.is in
      let same = found_same (steps.first ∷ []) l steps.between rest steps.second in
      subst (λ l. (bytes ≡ flat_map s l ++ rest) × IsOne F l) same.0
      (is.0 ∙ (λ i. sym (append-nil (s steps.first)) i ++ same.1 i), is.1);
  complete = complete;
}
  where
    complete : (l : List A) (rest : List ℕ) → IsOne F l → one reader (flat_map s l ++ rest) ≡ Some (l, rest)
    complete [] rest f = absurd f
    complete (a ∷ []) rest f = ap (λ l. one reader (l ++ rest)) (append-nil (s a)) ∙ variant_back (λ a. a ∷ []) law a rest f
    complete (a ∷ b ∷ more) rest f = absurd f

pub law_key : IsCode key spell_key KeyFits
unfolding key
law_key = law_making (λ values. record { 0 = values }) (λ key. key.0) (λ values f. (refl, f)) (λ key f. (refl, f)) (law_one law_value)
