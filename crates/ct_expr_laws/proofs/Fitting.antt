-- Of which kinds the values of functions, sums and lists are.
use Rattle.std.proofs.Common.{◌≡◌, ◌≢◌, ℕ, zero, suc, ◌^◌, ℤ, pos, ◌-ℤ◌, Bool, true, false, List, [], ◌∷◌, Option, Some, None, Ok, Err, refl, subst, if◌then◌else◌, nat_lt}
use Rattle.std.specs.List.{slice_get}
use Rattle.std.specs.Option.{option_map, option_and_then}
use Rattle.std.specs.Prelude.{codes}
use Rattle.ct_types.specs.declared.catalogue.Catalogued.{Catalogued}
use Rattle.ct_types.specs.declared.refusal.Refusal.TheVariants.{Overflow}
use Rattle.ct_types.specs.declared.value.Value.{Value}
use Rattle.ct_types.specs.declared.value.Value.TheVariants as v
use Rattle.ct_mask.specs.Masks.{reads}
use Rattle.ct_bind_kinds.specs.declared.kind.Kind.{Kind}
use Rattle.ct_bind_kinds.specs.declared.kind.Kind.TheVariants.{Number, Text, Bytes, Condition, Null}
use Rattle.ct_bind_kinds.specs.Kinds.{agree, is_value, IsOfKind, AreOfKinds}
use Rattle.ct_bind_kinds.specs.WellFormed.{either_of}
use Rattle.ct_expr.specs.Numbers.{fits_64, on_numbers, negative}
use Rattle.ct_bind_names.specs.Names.{same}
use Rattle.ct_expr.specs.Functions.{or_null, counted_or_null, bytes_or_null, if_null, object_id, table_of, column_id, column_property, minimum_of, min_valid_version, is_column_in_mask, one_or_zero}
use Rattle.ct_expr.specs.Tables.{table_named}
use Rattle.ct_types.proofs.AnswersKept.{Kept, ok_kept, err_kept}

-- ---- NULL

pub null_fits : (kind : Kind) → is_value kind ≡ true → IsOfKind kind v.Null
null_fits Number value = tt
null_fits Text value = tt
null_fits Bytes value = tt
null_fits Condition value = absurd cc
null_fits Null value = tt

pub null_only : (x : Value) → IsOfKind Null x → v.Null ≡ x
null_only v.Null fits = refl
null_only (v.Int n) fits = absurd fits
null_only (v.Text t) fits = absurd fits
null_only (v.Bytes b) fits = absurd fits

-- ---- kinds that agree

-- a value of another kind that agrees is of this one too, unless this is the kind of NULL
pub fits_other : (kind other : Kind) (x : Value) → kind ≢ Null → is_value kind ≡ true → agree kind other ≡ true → IsOfKind other x → IsOfKind kind x
fits_other Null other x unlike value agrees fits = absurd (unlike refl)
fits_other Number Number x unlike value agrees fits = fits
fits_other Text Text x unlike value agrees fits = fits
fits_other Bytes Bytes x unlike value agrees fits = fits
fits_other Condition other x unlike value agrees fits = absurd cc
fits_other kind Null x unlike value agrees fits = subst (IsOfKind kind) (null_only x fits) (null_fits kind value)
fits_other kind other x unlike value agrees fits = absurd cc

pub agree_sym : (a b : Kind) → agree a b ≡ agree b a
agree_sym Null Null = refl
agree_sym Null b = refl
agree_sym a Null = refl
agree_sym Number Number = refl
agree_sym Text Text = refl
agree_sym Bytes Bytes = refl
agree_sym Condition Condition = refl
agree_sym a b = refl

-- ---- ISNULL

first_or : (a b : Kind) (x y : Value) → a ≢ Null → is_value a ≡ true → agree a b ≡ true → IsOfKind a x → IsOfKind b y → IsOfKind a (if_null x y)
first_or a b v.Null y unlike value agrees fx fy = fits_other a b y unlike value agrees fy
first_or a b (v.Int n) y unlike value agrees fx fy = fx
first_or a b (v.Text t) y unlike value agrees fx fy = fx
first_or a b (v.Bytes bytes) y unlike value agrees fx fy = fx

pub if_null_fits : (a b kind : Kind) (x y : Value) → is_value a ≡ true → agree a b ≡ true → either_of (Some a) (Some b) ≡ Some kind → IsOfKind a x → IsOfKind b y
    → IsOfKind kind (if_null x y)
if_null_fits Null b kind x y value agrees either fx fy =
    let is : b ≡ kind = cc in subst (λ k. IsOfKind k (if_null x y)) is (subst (λ z. IsOfKind b (if_null z y)) (null_only x fx) fy)
if_null_fits a b kind x y value agrees either fx fy =
    let is : a ≡ kind = cc in subst (λ k. IsOfKind k (if_null x y)) is (first_or a b x y (λ same. cc) value agrees fx fy)

-- ---- functions

number_or_null : (test : Bool) (n : ℤ) → IsOfKind Number (if test then v.Int n else v.Null)
number_or_null true n = tt
number_or_null false n = tt

pub counted_fits : (o : Option ℕ) → IsOfKind Number (counted_or_null o)
counted_fits None = tt
counted_fits (Some n) = number_or_null (nat_lt n (2 ^ 63)) (pos n)

pub bytes_fit : (o : Option (List ℕ)) → IsOfKind Bytes (bytes_or_null o)
bytes_fit None = tt
bytes_fit (Some bytes) = tt

one_or_zero_fits : (test : Bool) → IsOfKind Number (one_or_zero test)
one_or_zero_fits true = tt
one_or_zero_fits false = tt

pub object_id_fits : (tables : List Catalogued) (x : Value) → IsOfKind Number (object_id tables x)
object_id_fits tables v.Null = tt
object_id_fits tables (v.Int n) = tt
object_id_fits tables (v.Text name) = counted_fits (option_map (λ table. table.schema.id) (table_named tables name))
object_id_fits tables (v.Bytes b) = tt

pub min_valid_version_fits : (tables : List Catalogued) (x : Value) → IsOfKind Number (min_valid_version tables x)
min_valid_version_fits tables v.Null = tt
min_valid_version_fits tables (v.Int id) = counted_fits (option_and_then minimum_of (table_of tables id))
min_valid_version_fits tables (v.Text t) = tt
min_valid_version_fits tables (v.Bytes b) = tt

pub in_mask_fits : (x y : Value) → IsOfKind Number (is_column_in_mask x y)
in_mask_fits (v.Int id) v.Null = one_or_zero_fits (reads None id)
in_mask_fits (v.Int id) (v.Bytes mask) = one_or_zero_fits (reads (Some mask) id)
in_mask_fits x y = tt

counted_if : (test : Bool) (o : Option ℕ) → IsOfKind Number (if test then counted_or_null o else v.Null)
counted_if true o = counted_fits o
counted_if false o = tt

pub property_fits : (tables : List Catalogued) (x y z : Value) → IsOfKind Number (column_property tables x y z)
property_fits tables (v.Int table) (v.Text column) (v.Text property) =
    counted_if (same property (codes "ColumnId")) (option_and_then (column_id column) (table_of tables table))
property_fits tables x y z = tt

-- ---- numbers

if_it_fits : (test : Bool) (n : ℤ) → Kept (IsOfKind Number) (if test then Ok (v.Int n) else Err Overflow)
if_it_fits true n = ok_kept (IsOfKind Number) (v.Int n) tt
if_it_fits false n = err_kept (IsOfKind Number) Overflow

pub on_numbers_kept : (f : ℤ → ℤ → ℤ) (a b : Value) → Kept (IsOfKind Number) (on_numbers f a b)
on_numbers_kept f (v.Int a) (v.Int b) = if_it_fits (fits_64 (f a b)) (f a b)
on_numbers_kept f a b = ok_kept (IsOfKind Number) v.Null tt

pub negative_kept : (a : Value) → Kept (IsOfKind Number) (negative a)
negative_kept (v.Int a) = if_it_fits (fits_64 (pos 0 -ℤ a)) (pos 0 -ℤ a)
negative_kept a = ok_kept (IsOfKind Number) v.Null tt

-- ---- the value at a place

pub at_place : (kinds : List Kind) (values : List Value) (at : ℕ) (kind : Kind) → AreOfKinds kinds values → slice_get kinds at ≡ Some kind
    → IsOfKind kind (or_null (slice_get values at))
at_place [] values at kind fit is = absurd cc
at_place (k ∷ kinds) [] at kind fit is = absurd fit
at_place (k ∷ kinds) (x ∷ values) zero kind fit is = let same : k ≡ kind = cc in subst (λ k. IsOfKind k x) same fit.0
at_place (k ∷ kinds) (x ∷ values) (suc at) kind fit is = at_place kinds values at kind fit.1 is
