-- The values of CHANGETABLE(VERSION ..) are of the kinds of the key's columns.
use Rattle.std.proofs.Common.{◌≡◌, ◌≢◌, ℕ, zero, suc, Bool, true, List, [], ◌∷◌, ◌++◌, map, Option, Some, None, Ok, refl, sym, ap, subst, ◌∙◌, if◌then◌else◌, append_assoc, append-nil}
use Rattle.std.specs.List.{slice_get}
use Rattle.std.specs.Option.{option_map, option_and_then}
use Rattle.std.specs.Cmp.Lexicographic.{pointwise}
use Rattle.std.proofs.lemmas.Option.{cond_some, same_Some, slice_get-map}
use Rattle.ct_types.specs.declared.bound.VersionColumn.{VersionColumn}
use Rattle.ct_types.specs.declared.bound.VersionColumn.TheVariants as shown
use Rattle.ct_types.specs.declared.schema.Column.{Column}
use Rattle.ct_types.specs.declared.schema.Schema.{Schema}
use Rattle.ct_types.specs.declared.tracked.VersionRow.{VersionRow}
use Rattle.ct_types.specs.declared.value.Key.{Key}
use Rattle.ct_types.specs.declared.value.Value.{Value}
use Rattle.ct_types.specs.Answers.{Answer, ◌>>=◌}
use Rattle.ct_bind_kinds.specs.declared.kind.Kind.{Kind}
use Rattle.ct_bind_kinds.specs.declared.kind.Kind.TheVariants.{Number, Bytes, Null}
use Rattle.ct_bind_kinds.specs.Kinds.{kind_of_type, agree, is_value, suits, IsOfKind}
use Rattle.ct_bind_kinds.specs.WellFormed.{column_of, column_kind, key_kinds, version_column_kind, go_together}
use Rattle.ct_expr.specs.Functions.{or_null, counted_or_null, bytes_or_null, version_column}
use Rattle.ct_expr.specs.Meaning.{Meaning, chain, listed, key_of, keyed}
use Rattle.ct_bind_kinds.proofs.Types.{type_kind}
use Rattle.ct_expr_laws.proofs.Fitting.{fits_other, counted_fits, bytes_fit}
use Rattle.ct_types.proofs.AnswersKept.{Kept, ok_kept, then_kept, mapped_kept, twice_kept}
use Rattle.ct_types.proofs.Tests.{both}
use Rattle.ct_expr_laws.proofs.Rules.{Of}

-- values are of the kinds of a key's columns
abbrev pub AreKeyed : List (Option Kind) → List Value → Type 0
AreKeyed [] [] = Unit {0}
AreKeyed (Some kind ∷ kinds) (x ∷ values) = IsOfKind kind x × AreKeyed kinds values
AreKeyed kinds values = ⊥

-- ---- the kinds of a key's columns, none of which is that of NULL

abbrev pub AreColumns : List (Option Kind) → Type 0
AreColumns [] = Unit {0}
AreColumns (kind ∷ kinds) = (kind ≢ Some Null) × AreColumns kinds

of_column : (found : Option Column) → option_map (λ column. kind_of_type column.kind) found ≢ Some Null
of_column None same = cc
of_column (Some column) same = type_kind column.kind (same_Some (kind_of_type column.kind) Null same)

columns_of : (table : Schema) (ids : List ℕ) → AreColumns (map (column_kind table) ids)
columns_of table [] = tt
columns_of table (id ∷ ids) = (of_column (column_of table.columns id), columns_of table ids)

-- ---- the values of a key

-- a list, and behind it values of the kinds of a key
pub record IsBehind (so_far : List Value) (kinds : List (Option Kind)) (made : List Value) : Type 0 where
  pub more : List Value
  pub are : so_far ++ more ≡ made
  pub keyed : AreKeyed kinds more

-- the value for one column of a key
pub record GoesInto (found wanted : Option Kind) : Type 0 where
  pub given : Kind
  pub column : Kind
  pub found_is : found ≡ Some given
  pub wanted_is : wanted ≡ Some column
  pub fits : (x : Value) → IsOfKind given x → IsOfKind column x
  pub value : is_value given ≡ true

goes_into : (found wanted : Option Kind) → wanted ≢ Some Null → go_together found wanted ≡ true → GoesInto found wanted
goes_into None wanted column go = absurd cc
goes_into (Some given) None column go = absurd cc
goes_into (Some given) (Some kind) column go =
    let first = both (is_value given) (suits kind given) go in
    let second = both (is_value kind) (agree kind given) first.1 in
    record { given = given; column = kind; found_is = refl; wanted_is = refl; fits = λ x is. fits_other kind given x (λ same. column (ap Some same)) second.0 second.1 is; value = first.0 }

-- one value more
then_more : (so_far : List Value) (x : Value) (kind wanted : Kind) (kinds : List (Option Kind)) (column : Option Kind) (made : List Value)
    → column ≡ Some wanted → IsOfKind wanted x → IsBehind (so_far ++ x ∷ []) kinds made → IsBehind so_far (column ∷ kinds) made
then_more so_far x kind wanted kinds column made is fits it = record {
  more = x ∷ it.more;
  are = sym (append_assoc so_far (x ∷ []) it.more) ∙ it.are;
  keyed = subst (λ (o : Option Kind). AreKeyed (o ∷ kinds) (x ∷ it.more)) (sym is) (fits, it.keyed);
}

module _ {E X : Type 0} (first : E → X) (kind : X → Option Kind) (meaning : X → Meaning) (of : (e : E) → Of (kind (first e)) (meaning (first e)).value) where
  listed_kept : (kinds : List (Option Kind)) (parts : List E) (so_far : List Value) → AreColumns kinds → pointwise go_together (map kind (map first parts)) kinds ≡ true
      → Kept (IsBehind so_far kinds) (chain listed so_far (map meaning (map first parts)))
  listed_kept [] [] so_far columns go = ok_kept (IsBehind so_far []) so_far (record { more = []; are = append-nil so_far; keyed = tt })
  listed_kept [] (part ∷ parts) so_far columns go = absurd cc
  listed_kept (column ∷ kinds) [] so_far columns go = absurd cc
  listed_kept (column ∷ kinds) (part ∷ parts) so_far columns go =
      let here = both (go_together (kind (first part)) column) (pointwise go_together (map kind (map first parts)) kinds) go in
      let into = goes_into (kind (first part)) column columns.0 here.0 in
      let next = λ (made : List Value). chain listed made (map meaning (map first parts)) in
      let front : (x : Value) → IsOfKind into.given x → Kept (IsBehind so_far (column ∷ kinds)) (next (so_far ++ x ∷ [])) =
      λ x is. mapped_kept (IsBehind (so_far ++ x ∷ []) kinds) (IsBehind so_far (column ∷ kinds)) (next (so_far ++ x ∷ [])) (listed_kept kinds parts (so_far ++ x ∷ []) columns.1 here.1)
      (λ made it. then_more so_far x into.given into.column kinds column made into.wanted_is (into.fits x is) it) in
      twice_kept (IsOfKind into.given) (IsBehind so_far (column ∷ kinds)) (meaning (first part)).value (λ x. so_far ++ x ∷ []) next (of part into.given into.found_is into.value) front

  pub keyed_kept : (table : Schema) (parts : List E) → pointwise go_together (map kind (map first parts)) (key_kinds table) ≡ true
      → Kept (λ key. AreKeyed (key_kinds table) key.0) (keyed (map meaning (map first parts)))
  keyed_kept table parts go =
      then_kept (IsBehind [] (key_kinds table)) (λ key. AreKeyed (key_kinds table) key.0) (chain listed [] (map meaning (map first parts))) _
      (listed_kept (key_kinds table) parts [] (columns_of table table.key) go)
      (λ values it. ok_kept (λ (key : Key). AreKeyed (key_kinds table) key.0) (key_of values) (subst (AreKeyed (key_kinds table)) it.are it.keyed))

-- ---- CHANGETABLE(VERSION ..)

-- the key that comes of it, if one does, is of the kinds of the key of the table that was found for it
abbrev pub OfVersion : Option Schema → Answer (Key × VersionRow) → Type 0
OfVersion found answer = (table : Schema) → found ≡ Some table → Kept (λ it. AreKeyed (key_kinds table) it.0.0) answer

-- the table that a test lets pass
tested : (test : Schema → Bool) (found : Option Schema) (table : Schema) → option_and_then (λ table. if test table then Some table else None) found ≡ Some table → test table ≡ true
tested test None table is = absurd cc
tested test (Some other) table is =
    let it = cond_some (test other) other table is in subst (λ table. test table ≡ true) it.1 it.0

pub version_of : {E X : Type 0} (first : E → X) (kind : X → Option Kind) (meaning : X → Meaning) (of : (e : E) → Of (kind (first e)) (meaning (first e)).value)
    (found : Option Schema) (rows : Key → VersionRow) (parts : List E)
    → OfVersion (option_and_then (λ table. if pointwise go_together (map kind (map first parts)) (key_kinds table) then Some table else None) found)
    (keyed (map meaning (map first parts)) >>= (λ key. Ok (key, rows key)))
version_of first kind meaning of found rows parts table is =
    then_kept (λ key. AreKeyed (key_kinds table) key.0) (λ it. AreKeyed (key_kinds table) it.0.0) (keyed (map meaning (map first parts))) _
    (keyed_kept first kind meaning of table parts (tested (λ table. pointwise go_together (map kind (map first parts)) (key_kinds table)) found table is))
    (λ key are. ok_kept (λ (it : Key × VersionRow). AreKeyed (key_kinds table) it.0.0) (key, rows key) are)

-- ---- the column that a scalar form shows

at_key : (kinds : List (Option Kind)) (values : List Value) (at : ℕ) (kind : Kind) → AreKeyed kinds values → slice_get kinds at ≡ Some (Some kind)
    → IsOfKind kind (or_null (slice_get values at))
at_key [] values at kind keyed is = absurd cc
at_key (None ∷ kinds) [] at kind keyed is = absurd keyed
at_key (None ∷ kinds) (x ∷ values) at kind keyed is = absurd keyed
at_key (Some k ∷ kinds) [] at kind keyed is = absurd keyed
at_key (Some k ∷ kinds) (x ∷ values) zero kind keyed is = let same : k ≡ kind = cc in subst (λ k. IsOfKind k x) same keyed.0
at_key (Some k ∷ kinds) (x ∷ values) (suc at) kind keyed is = at_key kinds values at kind keyed.1 is

as_mapped : (f : ℕ → Option Kind) (o : Option ℕ) (kind : Kind) → option_and_then f o ≡ Some kind → option_map f o ≡ Some (Some kind)
as_mapped f None kind is = absurd cc
as_mapped f (Some id) kind is = ap Some is

shown_fits : (table : Schema) (column : VersionColumn) (kind : Kind) (key : Key) (row : VersionRow) → AreKeyed (key_kinds table) key.0
    → version_column_kind table column ≡ Some kind → IsOfKind kind (version_column column key row)
shown_fits table shown.Version kind key row keyed is =
    let same : Number ≡ kind = cc in subst (λ k. IsOfKind k (counted_or_null row.version)) same (counted_fits row.version)
shown_fits table shown.Context kind key row keyed is =
    let same : Bytes ≡ kind = cc in subst (λ k. IsOfKind k (bytes_or_null row.context)) same (bytes_fit row.context)
shown_fits table (shown.Key at) kind key row keyed is =
    at_key (key_kinds table) key.0 at kind keyed (slice_get-map (column_kind table) table.key at ∙ as_mapped (column_kind table) (slice_get table.key at) kind is)

pub scalar_of : (found : Option Schema) (answer : Answer (Key × VersionRow)) (column : VersionColumn) → OfVersion found answer
    → Of (option_and_then (λ table. version_column_kind table column) found) (answer >>= (λ it. Ok (version_column column it.0 it.1)))
scalar_of None answer column of = λ kind is value. absurd cc
scalar_of (Some table) answer column of = λ kind is value.
    then_kept (λ it. AreKeyed (key_kinds table) it.0.0) (IsOfKind kind) answer _ (of table refl)
    (λ it keyed. ok_kept (IsOfKind kind) (version_column column it.0 it.1) (shown_fits table column kind it.0 it.1 keyed is))
