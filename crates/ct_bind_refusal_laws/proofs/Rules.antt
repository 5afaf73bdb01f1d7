-- A refusal for a rule of a table's definition: that rule is broken, and each before it is kept.
use Rattle.std.specs.List.{list_all, position_from}
use Rattle.std.proofs.Common.{◌≡◌, ℕ, Bool, true, false, not, ◌&&◌, List, [], ◌∷◌, Option, Some, None, is_some, Ok, refl, sym, ap, subst}
use Rattle.std.proofs.Math.Bool.{and-false}
use Rattle.ct_types.specs.declared.refusal.Refusal.{Refusal}
use Rattle.ct_types.specs.declared.refusal.Refusal.TheVariants.{BadTable}
use Rattle.ct_types.specs.declared.schema.ColType.{ColType}
use Rattle.ct_types.specs.declared.schema.Column.{Column}
use Rattle.ct_types.specs.declared.stmt.ColumnDef.{ColumnDef}
use Rattle.ct_types.specs.declared.stmt.TypeName.{TypeName}
use Rattle.ct_types.specs.declared.stmt.TypeName.TheVariants as type
use Rattle.ct_types.specs.Answers.{Answer, ◌>>=◌, ◌>>◌, demand, or_refuse, each}
use Rattle.ct_bind_names.specs.Numbers.{within, column_type}
use Rattle.ct_bind_definition.specs.Definitions.{keys_written, is_there, is_repeated, has_clear_nulls, key_names, are_different, is_free_name, id_from, is_in_sys, first_rules, defined_column, key_id, schema_of}
use Rattle.ct_bind_refusal_laws.specs.Causes.{has_length, is_one_column, rules}
use Rattle.ct_bind_refusal_laws.proofs.Passed.{Passed, anyway, next_passed, met_passed}
use Rattle.ct_types.proofs.AnswersCaused.{Caused, ok_caused, err_caused, weaker, then_caused, after_caused, demand_caused, met_caused, or_caused}
use Rattle.ct_types.proofs.AnswersTaken.{steps, there}

-- ---- one rule

-- the rule of this number is broken
abbrev pub Breaks : ℕ → Bool → Refusal → Type 0
Breaks rule test refusal = (refusal ≡ BadTable rule) × (test ≡ false)

-- each rule is the least that is broken where those before it are kept
broken_1 : (a b c d e f : Bool) → a ≡ false → position_from not 1 (a ∷ b ∷ c ∷ d ∷ e ∷ f ∷ []) ≡ Some 1
broken_1 a b c d e f one = rw one

broken_2 : (a b c d e f : Bool) → a ≡ true → b ≡ false → position_from not 1 (a ∷ b ∷ c ∷ d ∷ e ∷ f ∷ []) ≡ Some 2
broken_2 a b c d e f one two = rw (one, two)

broken_3 : (a b c d e f : Bool) → a ≡ true → b ≡ true → c ≡ false → position_from not 1 (a ∷ b ∷ c ∷ d ∷ e ∷ f ∷ []) ≡ Some 3
broken_3 a b c d e f one two three = rw (one, two, three)

broken_4 : (a b c d e f : Bool) → a ≡ true → b ≡ true → c ≡ true → d ≡ false → position_from not 1 (a ∷ b ∷ c ∷ d ∷ e ∷ f ∷ []) ≡ Some 4
broken_4 a b c d e f one two three four = rw (one, two, three, four)

broken_5 : (a b c d e f : Bool) → a ≡ true → b ≡ true → c ≡ true → d ≡ true → e ≡ false → position_from not 1 (a ∷ b ∷ c ∷ d ∷ e ∷ f ∷ []) ≡ Some 5
broken_5 a b c d e f one two three four five = rw (one, two, three, four, five)

broken_6 : (a b c d e f : Bool) → a ≡ true → b ≡ true → c ≡ true → d ≡ true → e ≡ true → f ≡ false → position_from not 1 (a ∷ b ∷ c ∷ d ∷ e ∷ f ∷ []) ≡ Some 6
broken_6 a b c d e f one two three four five six = rw (one, two, three, four, five, six)

-- none is broken where all are kept
kept_all : (a b c d e f : Bool) → a ≡ true → b ≡ true → c ≡ true → d ≡ true → e ≡ true → f ≡ true → position_from not 1 (a ∷ b ∷ c ∷ d ∷ e ∷ f ∷ []) ≡ None
kept_all a b c d e f one two three four five six = rw (one, two, three, four, five, six)

-- ---- the types

pub type_caused : (type : TypeName) → Caused (Breaks 4 (has_length type)) (column_type type)
unfolding column_type
type_caused type.Int = ok_caused _
type_caused type.BigInt = ok_caused _
type_caused (type.NVarChar digits) = then_caused _ _ (or_caused _ (BadTable 4) (λ none. (refl, ap (λ o. is_some o) none))) (λ n. ok_caused _)
type_caused (type.VarBinary digits) = then_caused _ _ (or_caused _ (BadTable 4) (λ none. (refl, ap (λ o. is_some o) none))) (λ n. ok_caused _)

some_length : {A : Type 0} (o : Option ℕ) (refusal : Refusal) (next : ℕ → Answer A) (a : A) → (or_refuse o refusal >>= next) ≡ Ok a → is_some o ≡ true
some_length o refusal next a e = let it = steps (or_refuse o refusal) next a e in ap (λ o. is_some o) (there o refusal it.came it.is)

pub length_kept : (type : TypeName) (made : ColType) → column_type type ≡ Ok made → has_length type ≡ true
unfolding column_type
length_kept type.Int made e = refl
length_kept type.BigInt made e = refl
length_kept (type.NVarChar digits) made e = some_length (within 1 4000 digits) (BadTable 4) _ made e
length_kept (type.VarBinary digits) made e = some_length (within 1 8000 digits) (BadTable 4) _ made e

abbrev have_lengths : List ColumnDef → Bool
have_lengths columns = list_all (λ column. has_length column.kind) columns

types_caused : (key : Option (List (List ℕ))) (columns : List ColumnDef) → Caused (Breaks 4 (have_lengths columns)) (each (defined_column key) columns)
unfolding defined_column
types_caused key [] = ok_caused []
types_caused key (column ∷ more) =
    then_caused _ _ (then_caused _ _ (weaker (column_type column.kind) (λ refusal b. (b.0, rw b.1)) (type_caused column.kind)) (λ kind. ok_caused _))
    (λ made. then_caused _ _ (weaker (each (defined_column key) more) (λ refusal b. (b.0, rw b.1 (and-false (has_length column.kind)))) (types_caused key more)) (λ _. ok_caused _))

lengths_kept : (key : Option (List (List ℕ))) (columns : List ColumnDef) (made : List Column) → each (defined_column key) columns ≡ Ok made → have_lengths columns ≡ true
unfolding defined_column
lengths_kept key [] made e = refl
lengths_kept key (column ∷ more) made e =
    let first = steps (defined_column key column) (λ b. each (defined_column key) more >>= (λ all. Ok (b ∷ all))) made e in
    let kind = steps (column_type column.kind) _ first.came first.is in
    let rest = steps (each (defined_column key) more) (λ all. Ok (first.came ∷ all)) made first.goes in
    rw (length_kept column.kind kind.came kind.is, lengths_kept key more rest.came rest.is)

-- ---- the key

key_caused : (columns : List ColumnDef) (names : List (List ℕ)) → Caused (Breaks 5 (is_one_column columns names)) (key_id columns names)
unfolding key_id
key_caused columns [] = err_caused (BadTable 5) (refl, refl)
key_caused columns (name ∷ []) = or_caused _ (BadTable 5) (λ none. (refl, ap (λ o. is_some o) none))
key_caused columns (name ∷ other ∷ more) = err_caused (BadTable 5) (refl, refl)

key_kept : (columns : List ColumnDef) (names : List (List ℕ)) (own : ℕ) → key_id columns names ≡ Ok own → is_one_column columns names ≡ true
unfolding key_id
key_kept columns [] own e = absurd cc
key_kept columns (name ∷ []) own e = ap (λ o. is_some o) (there (id_from name 1 columns) (BadTable 5) own e)
key_kept columns (name ∷ other ∷ more) own e = absurd cc

-- ---- all rules

-- the least rule that is broken
abbrev pub BreaksFirst : List Bool → Refusal → Type 0
BreaksFirst tests (BadTable rule) = position_from not 1 tests ≡ Some rule
BreaksFirst tests _ = ⊥

told : (tests : List Bool) (rule : ℕ) (test : Bool) (refusal : Refusal) → Breaks rule test refusal → (test ≡ false → position_from not 1 tests ≡ Some rule) → BreaksFirst tests refusal
told tests rule test refusal breaks first = subst (λ it. BreaksFirst tests it) (sym breaks.0) (first breaks.1)

-- what the first three rules come to where none is broken
first_met : (one two three : Bool) → (demand one (BadTable 1) >> (demand two (BadTable 2) >> demand three (BadTable 3))) ≡ Ok tt → (one ≡ true) × (two ≡ true) × (three ≡ true)
first_met true true true e = (refl, refl, refl)
first_met true true false e = absurd cc
first_met true false three e = absurd cc
first_met false two three e = absurd cc

module _ (name : List ℕ) (columns : List ColumnDef) (key : Option (List (List ℕ))) where
  abbrev has_key : Bool
  has_key = is_there (keys_written columns key)

  abbrev has_nulls : Bool
  has_nulls = not (is_repeated (keys_written columns key)) && list_all (has_clear_nulls key) columns

  abbrev has_names : Bool
  has_names = are_different columns && list_all is_free_name (key_names columns key)

  abbrev has_types : Bool
  has_types = have_lengths columns

  abbrev has_one : Bool
  has_one = is_one_column columns (key_names columns key)

  abbrev has_schema : Bool
  has_schema = not (is_in_sys name)

  abbrev tests : List Bool
  tests = rules name columns key

  first_caused : Caused (BreaksFirst tests) (first_rules columns key (key_names columns key))
  unfolding first_rules
  first_caused =
      met_caused has_key (BadTable 1) _ (broken_1 has_key has_nulls has_names has_types has_one has_schema)
      (λ one. met_caused has_nulls (BadTable 2) _ (broken_2 has_key has_nulls has_names has_types has_one has_schema one)
      (λ two. demand_caused has_names (BadTable 3) (broken_3 has_key has_nulls has_names has_types has_one has_schema one two)))

  abbrev AreKept : Type 0
  AreKept = (has_key ≡ true) × (has_nulls ≡ true) × (has_names ≡ true)

  first_kept : first_rules columns key (key_names columns key) ≡ Ok tt → AreKept
  unfolding first_rules
  first_kept e = first_met has_key has_nulls has_names e

  types_told : AreKept → Caused (BreaksFirst tests) (each (defined_column key) columns)
  types_told kept =
      weaker (each (defined_column key) columns) (λ refusal breaks. told tests 4 has_types refusal breaks (broken_4 has_key has_nulls has_names has_types has_one has_schema kept.0 kept.1 kept.2)) (types_caused key columns)

  key_told : AreKept → has_types ≡ true → Caused (BreaksFirst tests) (key_id columns (key_names columns key))
  key_told kept four =
      weaker (key_id columns (key_names columns key)) (λ refusal breaks. told tests 5 has_one refusal breaks (broken_5 has_key has_nulls has_names has_types has_one has_schema kept.0 kept.1 kept.2 four))
      (key_caused columns (key_names columns key))

  pub schema_caused : (id : ℕ) → Caused (BreaksFirst tests) (schema_of id name columns key)
  unfolding schema_of
  schema_caused id =
      after_caused (first_rules columns key (key_names columns key)) _ first_caused
      (λ _ first. let kept : AreKept = first_kept first in
      after_caused (each (defined_column key) columns) _ (types_told kept)
      (λ made typed. let four : has_types ≡ true = lengths_kept key columns made typed in
      after_caused (key_id columns (key_names columns key)) _ (key_told kept four)
      (λ own is. let five : has_one ≡ true = key_kept columns (key_names columns key) own is in
      met_caused has_schema (BadTable 6) _ (broken_6 has_key has_nulls has_names has_types has_one has_schema kept.0 kept.1 kept.2 four five) (λ _. ok_caused _))))

  -- where the table is made, no rule is broken
  pub schema_kept : (id : ℕ) → Passed (position_from not 1 tests ≡ None) (schema_of id name columns key)
  unfolding schema_of
  schema_kept id =
      next_passed (first_rules columns key (key_names columns key)) _
      (λ _ first. let kept : AreKept = first_kept first in
      next_passed (each (defined_column key) columns) _
      (λ made typed. next_passed (key_id columns (key_names columns key)) _
      (λ own is. met_passed has_schema (BadTable 6) _
      (λ six. anyway _ (kept_all has_key has_nulls has_names has_types has_one has_schema kept.0 kept.1 kept.2 (lengths_kept key columns made typed) (key_kept columns (key_names columns key) own is) six)))))
