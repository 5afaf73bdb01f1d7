-- Where a part of a well-formed expression leaves 64 bits, the expression is refused: by induction over how it has the part.
use Rattle.std.proofs.Common.{◌≡◌, ◌⊎◌, ℕ, zero, suc, ◌<◌, ◌^◌, ℤ, pos, negsuc, ◌+ℤ◌, ◌-ℤ◌, ◌*ℤ◌, Bool, true, false, ◌&&◌, nat_lt, if◌then◌else◌, List, [], ◌∷◌, ◌++◌, map, Option, Some, None, Ok, Err, inl, inr, refl, sym, ap, ◌∙◌, subst, arith}
use Rattle.std.specs.List.{Contains, list_all, slice_get}
use Rattle.std.specs.Cmp.Lexicographic.{pointwise}
use Rattle.std.specs.Option.{option_and_then, option_map}
use Rattle.std.proofs.lemmas.Bool.Decides.{nat_tests}
use Rattle.std.proofs.lemmas.Int.{ints}
use Rattle.ct_types.specs.ColumnFit.{IsBigInt}
use Rattle.ct_types.specs.declared.bound.BoundExpr.{BoundExpr, roll-BoundExpr, map-BoundExpr}
use Rattle.ct_types.specs.declared.bound.BoundExpr.TheOpen as e
use Rattle.ct_types.specs.declared.bound.BoundExpr.TheFolds.{fold-BoundScalar, fold-BoundTerm, fold-roll-BoundExpr, fold_out-BoundRowVersion, fold_out-BoundScalar, fold_out-BoundTerm}
use Rattle.ct_types.specs.declared.bound.BoundRowVersion.{BoundRowVersion}
use Rattle.ct_types.specs.declared.bound.BoundScalar.{BoundScalar}
use Rattle.ct_types.specs.declared.bound.BoundTerm.{BoundTerm}
use Rattle.ct_types.specs.declared.bound.VersionColumn.{VersionColumn}
use Rattle.ct_types.specs.declared.bound.VersionColumn.TheVariants as shown
use Rattle.ct_types.specs.declared.refusal.Refusal.{Refusal}
use Rattle.ct_types.specs.declared.refusal.Refusal.TheVariants.{Overflow}
use Rattle.ct_types.specs.declared.schema.ColType.{ColType}
use Rattle.ct_types.specs.declared.schema.ColType.TheVariants as type
use Rattle.ct_types.specs.declared.schema.Column.{Column}
use Rattle.ct_types.specs.declared.schema.Schema.{Schema}
use Rattle.ct_types.specs.declared.tracked.VersionRow.{VersionRow}
use Rattle.ct_types.specs.declared.value.Key.{Key}
use Rattle.ct_types.specs.declared.value.Value.{Value}
use Rattle.ct_types.specs.declared.value.Value.TheVariants.{Int}
use Rattle.ct_types.specs.Answers.{Answer, ◌>>=◌}
use Rattle.ct_types.proofs.Tests.{both}
use Rattle.ct_bind_kinds.specs.declared.kind.Kind.{Kind}
use Rattle.ct_bind_kinds.specs.declared.kind.Kind.TheVariants.{Number, Text, Bytes, Condition, Null}
use Rattle.ct_bind_kinds.specs.Kinds.{kind_of_type, is_value, suits, agree}
use Rattle.ct_bind_kinds.specs.WellFormed.{Scope, kind_of, table_of, table_of_version, column_of, column_kind, key_kinds, version_column_kind, expr_kind, row_version_table, scalar_kind, term_kind, is_of, is_any_value, is_condition, go_together, when, either_of}
use Rattle.ct_expr.specs.Meaning.{Scene, Meaning, Operand, chain, multiplied, added, conjoined, disjoined, listed, one, meaning_rule, row_version_rule, scalar_rule, operand_rule, meaning, row_version, scalar, operand, value, truth}
use Rattle.ct_expr.specs.Numbers.{fits_64, number, plus, minus}
use Rattle.ct_refusal_laws.specs.Laws.{ComesToOverflow, OverflowsAreRefused}
use Rattle.ct_refusal_laws.specs.Parts.{Form, IsOperand, HasPart, itself, inside}
use Rattle.ct_refusal_laws.specs.Overflows.{ProductLeaves, SumLeaves, Leaves}
use Rattle.ct_refusal_laws.proofs.Evaluation.{values_refuse_overflow, truths_refuse_overflow}

-- ---- answers that are no values

-- an answer is refused
abbrev pub Refused : {A : Type 0} → Answer A → Type 0
Refused {A} answer = (a : A) → ¬ (answer ≡ Ok a)

err_refused : {A : Type 0} (refusal : Refusal) → Refused {A = A} (Err refusal)
err_refused refusal a e = absurd cc

first_refused : {A B : Type 0} (first : Answer A) (next : A → Answer B) → Refused first → Refused (first >>= next)
first_refused (Ok a) next refused b e = refused a refl
first_refused (Err refusal) next refused b e = absurd cc

next_refused : {A B : Type 0} (first : Answer A) (next : A → Answer B) → ((a : A) → Refused (next a)) → Refused (first >>= next)
next_refused (Ok a) next refused b e = refused a b e
next_refused (Err refusal) next refused b e = absurd cc

-- a step that is known
known_refused : {A B : Type 0} (first : Answer A) (a : A) (next : A → Answer B) → first ≡ Ok a → Refused (next a) → Refused (first >>= next)
known_refused first a next is refused = subst (λ x. Refused (x >>= next)) (sym is) refused

below : (a b : ℕ) → nat_lt a b ≡ true → a < b
below a b e = grind (arith, nat_tests)

stays : (n : ℤ) → fits_64 n ≡ true → IsBigInt n
stays (pos n) e = let small : n < 2 ^ 63 = below n (2 ^ 63) e in (omega (arith, ints, small), omega (arith, ints, small))
stays (negsuc n) e = let small : n < 2 ^ 63 = below n (2 ^ 63) e in (omega (arith, ints, small), omega (arith, ints, small))

number_refused : (n : ℤ) → ¬ IsBigInt n → Refused (number n)
number_refused n leaves =
    let step : (b : Bool) → fits_64 n ≡ b → Refused (if b then Ok (Int n) else Err Overflow) =
    elim [ true ↦ (λ e. absurd (leaves (stays n e))) | false ↦ (λ e. err_refused Overflow) ] in
    step (fits_64 n) refl

-- ---- members

in_cases : {X : Type 0} (x : X) (xs : List X) (y : X) → Contains (x ∷ xs) y → (x ≡ y) ⊎ Contains xs y
in_cases x xs y (zero, below, is) = inl is
in_cases x xs y (suc k, below, is) = inr (k, omega arith, is)

chain_refused : {A X Y : Type 0} (step : A → X → Answer A) (f : Y → X) (ys : List Y) (y : Y) (so_far : A) → Contains ys y → ((a : A) → Refused (step a (f y))) → Refused (chain step so_far (map f ys))
chain_refused step f [] y so_far is refused = absurd (omega (arith, is.1))
chain_refused step f (x ∷ ys) y so_far is refused =
    elim (in_cases x ys y is) [
      | inl same ↦ first_refused (step so_far (f x)) (λ made. chain step made (map f ys)) (subst (λ z. Refused (step so_far (f z))) (sym same) (refused so_far))
      | inr later ↦ next_refused (step so_far (f x)) (λ made. chain step made (map f ys)) (λ made. chain_refused step f ys y made later refused)
    ]

chain_from : {A X Y : Type 0} (step : A → X → Answer A) (f : Y → X) (xs : List Y) (y : Y) (more : List Y) (a b : A) → chain step a (map f xs) ≡ Ok b → Refused (step b (f y)) → Refused (chain step a (map f (xs ++ y ∷ more)))
chain_from step f [] y more a b e refused =
    let same : b ≡ a = cc in first_refused (step a (f y)) (λ made. chain step made (map f more)) (subst (λ c. Refused (step c (f y))) same refused)
chain_from step f (x ∷ xs) y more a b e refused =
    go (step a (f x)) (λ c came. chain_from step f xs y more c b came refused) e
  where
    go : (first : Answer _) → ((c : _) → chain step c (map f xs) ≡ Ok b → Refused (chain step c (map f (xs ++ y ∷ more)))) → (first >>= (λ made. chain step made (map f xs))) ≡ Ok b
        → Refused (first >>= (λ made. chain step made (map f (xs ++ y ∷ more))))
    go (Ok c) next came = next c came
    go (Err refusal) next came = absurd cc

all_of_member : {X : Type 0} (test : Option Kind → Bool) (f : X → Option Kind) (xs : List X) (x : X) → Contains xs x → list_all test (map f xs) ≡ true → test (f x) ≡ true
all_of_member test f [] x is all = absurd (omega (arith, is.1))
all_of_member test f (z ∷ xs) x is all =
    let parts = both (test (f z)) (list_all test (map f xs)) all in
    elim (in_cases z xs x is) [ inl same ↦ subst (λ y. test (f y) ≡ true) same parts.0 | inr later ↦ all_of_member test f xs x later parts.1 ]

three_tests : (a b c : Bool) → (a && b && c) ≡ true → (a ≡ true) × (b ≡ true) × (c ≡ true)
three_tests true true true e = (refl, refl, refl)
three_tests true true false e = absurd cc
three_tests true false c e = absurd cc
three_tests false b c e = absurd cc

-- ---- kinds

when_parts : (test : Bool) (found : Option Kind) (kind : Kind) → when test found ≡ Some kind → (test ≡ true) × (found ≡ Some kind)
when_parts true found kind e = (refl, e)
when_parts false found kind e = absurd cc

value_of_is : (wanted : Kind) (o : Option Kind) → is_of wanted o ≡ true → is_any_value o ≡ true
value_of_is wanted None e = e
value_of_is wanted (Some kind) e = (both (is_value kind) (agree kind wanted) e).0

values_of_two : (a b : Option Kind) → go_together a b ≡ true → (is_any_value a ≡ true) × (is_any_value b ≡ true)
values_of_two None b e = absurd cc
values_of_two (Some a) None e = absurd cc
values_of_two (Some a) (Some b) e = let parts = both (is_value a) (suits b a) e in (parts.0, (both (is_value b) (agree b a) parts.1).0)

value_either : (a b : Option Kind) (kind : Kind) → is_any_value a ≡ true → is_any_value b ≡ true → either_of a b ≡ Some kind → is_value kind ≡ true
value_either None b kind first second e = absurd cc
value_either (Some Null) b kind first second e = subst (λ o. is_any_value o ≡ true) e second
value_either (Some Number) b kind first second e = subst (λ o. is_any_value o ≡ true) e first
value_either (Some Text) b kind first second e = subst (λ o. is_any_value o ≡ true) e first
value_either (Some Bytes) b kind first second e = subst (λ o. is_any_value o ≡ true) e first
value_either (Some Condition) b kind first second e = absurd cc

-- by the kind of an expression, its value or its truth is refused
abbrev Fails : Kind → Meaning → Type 0
Fails Condition m = Refused m.truth
Fails Number m = Refused m.value
Fails Text m = Refused m.value
Fails Bytes m = Refused m.value
Fails Null m = Refused m.value

fails_value : (kind : Kind) (m : Meaning) → is_value kind ≡ true → Refused m.value → Fails kind m
fails_value Number m is refused = refused
fails_value Text m is refused = refused
fails_value Bytes m is refused = refused
fails_value Null m is refused = refused
fails_value Condition m is refused = absurd cc

value_fails : (kind : Kind) (m : Meaning) → is_value kind ≡ true → Fails kind m → Refused m.value
value_fails Number m is fails = fails
value_fails Text m is fails = fails
value_fails Bytes m is fails = fails
value_fails Null m is fails = fails
value_fails Condition m is fails = absurd cc

fails_number : (test : Bool) (kind : Kind) (m : Meaning) → when test (Some Number) ≡ Some kind → Refused m.value → Fails kind m
fails_number test kind m is refused = let same : Number ≡ kind = (let parts = when_parts test (Some Number) kind is in let e : Some Number ≡ Some kind = parts.1 in cc) in subst (λ k. Fails k m) same refused

fails_condition : (test : Bool) (kind : Kind) (m : Meaning) → when test (Some Condition) ≡ Some kind → Refused m.truth → Fails kind m
fails_condition test kind m is refused = let same : Condition ≡ kind = (let parts = when_parts test (Some Condition) kind is in let e : Some Condition ≡ Some kind = parts.1 in cc) in subst (λ k. Fails k m) same refused

-- a column of CHANGETABLE(VERSION ..) is a value
type_is : (type : ColType) → is_value (kind_of_type type) ≡ true
type_is type.Int = refl
type_is type.BigInt = refl
type_is (type.NVarChar most) = refl
type_is (type.VarBinary most) = refl

column_is : (o : Option Column) (kind : Kind) → option_map (λ column. kind_of_type column.kind) o ≡ Some kind → is_value kind ≡ true
column_is None kind e = absurd cc
column_is (Some column) kind e = let same : kind_of_type column.kind ≡ kind = cc in subst (λ k. is_value k ≡ true) same (type_is column.kind)

key_is : (table : Schema) (o : Option ℕ) (kind : Kind) → option_and_then (λ id. column_kind table id) o ≡ Some kind → is_value kind ≡ true
key_is table None kind e = absurd cc
key_is table (Some id) kind e = column_is (column_of table.columns id) kind e

shown_is : (table : Schema) (column : VersionColumn) (kind : Kind) → version_column_kind table column ≡ Some kind → is_value kind ≡ true
shown_is table shown.Version kind e = let same : Number ≡ kind = cc in subst (λ k. is_value k ≡ true) same refl
shown_is table shown.Context kind e = let same : Bytes ≡ kind = cc in subst (λ k. is_value k ≡ true) same refl
shown_is table (shown.Key at) kind e = key_is table (slice_get table.key at) kind e

scalar_is : (found : Option Schema) (column : VersionColumn) (kind : Kind) → option_and_then (λ table. version_column_kind table column) found ≡ Some kind → is_value kind ≡ true
scalar_is None column kind e = absurd cc
scalar_is (Some table) column kind e = shown_is table column kind e

pairwise_value : {X : Type 0} (f : X → Option Kind) (xs : List X) (kinds : List (Option Kind)) (x : X) → Contains xs x → pointwise go_together (map f xs) kinds ≡ true → is_any_value (f x) ≡ true
pairwise_value f [] kinds x is all = absurd (omega (arith, is.1))
pairwise_value f (z ∷ xs) [] x is all = absurd cc
pairwise_value f (z ∷ xs) (kind ∷ kinds) x is all =
    let parts = both (go_together (f z) kind) (pointwise go_together (map f xs) kinds) all in
    elim (in_cases z xs x is) [
      | inl same ↦ subst (λ y. is_any_value (f y) ≡ true) same (values_of_two (f z) kind parts.0).0
      | inr later ↦ pairwise_value f xs kinds x later parts.1
    ]

tested_some : (test : Schema → Bool) (column : VersionColumn) (o : Option Schema) (kind : Kind)
    → option_and_then (λ table. version_column_kind table column) (option_and_then (λ table. if test table then Some table else None) o) ≡ Some kind → (table : Schema) × (test table ≡ true)
tested_some test column None kind e = absurd cc
tested_some test column (Some table) kind e =
    let step : (b : Bool) → test table ≡ b → option_and_then (λ table. version_column_kind table column) (if b then Some table else None) ≡ Some kind → (t : Schema) × (test t ≡ true) =
    elim [ true ↦ (λ is e. (table, is)) | false ↦ (λ is e. absurd cc) ] in
    step (test table) refl e

module _ (scope : Scope) (s : Scene) where
  -- an expression of this kind fails
  abbrev FailsHere : BoundExpr → Type 0
  FailsHere y = (kind : Kind) → kind_of scope y ≡ Some kind → Fails kind (meaning s y)

  kinded_value : (y : BoundExpr) (o : Option Kind) → kind_of scope y ≡ o → is_any_value o ≡ true → FailsHere y → Refused (value s y)
  kinded_value y None is any fails = absurd cc
  kinded_value y (Some kind) is any fails = value_fails kind (meaning s y) any (fails kind is)

  any_value : (y : BoundExpr) → is_any_value (kind_of scope y) ≡ true → FailsHere y → Refused (value s y)
  any_value y any fails = kinded_value y (kind_of scope y) refl any fails

  of_value : (wanted : Kind) (y : BoundExpr) → is_of wanted (kind_of scope y) ≡ true → FailsHere y → Refused (value s y)
  of_value wanted y is fails = any_value y (value_of_is wanted (kind_of scope y) is) fails

  kinded_truth : (y : BoundExpr) (o : Option Kind) → kind_of scope y ≡ o → is_condition o ≡ true → FailsHere y → Refused (truth s y)
  kinded_truth y None is condition fails = absurd cc
  kinded_truth y (Some Condition) is condition fails = fails Condition is
  kinded_truth y (Some Number) is condition fails = absurd cc
  kinded_truth y (Some Text) is condition fails = absurd cc
  kinded_truth y (Some Bytes) is condition fails = absurd cc
  kinded_truth y (Some Null) is condition fails = absurd cc

  of_truth : (y : BoundExpr) → is_condition (kind_of scope y) ≡ true → FailsHere y → Refused (truth s y)
  of_truth y is fails = kinded_truth y (kind_of scope y) refl is fails

  abbrev scalar_of_kind : BoundScalar → Option Kind
  scalar_of_kind = fold-BoundScalar (Option Kind) (Option Schema) (Option Kind) (Option Kind) (expr_kind scope) (row_version_table scope) scalar_kind term_kind

  abbrev term_of_kind : BoundTerm → Option Kind
  term_of_kind = fold-BoundTerm (Option Kind) (Option Schema) (Option Kind) (Option Kind) (expr_kind scope) (row_version_table scope) scalar_kind term_kind

  abbrev kind_at : Form → Option Kind
  kind_at x = expr_kind scope (map-BoundExpr BoundExpr BoundRowVersion BoundScalar BoundTerm (Option Kind) (Option Schema) (Option Kind) (Option Kind) (kind_of scope) (table_of_version scope) scalar_of_kind term_of_kind x)

  abbrev meaning_at : Form → Meaning
  meaning_at x = meaning_rule s (map-BoundExpr BoundExpr BoundRowVersion BoundScalar BoundTerm Meaning (Answer (Key × VersionRow)) (Answer Value) Operand (meaning s) (row_version s) (scalar s) (operand s) x)

  opened : (t : BoundTerm) → operand s t ≡ record { subtracts = t.subtracts; meaning = meaning s t.value }
  opened t = fold_out-BoundTerm Meaning (Answer (Key × VersionRow)) (Answer Value) Operand (meaning_rule s) (row_version_rule s) scalar_rule operand_rule t

  opened_kind : (t : BoundTerm) → term_of_kind t ≡ kind_of scope t.value
  opened_kind t = fold_out-BoundTerm (Option Kind) (Option Schema) (Option Kind) (Option Kind) (expr_kind scope) (row_version_table scope) scalar_kind term_kind t

  -- ---- CHANGETABLE(VERSION ..)

  version_refused : (v : BoundRowVersion) (y : BoundExpr) → Contains v.values y → Refused (value s y) → Refused (row_version s v)
  version_refused v y is refused =
      subst (λ r. Refused r) (sym (fold_out-BoundRowVersion Meaning (Answer (Key × VersionRow)) (Answer Value) Operand (meaning_rule s) (row_version_rule s) scalar_rule operand_rule v))
      (first_refused _ _ (first_refused _ _ (chain_refused listed (meaning s) v.values y [] is (λ so_far. first_refused _ _ refused))))

  scalar_refused : (sc : BoundScalar) (y : BoundExpr) → Contains sc.version.values y → Refused (value s y) → Refused (scalar s sc)
  scalar_refused sc y is refused =
      subst (λ r. Refused r) (sym (fold_out-BoundScalar Meaning (Answer (Key × VersionRow)) (Answer Value) Operand (meaning_rule s) (row_version_rule s) scalar_rule operand_rule sc))
      (first_refused _ _ (version_refused sc.version y is refused))

  scalar_kind_is : (sc : BoundScalar) → scalar_of_kind sc ≡ option_and_then (λ table. version_column_kind table sc.column) (table_of_version scope sc.version)
  scalar_kind_is sc = fold_out-BoundScalar (Option Kind) (Option Schema) (Option Kind) (Option Kind) (expr_kind scope) (row_version_table scope) scalar_kind term_kind sc

  version_kind_is : (v : BoundRowVersion) → table_of_version scope v ≡ option_and_then (λ table. if pointwise go_together (map (kind_of scope) v.values) (key_kinds table) then Some table else None) (table_of scope.tables v.table)
  version_kind_is v = fold_out-BoundRowVersion (Option Kind) (Option Schema) (Option Kind) (Option Kind) (expr_kind scope) (row_version_table scope) scalar_kind term_kind v

  scalar_fails : (sc : BoundScalar) (kind : Kind) (y : BoundExpr) → scalar_of_kind sc ≡ Some kind → Contains sc.version.values y → FailsHere y → Fails kind (meaning_at (e.Scalar sc))
  scalar_fails sc kind y is_kind is fails =
      let shows : option_and_then (λ table. version_column_kind table sc.column) (table_of_version scope sc.version) ≡ Some kind = sym (scalar_kind_is sc) ∙ is_kind in
      let tested : option_and_then (λ table. version_column_kind table sc.column) (option_and_then (λ table. if pointwise go_together (map (kind_of scope) sc.version.values) (key_kinds table) then Some table else None) (table_of scope.tables sc.version.table)) ≡ Some kind =
      ap (λ (o : Option Schema). option_and_then (λ table. version_column_kind table sc.column) o) (sym (version_kind_is sc.version)) ∙ shows in
      let table = tested_some (λ table. pointwise go_together (map (kind_of scope) sc.version.values) (key_kinds table)) sc.column (table_of scope.tables sc.version.table) kind tested in
      let refused : Refused (value s y) = any_value y (pairwise_value (kind_of scope) sc.version.values (key_kinds table.0) y is table.1) fails in
      fails_value kind (meaning_at (e.Scalar sc)) (scalar_is (table_of_version scope sc.version) sc.column kind shows) (scalar_refused sc y is refused)

  -- ---- sums

  terms_number : (terms : List BoundTerm) (t : BoundTerm) → Contains terms t → list_all (is_of Number) (map term_of_kind terms) ≡ true → is_of Number (kind_of scope t.value) ≡ true
  terms_number terms t is all = subst (λ o. is_of Number o ≡ true) (opened_kind t) (all_of_member (is_of Number) term_of_kind terms t is all)

  term_refused : (t : BoundTerm) (so_far : Value) → Refused (value s t.value) → Refused (added so_far (operand s t))
  term_refused t so_far refused = subst (λ (o : Operand). Refused (added so_far o)) (sym (opened t)) (first_refused (value s t.value) _ refused)

  added_refused : (subtracts : Bool) (m n : ℤ) → ¬ IsBigInt (if subtracts then m -ℤ n else m +ℤ n) → Refused (if subtracts then minus (Int m) (Int n) else plus (Int m) (Int n))
  added_refused true m n leaves = number_refused (m -ℤ n) leaves
  added_refused false m n leaves = number_refused (m +ℤ n) leaves

  sum_leaves : (first : BoundExpr) (terms : List BoundTerm) → SumLeaves s first terms → Refused (meaning_at (e.Sum first terms)).value
  sum_leaves first terms it =
      known_refused (value s first) it.begun (λ x. chain added x (map (operand s) terms)) it.begins
      (subst (λ (ts : List BoundTerm). Refused (chain added it.begun (map (operand s) ts))) (sym it.are)
      (chain_from added (operand s) it.before it.term it.after it.begun (Int it.made) it.made_is
      (subst (λ (o : Operand). Refused (added (Int it.made) o)) (sym (opened it.term))
      (known_refused (value s it.term.value) (Int it.number) _ it.comes (added_refused it.term.subtracts it.made it.number it.leaves)))))

  product_leaves : (factors : List BoundExpr) → ProductLeaves s factors → Refused (meaning_at (e.Product factors)).value
  product_leaves factors it =
      subst (λ (fs : List BoundExpr). Refused (chain multiplied one (map (meaning s) fs))) (sym it.are)
      (chain_from multiplied (meaning s) it.before it.factor it.after one (Int it.made) it.made_is
      (known_refused (value s it.factor) (Int it.number) _ it.comes (number_refused (it.made *ℤ it.number) it.leaves)))

  -- ---- a form that leaves 64 bits

  own_fails : (x : Form) (kind : Kind) → kind_at x ≡ Some kind → Leaves s x → Fails kind (meaning_at x)
  own_fails (e.Negative a) kind is leaves = fails_number _ kind (meaning_at (e.Negative a)) is (known_refused (value s a) (Int leaves.number) _ leaves.comes (number_refused (pos 0 -ℤ leaves.number) leaves.leaves))
  own_fails (e.Product factors) kind is leaves = fails_number _ kind (meaning_at (e.Product factors)) is (product_leaves factors leaves)
  own_fails (e.Sum first terms) kind is leaves = fails_number _ kind (meaning_at (e.Sum first terms)) is (sum_leaves first terms leaves)
  own_fails _ kind is leaves = absurd leaves

  -- ---- a form of which an operand fails

  operand_fails : (x : Form) (kind : Kind) (y : BoundExpr) → kind_at x ≡ Some kind → IsOperand x y → FailsHere y → Fails kind (meaning_at x)
  operand_fails (e.MinValidVersion a) kind y is op fails =
      let parts = when_parts (is_of Number (kind_of scope a)) (Some Number) kind is in
      fails_number _ kind (meaning_at (e.MinValidVersion a)) is (first_refused (value s a) _ (of_value Number a parts.0 (subst FailsHere op fails)))
  operand_fails (e.IsColumnInMask a b) kind y is op fails =
      let parts = when_parts (is_of Number (kind_of scope a) && is_of Bytes (kind_of scope b)) (Some Number) kind is in
      let tests = both (is_of Number (kind_of scope a)) (is_of Bytes (kind_of scope b)) parts.0 in
      fails_number _ kind (meaning_at (e.IsColumnInMask a b)) is (elim op [
        | inl first ↦ first_refused (value s a) _ (of_value Number a tests.0 (subst FailsHere first fails))
        | inr second ↦ next_refused (value s a) _ (λ x. first_refused (value s b) _ (of_value Bytes b tests.1 (subst FailsHere second fails)))
      ])
  operand_fails (e.ObjectId a) kind y is op fails =
      let parts = when_parts (is_of Text (kind_of scope a)) (Some Number) kind is in
      fails_number _ kind (meaning_at (e.ObjectId a)) is (first_refused (value s a) _ (of_value Text a parts.0 (subst FailsHere op fails)))
  operand_fails (e.ColumnProperty a b c) kind y is op fails =
      let parts = when_parts (is_of Number (kind_of scope a) && is_of Text (kind_of scope b) && is_of Text (kind_of scope c)) (Some Number) kind is in
      let tests = three_tests (is_of Number (kind_of scope a)) (is_of Text (kind_of scope b)) (is_of Text (kind_of scope c)) parts.0 in
      fails_number _ kind (meaning_at (e.ColumnProperty a b c)) is (elim op [
        | inl first ↦ first_refused (value s a) _ (of_value Number a tests.0 (subst FailsHere first fails))
        | inr (inl second) ↦ next_refused (value s a) _ (λ x. first_refused (value s b) _ (of_value Text b tests.1 (subst FailsHere second fails)))
        | inr (inr third) ↦ next_refused (value s a) _ (λ x. next_refused (value s b) _ (λ z. first_refused (value s c) _ (of_value Text c tests.2 (subst FailsHere third fails))))
      ])
  operand_fails (e.IfNull a b) kind y is op fails =
      let parts = when_parts (go_together (kind_of scope a) (kind_of scope b)) (either_of (kind_of scope a) (kind_of scope b)) kind is in
      let tests = values_of_two (kind_of scope a) (kind_of scope b) parts.0 in
      fails_value kind (meaning_at (e.IfNull a b)) (value_either (kind_of scope a) (kind_of scope b) kind tests.0 tests.1 parts.1) (elim op [
        | inl first ↦ first_refused (value s a) _ (any_value a tests.0 (subst FailsHere first fails))
        | inr second ↦ next_refused (value s a) _ (λ x. first_refused (value s b) _ (any_value b tests.1 (subst FailsHere second fails)))
      ])
  operand_fails (e.Scalar sc) kind y is op fails = scalar_fails sc kind y is op fails
  operand_fails (e.Negative a) kind y is op fails =
      let parts = when_parts (is_of Number (kind_of scope a)) (Some Number) kind is in
      fails_number _ kind (meaning_at (e.Negative a)) is (first_refused (value s a) _ (of_value Number a parts.0 (subst FailsHere op fails)))
  operand_fails (e.Product factors) kind y is op fails =
      let parts = when_parts (list_all (is_of Number) (map (kind_of scope) factors)) (Some Number) kind is in
      fails_number _ kind (meaning_at (e.Product factors)) is
      (chain_refused multiplied (meaning s) factors y one op (λ so_far. first_refused (value s y) _ (of_value Number y (all_of_member (is_of Number) (kind_of scope) factors y op parts.0) fails)))
  operand_fails (e.Sum first terms) kind y is op fails =
      let parts = when_parts (is_of Number (kind_of scope first) && list_all (is_of Number) (map term_of_kind terms)) (Some Number) kind is in
      let tests = both (is_of Number (kind_of scope first)) (list_all (is_of Number) (map term_of_kind terms)) parts.0 in
      fails_number _ kind (meaning_at (e.Sum first terms)) is (elim op [
        | inl here ↦ first_refused (value s first) _ (of_value Number first tests.0 (subst FailsHere here fails))
        | inr term ↦
            next_refused (value s first) _ (λ x. chain_refused added (operand s) terms term.0 x term.1
            (λ so_far. term_refused term.0 so_far (of_value Number term.0.value (terms_number terms term.0 term.1 tests.1) (subst FailsHere term.2 fails))))
      ])
  operand_fails (e.Compare operator a b) kind y is op fails =
      let parts = when_parts (go_together (kind_of scope a) (kind_of scope b)) (Some Condition) kind is in
      let tests = values_of_two (kind_of scope a) (kind_of scope b) parts.0 in
      fails_condition _ kind (meaning_at (e.Compare operator a b)) is (elim op [
        | inl first ↦ first_refused (value s a) _ (any_value a tests.0 (subst FailsHere first fails))
        | inr second ↦ next_refused (value s a) _ (λ x. first_refused (value s b) _ (any_value b tests.1 (subst FailsHere second fails)))
      ])
  operand_fails (e.IsNull a) kind y is op fails =
      let parts = when_parts (is_any_value (kind_of scope a)) (Some Condition) kind is in
      fails_condition _ kind (meaning_at (e.IsNull a)) is (first_refused (value s a) _ (any_value a parts.0 (subst FailsHere op fails)))
  operand_fails (e.IsNotNull a) kind y is op fails =
      let parts = when_parts (is_any_value (kind_of scope a)) (Some Condition) kind is in
      fails_condition _ kind (meaning_at (e.IsNotNull a)) is (first_refused (value s a) _ (any_value a parts.0 (subst FailsHere op fails)))
  operand_fails (e.Not a) kind y is op fails =
      let parts = when_parts (is_condition (kind_of scope a)) (Some Condition) kind is in
      fails_condition _ kind (meaning_at (e.Not a)) is (first_refused (truth s a) _ (of_truth a parts.0 (subst FailsHere op fails)))
  operand_fails (e.And operands) kind y is op fails =
      let parts = when_parts (list_all is_condition (map (kind_of scope) operands)) (Some Condition) kind is in
      fails_condition _ kind (meaning_at (e.And operands)) is
      (chain_refused conjoined (meaning s) operands y (Some true) op (λ so_far. first_refused (truth s y) _ (of_truth y (all_of_member is_condition (kind_of scope) operands y op parts.0) fails)))
  operand_fails (e.Or operands) kind y is op fails =
      let parts = when_parts (list_all is_condition (map (kind_of scope) operands)) (Some Condition) kind is in
      fails_condition _ kind (meaning_at (e.Or operands)) is
      (chain_refused disjoined (meaning s) operands y (Some false) op (λ so_far. first_refused (truth s y) _ (of_truth y (all_of_member is_condition (kind_of scope) operands y op parts.0) fails)))
  operand_fails _ kind y is op fails = absurd op

  -- ---- the whole

  fails_rolled : (x : Form) (kind : Kind) → Fails kind (meaning_at x) → Fails kind (meaning s (roll-BoundExpr x))
  fails_rolled x kind fails =
      subst (λ (m : Meaning). Fails kind m) (sym (fold-roll-BoundExpr Meaning (Answer (Key × VersionRow)) (Answer Value) Operand (meaning_rule s) (row_version_rule s) scalar_rule operand_rule x)) fails

  kind_rolled : (x : Form) (kind : Kind) → kind_of scope (roll-BoundExpr x) ≡ Some kind → kind_at x ≡ Some kind
  kind_rolled x kind is = sym (fold-roll-BoundExpr (Option Kind) (Option Schema) (Option Kind) (Option Kind) (expr_kind scope) (row_version_table scope) scalar_kind term_kind x) ∙ is

  whole_fails : {x part : BoundExpr} → HasPart x part → (form : Form) → part ≡ roll-BoundExpr form → Leaves s form → FailsHere x
  whole_fails itself form e leaves kind is =
      subst (λ z. Fails kind (meaning s z)) (sym e) (fails_rolled form kind (own_fails form kind (kind_rolled form kind (ap (kind_of scope) (sym e) ∙ is)) leaves))
  whole_fails (inside {y = y} outer op has) form e leaves kind is = fails_rolled outer kind (operand_fails outer kind y (kind_rolled outer kind is) op (whole_fails has form e leaves))

overflow_of : {A : Type 0} (answer : Answer A) → Refused answer → ((refusal : Refusal) → answer ≡ Err refusal → refusal ≡ Overflow) → answer ≡ Err Overflow
overflow_of (Ok a) refused only = absurd (refused a refl)
overflow_of (Err refusal) refused only = ap (λ r. Err r) (only refusal refl)

told : (s : Scene) (x : BoundExpr) (kind : Kind) → Fails kind (meaning s x) → ComesToOverflow kind s x
told s x Condition fails = overflow_of (truth s x) fails (λ refusal e. (truths_refuse_overflow s x refusal e).0)
told s x Number fails = overflow_of (value s x) fails (λ refusal e. (values_refuse_overflow s x refusal e).0)
told s x Text fails = overflow_of (value s x) fails (λ refusal e. (values_refuse_overflow s x refusal e).0)
told s x Bytes fails = overflow_of (value s x) fails (λ refusal e. (values_refuse_overflow s x refusal e).0)
told s x Null fails = overflow_of (value s x) fails (λ refusal e. (values_refuse_overflow s x refusal e).0)

pub overflows_are_refused : OverflowsAreRefused
overflows_are_refused scope s x kind is overflows = told s x kind (whole_fails scope s overflows.1 overflows.2.0 overflows.2.1 overflows.2.2 kind is)
