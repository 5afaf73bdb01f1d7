-- What the parts of a chain, a sum and a tuple give, by what is given of what they walk.
use Rattle.std.proofs.Common.{◌≡◌, ◌≢◌, ◌==◌, ℕ, Bool, true, false, List, [], ◌∷◌, map, length, get_or, take, drop, arith, ◌-◌, ◌<◌, ◌≤◌, Ok, Err, refl, sym, ap, ◌∙◌, subst}
use Rattle.std.proofs.lemmas.List.{length-map, take_rest}
use Rattle.ct_types.specs.declared.bound.BoundExpr.{BoundExpr}
use Rattle.ct_types.specs.declared.bound.BoundTerm.{BoundTerm}
use Rattle.ct_types.specs.declared.bound.BoundExpr.TheVariants as bound
use Rattle.ct_types.specs.declared.bound.BoundRowVersion.{BoundRowVersion}
use Rattle.ct_types.specs.declared.bound.BoundScalar.{roll-BoundScalar}
use Rattle.ct_types.specs.declared.bound.VersionColumn.{VersionColumn}
use Rattle.ct_types.specs.declared.expr.Scalar.{Scalar}
use Rattle.ct_types.specs.declared.expr.Term.{Term}
use Rattle.ct_types.specs.declared.schema.Column.{Column}
use Rattle.ct_types.specs.declared.schema.Schema.{Schema}
use Rattle.ct_types.specs.declared.refusal.Refusal.{Refusal}
use Rattle.ct_types.specs.declared.refusal.Refusal.TheVariants.{Memory, CountClash, NoColumn}
use Rattle.ct_bind_kinds.specs.declared.kind.Kind.{Kind}
use Rattle.ct_bind_kinds.specs.declared.kind.Kind.TheVariants.{Number}
use Rattle.ct_types.specs.Answers.{Answer, ◌>>=◌, ◌>>◌, demand, each, onto, Gives}
use Rattle.ct_bind_names.specs.Names.{same}
use Rattle.ct_bind_expr.specs.declared.place.Typed.{Typed}
use Rattle.ct_bind_expr.specs.declared.place.Place.{Place}
use Rattle.ct_bind_expr.specs.Places.{typed, of_kind}
use Rattle.ct_bind_expr.specs.Versions.{Walk, operand, values, tuple, key_columns, listed_kinds, version_in, version_of, version_column}
use Rattle.ct_bind_expr.specs.Walk.{TermWalk, two, both_of_kind, chain, term, further_term, sum, scalar_column}
use Rattle.ct_bind_expr.specs.Walked.{walked, both, made_of, extended, asked, asked_term, two_asked, begun, begun_sum, alone_in_sum, as_many, shown_column, scalar_of}
use Rattle.ct_bind_expr.proofs.Gives.{gives_same, gives_exact, gives_two, gives_made, gives_both, both_stop}
use Rattle.ct_bind_expr.proofs.Parts.{chain_only, chain_two, sum_only, sum_two, further}
use Rattle.ct_bind_expr.proofs.Turns.{gives_more, gives_more_made}

-- ---- the parts of a list

pub no_items : {X : Type 0} (all : List X) → length all < 1 → all ≡ []
no_items [] few = refl
no_items (x ∷ more) few = absurd (omega arith)

pub one_item : {X : Type 0} (all : List X) (x : X) → 1 ≤ length all → length all < 2 → x ≡ get_or all 0 x → all ≡ x ∷ []
one_item [] x many few is = absurd (omega arith)
one_item (a ∷ []) x many few is = ap (λ z. z ∷ []) (sym is)
one_item (a ∷ b ∷ more) x many few is = absurd (omega arith)

pub first_item : {X : Type 0} (all : List X) (x : X) → 1 ≤ length all → x ≡ get_or all 0 x → all ≡ x ∷ drop 1 all
first_item [] x many is = absurd (omega arith)
first_item (a ∷ more) x many is = ap (λ z. z ∷ more) (sym is)

pub first_items : {X : Type 0} (all : List X) (x y : X) → 2 ≤ length all → x ≡ get_or all 0 x → y ≡ get_or all 1 y → all ≡ x ∷ y ∷ drop 2 all
first_items [] x y many is is_second = absurd (omega arith)
first_items (a ∷ []) x y many is is_second = absurd (omega arith)
first_items (a ∷ b ∷ more) x y many is is_second = ap (λ z. z ∷ b ∷ more) (sym is) ∙ ap (λ z. x ∷ z ∷ more) (sym is_second)

pub first_kind : {X : Type 0} (d : X) (all : List X) → 1 ≤ length all → all ≡ get_or all 0 d ∷ take (length all - 1) (drop 1 all)
first_kind d [] many = absurd (omega arith)
first_kind d (a ∷ more) many = ap (λ z. a ∷ z) (sym (take_rest (a ∷ more) 1))

-- ---- one more operand

pub asked_more : (wanted : Kind) (place : Place) (walk : Walk) (given : Answer Typed) (made : List BoundExpr) (result : Answer (List BoundExpr))
    → Gives (walk place) given → Gives (extended made (asked wanted given)) result → Gives (extended made (operand wanted place walk)) result
unfolding operand
asked_more wanted place walk given made result came whole = gives_more (walk place) given (of_kind wanted) made result came whole

pub term_more : (place : Place) (f : Term → Walk) (g : Term → TermWalk) (opens : (t : Term) → g t ≡ (t.subtracts, f t)) (t : Term) (given : Answer Typed) (made : List BoundTerm) (result : Answer (List BoundTerm))
    → Gives (f t place) given → Gives (extended made (asked_term t.subtracts given)) result → Gives (extended made (further_term place (g t))) result
term_more place f g opens t given made result came whole =
    gives_same _ (extended made (asked_term t.subtracts (f t place))) result (ap (λ w. extended made (further_term place w)) (opens t) ∙ ap (extended made) (further place t.subtracts (f t)))
    (gives_more_made (term t.subtracts) (of_kind Number) made (f t place) given result came whole)

-- ---- chains

pub none_chained : {X : Type 0} (wanted : Kind) (place : Place) (f : X → Walk) (all : List X) → all ≡ [] → chain wanted place (map f all) ≡ Ok []
unfolding chain
none_chained wanted place f all is = ap (λ xs. chain wanted place (map f xs)) is

pub one_chained : {X : Type 0} (wanted : Kind) (place : Place) (f : X → Walk) (all : List X) (only : X) (given : Answer Typed) (made : List BoundExpr) (result : Answer (List BoundExpr))
    → all ≡ only ∷ [] → made ≡ [] → Gives (f only place) given → Gives (extended made (asked wanted given)) result → Gives (chain wanted place (map f all)) result
one_chained wanted place f all only given made result is none came whole =
    gives_same _ (extended [] (asked wanted (f only place))) result (ap (λ xs. chain wanted place (map f xs)) is ∙ chain_only wanted place (f only))
    (gives_more (f only place) given (of_kind wanted) [] result came (subst (λ made. Gives (extended made (asked wanted given)) result) none whole))

pub chained : {X : Type 0} (wanted : Kind) (place : Place) (f : X → Walk) (all : List X) (left right : X) (more : List X) (given given_second : Answer Typed) (made : List BoundExpr) (result : Answer (List BoundExpr))
    → all ≡ left ∷ right ∷ more → Gives (f left place) given → Gives (f right place) given_second → made_of begun (two_asked wanted given given_second) ≡ Ok made
    → Gives (onto made (each (operand wanted place) (map f more))) result → Gives (chain wanted place (map f all)) result
chained wanted place f all left right more given given_second made result is first second begins whole =
    let two : made_of begun (two_asked wanted (f left place) (f right place)) ≡ Ok made = gives_two begun (λ it. both_of_kind wanted it.0 it.1) (f left place) given (f right place) given_second (Ok made) first second begins in
    gives_same _ (onto made (each (operand wanted place) (map f more))) result
    (ap (λ xs. chain wanted place (map f xs)) is ∙ chain_two wanted place (f left) (f right) (map f more) ∙ ap (λ it. it >>= (λ made. onto made (each (operand wanted place) (map f more)))) two) whole

pub unchained : {X : Type 0} (wanted : Kind) (place : Place) (f : X → Walk) (all : List X) (left right : X) (more : List X) (given given_second : Answer Typed) (refusal : Refusal)
    → all ≡ left ∷ right ∷ more → Gives (f left place) given → Gives (f right place) given_second → (refusal ≢ Memory → made_of begun (two_asked wanted given given_second) ≡ Err refusal)
    → refusal ≢ Memory → chain wanted place (map f all) ≡ Err refusal
unchained wanted place f all left right more given given_second refusal is first second stops other =
    let two : refusal ≢ Memory → made_of begun (two_asked wanted (f left place) (f right place)) ≡ Err refusal = gives_two begun (λ it. both_of_kind wanted it.0 it.1) (f left place) given (f right place) given_second (Err refusal) first second stops in
    ap (λ xs. chain wanted place (map f xs)) is ∙ chain_two wanted place (f left) (f right) (map f more) ∙ ap (λ it. it >>= (λ made. onto made (each (operand wanted place) (map f more)))) (two other)

-- ---- sums, whose operands after the first come with their signs

module _ (place : Place) (f : Term → Walk) (g : Term → TermWalk) (opens : (t : Term) → g t ≡ (t.subtracts, f t)) where
  pub one_summed : (first : Walk) (more : List Term) (given : Answer Typed) (result : Answer (BoundExpr × List BoundTerm))
      → more ≡ [] → Gives (first place) given → result ≡ made_of alone_in_sum (asked Number given) → Gives (sum place first (map g more)) result
  one_summed first more given result is came whole =
      gives_same _ (made_of alone_in_sum (asked Number (first place))) result (ap (λ xs. sum place first (map g xs)) is ∙ sum_only place first)
      (gives_made alone_in_sum (of_kind Number) (first place) given result came (gives_exact (made_of alone_in_sum (asked Number given)) result whole))

  two_here : (first : Walk) (all : List Term) (second : Term) (more : List Term) → all ≡ second ∷ more
      → sum place first (map g all) ≡ (made_of (begun_sum second.subtracts) (two_asked Number (first place) (f second place)) >>= (λ it. both (Ok it.0) (onto it.1 (each (further_term place) (map g more)))))
  two_here first all second more is =
      ap (λ xs. sum place first (map g xs)) is ∙ ap (λ w. sum place first (w ∷ map g more)) (opens second) ∙ sum_two place first second.subtracts (f second) (map g more)

  pub summed : (first : Walk) (all : List Term) (second : Term) (more : List Term) (given given_second : Answer Typed) (it : BoundExpr × List BoundTerm) (later : Answer (List BoundTerm)) (result : Answer (BoundExpr × List BoundTerm))
      → all ≡ second ∷ more → Gives (first place) given → Gives (f second place) given_second → made_of (begun_sum second.subtracts) (two_asked Number given given_second) ≡ Ok it
      → Gives (onto it.1 (each (further_term place) (map g more))) later → result ≡ both (Ok it.0) later → Gives (sum place first (map g all)) result
  summed first all second more given given_second it later result is came walked_second begins rest whole =
      let two : made_of (begun_sum second.subtracts) (two_asked Number (first place) (f second place)) ≡ Ok it =
      gives_two (begun_sum second.subtracts) (λ it. both_of_kind Number it.0 it.1) (first place) given (f second place) given_second (Ok it) came walked_second begins in
      gives_same _ (both (Ok it.0) (onto it.1 (each (further_term place) (map g more)))) result
      (two_here first all second more is ∙ ap (λ it. it >>= (λ it. both (Ok it.0) (onto it.1 (each (further_term place) (map g more))))) two)
      (subst (λ it_result. Gives (both (Ok it.0) (onto it.1 (each (further_term place) (map g more)))) it_result) (sym whole)
      (gives_both (Ok it.0) (Ok it.0) (onto it.1 (each (further_term place) (map g more))) later refl rest))

  pub unsummed : (first : Walk) (all : List Term) (second : Term) (more : List Term) (given given_second : Answer Typed) (refusal : Refusal)
      → all ≡ second ∷ more → Gives (first place) given → Gives (f second place) given_second → (refusal ≢ Memory → made_of (begun_sum second.subtracts) (two_asked Number given given_second) ≡ Err refusal)
      → refusal ≢ Memory → sum place first (map g all) ≡ Err refusal
  unsummed first all second more given given_second refusal is came walked_second stops other =
      let two : refusal ≢ Memory → made_of (begun_sum second.subtracts) (two_asked Number (first place) (f second place)) ≡ Err refusal =
      gives_two (begun_sum second.subtracts) (λ it. both_of_kind Number it.0 it.1) (first place) given (f second place) given_second (Err refusal) came walked_second stops in
      two_here first all second more is ∙ ap (λ it. it >>= (λ it. both (Ok it.0) (onto it.1 (each (further_term place) (map g more))))) (two other)

sum_here : (place : Place) (walk : Walk) (more : List TermWalk) → sum place walk more ≡ sum place (walked (walk place)) more
unfolding sum two operand
sum_here place walk [] = refl
sum_here place walk (second ∷ more) = refl

sum_stops : (place : Place) (refusal : Refusal) (more : List TermWalk) → sum place (walked (Err refusal)) more ≡ Err refusal
unfolding sum two operand
sum_stops place refusal [] = refl
sum_stops place refusal (second ∷ more) = refl

pub gives_sum : (place : Place) (walk : Walk) (given : Answer Typed) (more : List TermWalk) (result : Answer (BoundExpr × List BoundTerm))
    → Gives (walk place) given → Gives (sum place (walked given) more) result → Gives (sum place walk more) result
gives_sum place walk (Ok a) more (Ok b) first whole = sum_here place walk more ∙ ap (λ g. sum place (walked g) more) first ∙ whole
gives_sum place walk (Ok a) more (Err refusal) first whole = λ other. sum_here place walk more ∙ ap (λ g. sum place (walked g) more) first ∙ whole other
gives_sum place walk (Err stop) more (Ok b) first whole = absurd (let e = sym (sum_stops place stop more) ∙ whole in cc)
gives_sum place walk (Err stop) more (Err refusal) first whole = λ other.
    let same : stop ≡ refusal = let e = sym (sum_stops place stop more) ∙ whole other in cc in
    sum_here place walk more ∙ ap (λ g. sum place (walked g) more) (first (λ is. other (sym same ∙ is))) ∙ sum_stops place stop more ∙ ap (λ r. Err r) same

-- ---- tuples

pub tuple_counts : {X : Type 0} (place : Place) (kinds : List Kind) (f : X → Walk) (all : List X)
    → tuple place kinds (map f all) ≡ (as_many (length kinds) (length all) >> values place kinds (map f all))
unfolding tuple
tuple_counts place kinds f all = ap (λ n. demand (n == length kinds) (CountClash (length kinds) n) >> values place kinds (map f all)) (length-map all f)

-- ---- the list and the tuple

module _ (table : Schema) (names : List (List ℕ)) (walks : List Walk) (place : Place) where
  abbrev bound_in : List BoundExpr → Answer BoundRowVersion
  bound_in bound = Ok (version_in table.id (key_columns table) names bound)

  pub versioned : (key shown shown_again : List Column) (kinds listed : List Kind) (made : List BoundExpr) (result : Answer BoundRowVersion)
      → key ≡ key_columns table → shown ≡ key → listed_kinds shown names ≡ Ok kinds → listed ≡ kinds → tuple place listed walks ≡ Ok made → shown_again ≡ key
      → Gives (Ok (version_in table.id shown_again names made)) result → Gives (version_of table names walks place) result
  unfolding version_of
  versioned key shown shown_again kinds listed made result is same found are bound again whole =
      let first : listed_kinds (key_columns table) names ≡ Ok kinds = subst (λ key. listed_kinds key names ≡ Ok kinds) (same ∙ is) found in
      let second : tuple place kinds walks ≡ Ok made = subst (λ kinds. tuple place kinds walks ≡ Ok made) are bound in
      gives_same (version_of table names walks place) (Ok (version_in table.id shown_again names made)) result
      (ap (λ it. it >>= (λ kinds. tuple place kinds walks >>= bound_in)) first ∙ ap (λ it. it >>= bound_in) second ∙ ap (λ key. Ok (version_in table.id key names made)) (sym (again ∙ is))) whole

  pub unversioned : (key shown : List Column) (kinds listed : List Kind) (refusal : Refusal)
      → key ≡ key_columns table → shown ≡ key → listed_kinds shown names ≡ Ok kinds → listed ≡ kinds → tuple place listed walks ≡ Err refusal → version_of table names walks place ≡ Err refusal
  unfolding version_of
  unversioned key shown kinds listed refusal is same found are bound =
      let first : listed_kinds (key_columns table) names ≡ Ok kinds = subst (λ key. listed_kinds key names ≡ Ok kinds) (same ∙ is) found in
      let second : tuple place kinds walks ≡ Err refusal = subst (λ kinds. tuple place kinds walks ≡ Err refusal) are bound in
      ap (λ it. it >>= (λ kinds. tuple place kinds walks >>= bound_in)) first ∙ ap (λ it. it >>= bound_in) second

  pub unlisted : (key shown : List Column) (refusal : Refusal) → key ≡ key_columns table → shown ≡ key → listed_kinds shown names ≡ Err refusal → version_of table names walks place ≡ Err refusal
  unfolding version_of
  unlisted key shown refusal is same found =
      ap (λ it. it >>= (λ kinds. tuple place kinds walks >>= bound_in)) (subst (λ key. listed_kinds key names ≡ Err refusal) (same ∙ is) found)

-- ---- the scalar form

abbrev shown_as : BoundRowVersion → VersionColumn × Kind → Answer Typed
shown_as version shown = Ok (typed (bound.Scalar (roll-BoundScalar (record { version = version; column = shown.0 }))) shown.1)

shown_first : (holds : Bool) (refusal : Refusal) (shown : Answer (VersionColumn × Kind)) (version : BoundRowVersion)
    → (demand holds refusal >> (shown >>= (λ shown. shown_as version shown))) ≡ ((demand holds refusal >> shown) >>= (λ shown. shown_as version shown))
shown_first true refusal shown version = refl
shown_first false refusal shown version = refl

shown_of : (table : Schema) (scalar : Scalar) (version : Answer BoundRowVersion) → scalar_of table scalar version ≡ (version >>= (λ version. shown_column table scalar >>= (λ shown. shown_as version shown)))
unfolding scalar_column
shown_of table scalar (Err refusal) = refl
shown_of table scalar (Ok version) = shown_first (same scalar.source scalar.alias) (NoColumn scalar.source) (version_column table scalar.column) version

pub unshown : (table : Schema) (scalar : Scalar) (version : Answer BoundRowVersion) (shown : Answer (VersionColumn × Kind)) (refusal : Refusal)
    → Gives (shown_column table scalar) shown → Err refusal ≡ both version shown → refusal ≢ Memory → scalar_of table scalar version ≡ Err refusal
unshown table scalar version shown refusal is stops other =
    shown_of table scalar version ∙ both_stop version version (shown_column table scalar) shown (λ version shown. shown_as version shown) refusal (gives_exact version version refl) is stops other

pub shown_there : (table : Schema) (scalar : Scalar) (version : Answer BoundRowVersion) (shown : Answer (VersionColumn × Kind)) (bound_version : BoundRowVersion) (column : VersionColumn) (kind : Kind)
    → Gives (shown_column table scalar) shown → Ok (bound_version, (column, kind)) ≡ both version shown → scalar_of table scalar version ≡ shown_as bound_version (column, kind)
shown_there table scalar (Err refusal) shown bound_version column kind is both_are = absurd cc
shown_there table scalar (Ok version) (Err refusal) bound_version column kind is both_are = absurd cc
shown_there table scalar (Ok version) (Ok shown) bound_version column kind is both_are =
    shown_of table scalar (Ok version) ∙ ap (λ it. it >>= (λ shown. shown_as version shown)) is ∙ (let e : (version, shown) ≡ (bound_version, (column, kind)) = cc in ap (λ (it : BoundRowVersion × (VersionColumn × Kind)). shown_as it.0 it.1) e)
