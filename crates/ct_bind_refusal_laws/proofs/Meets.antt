-- Where a statement is bound, what it mentions is met: tables and variables are there, numbers fit, and tuples are as long as is wanted.
use Rattle.std.proofs.Common.{◌≡◌, ℕ, ◌+◌, ◌==◌, List, [], ◌∷◌, ◌++◌, length, Option, Some, IsSome, is_some, sym, ◌∙◌, subst, eqb-true, arith}
use Rattle.std.specs.List.{AllByRecursion}
use Rattle.std.specs.Option.{IsSomeAnd}
use Rattle.ct_types.proofs.Lists.{all_append}
use Rattle.ct_types.specs.declared.catalogue.Catalogued.{Catalogued}
use Rattle.ct_types.specs.declared.catalogue.Variable.{Variable}
use Rattle.ct_types.specs.declared.expr.ObjectName.{ObjectName}
use Rattle.ct_types.specs.declared.refusal.Refusal.TheVariants.{NoObject, NotTracked, NoVariable, Overflow, CountClash}
use Rattle.ct_types.specs.declared.schema.Schema.{Schema}
use Rattle.ct_types.specs.declared.stmt.Stmt.{Stmt}
use Rattle.ct_bind_kinds.specs.declared.kind.Kind.{Kind}
use Rattle.ct_bind_kinds.specs.declared.kind.Kind.TheVariants.{Number}
use Rattle.ct_types.specs.Answers.{Answer, each}
use Rattle.ct_bind_names.specs.Numbers.{within, literal}
use Rattle.ct_bind_names.specs.Names.{same, table_name}
use Rattle.ct_bind_names.specs.Catalogue.{table_named, existing_table, tracked_table, variable_from, declared_variable}
use Rattle.ct_bind_expr.specs.declared.place.Place.{Place}
use Rattle.ct_bind_expr.specs.Versions.{Walk, operand, values, tuple, key_columns, listed_kinds, version_of}
use Rattle.ct_bind_expr.specs.Walk as expr
use Rattle.ct_bind_expr.specs.Walk.{TermWalk, two, both_of_kind, chain, further_term, sum}
use Rattle.ct_bind_refusal_laws.specs.Mentions.{Mention, OfTable, OfTracked, OfSource, OfVariable, OfNumber, OfTuple, of_table, of_tracked, of_each}
use Rattle.ct_bind_refusal_laws.specs.Causes.{HasTable, HasTracked, HasVariable, IsNoSource, IsWanted}
use Rattle.ct_bind_refusal_laws.proofs.Expressions.{kinds_length, declared_is}
use Rattle.ct_bind_refusal_laws.proofs.Passed.{Passed, anyway, also, first_passed, next_passed, both_passed, met_passed, or_passed, found_passed}

-- each of one list with that of the other list that stands at its place
abbrev pub Pairs : {X Y : Type 0} → (X → Y → Type 0) → List X → List Y → Type 0
Pairs R [] [] = Unit {0}
Pairs R (x ∷ xs) (y ∷ ys) = R x y × Pairs R xs ys
Pairs R [] (y ∷ ys) = ⊥
Pairs R (x ∷ xs) [] = ⊥

module _ (tables : List Catalogued) (variables : List Variable) (statement : Stmt) where
  -- what a statement that is bound has for each mention
  abbrev pub IsMet : Mention → Type 0
  IsMet (OfTable name) = HasTable tables name
  IsMet (OfTracked name) = HasTracked tables name
  IsMet (OfSource name) = IsNoSource tables statement name → ⊥
  IsMet (OfVariable name) = HasVariable variables name
  IsMet (OfNumber digits) = IsSome (within 0 9223372036854775807 digits)
  IsMet (OfTuple columns got) = (wanted : ℕ) → IsWanted tables statement columns wanted → wanted ≡ got

  abbrev pub AllMet : List Mention → Type 0
  AllMet some = AllByRecursion IsMet some

  -- where the answer is no refusal, all of these are met
  abbrev pub Meets : {A : Type 0} → List Mention → Answer A → Type 0
  Meets some answer = Passed (AllMet some) answer

  -- those of two parts
  pub joined : {A : Type 0} (some other : List Mention) (answer : Answer A) → Passed (AllMet some × AllMet other) answer → Meets (some ++ other) answer
  joined some other answer passed = also answer (λ met. all_append IsMet some other met.0 met.1) passed

  -- of the last part
  pub ended : {A : Type 0} (some : List Mention) (answer : Answer A) → Meets some answer → Meets (some ++ []) answer
  ended some answer passed = also answer (λ met. all_append IsMet some [] met tt) passed

  -- ---- numbers and look-ups

  pub number_meets : (digits : List ℕ) → Meets (OfNumber digits ∷ []) (expr.number_literal digits)
  unfolding expr.number_literal literal
  number_meets digits = first_passed _ _ (first_passed _ _ (also _ (λ some. (some, tt)) (or_passed (within 0 9223372036854775807 digits) Overflow)))

  pub existing_meets : (name : ObjectName) → Meets (of_table name ∷ []) (existing_table tables name)
  unfolding existing_table
  existing_meets name = also _ (λ some. (some, tt)) (or_passed (table_named tables (table_name name)) (NoObject (table_name name)))

  tracked : (name : ObjectName) (table : Catalogued) → table_named tables (table_name name) ≡ Some table → IsSome table.tracked → HasTracked tables (table_name name)
  tracked name table found some = subst (λ o. IsSomeAnd o (λ (it : Catalogued). IsSome it.tracked)) (sym found) some

  pub tracked_meets : (name : ObjectName) → Meets (of_tracked name ∷ []) (tracked_table tables name)
  unfolding tracked_table existing_table
  tracked_meets name =
      found_passed (table_named tables (table_name name)) (NoObject (table_name name)) _
      (λ table found. met_passed (is_some table.tracked) (NotTracked (table_name name)) _ (λ some. anyway _ (tracked name table found some, tt)))

  pub variable_meets : (name : List ℕ) → Meets (OfVariable name ∷ []) (declared_variable variables name)
  unfolding declared_variable
  variable_meets name = also _ (λ some. (declared_is name 0 variables ∙ some, tt)) (or_passed (variable_from name 0 variables) (NoVariable name))

  pub variable_typed_meets : (name : List ℕ) → Meets (OfVariable name ∷ []) (expr.variable tables variables name)
  unfolding expr.variable
  variable_typed_meets name = first_passed _ _ (variable_meets name)

  -- ---- operands that are walked

  -- a walk that meets these wherever its expression stands
  abbrev pub MeetsAt : Walk → List Mention → Type 0
  MeetsAt walk some = (place : Place) → Meets some (walk place)

  abbrev pub TermMeets : TermWalk → List Mention → Type 0
  TermMeets term some = MeetsAt term.1 some

  operand_meets : (wanted : Kind) (place : Place) (walk : Walk) (some : List Mention) → Meets some (walk place) → Meets some (operand wanted place walk)
  unfolding operand
  operand_meets wanted place walk some met = first_passed _ _ met

  pub two_meets : (place : Place) (left right : Walk) (some other : List Mention) → MeetsAt left some → MeetsAt right other → Passed (AllMet some × AllMet other) (two place left right)
  unfolding two
  two_meets place left right some other a b = both_passed _ _ (a place) (λ _ _. first_passed _ _ (b place))

  pub property_meets : (place : Place) (table column name : Walk) (one other last : List Mention) → MeetsAt table one → MeetsAt column other → MeetsAt name last
      → Meets ((one ++ other) ++ last) (expr.property place table column name)
  unfolding expr.property
  property_meets place table column name one other last a b c =
      joined (one ++ other) last _ (both_passed _ _ (joined one other _ (two_meets place table column one other a b)) (λ _ _. first_passed _ _ (c place)))

  -- ---- chains

  each_meets : (wanted : Kind) (place : Place) (walks : List Walk) (said : List (List Mention)) → Pairs MeetsAt walks said → Meets (of_each said) (each (operand wanted place) walks)
  each_meets wanted place [] [] pairs = anyway _ tt
  each_meets wanted place (walk ∷ more) (some ∷ others) pairs =
      joined some (of_each others) _ (both_passed _ _ (operand_meets wanted place walk some (pairs.0 place)) (λ _ _. first_passed _ _ (each_meets wanted place more others pairs.1)))
  each_meets wanted place [] (some ∷ others) pairs = absurd pairs
  each_meets wanted place (walk ∷ more) [] pairs = absurd pairs

  -- the first two, and those behind them
  three : {A : Type 0} (some other others : List Mention) (answer : Answer A) → Passed ((AllMet some × AllMet other) × AllMet others) answer → Meets (some ++ (other ++ others)) answer
  three some other others answer passed = also answer (λ met. all_append IsMet some (other ++ others) met.0.0 (all_append IsMet other others met.0.1 met.1)) passed

  pub chain_meets : (wanted : Kind) (place : Place) (walks : List Walk) (said : List (List Mention)) → Pairs MeetsAt walks said → Meets (of_each said) (chain wanted place walks)
  unfolding chain
  chain_meets wanted place [] [] pairs = anyway _ tt
  chain_meets wanted place (only ∷ []) (some ∷ []) pairs = ended some _ (first_passed _ _ (operand_meets wanted place only some (pairs.0 place)))
  chain_meets wanted place (left ∷ right ∷ more) (some ∷ other ∷ others) pairs =
      three some other (of_each others) _
      (both_passed _ _ (two_meets place left right some other pairs.0 pairs.1.0) (λ walked _. next_passed (both_of_kind wanted walked.0 walked.1) _ (λ _ _. first_passed _ _ (each_meets wanted place more others pairs.1.1))))
  chain_meets wanted place [] (some ∷ others) pairs = absurd pairs
  chain_meets wanted place (walk ∷ more) [] pairs = absurd pairs
  chain_meets wanted place (only ∷ []) (some ∷ other ∷ others) pairs = absurd pairs.1
  chain_meets wanted place (left ∷ right ∷ more) (some ∷ []) pairs = absurd pairs.1

  further_meets : (place : Place) (terms : List TermWalk) (said : List (List Mention)) → Pairs TermMeets terms said → Meets (of_each said) (each (further_term place) terms)
  unfolding further_term
  further_meets place [] [] pairs = anyway _ tt
  further_meets place (term ∷ more) (some ∷ others) pairs =
      joined some (of_each others) _ (both_passed _ _ (first_passed _ _ (operand_meets Number place term.1 some (pairs.0 place))) (λ _ _. first_passed _ _ (further_meets place more others pairs.1)))
  further_meets place [] (some ∷ others) pairs = absurd pairs
  further_meets place (term ∷ more) [] pairs = absurd pairs

  pub sum_meets : (place : Place) (first : Walk) (terms : List TermWalk) (some : List Mention) (said : List (List Mention)) → MeetsAt first some → Pairs TermMeets terms said
      → Meets (some ++ of_each said) (sum place first terms)
  unfolding sum
  sum_meets place first [] some [] met pairs = ended some _ (first_passed _ _ (operand_meets Number place first some (met place)))
  sum_meets place first (second ∷ more) some (other ∷ others) met pairs =
      three some other (of_each others) _
      (both_passed _ _ (two_meets place first second.1 some other met pairs.0) (λ walked _. next_passed (both_of_kind Number walked.0 walked.1) _ (λ _ _. first_passed _ _ (further_meets place more others pairs.1))))
  sum_meets place first [] some (other ∷ others) met pairs = absurd pairs
  sum_meets place first (second ∷ more) some [] met pairs = absurd pairs

  -- ---- tuples and versions

  values_meet : (place : Place) (kinds : List Kind) (walks : List Walk) (said : List (List Mention)) → length walks ≡ length kinds → Pairs MeetsAt walks said → Meets (of_each said) (values place kinds walks)
  unfolding values
  values_meet place kinds [] [] long pairs = anyway _ tt
  values_meet place (kind ∷ kinds) (walk ∷ walks) (some ∷ others) long pairs =
      let same : length walks ≡ length kinds = omega arith in
      joined some (of_each others) _ (both_passed _ _ (operand_meets kind place walk some (pairs.0 place)) (λ _ _. first_passed _ _ (values_meet place kinds walks others same pairs.1)))
  values_meet place [] (walk ∷ walks) (some ∷ others) long pairs = absurd (omega arith)
  values_meet place kinds [] (some ∷ others) long pairs = absurd pairs
  values_meet place kinds (walk ∷ walks) [] long pairs = absurd pairs

  -- a tuple of so many values, where so many are wanted as there are kinds
  pub tuple_meets : (place : Place) (kinds : List Kind) (walks : List Walk) (said : List (List Mention)) (columns : Option ℕ) (count : ℕ)
      → ((wanted : ℕ) → IsWanted tables statement columns wanted → wanted ≡ length kinds) → length walks ≡ count → Pairs MeetsAt walks said
      → Meets (OfTuple columns count ∷ of_each said) (tuple place kinds walks)
  unfolding tuple
  tuple_meets place kinds walks said columns count wide long pairs =
      met_passed (length walks == length kinds) (CountClash (length kinds) (length walks)) _
      (λ e. let same : length walks ≡ length kinds = eqb-true (length walks) (length kinds) e in
      also _ (λ met. ((λ wanted is. wide wanted is ∙ sym same ∙ long), met)) (values_meet place kinds walks said same pairs))

  pub version_meets : (table : Schema) (names : List (List ℕ)) (walks : List Walk) (said : List (List Mention)) (place : Place) (count : ℕ) → length walks ≡ count → Pairs MeetsAt walks said
      → Meets (OfTuple (Some (length names)) count ∷ of_each said) (version_of table names walks place)
  unfolding version_of
  version_meets table names walks said place count long pairs =
      next_passed (listed_kinds (key_columns table) names) _
      (λ kinds made. first_passed _ _ (tuple_meets place kinds walks said (Some (length names)) count (λ wanted is. is ∙ sym (kinds_length (key_columns table) names kinds made)) long pairs))
