-- What look-ups and expressions refuse: each refusal has its cause in the catalogue and among the variables.
use Rattle.std.proofs.Common.{◌≡◌, ◌≢◌, ℕ, ◌+◌, Bool, true, false, not, ◌||◌, ◌==◌, ◌⊎◌, codes, List, [], ◌∷◌, length, Option, Some, None, IsNone, is_some, Ok, cond, inl, inr, refl, sym, ap, ◌∙◌, subst, eq-eqb}
use Rattle.std.specs.List.{Contains, AllByRecursion}
use Rattle.std.specs.Option.{IsSomeAnd}
use Rattle.ct_types.specs.declared.bound.BoundRowVersion.{BoundRowVersion}
use Rattle.ct_types.specs.declared.catalogue.Catalogued.{Catalogued}
use Rattle.ct_types.specs.declared.catalogue.Variable.{Variable}
use Rattle.ct_types.specs.declared.entry.Keep.{Keep}
use Rattle.ct_types.specs.declared.expr.ColumnName.{ColumnName}
use Rattle.ct_types.specs.declared.expr.Comparison.{Comparison}
use Rattle.ct_types.specs.declared.expr.ObjectName.{ObjectName}
use Rattle.ct_types.specs.declared.refusal.Refusal.{Refusal}
use Rattle.ct_types.specs.declared.refusal.Refusal.TheVariants.{CountClash, TypeClash, NoColumn, NoObject, NotTracked, NoVariable, Ambiguous, Overflow}
use Rattle.ct_types.specs.declared.schema.ColType.{ColType}
use Rattle.ct_types.specs.declared.schema.Column.{Column}
use Rattle.ct_types.specs.declared.schema.Schema.{Schema}
use Rattle.ct_types.specs.declared.stmt.Stmt.{Stmt}
use Rattle.ct_bind_kinds.specs.declared.kind.Kind.{Kind}
use Rattle.ct_bind_kinds.specs.declared.kind.Kind.TheVariants.{Number, Text, Bytes, Condition}
use Rattle.ct_types.specs.Answers.{Answer, each, each_after}
use Rattle.ct_bind_names.specs.Numbers.{within, literal}
use Rattle.ct_bind_names.specs.Names.{same, is_among, table_name}
use Rattle.ct_bind_names.specs.Catalogue.{table_named, existing_table, tracked_table, variable_from, declared_variable, is_declared}
use Rattle.ct_bind_expr.specs.declared.place.Typed.{Typed}
use Rattle.ct_bind_expr.specs.declared.place.Shape.{Shape}
use Rattle.ct_bind_expr.specs.declared.place.Spot.{Spot}
use Rattle.ct_bind_expr.specs.declared.place.Output.{Output}
use Rattle.ct_bind_expr.specs.declared.place.Place.{Place}
use Rattle.ct_bind_expr.specs.Places.{of_kind, any_value, named, named_of, only, plain_by, plain_column, column_of_source, column_in, column}
use Rattle.ct_bind_expr.specs.Versions as versions
use Rattle.ct_bind_expr.specs.Versions.{Walk, operand, values, tuple, listed_kind, listed_kinds, kind_of_column, missing, none_missing, version_of, key_column_from, version_column}
use Rattle.ct_bind_expr.specs.Walk as expr
use Rattle.ct_bind_expr.specs.Walk.{TermWalk, two, both_of_kind, chain, further_term, sum}
use Rattle.ct_bind_refusal_laws.specs.Mentions.{Mention, OfTable, OfTracked, OfVariable, OfNumber, OfTuple, of_table, of_tracked, of_statement}
use Rattle.ct_bind_refusal_laws.specs.Causes.{HasNoTable, HasUntracked, HasNoVariable, HasCause}
use Rattle.ct_types.proofs.AnswersCaused.{Caused, ok_caused, err_caused, then_caused, after_caused, demand_caused, met_caused, cond_caused, or_caused, found_caused, each_after_caused}
use Rattle.ct_types.proofs.AnswersTaken.{steps, same_Ok, each_after_length}
use Rattle.ct_types.proofs.Lists.{all_everywhere}

-- a variable of the name is declared where one is found
found_or_more : (found : Bool) (at : ℕ × ColType) (rest : Option (ℕ × ColType)) (more : Bool) → more ≡ is_some rest → (found || more) ≡ is_some (cond found (Some at) rest)
found_or_more true at rest more e = refl
found_or_more false at rest more e = e

pub declared_is : (name : List ℕ) (at : ℕ) (variables : List Variable) → is_declared variables name ≡ is_some (variable_from name at variables)
unfolding variable_from is_declared
declared_is name at [] = refl
declared_is name at (variable ∷ more) = found_or_more (same variable.name name) (at, variable.kind) (variable_from name (at + 1) more) (is_declared more name) (declared_is name (at + 1) more)

pub differ : (got wanted : ℕ) → (got == wanted) ≡ false → wanted ≢ got
differ got wanted e same = let t : (got == wanted) ≡ true = eq-eqb got wanted (sym same) in cc

-- a list of columns has one kind for each
pub kinds_length : (key : List Column) (names : List (List ℕ)) (kinds : List Kind) → listed_kinds key names ≡ Ok kinds → length kinds ≡ length names
unfolding listed_kinds
kinds_length key names kinds e =
    let made = steps (each_after (listed_kind key) [] names) _ kinds e in
    let last = steps (none_missing (missing key names)) _ kinds made.goes in
    ap length (sym (same_Ok made.came kinds last.goes)) ∙ each_after_length (listed_kind key) [] names made.came made.is

module _ (tables : List Catalogued) (variables : List Variable) (mentioned : List Mention) where
  -- the causes that need no more than the catalogue, the variables and what is mentioned
  abbrev pub OfNames : Refusal → Type 0
  OfNames (NoObject name) = (Contains mentioned (OfTable name) ⊎ Contains mentioned (OfTracked name)) × HasNoTable tables name
  OfNames Overflow = (digits : List ℕ) × Contains mentioned (OfNumber digits) × IsNone (within 0 9223372036854775807 digits)
  OfNames (NotTracked name) = Contains mentioned (OfTracked name) × HasUntracked tables name
  OfNames (NoVariable name) = Contains mentioned (OfVariable name) × HasNoVariable variables name
  OfNames (CountClash wanted got) = (wanted ≢ got) × Contains mentioned (OfTuple (Some wanted) got)
  OfNames (NoColumn name) = Unit {0}
  OfNames (Ambiguous name) = Unit {0}
  OfNames TypeClash = Unit {0}
  OfNames _ = ⊥

  abbrev pub IsExplained : {A : Type 0} → Answer A → Type 0
  IsExplained answer = Caused OfNames answer

  -- ---- numbers and look-ups

  literal_explained : (digits : List ℕ) → Contains mentioned (OfNumber digits) → IsExplained (literal digits)
  unfolding literal
  literal_explained digits is = then_caused _ _ (or_caused _ Overflow (λ none. (digits, is, ap (λ o. is_some o) none))) (λ n. ok_caused _)

  pub existing_explained : (name : ObjectName) → Contains mentioned (of_table name) → IsExplained (existing_table tables name)
  unfolding existing_table
  existing_explained name is = or_caused _ (NoObject (table_name name)) (λ none. (inl is, ap (λ o. is_some o) none))

  -- a table that is not tracked is there, where it was looked up
  untracked : (name : ObjectName) (table : Catalogued) → table_named tables (table_name name) ≡ Some table → IsNone table.tracked → HasUntracked tables (table_name name)
  untracked name table found none = subst (λ o. IsSomeAnd o (λ (it : Catalogued). IsNone it.tracked)) (sym found) none

  pub tracked_explained : (name : ObjectName) → Contains mentioned (of_tracked name) → IsExplained (tracked_table tables name)
  unfolding tracked_table existing_table
  tracked_explained name is =
      found_caused (table_named tables (table_name name)) (NoObject (table_name name)) _ (λ none. (inr is, ap (λ o. is_some o) none))
      (λ table found. met_caused _ (NotTracked (table_name name)) _ (λ none. (is, untracked name table found none)) (λ _. ok_caused _))

  pub variable_explained : (name : List ℕ) → Contains mentioned (OfVariable name) → IsExplained (declared_variable variables name)
  unfolding declared_variable
  variable_explained name is = or_caused _ (NoVariable name) (λ none. (is, declared_is name 0 variables ∙ ap (λ o. is_some o) none))

  -- ---- kinds and columns

  pub of_kind_explained : (wanted : Kind) (it : Typed) → IsExplained (of_kind wanted it)
  of_kind_explained wanted it = then_caused _ _ (demand_caused _ TypeClash (λ _. tt)) (λ _. ok_caused _)

  pub any_value_explained : (it : Typed) → IsExplained (any_value it)
  any_value_explained it = then_caused _ _ (demand_caused _ TypeClash (λ _. tt)) (λ _. ok_caused _)

  only_explained : (name : List ℕ) (found : List Spot) → IsExplained (only name found)
  unfolding only
  only_explained name [] = err_caused (NoColumn name) tt
  only_explained name (one ∷ []) = ok_caused _
  only_explained name (one ∷ other ∷ more) = err_caused (Ambiguous name) tt

  named_of_explained : (wanted name : List ℕ) (at : ℕ) (sources : List Shape) → IsExplained (named_of wanted name at sources)
  unfolding named_of
  named_of_explained wanted name at [] = err_caused (NoColumn wanted) tt
  named_of_explained wanted name at (source ∷ more) = cond_caused (same source.name wanted) _ _ (ok_caused _) (named_of_explained wanted name (at + length source.columns) more)

  plain_by_explained : (place : Place) (name : List ℕ) (output : Option Output) → IsExplained (plain_by place name output)
  plain_by_explained place name (Some output) = ok_caused _
  plain_by_explained place name None = only_explained name _

  column_in_explained : (place : Place) (source : Option (List ℕ)) (name : List ℕ) → IsExplained (column_in place source name)
  unfolding plain_column column_of_source
  column_in_explained place None name = plain_by_explained place name _
  column_in_explained place (Some source) name = then_caused _ _ (named_of_explained source name 0 place.sources) (λ found. only_explained name found)

  pub column_explained : (place : Place) (name : ColumnName) → IsExplained (column place name)
  unfolding column
  column_explained place name = cond_caused place.is_closed _ _ (err_caused TypeClash tt) (column_in_explained place name.source name.column)

  -- ---- operands that are walked

  -- a walk that refuses nothing else, wherever its expression stands
  abbrev pub ExplainedAt : Walk → Type 0
  ExplainedAt walk = (place : Place) → IsExplained (walk place)

  operand_explained : (wanted : Kind) (place : Place) (walk : Walk) → IsExplained (walk place) → IsExplained (operand wanted place walk)
  unfolding operand
  operand_explained wanted place walk w = then_caused _ _ w (λ it. of_kind_explained wanted it)

  pub min_valid_version_explained : (table : Typed) → IsExplained (expr.min_valid_version table)
  unfolding expr.min_valid_version
  min_valid_version_explained table = then_caused _ _ (of_kind_explained Number table) (λ _. ok_caused _)

  pub column_in_mask_explained : (column mask : Typed) → IsExplained (expr.is_column_in_mask column mask)
  unfolding expr.is_column_in_mask
  column_in_mask_explained column mask = then_caused _ _ (of_kind_explained Number column) (λ _. then_caused _ _ (of_kind_explained Bytes mask) (λ _. ok_caused _))

  pub object_id_explained : (name : Typed) → IsExplained (expr.object_id name)
  unfolding expr.object_id
  object_id_explained name = then_caused _ _ (of_kind_explained Text name) (λ _. ok_caused _)

  column_property_explained : (table column property : Typed) → IsExplained (expr.column_property table column property)
  unfolding expr.column_property
  column_property_explained table column property =
      then_caused _ _ (of_kind_explained Number table) (λ _. then_caused _ _ (of_kind_explained Text column) (λ _. then_caused _ _ (of_kind_explained Text property) (λ _. ok_caused _)))

  pub if_null_explained : (value instead : Typed) → IsExplained (expr.if_null value instead)
  unfolding expr.if_null
  if_null_explained value instead = then_caused _ _ (demand_caused _ TypeClash (λ _. tt)) (λ _. ok_caused _)

  pub negative_explained : (it : Typed) → IsExplained (expr.negative it)
  unfolding expr.negative
  negative_explained it = then_caused _ _ (of_kind_explained Number it) (λ _. ok_caused _)

  pub compare_explained : (operator : Comparison) (left right : Typed) → IsExplained (expr.compare operator left right)
  unfolding expr.compare
  compare_explained operator left right = then_caused _ _ (demand_caused _ TypeClash (λ _. tt)) (λ _. ok_caused _)

  pub is_null_explained : (it : Typed) → IsExplained (expr.is_null it)
  unfolding expr.is_null
  is_null_explained it = then_caused _ _ (any_value_explained it) (λ _. ok_caused _)

  pub is_not_null_explained : (it : Typed) → IsExplained (expr.is_not_null it)
  unfolding expr.is_not_null
  is_not_null_explained it = then_caused _ _ (any_value_explained it) (λ _. ok_caused _)

  pub negated_explained : (it : Typed) → IsExplained (expr.negated it)
  unfolding expr.negated
  negated_explained it = then_caused _ _ (of_kind_explained Condition it) (λ _. ok_caused _)

  pub two_explained : (place : Place) (left right : Walk) → ExplainedAt left → ExplainedAt right → IsExplained (two place left right)
  unfolding two
  two_explained place left right a b = then_caused _ _ (a place) (λ _. then_caused _ _ (b place) (λ _. ok_caused _))

  pub property_explained : (place : Place) (table named asked : Walk) → ExplainedAt table → ExplainedAt named → ExplainedAt asked → IsExplained (expr.property place table named asked)
  unfolding expr.property
  property_explained place table named asked a b c =
      then_caused _ _ (two_explained place table named a b) (λ both. then_caused _ _ (c place) (λ asked. column_property_explained both.0 both.1 asked))

  -- ---- chains

  each_operand_explained : (wanted : Kind) (place : Place) (walks : List Walk) → AllByRecursion ExplainedAt walks → IsExplained (each (operand wanted place) walks)
  each_operand_explained wanted place [] all = ok_caused []
  each_operand_explained wanted place (walk ∷ more) all =
      then_caused _ _ (operand_explained wanted place walk (all.0 place)) (λ _. then_caused _ _ (each_operand_explained wanted place more all.1) (λ _. ok_caused _))

  both_explained : (wanted : Kind) (left right : Typed) → IsExplained (both_of_kind wanted left right)
  unfolding both_of_kind
  both_explained wanted left right = then_caused _ _ (of_kind_explained wanted left) (λ _. then_caused _ _ (of_kind_explained wanted right) (λ _. ok_caused _))

  pub chain_explained : (wanted : Kind) (place : Place) (walks : List Walk) → AllByRecursion ExplainedAt walks → IsExplained (chain wanted place walks)
  unfolding chain
  chain_explained wanted place [] all = ok_caused []
  chain_explained wanted place (only ∷ []) all = then_caused _ _ (operand_explained wanted place only (all.0 place)) (λ _. ok_caused _)
  chain_explained wanted place (left ∷ right ∷ more) all =
      then_caused _ _ (two_explained place left right all.0 all.1.0)
      (λ walked. then_caused _ _ (both_explained wanted walked.0 walked.1) (λ _. then_caused _ _ (each_operand_explained wanted place more all.1.1) (λ _. ok_caused _)))

  abbrev pub TermExplained : TermWalk → Type 0
  TermExplained term = ExplainedAt term.1

  further_explained : (place : Place) (term : TermWalk) → TermExplained term → IsExplained (further_term place term)
  unfolding further_term
  further_explained place term w = then_caused _ _ (operand_explained Number place term.1 (w place)) (λ _. ok_caused _)

  each_further_explained : (place : Place) (terms : List TermWalk) → AllByRecursion TermExplained terms → IsExplained (each (further_term place) terms)
  each_further_explained place [] all = ok_caused []
  each_further_explained place (term ∷ more) all =
      then_caused _ _ (further_explained place term all.0) (λ _. then_caused _ _ (each_further_explained place more all.1) (λ _. ok_caused _))

  pub sum_explained : (place : Place) (first : Walk) (more : List TermWalk) → ExplainedAt first → AllByRecursion TermExplained more → IsExplained (sum place first more)
  unfolding sum
  sum_explained place first [] w all = then_caused _ _ (operand_explained Number place first (w place)) (λ _. ok_caused _)
  sum_explained place first (second ∷ more) w all =
      then_caused _ _ (two_explained place first second.1 w all.0)
      (λ walked. then_caused _ _ (both_explained Number walked.0 walked.1) (λ _. then_caused _ _ (each_further_explained place more all.1) (λ _. ok_caused _)))

  -- ---- tuples and versions

  pub values_explained : (place : Place) (kinds : List Kind) (walks : List Walk) → AllByRecursion ExplainedAt walks → IsExplained (values place kinds walks)
  unfolding values
  values_explained place [] walks all = ok_caused []
  values_explained place (kind ∷ kinds) [] all = ok_caused []
  values_explained place (kind ∷ kinds) (walk ∷ walks) all =
      then_caused _ _ (operand_explained kind place walk (all.0 place)) (λ _. then_caused _ _ (values_explained place kinds walks all.1) (λ _. ok_caused _))

  -- a tuple of so many values, for a list of so many columns
  tuple_explained : (place : Place) (kinds : List Kind) (walks : List Walk) (columns count : ℕ) → length kinds ≡ columns → length walks ≡ count → Contains mentioned (OfTuple (Some columns) count)
      → AllByRecursion ExplainedAt walks → IsExplained (tuple place kinds walks)
  unfolding tuple
  tuple_explained place kinds walks columns count wide long is all =
      met_caused (length walks == length kinds) (CountClash (length kinds) (length walks)) _
      (λ e. (differ (length walks) (length kinds) e, rw (wide, long) is)) (λ _. values_explained place kinds walks all)

  listed_kind_explained : (key : List Column) (before : List (List ℕ)) (name : List ℕ) → IsExplained (listed_kind key before name)
  unfolding listed_kind
  listed_kind_explained key before name =
      then_caused _ _ (or_caused (versions.key_column key name) (NoColumn name) (λ _. tt))
      (λ column. then_caused _ _ (demand_caused (not (is_among name before)) (NoColumn name) (λ _. tt)) (λ _. ok_caused (kind_of_column column)))

  none_missing_explained : (o : Option Column) → IsExplained (none_missing o)
  none_missing_explained None = ok_caused tt
  none_missing_explained (Some column) = err_caused (NoColumn column.name) tt

  listed_kinds_explained : (key : List Column) (names : List (List ℕ)) → IsExplained (listed_kinds key names)
  unfolding listed_kinds
  listed_kinds_explained key names =
      then_caused _ _ (each_after_caused (listed_kind key) [] names (all_everywhere (λ name. (before : List (List ℕ)) → IsExplained (listed_kind key before name)) (λ name before. listed_kind_explained key before name) names)) (λ _. then_caused _ _ (none_missing_explained (missing key names)) (λ _. ok_caused _))

  pub version_of_explained : (table : Schema) (names : List (List ℕ)) (walks : List Walk) (place : Place) (count : ℕ) → length walks ≡ count
      → Contains mentioned (OfTuple (Some (length names)) count) → AllByRecursion ExplainedAt walks → IsExplained (version_of table names walks place)
  unfolding version_of
  version_of_explained table names walks place count long is all =
      after_caused (listed_kinds (versions.key_columns table) names) _ (listed_kinds_explained (versions.key_columns table) names)
      (λ kinds made. then_caused _ _ (tuple_explained place kinds walks (length names) count (kinds_length (versions.key_columns table) names kinds made) long is all) (λ _. ok_caused _))

  key_column_from_explained : (name : List ℕ) (at : ℕ) (key : List Column) → IsExplained (key_column_from name at key)
  unfolding key_column_from
  key_column_from_explained name at [] = err_caused (NoColumn name) tt
  key_column_from_explained name at (first ∷ more) = cond_caused (same first.name name) _ _ (ok_caused _) (key_column_from_explained name (at + 1) more)

  version_column_explained : (table : Schema) (name : List ℕ) → IsExplained (version_column table name)
  unfolding version_column
  version_column_explained table name =
      cond_caused (same name (codes "SYS_CHANGE_VERSION")) _ _ (ok_caused _)
      (cond_caused (same name (codes "SYS_CHANGE_CONTEXT")) _ _ (ok_caused _) (key_column_from_explained name 0 (versions.key_columns table)))

  pub scalar_column_explained : (table : Schema) (source alias column : List ℕ) (version : BoundRowVersion) → IsExplained (expr.scalar_column table source alias column version)
  unfolding expr.scalar_column
  scalar_column_explained table source alias column version = then_caused _ _ (demand_caused _ (NoColumn source) (λ _. tt)) (λ _. then_caused _ _ (version_column_explained table column) (λ _. ok_caused _))

  pub number_explained : (digits : List ℕ) → Contains mentioned (OfNumber digits) → IsExplained (expr.number_literal digits)
  unfolding expr.number_literal
  number_explained digits is = then_caused _ _ (literal_explained digits is) (λ _. ok_caused _)

  pub variable_typed_explained : (name : List ℕ) → Contains mentioned (OfVariable name) → IsExplained (expr.variable tables variables name)
  unfolding expr.variable
  variable_typed_explained name is = then_caused _ _ (variable_explained name is) (λ _. ok_caused _)

-- what needs no more is a cause, whatever the settings are
pub widened : (tables : List Catalogued) (keep : Option Keep) (variables : List Variable) (statement : Stmt) (refusal : Refusal)
    → OfNames tables variables (of_statement statement) refusal → HasCause tables keep variables statement refusal
widened tables keep variables statement (NoObject name) cause = inl cause
widened tables keep variables statement Overflow cause = cause
widened tables keep variables statement (NotTracked name) cause = cause
widened tables keep variables statement (NoVariable name) cause = cause
widened tables keep variables statement (CountClash wanted got) cause = (cause.0, (Some wanted, cause.1, refl))
widened tables keep variables statement (NoColumn name) cause = tt
widened tables keep variables statement (Ambiguous name) cause = tt
widened tables keep variables statement TypeClash cause = tt
widened tables keep variables statement _ cause = absurd cause
