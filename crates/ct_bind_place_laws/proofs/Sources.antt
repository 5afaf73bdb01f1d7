-- What FROM refuses of NoColumn, Ambiguous and TypeClash.
use Rattle.std.proofs.Common.{◌≡◌, Bool, true, false, not, List, [], ◌∷◌, map, Option, Some, None, Ok, inl, inr, refl}
use Rattle.std.specs.List.{list_any}
use Rattle.ct_types.specs.declared.bound.BoundExpr.{BoundExpr}
use Rattle.ct_types.specs.declared.catalogue.Catalogued.{Catalogued}
use Rattle.ct_types.specs.declared.catalogue.Variable.{Variable}
use Rattle.ct_types.specs.declared.expr.Expr.{Expr}
use Rattle.ct_types.specs.declared.expr.ObjectName.{ObjectName}
use Rattle.ct_types.specs.declared.refusal.Refusal.{Refusal}
use Rattle.ct_types.specs.declared.refusal.Refusal.TheVariants.{NoObject, Ambiguous, TypeClash}
use Rattle.ct_types.specs.declared.stmt.FromClause.{FromClause}
use Rattle.ct_types.specs.declared.stmt.JoinClause.{JoinClause}
use Rattle.ct_types.specs.declared.stmt.JoinClause.TheVariants as clause
use Rattle.ct_types.specs.declared.stmt.Source.{Source}
use Rattle.ct_types.specs.declared.stmt.Source.TheVariants as source
use Rattle.ct_types.specs.declared.stmt.TableSource.{TableSource}
use Rattle.ct_types.specs.declared.stmt.VersionSource.{VersionSource}
use Rattle.ct_types.specs.Answers.{Answer, ◌>>=◌, optional}
use Rattle.ct_types.proofs.AnswersCaused.{Caused, ok_caused, weaker, then_caused, after_caused, demand_caused, met_caused, or_caused}
use Rattle.ct_types.proofs.AnswersTaken.{there}
use Rattle.ct_bind_kinds.specs.declared.kind.Kind.{Kind}
use Rattle.ct_bind_kinds.specs.declared.kind.Kind.TheVariants.{Number, Condition}
use Rattle.ct_bind_names.specs.declared.catalogue.SystemTable.{SystemTable}
use Rattle.ct_bind_names.specs.Catalogue.{table_named, existing_table, tracked_table}
use Rattle.ct_bind_names.specs.Names.{same, table_name}
use Rattle.ct_bind_expr.specs.declared.place.Place.{Place}
use Rattle.ct_bind_expr.specs.declared.place.Shape.{Shape}
use Rattle.ct_bind_expr.specs.Places.{of_kind, closed, row_of}
use Rattle.ct_bind_expr.specs.Versions.{version_of}
use Rattle.ct_bind_expr.specs.Walk.{walk}
use Rattle.ct_bind.specs.Queries.{from_of}
use Rattle.ct_bind.specs.Sources.{unique, source_name, system_sourced, plain_sourced, table_by, table_source, condition, changes_source, version_source, one_source, joined_on, applied, joined_by, joined}
use Rattle.ct_bind_place_laws.specs.Causes.{HasCause}
use Rattle.ct_bind_place_laws.specs.Statements.{IsTaken, IsOfPlaces, Refuses, OptionRefuses, VersionRefuses, SourceRefuses, FromRefuses, SourcesRefuse}
use Rattle.ct_bind_place_laws.proofs.Members.{all_members}
use Rattle.ct_bind_place_laws.proofs.Versions.{tracked_by, tracked_is, version_of_by, not_true}
use Rattle.ct_bind_place_laws.proofs.Walked.{expressions_have_causes}

-- where the refusal is one of the three, it has this cause
abbrev pub Said : (Refusal → Type 0) → Refusal → Type 0
Said Cause refusal = IsOfPlaces refusal → Cause refusal

pub for_that : {A : Type 0} {Cause Other : Refusal → Type 0} (answer : Answer A) → ((refusal : Refusal) → Cause refusal → Other refusal) → Caused (Said Cause) answer → Caused (Said Other) answer
for_that answer go said = weaker answer (λ refusal cause is. go refusal (cause is)) said

-- a table that is there
pub existing_by : {Cause : Refusal → Type 0} (tables : List Catalogued) (name : ObjectName) → Caused (Said Cause) (existing_table tables name)
unfolding existing_table
existing_by tables name = or_caused (table_named tables (table_name name)) (NoObject (table_name name)) (λ none is. absurd is)

pub existing_is : (tables : List Catalogued) (name : ObjectName) (table : Catalogued) → existing_table tables name ≡ Ok table → table_named tables (table_name name) ≡ Some table
unfolding existing_table
existing_is tables name table e = there (table_named tables (table_name name)) (NoObject (table_name name)) table e

unique_by : (before : List Shape) (name : List _) → Caused (Said (IsTaken before name)) (unique before name)
unfolding unique
unique_by before name = demand_caused (not (list_any (λ (source : Shape). same source.name name) before)) (Ambiguous name) (λ e is. (refl, not_true (list_any (λ (source : Shape). same source.name name) before) e))

module _ (tables : List Catalogued) (variables : List Variable) where
  -- ---- expressions at their places

  pub walk_by : (place : Place) (x : Expr) → Caused (HasCause tables variables place x) (walk tables variables x place)
  walk_by place x = record { holds = λ refusal e. expressions_have_causes tables variables place x refusal e }

  pub kind_by : (place : Place) (kind : Kind) (x : Expr) → Caused (Said (Refuses tables variables place kind x)) (walk tables variables x place >>= of_kind kind)
  kind_by place kind x =
      after_caused (walk tables variables x place) (of_kind kind) (weaker (walk tables variables x place) (λ refusal cause is. inl cause) (walk_by place x))
      (λ it comes. met_caused _ TypeClash _ (λ e is. inr (refl, (it, comes, e))) (λ _. ok_caused _))

  pub optional_by : (place : Place) (kind : Kind) (step : Expr → Answer BoundExpr) → ((x : Expr) → Caused (Said (Refuses tables variables place kind x)) (step x)) → (o : Option Expr)
      → Caused (Said (OptionRefuses tables variables place kind o)) (optional step o)
  optional_by place kind step go None = ok_caused _
  optional_by place kind step go (Some x) = then_caused _ _ (go x) (λ bound. ok_caused _)

  pub condition_by : (place : Place) (x : Expr) → Caused (Said (Refuses tables variables place Condition x)) (condition tables variables place x)
  unfolding condition
  condition_by place x = kind_by place Condition x

  -- ---- sources

  version_source_by : (before : List Shape) (place : Place) (from : VersionSource) → Caused (Said (VersionRefuses tables variables before place from)) (version_source tables variables before place from)
  unfolding version_source
  version_source_by before place from =
      after_caused (tracked_table tables from.version.table) _ (tracked_by tables from.version.table (λ is. absurd is) (λ is. absurd is))
      (λ table found. then_caused (unique before from.alias) _ (for_that (unique before from.alias) (λ refusal cause. inl cause) (unique_by before from.alias))
      (λ free. then_caused (version_of table.schema from.version.columns (map (walk tables variables) from.version.values) place) _
      (version_of_by tables variables place table.schema from.version.columns from.version.values
      (all_members (λ y. Caused (Said (VersionRefuses tables variables before place from)) (walk tables variables y place)) from.version.values
      (λ y is. weaker (walk tables variables y place) (λ refusal cause places. inr (inr (y, is, cause))) (walk_by place y)))
      (λ wanted got is. absurd is) (λ name no is. inr (inl (table, tracked_is tables from.version.table table found, no)))
      (λ at y name column stands name_is column_is no is. inr (inl (table, tracked_is tables from.version.table table found, (at, y, name, column, stands, name_is, column_is, no))))) (λ bound. ok_caused _)))

  changes_by : (before : List Shape) (name : ObjectName) (since : Expr) (alias : List _) → Caused (Said (SourceRefuses tables variables before (source.Changes name since alias))) (changes_source tables variables before name since alias)
  unfolding changes_source
  changes_by before name since alias =
      then_caused (tracked_table tables name) _ (tracked_by tables name (λ is. absurd is) (λ is. absurd is))
      (λ table. then_caused (unique before alias) _ (for_that (unique before alias) (λ refusal cause. inl cause) (unique_by before alias))
      (λ free. then_caused (walk tables variables since closed >>= of_kind Number) _ (for_that (walk tables variables since closed >>= of_kind Number) (λ refusal cause. inr cause) (kind_by closed Number since)) (λ since. ok_caused _)))

  table_by_by : (is_alone : Bool) (before : List Shape) (from : TableSource) (o : Option SystemTable) → Caused (Said (SourceRefuses tables variables before (source.Table from))) (table_by tables is_alone before from o)
  unfolding system_sourced plain_sourced
  table_by_by is_alone before from (Some table) = met_caused is_alone (NoObject (table_name from.table)) _ (λ e is. absurd is) (λ _. ok_caused _)
  table_by_by is_alone before from None = then_caused (existing_table tables from.table) _ (existing_by tables from.table) (λ table. then_caused (unique before (source_name from)) _ (unique_by before (source_name from)) (λ free. ok_caused _))

  source_by : (is_alone : Bool) (before : List Shape) (it : Source) → Caused (Said (SourceRefuses tables variables before it)) (one_source tables variables is_alone before it)
  unfolding one_source table_source
  source_by is_alone before (source.Table from) = table_by_by is_alone before from _
  source_by is_alone before (source.Changes name since alias) = changes_by before name since alias
  source_by is_alone before (source.Version from) = version_source_by before closed from

  -- ---- joins

  joined_by_by : (from : Source) (join : Option JoinClause) → Caused (Said (FromRefuses tables variables from join)) (joined_by tables variables from join)
  unfolding joined_on applied
  joined_by_by from None = then_caused (one_source tables variables true [] from) _ (source_by true [] from) (λ first. ok_caused _)
  joined_by_by from (Some (clause.On kind other on)) =
      after_caused (one_source tables variables false [] from) _ (for_that (one_source tables variables false [] from) (λ refusal cause. inl cause) (source_by false [] from))
      (λ first comes. after_caused (one_source tables variables false (first.shape ∷ []) other) _
      (for_that (one_source tables variables false (first.shape ∷ []) other) (λ refusal cause. inr (first, comes, inl cause)) (source_by false (first.shape ∷ []) other))
      (λ second came. then_caused (condition tables variables (row_of (first.shape ∷ second.shape ∷ [])) on) _
      (for_that (condition tables variables (row_of (first.shape ∷ second.shape ∷ [])) on) (λ refusal cause. inr (first, comes, inr (second, came, cause))) (condition_by (row_of (first.shape ∷ second.shape ∷ [])) on))
      (λ on. ok_caused _)))
  joined_by_by from (Some (clause.Apply other)) =
      after_caused (one_source tables variables false [] from) _ (for_that (one_source tables variables false [] from) (λ refusal cause. inl cause) (source_by false [] from))
      (λ first comes. then_caused (version_source tables variables (first.shape ∷ []) (row_of (first.shape ∷ [])) other) _
      (for_that (version_source tables variables (first.shape ∷ []) (row_of (first.shape ∷ [])) other) (λ refusal cause. inr (first, comes, cause)) (version_source_by (first.shape ∷ []) (row_of (first.shape ∷ [])) other))
      (λ second. ok_caused _))

  pub from_by : (from : Option FromClause) → Caused (Said (SourcesRefuse tables variables from)) (from_of tables variables from)
  unfolding joined
  from_by None = ok_caused _
  from_by (Some from) = joined_by_by from.source from.join
