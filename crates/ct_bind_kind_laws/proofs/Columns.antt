-- The columns of a place, and the variables: what a name is found to be stands where it is said to stand.
use Rattle.std.proofs.Common.{◌≡◌, ℕ, ◌+◌, Bool, true, false, ◌==◌, List, [], ◌∷◌, ◌++◌, map, length, length-append, append_assoc, find, count_by, if◌then◌else◌, Option, Some, None, Ok, refl, sym, ap, ◌∙◌, subst}
use Rattle.std.specs.List.{AllByRecursion, slice_get}
use Rattle.std.specs.Option.{option_map}
use Rattle.std.proofs.lemmas.List.{length_push, length-map}
use Rattle.ct_types.specs.declared.bound.BoundExpr.TheVariants as bound
use Rattle.ct_types.specs.declared.bound.BoundExpr.TheOpen as b
use Rattle.ct_types.specs.declared.catalogue.Variable.{Variable}
use Rattle.ct_types.specs.declared.expr.ColumnName.{ColumnName}
use Rattle.ct_types.specs.declared.refusal.Refusal.TheVariants.{NoVariable}
use Rattle.ct_types.specs.declared.schema.ColType.{ColType}
use Rattle.ct_bind_kinds.specs.declared.kind.Kind.{Kind}
use Rattle.ct_bind_kinds.specs.Kinds.{kind_of_type}
use Rattle.ct_bind_kinds.specs.WellFormed.{Scope, kind_of}
use Rattle.ct_types.specs.Answers.{Answer, ◌>>=◌}
use Rattle.ct_bind_names.specs.Names.{same}
use Rattle.ct_bind_names.specs.Catalogue.{variable_from, declared_variable}
use Rattle.ct_bind_expr.specs.declared.place.Typed.{Typed}
use Rattle.ct_bind_expr.specs.declared.place.Shown.{Shown}
use Rattle.ct_bind_expr.specs.declared.place.Shape.{Shape}
use Rattle.ct_bind_expr.specs.declared.place.Output.{Output}
use Rattle.ct_bind_expr.specs.declared.place.Spot.{Spot}
use Rattle.ct_bind_expr.specs.declared.place.Place.{Place}
use Rattle.ct_bind_expr.specs.Places.{typed, spot, named, named_in, named_of, column_at, only, is_output, output_at, plain_by, plain_column, column_of_source, column_in, column}
use Rattle.ct_bind_kind_laws.specs.Laws.{row_kinds, StandsIn, Shows}
use Rattle.ct_types.proofs.AnswersTaken.{steps, same_Ok, there, ok_or, some_or}
use Rattle.ct_types.proofs.Lists.{at_end, all_append, all_one, all_found}
use Rattle.ct_bind_kind_laws.proofs.Operators.{Kinded, Answered, layer}

-- ---- the columns of sources

-- what stands behind those before it
pub stands_here : {X : Type 0} (whole before : List X) (x : X) (after : List X) (at : ℕ) → whole ≡ before ++ x ∷ after → at ≡ length before → slice_get whole at ≡ Some x
stands_here whole before x after at is far = ap (λ xs. slice_get xs at) is ∙ ap (slice_get (before ++ x ∷ after)) far ∙ at_end before x after

pub one_further : {X : Type 0} (before : List X) (x : X) (at : ℕ) → at ≡ length before → at + 1 ≡ length (before ++ x ∷ [])
one_further before x at far = ap (λ n. n + 1) far ∙ sym (length_push before x)

pub behind_one : {X : Type 0} (whole before : List X) (x : X) (after : List X) → whole ≡ before ++ x ∷ after → whole ≡ (before ++ x ∷ []) ++ after
behind_one whole before x after is = is ∙ sym (append_assoc before (x ∷ []) after)

module _ (columns : List Kind) where
  -- the next source begins behind this one
  pub next_source : (before : List Kind) (source : Shape) (more : List Shape) (after : List Kind) → columns ≡ before ++ (row_kinds (source ∷ more) ++ after)
      → columns ≡ (before ++ map (λ (column : Shown). column.kind) source.columns) ++ (row_kinds more ++ after)
  next_source before source more after is =
      let here : List Kind = map (λ (column : Shown). column.kind) source.columns in
      is ∙ ap (λ ks. before ++ ks) (append_assoc here (row_kinds more) after) ∙ sym (append_assoc before here (row_kinds more ++ after))

  pub this_source : (before : List Kind) (source : Shape) (more : List Shape) (after : List Kind) → columns ≡ before ++ (row_kinds (source ∷ more) ++ after)
      → columns ≡ before ++ (map (λ (column : Shown). column.kind) source.columns ++ (row_kinds more ++ after))
  this_source before source more after is = is ∙ ap (λ ks. before ++ ks) (append_assoc (map (λ (column : Shown). column.kind) source.columns) (row_kinds more) after)

  pub source_further : (before : List Kind) (source : Shape) (at : ℕ) → at ≡ length before → at + length source.columns ≡ length (before ++ map (λ (column : Shown). column.kind) source.columns)
  source_further before source at far =
      ap (λ n. n + length source.columns) far ∙ ap (λ n. length before + n) (sym (length-map source.columns (λ (column : Shown). column.kind)))
      ∙ sym (length-append before (map (λ (column : Shown). column.kind) source.columns))

module _ (name : List ℕ) (columns : List Kind) where
  named_stand : (at : ℕ) (before : List Kind) (shown : List Shown) (after : List Kind) → columns ≡ before ++ (map (λ (column : Shown). column.kind) shown ++ after) → at ≡ length before
      → AllByRecursion (StandsIn columns) (named name at shown)
  unfolding named
  named_stand at before [] after is far = tt
  named_stand at before (column ∷ more) after is far =
      all_one (StandsIn columns) (same column.name name) (spot at column.kind) (named name (at + 1) more)
      (stands_here columns before column.kind (map (λ (column : Shown). column.kind) more ++ after) at is far)
      (named_stand (at + 1) (before ++ column.kind ∷ []) more after (behind_one columns before column.kind (map (λ (column : Shown). column.kind) more ++ after) is) (one_further before column.kind at far))

  named_in_stand : (at : ℕ) (before : List Kind) (sources : List Shape) (after : List Kind) → columns ≡ before ++ (row_kinds sources ++ after) → at ≡ length before
      → AllByRecursion (StandsIn columns) (named_in name at sources)
  unfolding named_in
  named_in_stand at before [] after is far = tt
  named_in_stand at before (source ∷ more) after is far =
      all_append (StandsIn columns) (named name at source.columns) (named_in name (at + length source.columns) more)
      (named_stand at before source.columns (row_kinds more ++ after) (this_source columns before source more after is) far)
      (named_in_stand (at + length source.columns) (before ++ map (λ (column : Shown). column.kind) source.columns) more after (next_source columns before source more after is) (source_further columns before source at far))

  named_of_stand : (wanted : List ℕ) (at : ℕ) (before : List Kind) (sources : List Shape) (after : List Kind) (spots : List Spot) → columns ≡ before ++ (row_kinds sources ++ after) → at ≡ length before
      → named_of wanted name at sources ≡ Ok spots → AllByRecursion (StandsIn columns) spots
  unfolding named_of
  named_of_stand wanted at before [] after spots is far e = absurd cc
  named_of_stand wanted at before (source ∷ more) after spots is far e =
      ok_or (AllByRecursion (StandsIn columns)) (same source.name wanted) (named name at source.columns) spots (named_of wanted name (at + length source.columns) more)
      (named_stand at before source.columns (row_kinds more ++ after) (this_source columns before source more after is) far)
      (named_of_stand wanted (at + length source.columns) (before ++ map (λ (column : Shown). column.kind) source.columns) more after spots (next_source columns before source more after is) (source_further columns before source at far))
      e

-- ---- what a name means

module _ (s : Scope) where
  pub spot_kinded : (it : Spot) → StandsIn s.columns it → Kinded s (column_at it)
  spot_kinded it stands = ap (kind_of s) (sym (bound.rolls-Column it.place)) ∙ layer s (b.Column it.place) ∙ stands

  only_kinded : (name : List ℕ) (spots : List Spot) → AllByRecursion (StandsIn s.columns) spots → Answered s (only name spots)
  unfolding only
  only_kinded name [] stand it e = absurd cc
  only_kinded name (one ∷ []) stand it e = subst (Kinded s) (same_Ok (column_at one) it e) (spot_kinded one stand.0)
  only_kinded name (one ∷ other ∷ more) stand it e = absurd cc

  output_stands : (name : List ℕ) (outputs : List Output) (output : Output) (test : Bool) → AllByRecursion (λ output. StandsIn s.columns output.spot) outputs
      → (if test then find (is_output name) outputs else None) ≡ Some output → StandsIn s.columns output.spot
  output_stands name outputs output true stand e = all_found (λ output. StandsIn s.columns output.spot) (is_output name) outputs output stand e
  output_stands name outputs output false stand e = absurd cc

  plain_kinded : (place : Place) (name : List ℕ) (found : Option Output) → Shows place s.columns → output_at name place.outputs ≡ found → Answered s (plain_by place name found)
  unfolding output_at
  plain_kinded place name (Some output) shows is it e =
      subst (Kinded s) (same_Ok (column_at output.spot) it e) (spot_kinded output.spot (output_stands name place.outputs output (count_by (is_output name) place.outputs == 1) shows.outputs is))
  plain_kinded place name None shows is it e = only_kinded name (named_in name 0 place.sources) (named_in_stand name s.columns 0 [] place.sources shows.others shows.sources refl) it e

  column_in_kinded : (place : Place) (source : Option (List ℕ)) (name : List ℕ) → Shows place s.columns → Answered s (column_in place source name)
  unfolding plain_column column_of_source
  column_in_kinded place None name shows it e = plain_kinded place name (output_at name place.outputs) shows refl it e
  column_in_kinded place (Some source) name shows it e =
      let p = steps (named_of source name 0 place.sources) (only name) it e in
      only_kinded name p.came (named_of_stand name s.columns source 0 [] place.sources shows.others p.came shows.sources refl p.is) it p.goes

  closed_or : (test : Bool) (answer : Answer Typed) (refused : Answer Typed) → Answered s refused → Answered s answer → Answered s (if test then refused else answer)
  closed_or true answer refused first second = first
  closed_or false answer refused first second = second

  pub column_kinded : (place : Place) (name : ColumnName) → Shows place s.columns → Answered s (column place name)
  unfolding column
  column_kinded place name shows = closed_or place.is_closed (column_in place name.source name.column) _ (λ it e. absurd cc) (column_in_kinded place name.source name.column shows)

-- ---- variables

pub variable_stands : (name : List ℕ) (types before : List ColType) (at : ℕ) (variables : List Variable) (found : ℕ × ColType) → types ≡ before ++ map (λ (variable : Variable). variable.kind) variables → at ≡ length before
    → variable_from name at variables ≡ Some found → slice_get types found.0 ≡ Some found.1
unfolding variable_from
variable_stands name types before at [] found is far e = absurd cc
variable_stands name types before at (variable ∷ more) found is far e =
    some_or (λ it. slice_get types it.0 ≡ Some it.1) (same variable.name name) (at, variable.kind) found (variable_from name (at + 1) more)
    (stands_here types before variable.kind (map (λ (variable : Variable). variable.kind) more) at is far)
    (variable_stands name types (before ++ variable.kind ∷ []) (at + 1) more found (behind_one types before variable.kind (map (λ (variable : Variable). variable.kind) more) is) (one_further before variable.kind at far))
    e

pub variable_kinded : (s : Scope) (variables : List Variable) (name : List ℕ) → s.variables ≡ map (λ (variable : Variable). variable.kind) variables
    → (it : Typed) → (declared_variable variables name >>= (λ at. Ok (typed (bound.Variable at.0) (kind_of_type at.1)))) ≡ Ok it → Kinded s it
unfolding declared_variable
variable_kinded s variables name is it e =
    let p = steps (declared_variable variables name) (λ at. Ok (typed (bound.Variable at.0) (kind_of_type at.1))) it e in
    let at : ℕ × ColType = p.came in
    let found : slice_get s.variables at.0 ≡ Some at.1 = variable_stands name s.variables [] 0 variables at is refl (there (variable_from name 0 variables) (NoVariable name) at p.is) in
    subst (Kinded s) (same_Ok (typed (bound.Variable at.0) (kind_of_type at.1)) it p.goes)
    (ap (kind_of s) (sym (bound.rolls-Variable at.0)) ∙ layer s (b.Variable at.0) ∙ ap (option_map kind_of_type) found)
