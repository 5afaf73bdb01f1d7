-- The same rules on operands that are walked already.
use Rattle.std.specs.Prelude.{◌≡◌, ℕ, Bool, List, [], ◌∷◌, ◌++◌, ◌==◌, map, slice_get, slice_set, Option, Some, None, Ok}
use Rattle.ct_types.specs.declared.bound.BoundExpr.{BoundExpr}
use Rattle.ct_types.specs.declared.bound.BoundRowVersion.{BoundRowVersion}
use Rattle.ct_types.specs.declared.bound.BoundTerm.{BoundTerm}
use Rattle.ct_types.specs.declared.bound.VersionColumn.{VersionColumn}
use Rattle.ct_types.specs.declared.catalogue.Catalogued.{Catalogued}
use Rattle.ct_types.specs.declared.expr.Scalar.{Scalar}
use Rattle.ct_types.specs.declared.refusal.Refusal.TheVariants.{NoColumn, CountClash, TypeClash}
use Rattle.ct_types.specs.declared.schema.Schema.{Schema}
use Rattle.ct_bind_kinds.specs.declared.kind.Kind.{Kind}
use Rattle.ct_bind_kinds.specs.declared.kind.Kind.TheVariants.{Number}
use Rattle.ct_types.specs.Answers.{Answer, ◌>>=◌, ◌>>◌, demand}
use Rattle.ct_bind_names.specs.Names.{same}
use Rattle.ct_bind_names.specs.Catalogue.{tracked_table}
use Rattle.ct_bind_expr.specs.declared.place.Typed.{Typed}
use Rattle.ct_bind_expr.specs.Places.{typed, closed, of_kind}
use Rattle.ct_bind_expr.specs.Versions.{Walk, version_of, version_column}
use Rattle.ct_bind_expr.specs.Walk.{both_of_kind, term, sum_typed, scalar_column}

-- what is walked already comes to the same at every place
abbrev pub walked : Answer Typed → Walk
walked answer place = answer

-- two operands, from left to right
abbrev pub both : {A B : Type 0} → Answer A → Answer B → Answer (A × B)
both left right = do
  left ← left
  right ← right
  Ok (left, right)

-- an operator, on what its operands come to
abbrev pub of_one : {A : Type 0} → (A → Answer Typed) → Answer A → Answer Typed
of_one rule operand = operand >>= rule

abbrev pub of_two : {A B : Type 0} → (A → B → Answer Typed) → Answer A → Answer B → Answer Typed
of_two rule left right = both left right >>= (λ it. rule it.0 it.1)

abbrev pub of_three : (Typed → Typed → Typed → Answer Typed) → Answer Typed → Answer Typed → Answer Typed → Answer Typed
of_three rule first second third = both first (both second third) >>= (λ it. rule it.0 it.1.0 it.1.1)

-- a value, where a test holds, and two
abbrev pub meant : {A : Type 0} → Bool → A → Answer A
meant is_meant value = demand is_meant TypeClash >> Ok value

abbrev pub together : {A : Type 0} → Bool → A → A → Answer (A × A)
together go_together left right = demand go_together TypeClash >> Ok (left, right)

-- what is made of what an answer comes to
abbrev pub made_of : {A B : Type 0} → (A → B) → Answer A → Answer B
made_of make answer = answer >>= (λ it. Ok (make it))

-- one more item
abbrev pub extended : {A : Type 0} → List A → Answer A → Answer (List A)
extended made item = made_of (λ it. made ++ it ∷ []) item

-- an operand of this kind
abbrev pub asked : Kind → Answer Typed → Answer BoundExpr
asked wanted answer = answer >>= of_kind wanted

-- an operand of a sum after the first
abbrev pub asked_term : Bool → Answer Typed → Answer BoundTerm
asked_term subtracts answer = made_of (term subtracts) (asked Number answer)

-- The operands on both sides of the first operator of a chain, which are walked before the operator is tested: a
-- refusal of one of them comes before the clash of another kind.
abbrev pub two_asked : Kind → Answer Typed → Answer Typed → Answer (BoundExpr × BoundExpr)
two_asked wanted left right = both left right >>= (λ it. both_of_kind wanted it.0 it.1)

-- the same, of a chain whose operands are walked
abbrev pub first_two : List (Answer Typed) → Answer (Unit {0})
first_two (first ∷ second ∷ more) = both first second >> Ok tt
first_two answers = Ok tt

-- the two as the first of a chain
abbrev pub begun : BoundExpr × BoundExpr → List BoundExpr
begun two = two.0 ∷ two.1 ∷ []

-- and as those of a sum
abbrev pub begun_sum : Bool → BoundExpr × BoundExpr → BoundExpr × List BoundTerm
begun_sum subtracts two = (two.0, term subtracts two.1 ∷ [])

-- and one that is alone there
abbrev pub alone_in_sum : BoundExpr → BoundExpr × List BoundTerm
alone_in_sum only = (only, [])

-- a chain of operands of one kind, which has that kind too
abbrev pub of_chain : Kind → (List BoundExpr → BoundExpr) → Answer (List BoundExpr) → Answer Typed
of_chain kind made operands = made_of (λ all. typed (made all) kind) operands

abbrev pub of_sum : Answer (BoundExpr × List BoundTerm) → Answer Typed
of_sum operands = made_of (λ it. sum_typed it.0 it.1) operands

-- as many values as were wanted
abbrev pub as_many : ℕ → ℕ → Answer (Unit {0})
as_many wanted got = demand (got == wanted) (CountClash wanted got)

-- the column of the scalar form, whose first name is the alias of its own source
abbrev pub shown_column : Schema → Scalar → Answer (VersionColumn × Kind)
shown_column table scalar = demand (same scalar.source scalar.alias) (NoColumn scalar.source) >> version_column table scalar.column

-- the scalar form, whose list and tuple are bound
abbrev pub scalar_of : Schema → Scalar → Answer BoundRowVersion → Answer Typed
scalar_of table scalar version = version >>= scalar_column table scalar.source scalar.alias scalar.column

-- the scalar form, the values of whose tuple are walked
unfoldable pub scalar_with : List Catalogued → Scalar → List (Answer Typed) → Answer Typed
scalar_with tables scalar answers = do
  table ← tracked_table tables scalar.version.table
  version ← version_of table.schema scalar.version.columns (map walked answers) closed
  scalar_column table.schema scalar.source scalar.alias scalar.column version

-- ---- values that are taken out of a list, each where it stands

-- what is taken from there, and what is left
abbrev pub Takes : {A : Type 0} → List (Option A) → ℕ → Option A → List (Option A) → Type 0
Takes old at None new = (slice_get old at ≡ None) × (new ≡ old)
Takes old at (Some a) new = (slice_get old at ≡ Some (Some a)) × (new ≡ slice_set old at None)

abbrev pub TakesFrom : {A : Type 0} → Option ℕ → List (Option A) → Option A → List (Option A) → Type 0
TakesFrom None old taken new = (taken ≡ None) × (new ≡ old)
TakesFrom (Some at) old taken new = Takes old at taken new
