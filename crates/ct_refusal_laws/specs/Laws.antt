-- What evaluation, queries and writes refuse.
use Rattle.std.specs.Prelude.{◌≡◌, List, Some, Err}
use Rattle.ct_types.specs.declared.bound.BoundExpr.{BoundExpr}
use Rattle.ct_types.specs.declared.bound.BoundWrite.{BoundWrite}
use Rattle.ct_types.specs.declared.bound.Plan.{Plan}
use Rattle.ct_types.specs.declared.catalogue.Catalogued.{Catalogued}
use Rattle.ct_types.specs.declared.refusal.Refusal.{Refusal}
use Rattle.ct_types.specs.declared.refusal.Refusal.TheVariants.{Overflow}
use Rattle.ct_types.specs.declared.value.Row.{Row}
use Rattle.ct_bind_kinds.specs.declared.kind.Kind.{Kind}
use Rattle.ct_bind_kinds.specs.declared.kind.Kind.TheVariants.{Number, Text, Bytes, Condition, Null}
use Rattle.ct_bind_kinds.specs.WellFormed.{Scope, kind_of}
use Rattle.ct_expr.specs.Meaning.{World, Scene, value, truth}
use Rattle.ct_query.specs.Answer.{answer}
use Rattle.ct_write.specs.Writes.{writes_of}
use Rattle.ct_refusal_laws.specs.Overflows.{Overflows}
use Rattle.ct_refusal_laws.specs.Queries.{AnswerOverflows}
use Rattle.ct_refusal_laws.specs.Writes.{WriteRefuses}

-- an expression that comes to no value refuses Overflow, at a part where a number leaves 64 bits
abbrev pub ValuesRefuseOverflow : Type 0
ValuesRefuseOverflow = (s : Scene) (x : BoundExpr) (refusal : Refusal) → value s x ≡ Err refusal → (refusal ≡ Overflow) × Overflows s x

-- so does a condition that comes to no truth
abbrev pub TruthsRefuseOverflow : Type 0
TruthsRefuseOverflow = (s : Scene) (x : BoundExpr) (refusal : Refusal) → truth s x ≡ Err refusal → (refusal ≡ Overflow) × Overflows s x

-- of an expression of this kind, what is asked for comes to Overflow: of a condition its truth, and else its value
abbrev pub ComesToOverflow : Kind → Scene → BoundExpr → Type 0
ComesToOverflow Condition s x = truth s x ≡ Err Overflow
ComesToOverflow Number s x = value s x ≡ Err Overflow
ComesToOverflow Text s x = value s x ≡ Err Overflow
ComesToOverflow Bytes s x = value s x ≡ Err Overflow
ComesToOverflow Null s x = value s x ≡ Err Overflow

-- a well-formed expression does so wherever a number leaves 64 bits at one of its parts
abbrev pub OverflowsAreRefused : Type 0
OverflowsAreRefused = (scope : Scope) (s : Scene) (x : BoundExpr) (kind : Kind) → kind_of scope x ≡ Some kind → Overflows s x → ComesToOverflow kind s x

-- a SELECT that is not answered refuses Overflow, in one of its expressions on a row on which that is evaluated
abbrev pub AnswersRefuseOverflow : Type 0
AnswersRefuseOverflow =
    (world : World) (plan : Plan) (lefts rights : List Row) (refusal : Refusal) → answer world plan lefts rights ≡ Err refusal → (refusal ≡ Overflow) × AnswerOverflows world plan lefts rights

-- what a write refuses has its cause: so it is Overflow, NotNull or TooLong
abbrev pub WritesRefuse : Type 0
WritesRefuse =
    (w : World) (table : Catalogued) (bound : BoundWrite) (rows : List Row) (refusal : Refusal) → writes_of w table bound rows ≡ Err refusal → WriteRefuses w table bound rows refusal
