-- The laws of the causes of refusals. This project's own.
use Rattle.std.specs.Prelude.{◌≡◌, List, Option, Ok, Err}
use Rattle.ct_types.specs.declared.bound.Bound.{Bound}
use Rattle.ct_types.specs.declared.catalogue.Catalogued.{Catalogued}
use Rattle.ct_types.specs.declared.catalogue.Variable.{Variable}
use Rattle.ct_types.specs.declared.entry.Keep.{Keep}
use Rattle.ct_types.specs.declared.refusal.Refusal.{Refusal}
use Rattle.ct_types.specs.declared.stmt.Stmt.{Stmt}
use Rattle.ct_bind.specs.Binding.{binding}
use Rattle.ct_bind_refusal_laws.specs.Causes.{HasStatedCause, HasCause}

-- whatever binding refuses has the cause that is stated of its refusal
abbrev pub RefusalsHaveCauses : Type 0
RefusalsHaveCauses =
    (tables : List Catalogued) (keep : Option Keep) (variables : List Variable) (statement : Stmt) (refusal : Refusal)
    → binding tables keep variables statement ≡ Err refusal → HasCause tables keep variables statement refusal

-- what is bound has the cause of no refusal whose cause is stated: a statement with such a cause is refused
abbrev pub BoundHaveNoCause : Type 0
BoundHaveNoCause =
    (tables : List Catalogued) (keep : Option Keep) (variables : List Variable) (statement : Stmt) (bound : Bound)
    → binding tables keep variables statement ≡ Ok bound → (refusal : Refusal) → HasStatedCause refusal → ¬ HasCause tables keep variables statement refusal
