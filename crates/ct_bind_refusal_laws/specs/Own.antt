-- What binding may refuse. This project's own.
use Rattle.std.specs.Prelude.{◌≡◌, ◌≢◌, ◌<◌, ◌≤◌, ◌⊎◌, List, Option, Err}
use Rattle.ct_types.specs.declared.catalogue.Catalogued.{Catalogued}
use Rattle.ct_types.specs.declared.catalogue.Variable.{Variable}
use Rattle.ct_types.specs.declared.entry.Keep.{Keep}
use Rattle.ct_types.specs.declared.stmt.Stmt.{Stmt}
use Rattle.ct_types.specs.declared.refusal.Refusal.{Refusal}
use Rattle.ct_types.specs.declared.refusal.Refusal.TheVariants.{NoColumn, NoObject, Exists, Overflow, NotTracked, AlreadyTracked, TrackingOff, TypeClash, BadRetention, TablesTracked, BadTable, Ambiguous, NoVariable, VariableExists, KeyUpdate, CountClash, TooMany}
use Rattle.ct_bind.specs.Binding.{binding}

-- Which refusals are binding's. Counts that clash differ, and a limit is that of the rows of VALUES, of the columns of a
-- table, or of the tables. The rules of a table are six.
abbrev pub IsOfBinding : Refusal → Type 0
IsOfBinding (NoColumn name) = Unit {0}
IsOfBinding (NoObject name) = Unit {0}
IsOfBinding (Exists name) = Unit {0}
IsOfBinding Overflow = Unit {0}
IsOfBinding (NotTracked name) = Unit {0}
IsOfBinding (AlreadyTracked name) = Unit {0}
IsOfBinding TrackingOff = Unit {0}
IsOfBinding TypeClash = Unit {0}
IsOfBinding BadRetention = Unit {0}
IsOfBinding (TablesTracked count) = 0 < count
IsOfBinding (BadTable rule) = (0 < rule) × (rule ≤ 6)
IsOfBinding (Ambiguous name) = Unit {0}
IsOfBinding (NoVariable name) = Unit {0}
IsOfBinding (VariableExists name) = Unit {0}
IsOfBinding (KeyUpdate name) = Unit {0}
IsOfBinding (CountClash wanted got) = wanted ≢ got
IsOfBinding (TooMany limit) = (limit ≡ 1000) ⊎ ((limit ≡ 64) ⊎ (limit ≡ 256))
IsOfBinding _ = ⊥

-- whatever binding refuses is one of these
abbrev pub RefusesOnlyItsOwn : Type 0
RefusesOnlyItsOwn = (tables : List Catalogued) (keep : Option Keep) (variables : List Variable) (stmt : Stmt) (refusal : Refusal)
    → binding tables keep variables stmt ≡ Err refusal → IsOfBinding refusal
