-- Whatever binding refuses is its own to refuse, since each refusal has its cause: nothing else has one.
use Rattle.std.proofs.Common.{◌≡◌, ℕ, ◌+◌, ◌<◌, ◌≤◌, Bool, not, List, [], ◌∷◌, length, Option, Some, ◌⊎◌, inl, inr, arith}
use Rattle.std.specs.List.{position_from}
use Rattle.ct_types.specs.declared.catalogue.Catalogued.{Catalogued}
use Rattle.ct_types.specs.declared.catalogue.Variable.{Variable}
use Rattle.ct_types.specs.declared.entry.Keep.{Keep}
use Rattle.ct_types.specs.declared.refusal.Refusal.{Refusal}
use Rattle.ct_types.specs.declared.refusal.Refusal.TheVariants.{NoColumn, NoObject, Exists, Overflow, NotTracked, AlreadyTracked, TrackingOff, TypeClash, BadRetention, TablesTracked, BadTable, Ambiguous, NoVariable, VariableExists, KeyUpdate, CountClash, TooMany}
use Rattle.ct_types.specs.declared.stmt.Stmt.{Stmt}
use Rattle.ct_types.specs.declared.stmt.Stmt.TheVariants as stmt
use Rattle.ct_types.proofs.AnswersTaken.{some_or}
use Rattle.ct_bind_names.specs.Names.{table_name}
use Rattle.ct_bind_refusal_laws.specs.Causes.{rules, BreaksRule, HasCause}
use Rattle.ct_bind_refusal_laws.specs.Own.{IsOfBinding, RefusesOnlyItsOwn}
use Rattle.ct_bind_refusal_laws.proofs.Binding.{refusals_have_causes}

-- a place in a list is one of as many as the list is long
place_within : {X : Type 0} (test : X → Bool) (start : ℕ) (all : List X) (at : ℕ) → position_from test start all ≡ Some at → (start ≤ at) × (at < start + length all)
place_within test start [] at is = absurd cc
place_within test start (x ∷ more) at is =
    some_or (λ n. (start ≤ n) × (n < start + length (x ∷ more))) (test x) start at (position_from test (start + 1) more) (omega arith, omega arith)
    (λ later. let it = place_within test (start + 1) more at later in (omega arith, omega arith)) is

one_of_six : (statement : Stmt) (rule : ℕ) → BreaksRule statement rule → (0 < rule) × (rule ≤ 6)
one_of_six (stmt.CreateTable table columns key) rule breaks = let it = place_within not 1 (rules (table_name table) columns key) rule breaks in (omega arith, omega arith)
one_of_six (stmt.Declare variable type value) rule breaks = let is : rule ≡ 4 = breaks.0 in (omega arith, omega arith)
one_of_six _ rule breaks = absurd breaks

one_of_three : {A B C D E F G : Type 0} → (A × B) ⊎ ((C × D) ⊎ (E × F × G)) → A ⊎ (C ⊎ E)
one_of_three (inl it) = inl it.0
one_of_three (inr (inl it)) = inr (inl it.0)
one_of_three (inr (inr it)) = inr (inr it.0)

module _ (tables : List Catalogued) (keep : Option Keep) (variables : List Variable) (statement : Stmt) where
  own : (refusal : Refusal) → HasCause tables keep variables statement refusal → IsOfBinding refusal
  own (NoColumn name) cause = tt
  own (NoObject name) cause = tt
  own (Exists name) cause = tt
  own Overflow cause = tt
  own (NotTracked name) cause = tt
  own (AlreadyTracked name) cause = tt
  own TrackingOff cause = tt
  own TypeClash cause = tt
  own BadRetention cause = tt
  own (TablesTracked count) cause = cause.3
  own (BadTable rule) cause = one_of_six statement rule cause
  own (Ambiguous name) cause = tt
  own (NoVariable name) cause = tt
  own (VariableExists name) cause = tt
  own (KeyUpdate name) cause = tt
  own (CountClash wanted got) cause = cause.0
  own (TooMany limit) cause = one_of_three cause
  own _ cause = absurd cause

pub refuses_only_its_own : RefusesOnlyItsOwn
refuses_only_its_own tables keep variables statement refusal is = own tables keep variables statement refusal (refusals_have_causes tables keep variables statement refusal is)
