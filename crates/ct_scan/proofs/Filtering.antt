-- WHERE over the rows with the pinned value.
use Rattle.std.proofs.Common.{◌≡◌, ℕ, ◌-◌, nat_lt, Bool, true, false, cond, List, [], ◌∷◌, Option, Some, None, Ok, Err, refl, sym, ap, ◌∙◌, if◌then◌else◌}
use Rattle.std.specs.List.{AllByRecursion, filter, slice_get}
use Rattle.ct_types.specs.declared.bound.BoundExpr.{BoundExpr}
use Rattle.ct_types.specs.declared.value.Row.{Row}
use Rattle.ct_types.specs.declared.value.Value.{Value}
use Rattle.ct_types.specs.Answers.{Answer, ◌>>=◌}
use Rattle.ct_types.proofs.Lists.{all_everywhere}
use Rattle.ct_source.specs.Cells.{has_value}
use Rattle.ct_expr.specs.Conditions.{only}
use Rattle.ct_expr.specs.Meaning.{World, on, meaning, holds}
use Rattle.ct_expr.specs.Numbers.{is_null}
use Rattle.ct_scan.specs.Laws.{PinnedOver, PinnedRows}
use Rattle.ct_scan.specs.Readings.{Reading, reading, pinned, pin_of}
use Rattle.ct_scan.specs.Seen.{Seen, nothing, Agrees}
use Rattle.ct_scan.proofs.Holding.{IsOf, every}
use Rattle.ct_scan.proofs.Steps.{not_true}

-- ---- a test that is false of all that another test leaves out

one_more : {A : Type 0} (test : A → Answer Bool) (x : A) (takes : Bool) (more : List A) (rest : Answer (List A)) → (takes ≡ false → test x ≡ Ok false) → only test more ≡ rest
    → (test x >>= (λ passes. rest >>= (λ found. Ok (if passes then x ∷ found else found)))) ≡ only test (cond takes (x ∷ more) more)
one_more {A = A} test x true more rest out e = ap (λ (o : Answer (List A)). test x >>= (λ passes. o >>= (λ found. Ok (if passes then x ∷ found else found)))) (sym e)
one_more test x false more (Ok found) out e = rw (out refl) (sym e)
one_more test x false more (Err refusal) out e = rw (out refl) (sym e)

only_those : {A : Type 0} (test : A → Answer Bool) (takes : A → Bool) (P : A → Type 0) → ((x : A) → P x → takes x ≡ false → test x ≡ Ok false) → (xs : List A)
    → AllByRecursion P xs → only test xs ≡ only test (filter takes xs)
only_those test takes P out [] all = refl
only_those test takes P out (x ∷ xs) all = one_more test x (takes x) (filter takes xs) (only test xs) (out x all.0) (sym (only_those test takes P out xs all.1))

-- ---- a row with another value

parts_of : (told : Reading) (v : Value) → pin_of told ≡ Some v → (told.quiet ≡ true) × (told.pins ≡ Some v)
parts_of told v e = by told.quiet told.pins e
  where
    by : (quiet : Bool) (pins : Option Value) → (if quiet then pins else None) ≡ Some v → (quiet ≡ true) × (pins ≡ Some v)
    by true pins e = (refl, e)
    by false pins e = absurd cc

-- a condition is false on a row that cannot have the value that it pins a column to
out_by : (world : World) (seen : Seen) (at : ℕ) (condition : BoundExpr) (v : Value) → pinned world.env seen at condition ≡ Some v
    → (row : Row) → Agrees seen row → ((has_value at v row ≡ true) × (is_null v ≡ false) → false ≡ true) → holds world (Some condition) row ≡ Ok false
out_by world seen at condition v pins row agrees cannot =
    let told = parts_of (reading world.env seen at condition) v pins in
    let is : IsOf (on world row) seen at agrees (reading world.env seen at condition) (meaning (on world row) condition) = every (on world row) seen at agrees condition in
    not_true (meaning (on world row) condition).truth (is.truth told.0) (λ e. cannot (is.pins v told.1 e))

left_out : (world : World) (seen : Seen) (at : ℕ) (condition : BoundExpr) (v : Value) → pinned world.env seen at condition ≡ Some v
    → (row : Row) → Agrees seen row → has_value at v row ≡ false → holds world (Some condition) row ≡ Ok false
left_out world seen at condition v pins row agrees other = out_by world seen at condition v pins row agrees (λ has. sym other ∙ has.0)

none_kept : {A : Type 0} (test : A → Answer Bool) (P : A → Type 0) → ((x : A) → P x → test x ≡ Ok false) → (xs : List A) → AllByRecursion P xs → only test xs ≡ Ok []
none_kept test P out [] all = refl
none_kept test P out (x ∷ xs) all = rw (out x all.0, none_kept test P out xs all.1) refl

-- of rows that have the values that are seen, a condition keeps none where it pins a column to NULL
pub never_null : (world : World) (seen : Seen) (at : ℕ) (condition : BoundExpr) (v : Value) (joined : Row → Row) (rows : List Row)
    → AllByRecursion (λ row. Agrees seen (joined row)) rows → pinned world.env seen at condition ≡ Some v → is_null v ≡ true
    → only (λ row. holds world (Some condition) (joined row)) rows ≡ Ok []
never_null world seen at condition v joined rows agree pins null =
    none_kept (λ row. holds world (Some condition) (joined row)) (λ row. Agrees seen (joined row)) (λ row agrees. out_by world seen at condition v pins (joined row) agrees (λ has. sym has.1 ∙ null)) rows agree

pub pinned_over : PinnedOver
pinned_over world seen at condition v joined rows agree pins =
    only_those (λ row. holds world (Some condition) (joined row)) (λ row. has_value at v (joined row)) (λ row. Agrees seen (joined row))
    (λ row agrees. left_out world seen at condition v pins (joined row) agrees) rows agree

-- where nothing is seen, each row agrees
none_there : (before : Bool) (place : ℕ) (x : Value) → (if before then None else slice_get {X = Value} [] place) ≡ Some x → ⊥
none_there true place x e = cc
none_there false place x e = cc

nothing_agrees : (row : Row) → Agrees nothing row
nothing_agrees row place x e = absurd (none_there (nat_lt place 0) (place - 0) x e)

pub pinned_rows : PinnedRows
pinned_rows world at condition v rows pins = pinned_over world nothing at condition v (λ row. row) rows (all_everywhere (Agrees nothing) nothing_agrees rows) pins
