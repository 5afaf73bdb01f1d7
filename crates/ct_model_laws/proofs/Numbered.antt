-- Tables that are numbered: each is found by its id, and an id that is found is not past their count.
use Rattle.std.proofs.Common.{◌≡◌, ◌≢◌, ◌≤◌, ◌<◌, ◌+◌, ℕ, Bool, true, false, cond, eqb, eqb-true, eq-eqb, ne_eqb, List, [], ◌∷◌, length, Some, sym, ap, ◌∙◌, refl, arith}
use Rattle.std.specs.List.{AllByRecursion}
use Rattle.std.specs.Option.{IsSomeAnd}
use Rattle.ct_model.specs.declared.db.Table.{Table}
use Rattle.ct_model.specs.Tables.{table_of}
use Rattle.ct_model.specs.Valid.{AreNumbered}
use Rattle.ct_model.proofs.Members.{all_weaken}

-- each numbered table is found by its id
pub each_itself : (first : ℕ) (tables : List Table) → AreNumbered first tables → AllByRecursion (λ t. (first ≤ t.schema.id) × (table_of tables t.schema.id ≡ Some t)) tables
each_itself first [] numbered = tt
each_itself first (t ∷ ts) numbered = (
  (omega (arith, numbered.0), ap (λ (b : Bool). cond b (Some t) (table_of ts t.schema.id)) (eq-eqb t.schema.id t.schema.id refl)),
  all_weaken (λ u. (first + 1 ≤ u.schema.id) × (table_of ts u.schema.id ≡ Some u)) _
      (λ (u : Table) rest.
      let other : t.schema.id ≢ u.schema.id = (λ e. absurd (omega (arith, numbered.0, rest.0, e))) in
      (omega (arith, rest.0), ap (λ (b : Bool). cond b (Some t) (table_of ts u.schema.id)) (ne_eqb t.schema.id u.schema.id other) ∙ rest.1)) ts (each_itself (first + 1) ts numbered.1),
)

-- the id of a table that is there is not past their count
pub found_within : (first : ℕ) (tables : List Table) (id : ℕ) → AreNumbered first tables → IsSomeAnd (table_of tables id) (λ t. Unit {0}) → id < first + length tables
found_within first [] id numbered found = absurd found
found_within first (t ∷ ts) id numbered found =
    let step : (b : Bool) → b ≡ eqb t.schema.id id → IsSomeAnd (cond b (Some t) (table_of ts id)) (λ t. Unit {0}) → id < first + length (t ∷ ts) =
    elim [
      | true ↦ (λ e there. let same : t.schema.id ≡ id = eqb-true _ _ (sym e) in omega (arith, numbered.0, same))
      | false ↦ (λ e there. let later = found_within (first + 1) ts id numbered.1 there in omega (arith, later))
    ] in
    step (eqb t.schema.id id) refl found
