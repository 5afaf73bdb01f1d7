-- The table of an id: that it is found in changed tables too, with what holds of it.
use Rattle.std.proofs.Common.{◌≡◌, ℕ, Bool, true, false, cond, eqb, List, [], ◌∷◌, ◌++◌, map, Option, None, Some, refl, sym, subst, eqb-true}
use Rattle.std.specs.List.{AllByRecursion}
use Rattle.std.specs.Option.{IsSomeAnd}
use Rattle.ct_model.specs.declared.db.Table.{Table}
use Rattle.ct_model.specs.Tables.{table_of}

pub some_and_weaken : {X : Type 0} (P Q : X → Type 0) → ((x : X) → P x → Q x) → (o : Option X) → IsSomeAnd o P → IsSomeAnd o Q
some_and_weaken P Q weaken None h = h
some_and_weaken P Q weaken (Some x) h = weaken x h

pub some_and_both : {X : Type 0} (P Q R : X → Type 0) → ((x : X) → P x → Q x → R x) → (o : Option X) → IsSomeAnd o P → IsSomeAnd o Q
    → IsSomeAnd o R
some_and_both P Q R join None p q = p
some_and_both P Q R join (Some x) p q = join x p q

-- what holds of a table that is found among those of which each has a fact
pub found_has : (P Q R : Table → Type 0) → ((t : Table) → P t → Q t → R t) → (tables : List Table) (id : ℕ) → AllByRecursion P tables
    → IsSomeAnd (table_of tables id) Q → IsSomeAnd (table_of tables id) R
found_has P Q R join [] id all found = found
found_has P Q R join (t ∷ ts) id all found =
    let step : (b : Bool) → IsSomeAnd (cond b (Some t) (table_of ts id)) Q → IsSomeAnd (cond b (Some t) (table_of ts id)) R =
    elim [ true ↦ (λ q. join t all.0 q) | false ↦ (λ q. found_has P Q R join ts id all.1 q) ] in
    step (eqb t.schema.id id) found

-- a change that keeps the schemas keeps what is found
pub found_map : (P Q : Table → Type 0) (f : Table → Table) → ((t : Table) → (f t).schema ≡ t.schema) → ((t : Table) → P t → Q (f t))
    → (tables : List Table) (id : ℕ) → IsSomeAnd (table_of tables id) P → IsSomeAnd (table_of (map f tables) id) Q
found_map P Q f same keeps [] id found = found
found_map P Q f same keeps (t ∷ ts) id found =
    let step : (b : Bool) → IsSomeAnd (cond b (Some t) (table_of ts id)) P → IsSomeAnd (cond b (Some (f t)) (table_of (map f ts) id)) Q =
    elim [ true ↦ (λ p. keeps t p) | false ↦ (λ p. found_map P Q f same keeps ts id p) ] in
    subst (λ s. IsSomeAnd (cond (eqb s.id id) (Some (f t)) (table_of (map f ts) id)) Q) (sym (same t)) (step (eqb t.schema.id id) found)

-- what is found is found in more tables too
pub found_append : (P : Table → Type 0) (tables more : List Table) (id : ℕ) → IsSomeAnd (table_of tables id) P
    → IsSomeAnd (table_of (tables ++ more) id) P
found_append P [] more id found = elim found [ ]
found_append P (t ∷ ts) more id found =
    let step : (b : Bool) → IsSomeAnd (cond b (Some t) (table_of ts id)) P → IsSomeAnd (cond b (Some t) (table_of (ts ++ more) id)) P =
    elim [ true ↦ (λ p. p) | false ↦ (λ p. found_append P ts more id p) ] in
    step (eqb t.schema.id id) found

-- what is found by an id has it
pub found_itself : (P : Table → Type 0) (tables : List Table) (id : ℕ) → IsSomeAnd (table_of tables id) P
    → IsSomeAnd (table_of tables id) (λ t. (t.schema.id ≡ id) × P t)
found_itself P [] id found = found
found_itself P (t ∷ ts) id found =
    let step : (b : Bool) → b ≡ eqb t.schema.id id → IsSomeAnd (cond b (Some t) (table_of ts id)) P → IsSomeAnd (cond b (Some t) (table_of ts id)) (λ t. (t.schema.id ≡ id) × P t) =
    elim [ true ↦ (λ e p. (eqb-true _ _ (sym e), p)) | false ↦ (λ e p. found_itself P ts id p) ] in
    step (eqb t.schema.id id) refl found

-- a table that is found has the id that was looked for
pub found_id : (tables : List Table) (id : ℕ) (table : Table) → table_of tables id ≡ Some table → table.schema.id ≡ id
found_id tables id table is =
    let found : IsSomeAnd (table_of tables id) (λ t. Unit {0}) = rw is tt in
    (subst (λ o. IsSomeAnd o (λ t. (t.schema.id ≡ id) × Unit {0})) is (found_itself (λ t. Unit {0}) tables id found)).0
