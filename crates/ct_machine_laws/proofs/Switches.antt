-- CREATE TABLE, ENABLE, DISABLE and TRUNCATE come to acts that apply.
use Rattle.std.proofs.Common.{◌≡◌, ◌≢◌, ◌≤◌, ◌<◌, ℕ, ◌+◌, Bool, true, false, not, cond, eqb, List, [], ◌∷◌, length, map, find, Option, Some, None, is_some, refl, sym, ap, subst, ◌∙◌, arith, eqb-true, eq-eqb}
use Rattle.std.specs.List.{AllByRecursion}
use Rattle.std.specs.Option.{IsSomeAnd}
use Rattle.std.proofs.lemmas.List.{length-map}
use Rattle.ct_types.specs.declared.bound.Bound.{Bound}
use Rattle.ct_types.specs.declared.bound.Bound.TheVariants.{EnableTracking, DisableTracking, TruncateTable}
use Rattle.ct_types.specs.declared.catalogue.Catalogued.{Catalogued}
use Rattle.ct_types.specs.declared.catalogue.Variable.{Variable}
use Rattle.ct_types.specs.declared.entry.Act.TheVariants.{Truncate, Enable, Disable}
use Rattle.ct_types.specs.declared.expr.ObjectName.{ObjectName}
use Rattle.ct_types.specs.declared.refusal.Refusal.TheVariants.{AlreadyTracked, NoObject, NotTracked, TrackingOff}
use Rattle.ct_types.specs.declared.schema.Schema.{Schema}
use Rattle.ct_types.specs.declared.tracked.Tracked.{Tracked}
use Rattle.ct_types.specs.Answers.{demand}
use Rattle.ct_model.specs.declared.db.Db.{Db}
use Rattle.ct_model.specs.declared.db.Table.{Table}
use Rattle.ct_model.specs.Applies.{ActApplies, IsNewSchema}
use Rattle.ct_model.specs.Names.{folded}
use Rattle.ct_model.specs.Tables.{catalogued, table_of}
use Rattle.ct_model.specs.Valid.{AreNumbered}
use Rattle.ct_model.proofs.Found.{some_and_weaken}
use Rattle.ct_bind_names.specs.Catalogue.{table_named, existing_table, tracked_table}
use Rattle.ct_bind_names.specs.Names.{same, table_name}
use Rattle.ct_bind_definition.specs.Definitions.{enable, disable}
use Rattle.ct_bind.specs.Binding.{truncate}
use Rattle.ct_machine.specs.Step.{is_tracked}
use Rattle.ct_machine_laws.specs.Acts.{CreatesApply, EnablesApply, DisablesApply, TruncatesApply}
use Rattle.ct_machine_laws.specs.Schemas.{IsNewTable}
use Rattle.ct_machine_laws.proofs.Creating.{creates_definable}
use Rattle.ct_types.proofs.AnswersKept.{Kept, ok_kept, then_kept, met_kept, found_kept}

-- ---- CREATE TABLE

unmapped : {X Y : Type 0} (P : Y → Type 0) (f : X → Y) (xs : List X) → AllByRecursion P (map f xs) → AllByRecursion (λ x. P (f x)) xs
unmapped P f [] all = tt
unmapped P f (x ∷ xs) all = (all.0, unmapped P f xs all.1)

pub new_schema : (tables : List Table) (schema : Schema) → IsNewTable (map catalogued tables) schema → IsNewSchema tables schema
new_schema tables schema is =
    let many : length (map catalogued tables) ≡ length tables = length-map tables catalogued in
    record {
      id = is.id ∙ ap (λ n. n + 1) many;
      room = subst (λ n. n < 256) many is.room;
      name = unmapped (λ (table : Catalogued). folded table.schema.name ≢ folded schema.name) catalogued tables is.name;
      definable = is.definable;
    }

pub creates_apply : CreatesApply
creates_apply db version name columns key schema names made = (new_schema db.tables schema (creates_definable (map catalogued db.tables) name columns key schema names made), refl)

-- ---- a table that is found by its name is found by its id

-- the table of that id is this one of the catalogue
abbrev pub IsThere : List Table → Catalogued → Type 0
IsThere tables found = IsSomeAnd (table_of tables found.schema.id) (λ table. found ≡ catalogued table)

found_there : (test : Catalogued → Bool) (first : ℕ) (tables : List Table) (found : Catalogued) → AreNumbered first tables
    → find test (map catalogued tables) ≡ Some found → (first ≤ found.schema.id) × IsThere tables found
found_there test first [] found numbered is = absurd cc
found_there test first (t ∷ ts) found numbered is =
    let step : (b : Bool) → cond b (Some (catalogued t)) (find test (map catalogued ts)) ≡ Some found → (first ≤ found.schema.id) × IsThere (t ∷ ts) found =
    elim [
      | true ↦ (λ e. let here : catalogued t ≡ found = cc in
          subst (λ (c : Catalogued). (first ≤ c.schema.id) × IsThere (t ∷ ts) c) here (omega (arith, numbered.0), at_once t ts))
      | false ↦ (λ e. let rest = found_there test (first + 1) ts found numbered.1 e in (omega (arith, rest.0), later t ts found (λ same. omega (arith, numbered.0, rest.0, same)) rest.1))
    ] in
    step (test (catalogued t)) is
  where
    at_once : (t : Table) (ts : List Table) → IsThere (t ∷ ts) (catalogued t)
    at_once t ts =
        subst (λ b. IsSomeAnd (cond b (Some t) (table_of ts t.schema.id)) (λ table. catalogued t ≡ catalogued table)) (sym (eq-eqb t.schema.id t.schema.id refl)) refl

    later : (t : Table) (ts : List Table) (found : Catalogued) → t.schema.id ≢ found.schema.id → IsThere ts found → IsThere (t ∷ ts) found
    later t ts found other there =
        let step : (b : Bool) → b ≡ eqb t.schema.id found.schema.id → IsSomeAnd (cond b (Some t) (table_of ts found.schema.id)) (λ table. found ≡ catalogued table) =
        elim [ true ↦ (λ e. absurd (other (eqb-true t.schema.id found.schema.id (sym e)))) | false ↦ (λ e. there) ] in
        step (eqb t.schema.id found.schema.id) refl

pub existing_kept : (tables : List Table) (name : ObjectName) → AreNumbered 1 tables → Kept (IsThere tables) (existing_table (map catalogued tables) name)
unfolding existing_table table_named
existing_kept tables name numbered =
    found_kept (IsThere tables) (find (λ table. same table.schema.name (table_name name)) (map catalogued tables)) (NoObject (table_name name))
    (λ found is. (found_there (λ table. same table.schema.name (table_name name)) 1 tables found numbered is).1)

-- ---- ENABLE

not_tracked : (o : Option Tracked) → not (is_some o) ≡ true → o ≡ None
not_tracked None not = refl
not_tracked (Some tracked) not = absurd cc

-- what is bound switches the table on so that the act applies
abbrev pub SwitchesOn : Db → ℕ → Bound → Type 0
SwitchesOn db version (EnableTracking id masks) = ActApplies db version true (Enable id masks)
SwitchesOn db version bound = ⊥

pub enable_kept : (db : Db) (version : ℕ) (name : ObjectName) (masks : Bool) → AreNumbered 1 db.tables
    → Kept (SwitchesOn db version) (enable (map catalogued db.tables) db.keep name masks)
unfolding enable
enable_kept db version name masks numbered =
    then_kept (IsThere db.tables) (SwitchesOn db version) (existing_table (map catalogued db.tables) name) _ (existing_kept db.tables name numbered)
    (λ found there. then_kept (λ _. not (is_some found.tracked) ≡ true) (SwitchesOn db version) (demand (not (is_some found.tracked)) (AlreadyTracked (table_name name))) _
    (met_kept (not (is_some found.tracked)) (AlreadyTracked (table_name name)))
    (λ _ free. then_kept (λ _. is_some db.keep ≡ true) (SwitchesOn db version) (demand (is_some db.keep) TrackingOff) _ (met_kept (is_some db.keep) TrackingOff)
    (λ _ on. ok_kept (SwitchesOn db version) (EnableTracking found.schema.id masks) (
      on,
      some_and_weaken (λ (table : Table). found ≡ catalogued table) (λ table. table.tracked ≡ None) (λ table is. ap (λ (c : Catalogued). c.tracked) (sym is) ∙ not_tracked found.tracked free) (table_of db.tables found.schema.id) there,
      refl,
    ))))

pub enables_apply : EnablesApply
enables_apply db version name asked masks id numbered made = (enable_kept db version name asked numbered).holds (EnableTracking id masks) made

-- ---- DISABLE

abbrev pub SwitchesOff : Db → ℕ → Bound → Type 0
SwitchesOff db version (DisableTracking id) = ActApplies db version false (Disable id)
SwitchesOff db version bound = ⊥

pub disable_kept : (db : Db) (version : ℕ) (name : ObjectName) → AreNumbered 1 db.tables → Kept (SwitchesOff db version) (disable (map catalogued db.tables) name)
unfolding disable tracked_table
disable_kept db version name numbered =
    let tables = map catalogued db.tables in
    then_kept (λ found. IsThere db.tables found × (is_some found.tracked ≡ true)) (SwitchesOff db version) (tracked_table tables name) _
    (then_kept (IsThere db.tables) (λ found. IsThere db.tables found × (is_some found.tracked ≡ true)) (existing_table tables name) _ (existing_kept db.tables name numbered)
    (λ found there. then_kept (λ _. is_some found.tracked ≡ true) (λ found. IsThere db.tables found × (is_some found.tracked ≡ true)) (demand (is_some found.tracked) (NotTracked (table_name name))) _
    (met_kept (is_some found.tracked) (NotTracked (table_name name)))
    (λ _ on. ok_kept (λ found. IsThere db.tables found × (is_some found.tracked ≡ true)) found (there, on))))
    (λ found both. ok_kept (SwitchesOff db version) (DisableTracking found.schema.id) (
      some_and_weaken (λ (table : Table). found ≡ catalogued table) (λ table. is_some table.tracked ≡ true) (λ table is. ap (λ (c : Catalogued). is_some c.tracked) (sym is) ∙ both.1) (table_of db.tables found.schema.id) both.0,
      refl,
    ))

pub disables_apply : DisablesApply
disables_apply db version name id numbered made = (disable_kept db version name numbered).holds (DisableTracking id) made

-- ---- TRUNCATE

-- of a table that is there, it tells whether that is tracked
tracked_so : (found : Catalogued) (there : Option Table) → IsSomeAnd there (λ table. found ≡ catalogued table) → IsSomeAnd there (λ table. is_tracked there ≡ is_some table.tracked)
tracked_so found None is = absurd is
tracked_so found (Some table) is = refl

-- what is bound empties the table so that the act applies
abbrev pub Empties : Db → ℕ → Bound → Type 0
Empties db version (TruncateTable id) = ActApplies db version (is_tracked (table_of db.tables id)) (Truncate id)
Empties db version bound = ⊥

pub truncate_kept : (db : Db) (version : ℕ) (variables : List Variable) (name : ObjectName) → AreNumbered 1 db.tables
    → Kept (Empties db version) (truncate (map catalogued db.tables) variables name)
unfolding truncate
truncate_kept db version variables name numbered =
    then_kept (IsThere db.tables) (Empties db version) (existing_table (map catalogued db.tables) name) _ (existing_kept db.tables name numbered)
    (λ found there. ok_kept (Empties db version) (TruncateTable found.schema.id) (tracked_so found (table_of db.tables found.schema.id) there))

pub truncates_apply : TruncatesApply
truncates_apply db version variables name id numbered made = (truncate_kept db version variables name numbered).holds (TruncateTable id) made
