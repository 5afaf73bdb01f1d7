-- The catalogue and the numbers of tables, where the tables change and keep their schemas.
use Rattle.std.proofs.Common.{◌≡◌, ℕ, Bool, true, false, ◌==◌, if◌then◌else◌, List, [], ◌∷◌, map, fold, Option, refl, sym, ap₂, ◌∙◌}
use Rattle.std.specs.Prelude.{Result, Ok, Err, OnOk, OnErr}
use Rattle.ct_types.specs.declared.catalogue.Catalogued.{Catalogued}
use Rattle.ct_types.specs.declared.entry.Min.{Min}
use Rattle.ct_types.specs.declared.entry.Write.{Write}
use Rattle.ct_types.specs.declared.tracked.Tracked.{Tracked}
use Rattle.ct_model.specs.declared.db.Table.{Table}
use Rattle.ct_model.specs.Apply.{written, tracked_as, truncated, raised, with_min}
use Rattle.ct_model.specs.Tables.{catalogued, rows_with}
use Rattle.ct_model.specs.Valid.{AreNumbered}
use Rattle.ct_database.specs.Steps.{AreListed}
use Rattle.ct_database.proofs.Numbered.{numbered_same, numbered_all_written}

-- ---- tables that are changed one by one

pub numbered_tracked : (id : ℕ) (tracked : Option Tracked) (tables : List Table) → AreNumbered 1 tables → AreNumbered 1 (map (tracked_as id tracked) tables)
numbered_tracked id tracked tables numbered =
    let same : (table : Table) (b : Bool) → (if b then record table { tracked = tracked } else table).schema ≡ table.schema = (λ table. elim [ true ↦ refl | false ↦ refl ]) in
    numbered_same (tracked_as id tracked) (λ table. same table (table.schema.id == id)) 1 tables numbered

pub numbered_truncated : (id version : ℕ) (draws : Bool) (tables : List Table) → AreNumbered 1 tables → AreNumbered 1 (map (truncated id version draws) tables)
numbered_truncated id version draws tables numbered =
    let same : (table : Table) (b : Bool) → (if b then record table { rows = []; tracked = if draws then with_min version table.tracked else table.tracked } else table).schema ≡ table.schema = (λ table. elim [ true ↦ refl | false ↦ refl ]) in
    numbered_same (truncated id version draws) (λ table. same table (table.schema.id == id)) 1 tables numbered

raised_schema : (listed : Min) (table : Table) → (raised listed table).schema ≡ table.schema
raised_schema listed table =
    let same : (b : Bool) → (if b then record table { tracked = with_min listed.min table.tracked } else table).schema ≡ table.schema = elim [ true ↦ refl | false ↦ refl ] in
    same (table.schema.id == listed.table)

pub numbered_raised : (minima : List Min) (tables : List Table) → AreNumbered 1 tables → AreNumbered 1 (fold (λ before listed. map (raised listed) before) tables minima)
numbered_raised [] tables numbered = numbered
numbered_raised (listed ∷ minima) tables numbered = numbered_raised minima (map (raised listed) tables) (numbered_same (raised listed) (raised_schema listed) 1 tables numbered)

-- ---- writes

catalogue_written : (write : Write) (tables : List Table) → map catalogued (map (written write) tables) ≡ map catalogued tables
catalogue_written write [] = refl
catalogue_written write (table ∷ tables) =
    let same : (b : Bool) → catalogued (if b then record table { rows = rows_with table.schema table.rows write.key write.row } else table) ≡ catalogued table = elim [ true ↦ refl | false ↦ refl ] in
    ap₂ (λ (one : Catalogued) (more : List Catalogued). one ∷ more) (same (table.schema.id == write.table)) (catalogue_written write tables)

-- rows change nothing of the catalogue
pub catalogue_all_written : (writes : List Write) (tables : List Table) → map catalogued (fold (λ before write. map (written write) before) tables writes) ≡ map catalogued tables
catalogue_all_written [] tables = refl
catalogue_all_written (write ∷ writes) tables = catalogue_all_written writes (map (written write) tables) ∙ catalogue_written write tables

-- rows are written, or are not for want of memory
pub listed_written : {U E : Type 0} (r : Result U E) (catalogue : List Catalogued) (tables now : List Table) (writes : List Write) → AreListed catalogue tables
    → OnOk r (now ≡ fold (λ before write. map (written write) before) tables writes) → OnErr r (now ≡ tables) → AreListed catalogue now
listed_written (Ok u) catalogue tables now writes listed ok err =
    rw ok (record { same = listed.same ∙ sym (catalogue_all_written writes tables); numbered = numbered_all_written writes tables listed.numbered })
listed_written (Err e) catalogue tables now writes listed ok err = rw err listed
