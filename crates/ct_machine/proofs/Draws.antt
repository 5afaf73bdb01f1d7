-- An act that applies draws a version exactly where it says so.
use Rattle.std.proofs.Common.{◌≡◌, ℕ, ◌==◌, Bool, true, false, if◌then◌else◌, List, [], ◌∷◌, map, Option, None, Some, is_some, refl, ap, ◌∙◌}
use Rattle.std.specs.Option.{IsSomeAnd}
use Rattle.ct_types.specs.declared.entry.Act.{Act}
use Rattle.ct_types.specs.declared.entry.Act.TheVariants.{Commit, Define, Truncate, Enable as enabling, Disable, Database as setting, Raise}
use Rattle.ct_model.specs.declared.db.Db.{Db}
use Rattle.ct_model.specs.declared.db.Table.{Table}
use Rattle.ct_model.specs.Applies.{ActApplies}
use Rattle.ct_types.specs.declared.catalogue.Catalogued.{Catalogued}
use Rattle.ct_model.specs.Tables.{catalogued, table_of}
use Rattle.ct_machine.specs.Reads.{catalogue, tracks}
use Rattle.ct_machine.specs.Step.{act_draws, is_tracked}

draws_if_tracked : (draws : Bool) (table : Option Table) → IsSomeAnd table (λ table. draws ≡ is_some table.tracked) → draws ≡ is_tracked table
draws_if_tracked draws None found = elim found [ ]
draws_if_tracked draws (Some table) draws_so = draws_so

pub draws_is : (db : Db) (version : ℕ) (draws : Bool) (act : Act) → ActApplies db version draws act → draws ≡ act_draws db act
draws_is db version draws (Commit writes) applies = applies.2
draws_is db version draws (Define schema) applies = applies.1
draws_is db version draws (Truncate id) applies = draws_if_tracked draws (table_of db.tables id) applies
draws_is db version draws (enabling id masks) applies = applies.2
draws_is db version draws (Disable id) applies = applies.1
draws_is db version draws (setting None) applies = applies.2
draws_is db version draws (setting (Some keep)) applies = applies.1
draws_is db version draws (Raise minima) applies = applies.3

-- the catalogue tells which tables are tracked
tracks_listed : (tables : List Table) (id : ℕ) → tracks (map catalogued tables) id ≡ is_tracked (table_of tables id)
tracks_listed [] id = refl
tracks_listed (table ∷ tables) id = by (table.schema.id == id) (tracks_listed tables id)
  where
    by : (test : Bool) → tracks (map catalogued tables) id ≡ is_tracked (table_of tables id)
        → (if test then is_some table.tracked else tracks (map catalogued tables) id) ≡ is_tracked (if test then Some table else table_of tables id)
    by true later = refl
    by false later = later

pub tracks_so : (db : Db) (tables : List Catalogued) (id : ℕ) → tables ≡ catalogue db → tracks tables id ≡ is_tracked (table_of db.tables id)
tracks_so db tables id are = ap (λ tables. tracks tables id) are ∙ tracks_listed db.tables id
