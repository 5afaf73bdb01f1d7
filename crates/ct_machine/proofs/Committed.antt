-- The writes that wait change rows alone.
use Rattle.std.proofs.Common.{◌≡◌, ℕ, ℤ, ◌==◌, Bool, true, false, if◌then◌else◌, List, [], ◌∷◌, map, fold, Option, None, Some, refl, ap, sym, ◌∙◌}
use Rattle.std.specs.List.{find}
use Rattle.ct_types.specs.declared.catalogue.Catalogued.{Catalogued}
use Rattle.ct_types.specs.declared.entry.Write.{Write}
use Rattle.ct_types.specs.declared.entry.Kept.{Kept}
use Rattle.ct_types.specs.declared.tracked.NetRow.{NetRow}
use Rattle.ct_model.specs.declared.db.Db.{Db}
use Rattle.ct_model.specs.declared.db.Table.{Table}
use Rattle.ct_model.specs.Apply.{written}
use Rattle.ct_model.specs.Net.{net, net_of, net_tracked}
use Rattle.ct_model.specs.Tables.{catalogued, rows_with, table_of}
use Rattle.ct_machine.specs.Laws.{SeesCommitted}
use Rattle.ct_state.specs.Seen.{with_writes}

one_catalogued : (write : Write) (table : Table) → catalogued (written write table) ≡ catalogued table
one_catalogued write table = by (table.schema.id == write.table)
  where
    by : (test : Bool) → catalogued (if test then record table { rows = rows_with table.schema table.rows write.key write.row } else table) ≡ catalogued table
    by true = refl
    by false = refl

each_catalogued : (write : Write) (tables : List Table) → map catalogued (map (written write) tables) ≡ map catalogued tables
each_catalogued write [] = refl
each_catalogued write (table ∷ tables) = ap (λ x. x ∷ map catalogued (map (written write) tables)) (one_catalogued write table) ∙ ap (λ xs. catalogued table ∷ xs) (each_catalogued write tables)

all_catalogued : (writes : List Write) (tables : List Table) → map catalogued (fold (λ before write. map (written write) before) tables writes) ≡ map catalogued tables
all_catalogued [] tables = refl
all_catalogued (write ∷ writes) tables = all_catalogued writes (map (written write) tables) ∙ each_catalogued write tables

-- the net rows of a table are told by its place in the catalogue
net_listed : Option Catalogued → List Kept → Option ℤ → List NetRow
net_listed None kept last = []
net_listed (Some listed) kept last = net_tracked listed.schema listed.tracked kept last

listed_of : List Catalogued → ℕ → Option Catalogued
listed_of tables id = find (λ listed. listed.schema.id == id) tables

net_by_catalogue : (tables : List Table) (id : ℕ) (kept : List Kept) (last : Option ℤ) → net_of (table_of tables id) kept last ≡ net_listed (listed_of (map catalogued tables) id) kept last
unfolding net_listed listed_of
net_by_catalogue [] id kept last = refl
net_by_catalogue (table ∷ tables) id kept last = by (table.schema.id == id) (net_by_catalogue tables id kept last)
  where
    by : (test : Bool) → net_of (table_of tables id) kept last ≡ net_listed (listed_of (map catalogued tables) id) kept last
        → net_of (if test then Some table else table_of tables id) kept last
        ≡ net_listed (if test then Some (catalogued table) else listed_of (map catalogued tables) id) kept last
    by true later = refl
    by false later = later

net_same : (db : Db) (writes : List Write) (id : ℕ) (last : Option ℤ) → net (with_writes db writes) id last ≡ net db id last
unfolding net
net_same db writes id last =
    net_by_catalogue (fold (λ before write. map (written write) before) db.tables writes) id db.kept last
    ∙ ap (λ listed. net_listed (listed_of listed id) db.kept last) (all_catalogued writes db.tables)
    ∙ sym (net_by_catalogue db.tables id db.kept last)

pub sees_committed : (db : Db) (writes : List Write) → SeesCommitted db writes
sees_committed db writes = record {
  catalogue = all_catalogued writes db.tables;
  current = refl;
  kept = refl;
  changes = net_same db writes;
  versions = λ table key. refl;
}
