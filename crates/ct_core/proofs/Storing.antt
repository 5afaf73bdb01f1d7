-- What statements commit is what the database in memory can store.
use Rattle.std.proofs.Common.{◌≡◌, ◌≢◌, ℕ, ◌+◌, ◌==◌, ◌<◌, ◌≤◌, Bool, true, false, cond, List, [], ◌∷◌, map, Option, None, Some, IfSome, Result, Ok, Err, IfOk, MatchBool, if◌then◌else◌, refl, sym, ap, subst, ◌∙◌, arith, eqb-true}
use Rattle.std.specs.List.{AllByRecursion}
use Rattle.ct_types.specs.Answers.{Gives}
use Rattle.ct_types.specs.declared.bound.Bound.{Bound}
use Rattle.ct_types.specs.declared.bound.Bound.TheVariants.{Write as write_bound}
use Rattle.ct_types.specs.declared.bound.BoundSet.{BoundSet}
use Rattle.ct_types.specs.declared.bound.BoundWrite.{BoundWrite}
use Rattle.ct_types.specs.declared.bound.RowChange.{RowChange}
use Rattle.ct_types.specs.declared.bound.RowChange.TheVariants.{Insert, Update, Delete}
use Rattle.ct_types.specs.declared.catalogue.Catalogued.{Catalogued}
use Rattle.ct_types.specs.declared.catalogue.Variable.{Variable}
use Rattle.ct_types.specs.declared.entry.Act.{Act}
use Rattle.ct_types.specs.declared.entry.Entry.{Entry}
use Rattle.ct_types.specs.declared.entry.Write.{Write}
use Rattle.ct_types.specs.declared.refusal.Refusal.{Refusal}
use Rattle.ct_types.specs.declared.schema.Schema.{Schema}
use Rattle.ct_types.specs.declared.stmt.Stmt.{Stmt}
use Rattle.ct_types.specs.declared.value.Key.{Key}
use Rattle.ct_types.specs.declared.value.Row.{Row}
use Rattle.ct_model.specs.declared.db.Db.{Db}
use Rattle.ct_model.specs.declared.db.Table.{Table}
use Rattle.ct_model.specs.Tables.{catalogued, table_of}
use Rattle.ct_model.proofs.Members.{all_map}
use Rattle.ct_bind.specs.Binding.{binding}
use Rattle.ct_bind_kind_laws.specs.Statements.{catalogued_of}
use Rattle.ct_bind_kind_laws.specs.Storing.{StoresWell}
use Rattle.ct_bind_kind_laws.specs.Storing as bound
use Rattle.ct_bind_kind_laws.proofs.Sound.{ids_distinct}
use Rattle.ct_bind_kind_laws.proofs.Storing.{bound_store_well}
use Rattle.std.specs.Option.{IsSomeAnd}
use Rattle.ct_database.specs.Storable.{IsActStorable, IsStorable, IsRowStorable}
use Rattle.ct_database.specs.Waiting.{AreStoredIn, IsStoredIn}
use Rattle.ct_expr.specs.Meaning.{World}
use Rattle.ct_machine.specs.Reads.{catalogue}
use Rattle.ct_machine.specs.Step.{act_draws, entry_of}
use Rattle.ct_source.specs.Rows.{IsRowOf}
use Rattle.ct_write.specs.Writes.{Context, SparesKey, write_of, writes_of}
use Rattle.ct_write.proofs.Parts.{parts_of}
use Rattle.ct_core.specs.Range.{HasTables}
use Rattle.ct_core.proofs.Ranges.{machine_at, session_with}

-- ---- what is bound

-- what a statement of a core is bound to is stored well
pub stores_if : (db : Db) (variables : List Variable) (statement : Stmt) (result : Result Bound Refusal)
    → HasTables db → Gives (binding (catalogue db) db.keep variables statement) result → IfOk result (StoresWell (catalogue db))
stores_if db variables statement (Err refusal) has gives = tt
stores_if db variables statement (Ok it) has gives = bound_store_well (catalogue db) db.keep variables statement it (ids_distinct db.tables 1 has.numbered) gives

-- ---- keys that are spared

spares : (schema : Schema) (change : RowChange) → bound.SparesKey schema change → SparesKey schema change
spares schema (Insert columns tuples) all = tt
spares schema (Update sets filter) all =
    all_map (λ (set : BoundSet). (1 ≤ set.column) × AllByRecursion (λ key. key ≢ set.column) schema.key) (λ id. (1 ≤ id) × AllByRecursion (λ key. key ≢ id) schema.key) (λ (set : BoundSet). set.column) (λ set spared. spared) sets all
spares schema (Delete filter) all = tt

found_so : (test : Bool) (table : Table) (found : Option Catalogued) (there : Option Table) (change : RowChange)
    → (IfSome found (λ it. bound.SparesKey it.schema change) → IfSome there (λ it. SparesKey it.schema change))
    → IfSome (cond test (Some (catalogued table)) found) (λ it. bound.SparesKey it.schema change) → IfSome (cond test (Some table) there) (λ it. SparesKey it.schema change)
found_so true table found there change later here = spares table.schema change here
found_so false table found there change later here = later here

spares_in : (tables : List Table) (id : ℕ) (change : RowChange) → IfSome (catalogued_of (map catalogued tables) id) (λ it. bound.SparesKey it.schema change)
    → IfSome (table_of tables id) (λ it. SparesKey it.schema change)
spares_in [] id change all = tt
spares_in (table ∷ tables) id change all =
    found_so (table.schema.id == id) table (catalogued_of (map catalogued tables) id) (table_of tables id) change (spares_in tables id change) all

-- a write that is stored well spares the key of its table
pub spares_of : (db : Db) (statement : Bound) (write : BoundWrite) → statement ≡ write_bound write → StoresWell (catalogue db) statement
    → IfSome (table_of db.tables write.table) (λ table. SparesKey table.schema write.change)
spares_of db statement write is well = spares_in db.tables write.table write.change (subst (StoresWell (catalogue db)) is well)

-- ---- writes

-- a table that is found has the id
has_id : (tables : List Table) (id : ℕ) (table : Table) → table_of tables id ≡ Some table → table.schema.id ≡ id
has_id [] id table found = absurd cc
has_id (first ∷ tables) id table found = by (first.schema.id == id) refl found (has_id tables id table)
  where
    by : (test : Bool) → test ≡ (first.schema.id == id) → cond test (Some first) (table_of tables id) ≡ Some table → (table_of tables id ≡ Some table → table.schema.id ≡ id) → table.schema.id ≡ id
    by true is here later = let same : first ≡ table = cc in subst (λ (it : Table). it.schema.id ≡ id) same (eqb-true first.schema.id id (sym is))
    by false is here later = later here

row_storable : (schema : Schema) (key : Key) (row : Option Row) → IfSome row (IsRowOf schema key) → IsRowStorable schema key row
row_storable schema key None stands = tt
row_storable schema key (Some row) stands = (stands.1, stands.0)

-- each write is of the table, at its key
record IsOf (table : Table) (one : Write) : Type 0 where
  id : one.table ≡ table.schema.id
  stands : IfSome one.row (IsRowOf table.schema one.key)

write_stored : (tables : List Table) (table : Table) (one : Write) → table_of tables table.schema.id ≡ Some table → IsOf table one → IsStoredIn tables one
write_stored tables table one there is =
    subst (λ (found : Option Table). IsSomeAnd found (λ it. IsRowStorable it.schema one.key one.row)) (sym there ∙ ap (table_of tables) (sym is.id)) (row_storable table.schema one.key one.row is.stands)

recorded_of : (table : Table) (change : RowChange) (context : Context) (changes : List _) → AllByRecursion (λ one. one.table ≡ table.schema.id) (map (write_of (catalogued table) change context) changes)
recorded_of table change context [] = tt
recorded_of table change context (changed ∷ changes) = (refl, recorded_of table change context changes)

all_stored : (tables : List Table) (table : Table) → table_of tables table.schema.id ≡ Some table → (writes : List Write) → AllByRecursion (λ one. one.table ≡ table.schema.id) writes
    → AllByRecursion (λ one. IfSome one.row (IsRowOf table.schema one.key)) writes → AreStoredIn tables writes
all_stored tables table there [] ids stand = tt
all_stored tables table there (one ∷ writes) ids stand = (write_stored tables table one there (record { id = ids.0; stands = stand.0 }), all_stored tables table there writes ids.1 stand.1)

-- what a statement writes in its table can be stored there
pub writes_stored : (w : World) (db : Db) (bound : BoundWrite) (table : Table) (writes : List Write) → table_of db.tables bound.table ≡ Some table
    → writes_of w (catalogued table) bound table.rows ≡ Ok writes → AllByRecursion (λ one. IfSome one.row (IsRowOf table.schema one.key)) writes → AreStoredIn db.tables writes
writes_stored w db bound table writes there came stand =
    let own : table_of db.tables table.schema.id ≡ Some table = ap (table_of db.tables) (has_id db.tables bound.table table there) ∙ there in
    let parts = parts_of w (catalogued table) bound table.rows writes came in
    let ids : AllByRecursion (λ one. one.table ≡ table.schema.id) writes =
    subst (AllByRecursion (λ one. one.table ≡ table.schema.id)) parts.writes_are (recorded_of table bound.change parts.context parts.changes) in
    all_stored db.tables table own writes ids stand

-- ---- entries

drawn : (draws : Bool) (version : ℕ) → MatchBool draws (version < (if draws then version + 1 else version)) (version ≤ (if draws then version + 1 else version))
drawn true version = omega arith
drawn false version = omega arith

-- the entry of a storable act is storable
pub entry_storable : (db : Db) (now next : ℕ) (drawn : Option ℕ) (act : Act) (entry : Entry) → IsActStorable db.tables act → entry ≡ entry_of (machine_at db now next) (session_with drawn) act → IsStorable db entry
entry_storable db now next had act entry storable is = subst (IsStorable db) (sym is) (record { act = storable; version = drawn (act_draws db act) db.version })
