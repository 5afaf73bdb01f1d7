-- Rows that are put into tables change nothing of the catalogue, and so nothing of tracking; what could be stored still can.
use Rattle.std.proofs.Common.{◌≡◌, ℕ, Bool, true, false, cond, ◌==◌, ◌&&◌, ◌||◌, List, [], ◌∷◌, map, filter, fold, Option, Some, None, refl, sym, ap, ◌∙◌, subst}
use Rattle.std.specs.List.{AllByRecursion, list_any}
use Rattle.std.specs.Option.{IfSome, IsSomeAnd}
use Rattle.ct_types.specs.declared.catalogue.Catalogued.{Catalogued}
use Rattle.ct_types.specs.declared.entry.Act.TheVariants.{Commit}
use Rattle.ct_types.specs.declared.entry.Keep.{Keep}
use Rattle.ct_types.specs.declared.entry.Kept.{Kept}
use Rattle.ct_types.specs.declared.entry.Write.{Write}
use Rattle.ct_types.specs.declared.schema.Schema.{Schema}
use Rattle.ct_model.specs.declared.db.Db.{Db}
use Rattle.ct_model.specs.declared.db.Table.{Table}
use Rattle.ct_model.specs.Apply.{tables_after, trim, written}
use Rattle.ct_model.specs.Tables.{catalogued, is_above, table_of}
use Rattle.ct_database.specs.Storable.{IsRowStorable, IsWriteStorable}
use Rattle.ct_database.specs.Waiting.{AreStoredIn}
use Rattle.ct_database.proofs.Listing.{catalogue_all_written}
use Rattle.ct_database.proofs.Numbered.{written_schema}

-- ---- what is kept

-- trimming asks only whether some table of the catalogue passes a test
abbrev trim_by : ((Catalogued → Bool) → Bool) → List Kept → List Kept
trim_by any kept =
    map (λ (one : Kept). record one { changes = filter (λ change. any (λ table. table.schema.id == change.table && is_above one.version table.tracked)) one.changes })
    (filter (λ (one : Kept). any (λ table. is_above one.version table.tracked)) kept)

any_listed : (test : Catalogued → Bool) (tables : List Table) → list_any (λ (table : Table). test (catalogued table)) tables ≡ list_any test (map catalogued tables)
any_listed test [] = refl
any_listed test (table ∷ tables) = ap (λ rest. test (catalogued table) || rest) (any_listed test tables)

trim_listed : (tables : List Table) (kept : List Kept) → trim tables kept ≡ trim_by (λ test. list_any test (map catalogued tables)) kept
trim_listed tables kept =
    let same : (λ (test : Catalogued → Bool). list_any (λ (table : Table). test (catalogued table)) tables) ≡ (λ (test : Catalogued → Bool). list_any test (map catalogued tables)) =
    (λ i test. any_listed test tables i) in
    ap (λ (any : (Catalogued → Bool) → Bool). trim_by any kept) same

pub trim_same : (tables now : List Table) (kept : List Kept) → map catalogued now ≡ map catalogued tables → trim now kept ≡ trim tables kept
trim_same tables now kept same =
    trim_listed now kept ∙ ap (λ (listed : List Catalogued). trim_by (λ test. list_any test listed) kept) same ∙ sym (trim_listed tables kept)

pub rows_put : (version time last : ℕ) (keep : Option Keep) (tables now : List Table) (commits : List Kept) (writes : List Write) (db : Db)
    → record { version = version; time = time; last_xdes = last; keep = keep; tables = tables; kept = trim tables commits } ≡ db
    → now ≡ fold (λ before write. map (written write) before) tables writes
    → record { version = version; time = time; last_xdes = last; keep = keep; tables = now; kept = trim now commits } ≡ record db { tables = tables_after (Commit writes) db.version false db.tables }
rows_put version time last keep tables now commits writes db is wrote =
    let made : List Table → List Kept → Db = λ ts ks. record { version = version; time = time; last_xdes = last; keep = keep; tables = ts; kept = ks } in
    let after : List Table = fold (λ before write. map (written write) before) tables writes in
    ap (λ ts. made ts (trim ts commits)) wrote ∙ ap (made after) (trim_same tables after commits (catalogue_all_written writes tables))
    ∙ ap (λ (it : Db). record it { tables = tables_after (Commit writes) it.version false it.tables }) is

-- ---- what can be stored

storable_one : (P : Table → Type 0) (found : Option Table) → IsSomeAnd found P → IfSome found P
storable_one P None there = absurd there
storable_one P (Some table) there = there

pub storable_of : (tables : List Table) (writes : List Write) → AreStoredIn tables writes → AllByRecursion (IsWriteStorable tables) writes
storable_of tables [] stored = tt
storable_of tables (write ∷ writes) stored =
    (storable_one (λ table. IsRowStorable table.schema write.key write.row) (table_of tables write.table) stored.0, storable_of tables writes stored.1)

-- a table is found again, with its schema, once another row was put
found_still : (write : Write) (P : Schema → Type 0) (id : ℕ) (tables : List Table)
    → IsSomeAnd (table_of tables id) (λ t. P t.schema) → IsSomeAnd (table_of (map (written write) tables) id) (λ t. P t.schema)
found_still write P id [] found = found
found_still write P id (table ∷ tables) found =
    let step : (b : Bool) → IsSomeAnd (cond b (Some table) (table_of tables id)) (λ t. P t.schema)
    → IsSomeAnd (cond b (Some (written write table)) (table_of (map (written write) tables) id)) (λ t. P t.schema) =
    elim [ true ↦ (λ there. subst P (sym (written_schema write table)) there) | false ↦ (λ later. found_still write P id tables later) ] in
    subst (λ (s : Schema). IsSomeAnd (cond (s.id == id) (Some (written write table)) (table_of (map (written write) tables) id)) (λ t. P t.schema))
    (sym (written_schema write table)) (step (table.schema.id == id) found)

stored_still : (write : Write) (tables : List Table) (others : List Write) → AreStoredIn tables others → AreStoredIn (map (written write) tables) others
stored_still write tables [] stored = tt
stored_still write tables (other ∷ others) stored =
    (found_still write (λ schema. IsRowStorable schema other.key other.row) other.table tables stored.0, stored_still write tables others stored.1)

pub stored_after : (writes : List Write) (tables : List Table) (others : List Write) → AreStoredIn tables others
    → AreStoredIn (fold (λ before write. map (written write) before) tables writes) others
stored_after [] tables others stored = stored
stored_after (write ∷ writes) tables others stored = stored_after writes (map (written write) tables) others (stored_still write tables others stored)
