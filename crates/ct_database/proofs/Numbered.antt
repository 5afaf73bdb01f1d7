-- Tables that are numbered: where the table of an id stands, and what a change of that table alone makes of them.
use Rattle.std.proofs.Common.{◌≡◌, ◌≢◌, ℕ, ◌+◌, ◌<◌, ◌≤◌, ◌⊎◌, inl, inr, true, false, Bool, cond, ◌==◌, if◌then◌else◌, List, [], ◌∷◌, ◌++◌, length, take, drop, get_or, set, map, fold, Some, None, refl, sym, ap, ap₂, ◌∙◌, subst, eqb-true, eq-eqb, eqb, length-take, arith}
use Rattle.std.specs.List.{AllByRecursion}
use Rattle.std.specs.Option.{IfSome}
use Rattle.ct_types.specs.declared.schema.Schema.{Schema}
use Rattle.ct_types.specs.declared.entry.Write.{Write}
use Rattle.ct_model.specs.declared.db.Table.{Table}
use Rattle.ct_model.specs.Apply.{written}
use Rattle.ct_model.specs.Tables.{table_of, rows_with}
use Rattle.ct_model.specs.Valid.{AreNumbered}
use Rattle.ct_ptree.proofs.Lists.{split_at}
use Rattle.ct_database.specs.Storable.{IsRowStorable, IsWriteStorable}
use Rattle.ct_database.proofs.Placed.{set_at}

pub not_equal : (a b : ℕ) → a ≢ b → eqb a b ≡ false
not_equal a b other =
    let step : (c : Bool) → c ≡ eqb a b → c ≡ false = elim [ true ↦ (λ e. absurd (other (eqb-true a b (sym e)))) | false ↦ (λ e. refl) ] in
    step (eqb a b) refl

-- ---- no table has the id

pub no_table : (from id : ℕ) (tables : List Table) → AreNumbered from tables → (id < from) ⊎ (from + length tables ≤ id) → AllByRecursion (λ table. table.schema.id ≢ id) tables
no_table from id [] numbered out = tt
no_table from id (table ∷ tables) numbered out =
    let other : table.schema.id ≢ id = (λ e. elim out [ inl low ↦ absurd (let is : from ≡ id = sym numbered.0 ∙ e in omega arith) | inr high ↦ absurd (let is : from ≡ id = sym numbered.0 ∙ e in omega arith) ]) in
    let rest : (id < from + 1) ⊎ (from + 1 + length tables ≤ id) = elim out [ inl low ↦ inl (omega arith) | inr high ↦ inr (omega arith) ] in
    (other, no_table (from + 1) id tables numbered.1 rest)

none_found : (id : ℕ) (tables : List Table) → AllByRecursion (λ table. table.schema.id ≢ id) tables → table_of tables id ≡ None
none_found id [] others = refl
none_found id (table ∷ tables) others = rw (not_equal table.schema.id id others.0) (none_found id tables others.1)

none_changed : (f : Table → Table) (id : ℕ) → ((table : Table) → table.schema.id ≢ id → f table ≡ table) → (tables : List Table) → AllByRecursion (λ table. table.schema.id ≢ id) tables → map f tables ≡ tables
none_changed f id keeps [] others = refl
none_changed f id keeps (table ∷ tables) others = ap₂ (λ (t : Table) (ts : List Table). t ∷ ts) (keeps table others.0) (none_changed f id keeps tables others.1)

-- ---- the table of the id stands at a place

found_around : (from id : ℕ) (front : List Table) (table : Table) (back : List Table) → AreNumbered from (front ++ table ∷ back) → from + length front ≡ id
    → (table.schema.id ≡ id) × (table_of (front ++ table ∷ back) id ≡ Some table)
found_around from id [] table back numbered place =
    let is : table.schema.id ≡ id = numbered.0 ∙ (omega arith) in
    (is, rw (eq-eqb table.schema.id id is) refl)
found_around from id (first ∷ front) table back numbered place =
    let other : first.schema.id ≢ id = (λ e. absurd (let is : from ≡ id = sym numbered.0 ∙ e in omega arith)) in
    let more = found_around (from + 1) id front table back numbered.1 (omega arith) in
    (more.0, rw (not_equal first.schema.id id other) more.1)

changed_around : (f : Table → Table) (from id : ℕ) → ((table : Table) → table.schema.id ≢ id → f table ≡ table) → (front : List Table) (table : Table) (back : List Table)
    → AreNumbered from (front ++ table ∷ back) → from + length front ≡ id → map f (front ++ table ∷ back) ≡ front ++ f table ∷ back
changed_around f from id keeps [] table back numbered place =
    ap (λ (ts : List Table). f table ∷ ts) (none_changed f id keeps back (no_table (from + 1) id back numbered.1 (inl (omega arith))))
changed_around f from id keeps (first ∷ front) table back numbered place =
    let other : first.schema.id ≢ id = (λ e. absurd (let is : from ≡ id = sym numbered.0 ∙ e in omega arith)) in
    ap₂ (λ (t : Table) (ts : List Table). t ∷ ts) (keeps first other) (changed_around f (from + 1) id keeps front table back numbered.1 (omega arith))

length_front : {X : Type 0} (xs : List X) (i : ℕ) → i < length xs → length (take i xs) ≡ i
length_front xs i within = rw length-take (omega arith)

-- ---- the same by a place from 0 on

pub none_of : (tables : List Table) (id : ℕ) → AreNumbered 1 tables → (id ≡ 0) ⊎ (length tables < id) → table_of tables id ≡ None
none_of tables id numbered out =
    let there : (id < 1) ⊎ (1 + length tables ≤ id) = elim out [ inl low ↦ inl (omega arith) | inr high ↦ inr (omega arith) ] in
    none_found id tables (no_table 1 id tables numbered there)

pub table_at : (tables : List Table) (id at : ℕ) (table : Table) → AreNumbered 1 tables → at + 1 ≡ id → at < length tables → table ≡ get_or tables at table → table_of tables id ≡ Some table
table_at tables id at table numbered place within is =
    let cut = split_at tables at table within is in
    let count : 1 + length (take at tables) ≡ id = let n = length_front tables at within in omega arith in
    ap (λ ts. table_of ts id) cut ∙ (found_around 1 id (take at tables) table (drop (at + 1) tables) (subst (AreNumbered 1) cut numbered) count).1

-- ---- a write

writes_there : (write : Write) (table : Table) → table.schema.id ≡ write.table → written write table ≡ record table { rows = rows_with table.schema table.rows write.key write.row }
writes_there write table is = rw (eq-eqb table.schema.id write.table is) refl

writes_elsewhere : (write : Write) (table : Table) → table.schema.id ≢ write.table → written write table ≡ table
writes_elsewhere write table other = rw (not_equal table.schema.id write.table other) refl

pub none_written : (tables : List Table) (write : Write) → AreNumbered 1 tables → (write.table ≡ 0) ⊎ (length tables < write.table) → tables ≡ map (written write) tables
none_written tables write numbered out =
    let there : (write.table < 1) ⊎ (1 + length tables ≤ write.table) = elim out [ inl low ↦ inl (omega arith) | inr high ↦ inr (omega arith) ] in
    sym (none_changed (written write) write.table (writes_elsewhere write) tables (no_table 1 write.table tables numbered there))

pub written_at : (tables : List Table) (write : Write) (at : ℕ) (table made : Table) → AreNumbered 1 tables → at + 1 ≡ write.table → at < length tables → table ≡ get_or tables at table
    → made ≡ record table { rows = rows_with table.schema table.rows write.key write.row } → set tables at made ≡ map (written write) tables
written_at tables write at table made numbered place within is row =
    let front = take at tables in
    let back = drop (at + 1) tables in
    let cut = split_at tables at table within is in
    let n : length (take at tables) ≡ at = length_front tables at within in
    let count : 1 + length (take at tables) ≡ write.table = omega arith in
    let numbers : AreNumbered 1 (take at tables ++ table ∷ drop (at + 1) tables) = subst (AreNumbered 1) cut numbered in
    let id : table.schema.id ≡ write.table = (found_around 1 write.table front table back numbers count).0 in
    ap (λ ts. set ts at made) cut ∙ set_at front at table made back n ∙ ap (λ (t : Table). front ++ t ∷ back) (row ∙ sym (writes_there write table id))
    ∙ sym (ap (map (written write)) cut ∙ changed_around (written write) 1 write.table (writes_elsewhere write) front table back numbers count)

pub row_storable : (tables : List Table) (write : Write) (at : ℕ) (table : Table) → AreNumbered 1 tables → at + 1 ≡ write.table → at < length tables → table ≡ get_or tables at table
    → IsWriteStorable tables write → IsRowStorable table.schema write.key write.row
row_storable tables write at table numbered place within is storable =
    subst (λ found. IfSome found (λ t. IsRowStorable t.schema write.key write.row)) (table_at tables write.table at table numbered place within is) storable

-- ---- what keeps the schemas keeps the numbers, and what can be stored

pub numbered_same : (f : Table → Table) → ((table : Table) → (f table).schema ≡ table.schema) → (from : ℕ) (tables : List Table) → AreNumbered from tables → AreNumbered from (map f tables)
numbered_same f same from [] numbered = tt
numbered_same f same from (table ∷ tables) numbered = (ap (λ (s : Schema). s.id) (same table) ∙ numbered.0, numbered_same f same (from + 1) tables numbered.1)

pub numbered_more : (from : ℕ) (tables : List Table) (table : Table) → AreNumbered from tables → table.schema.id ≡ from + length tables → AreNumbered from (tables ++ table ∷ [])
numbered_more from [] table numbered is = (is ∙ omega arith, tt)
numbered_more from (first ∷ tables) table numbered is = (numbered.0, numbered_more (from + 1) tables table numbered.1 (is ∙ omega arith))

pub written_schema : (write : Write) (table : Table) → (written write table).schema ≡ table.schema
written_schema write table =
    let step : (b : Bool) → (if b then record table { rows = rows_with table.schema table.rows write.key write.row } else table).schema ≡ table.schema = elim [ true ↦ refl | false ↦ refl ] in
    step (table.schema.id == write.table)

pub numbered_written : (write : Write) (tables : List Table) → AreNumbered 1 tables → AreNumbered 1 (map (written write) tables)
numbered_written write tables numbered = numbered_same (written write) (written_schema write) 1 tables numbered

found_same : (f : Table → Table) → ((table : Table) → (f table).schema ≡ table.schema) → (P : Schema → Type 0) (id : ℕ) (tables : List Table)
    → IfSome (table_of tables id) (λ t. P t.schema) → IfSome (table_of (map f tables) id) (λ t. P t.schema)
found_same f same P id [] found = found
found_same f same P id (table ∷ tables) found =
    let step : (b : Bool) → IfSome (cond b (Some table) (table_of tables id)) (λ t. P t.schema) → IfSome (cond b (Some (f table)) (table_of (map f tables) id)) (λ t. P t.schema) =
    elim [ true ↦ (λ p. subst P (sym (same table)) p) | false ↦ (λ p. found_same f same P id tables p) ] in
    subst (λ (s : Schema). IfSome (cond (eqb s.id id) (Some (f table)) (table_of (map f tables) id)) (λ t. P t.schema)) (sym (same table)) (step (eqb table.schema.id id) found)

-- what holds of the schema of a table that is found after the change holds of it before
pub found_back : (f : Table → Table) → ((table : Table) → (f table).schema ≡ table.schema) → (P : Schema → Type 0) (id : ℕ) (tables : List Table)
    → IfSome (table_of (map f tables) id) (λ t. P t.schema) → IfSome (table_of tables id) (λ t. P t.schema)
found_back f same P id [] found = found
found_back f same P id (table ∷ tables) found =
    let step : (b : Bool) → IfSome (cond b (Some (f table)) (table_of (map f tables) id)) (λ t. P t.schema) → IfSome (cond b (Some table) (table_of tables id)) (λ t. P t.schema) =
    elim [ true ↦ (λ p. subst P (same table) p) | false ↦ (λ p. found_back f same P id tables p) ] in
    step (eqb table.schema.id id) (subst (λ (s : Schema). IfSome (cond (eqb s.id id) (Some (f table)) (table_of (map f tables) id)) (λ t. P t.schema)) (same table) found)

pub storable_written : (write other : Write) (tables : List Table) → IsWriteStorable tables other → IsWriteStorable (map (written write) tables) other
storable_written write other tables storable = found_same (written write) (written_schema write) (λ schema. IsRowStorable schema other.key other.row) other.table tables storable

pub all_storable_written : (write : Write) (tables : List Table) (others : List Write) → AllByRecursion (IsWriteStorable tables) others → AllByRecursion (IsWriteStorable (map (written write) tables)) others
all_storable_written write tables [] storable = tt
all_storable_written write tables (other ∷ others) storable = (storable_written write other tables storable.0, all_storable_written write tables others storable.1)

pub numbered_all_written : (writes : List Write) (tables : List Table) → AreNumbered 1 tables → AreNumbered 1 (fold (λ before write. map (written write) before) tables writes)
numbered_all_written [] tables numbered = numbered
numbered_all_written (write ∷ writes) tables numbered = numbered_all_written writes (map (written write) tables) (numbered_written write tables numbered)
