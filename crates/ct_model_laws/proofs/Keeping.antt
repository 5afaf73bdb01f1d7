-- The tables stay valid under each act.
use Rattle.std.proofs.Common.{◌≡◌, ◌≤◌, ◌<◌, ◌+◌, ℕ, Bool, true, false, cond, eqb, List, [], ◌∷◌, map, fold, Option, None, Some, refl, sym, arith, eq-eqb, eqb-true}
use Rattle.std.specs.List.{AllByRecursion}
use Rattle.std.specs.Option.{IsSomeAnd}
use Rattle.ct_types.specs.declared.tracked.Tracked.{Tracked}
use Rattle.ct_types.specs.declared.entry.Keep.{Keep}
use Rattle.ct_types.specs.declared.entry.Min.{Min}
use Rattle.ct_types.specs.declared.entry.Write.{Write}
use Rattle.ct_types.specs.declared.entry.Act.{Act}
use Rattle.ct_types.specs.declared.entry.Act.TheVariants.{Commit, Define, Truncate, Enable, Disable, Database, Raise}
use Rattle.ct_model.specs.declared.db.Table.{Table}
use Rattle.ct_model.specs.declared.db.Db.{Db}
use Rattle.ct_model.specs.Applies.{RowIsOf, WriteFits, WritesApply, IsRaise, ActApplies}
use Rattle.ct_model.specs.Apply.{written, tracked_as, with_min, truncated, raised, tables_after, keep_after}
use Rattle.ct_model.specs.Tables.{rows_with, table_of}
use Rattle.ct_model.specs.Valid.{AreNumbered, IsTrackedValid, IsTableValid}
use Rattle.ct_types.proofs.Lists.{all_append, all_join}
use Rattle.ct_model.proofs.Members.{all_weaken, all_map}
use Rattle.ct_model.proofs.Rising.{rows_rise, rows_fit}
use Rattle.ct_model_laws.proofs.Fitting.{written_row}
use Rattle.ct_model_laws.proofs.Following.{numbered_map, written_schema}

-- a later version is no worse

tracked_later : (old new : ℕ) (keep : Option Keep) (tracked : Option Tracked) → old ≤ new → IsTrackedValid old keep tracked
    → IsTrackedValid new keep tracked
tracked_later old new keep None le valid = tt
tracked_later old new keep (Some tracked) le valid = (valid.0, omega (arith, valid.1))

with_tracked : (old new : ℕ) (keep kept : Option Keep) (tracked : Option Tracked) (t : Table) → IsTrackedValid new kept tracked
    → IsTableValid old keep t → IsTableValid new kept (record t { tracked = tracked })
with_tracked old new keep kept tracked t is valid = record { schema = valid.schema; rows = valid.rows; rising = valid.rising; tracked = is }

pub tables_later : (old new : ℕ) (keep : Option Keep) → old ≤ new → (tables : List Table) → AllByRecursion (IsTableValid old keep) tables
    → AllByRecursion (IsTableValid new keep) tables
tables_later old new keep le tables all =
    all_weaken _ _ (λ t valid. with_tracked old new keep keep t.tracked t (tracked_later old new keep t.tracked le valid.tracked) valid) tables all

-- a choice of two valid tables is valid
either : (version : ℕ) (keep : Option Keep) (b : Bool) (x y : Table) → IsTableValid version keep x → IsTableValid version keep y
    → IsTableValid version keep (cond b x y)
either version keep true x y p q = p
either version keep false x y p q = q

-- writes

none_numbered : (P : Table → Type 0) (id first : ℕ) (tables : List Table) → AreNumbered first tables → id < first
    → AllByRecursion (λ t. t.schema.id ≡ id → P t) tables
none_numbered P id first [] numbered lt = tt
none_numbered P id first (t ∷ ts) numbered lt = ((λ e. absurd (omega (arith, numbered.0))), none_numbered P id (first + 1) ts numbered.1 (omega arith))

-- what holds of the table that is found holds of each table of that id
pub each_found : (P : Table → Type 0) (id first : ℕ) (tables : List Table) → AreNumbered first tables → IsSomeAnd (table_of tables id) P
    → AllByRecursion (λ t. t.schema.id ≡ id → P t) tables
each_found P id first [] numbered found = tt
each_found P id first (t ∷ ts) numbered found =
    let step : (b : Bool) → b ≡ eqb t.schema.id id → IsSomeAnd (cond b (Some t) (table_of ts id)) P → AllByRecursion (λ t. t.schema.id ≡ id → P t) (t ∷ ts) =
    elim [
      | true ↦ (λ e p. let same : t.schema.id ≡ id = eqb-true _ _ (sym e) in ((λ i. p), none_numbered P id (first + 1) ts numbered.1 (omega (arith, numbered.0))))
      | false ↦ (λ e p. ((λ i. cc (eq-eqb t.schema.id id i, e)), each_found P id (first + 1) ts numbered.1 p))
    ] in
    step (eqb t.schema.id id) refl found

rewritten_valid : (version : ℕ) (keep : Option Keep) (write : Write) (t : Table) → IsTableValid version keep t → RowIsOf t.schema write.op write.key write.row
    → IsTableValid version keep (record t { rows = rows_with t.schema t.rows write.key write.row })
rewritten_valid version keep write t valid is =
    let row = written_row t.schema write.op write.key write.row is in
    record {
      schema = valid.schema;
      rows = rows_fit t.schema t.rows write.key write.row valid.rows (all_weaken _ _ (λ r is. is.0) _ row);
      rising = rows_rise t.schema t.rows write.key write.row valid.rising (all_weaken _ _ (λ r is. is.1) _ row);
      tracked = valid.tracked;
    }

pub written_valid : (version : ℕ) (keep : Option Keep) (write : Write) (t : Table) → IsTableValid version keep t
    → (t.schema.id ≡ write.table → RowIsOf t.schema write.op write.key write.row) → IsTableValid version keep (written write t)
written_valid version keep write t valid is =
    let step : (b : Bool) → b ≡ eqb t.schema.id write.table → IsTableValid version keep (cond b (record t { rows = rows_with t.schema t.rows write.key write.row }) t) =
    elim [ true ↦ (λ e. rewritten_valid version keep write t valid (is (eqb-true _ _ (sym e)))) | false ↦ (λ e. valid) ] in
    step (eqb t.schema.id write.table) refl

pub write_keeps : (version : ℕ) (keep : Option Keep) (write : Write) (tables : List Table) → AreNumbered 1 tables
    → IsSomeAnd (table_of tables write.table) (WriteFits write) → AllByRecursion (IsTableValid version keep) tables
    → AllByRecursion (IsTableValid version keep) (map (written write) tables)
write_keeps version keep write tables numbered fits all =
    all_map (λ t. IsTableValid version keep t × (t.schema.id ≡ write.table → WriteFits write t)) _ (written write) (λ t both. written_valid version keep write t both.0 (λ here. (both.1 here).row)) tables
    (all_join _ _ _ (λ t valid fits. (valid, fits)) tables all (each_found (WriteFits write) write.table 1 tables numbered fits))

writes_keep : (version : ℕ) (keep : Option Keep) (writes : List Write) (tables : List Table) → AreNumbered 1 tables
    → WritesApply tables writes → AllByRecursion (IsTableValid version keep) tables
    → AllByRecursion (IsTableValid version keep) (fold (λ tables write. map (written write) tables) tables writes)
writes_keep version keep [] tables numbered apply all = all
writes_keep version keep (write ∷ writes) tables numbered apply all =
    writes_keep version keep writes (map (written write) tables) (numbered_map (written write) (written_schema write) 1 tables numbered) apply.1 (write_keeps version keep write tables numbered apply.0 all)

-- minima

min_valid : (version min : ℕ) (keep : Option Keep) (tracked : Option Tracked) → min ≤ version → IsTrackedValid version keep tracked
    → IsTrackedValid version keep (with_min min tracked)
min_valid version min keep None le valid = tt
min_valid version min keep (Some tracked) le valid = (valid.0, le)

raises_keep : (version : ℕ) (keep : Option Keep) (minima : List Min) (tables : List Table)
    → AllByRecursion (λ listed. listed.min ≤ version) minima → AllByRecursion (IsTableValid version keep) tables
    → AllByRecursion (IsTableValid version keep) (fold (λ tables listed. map (raised listed) tables) tables minima)
raises_keep version keep [] tables within all = all
raises_keep version keep (listed ∷ minima) tables within all =
    raises_keep version keep minima (map (raised listed) tables) within.1
    (all_map (IsTableValid version keep) _ (raised listed)
    (λ t valid. either version keep (eqb t.schema.id listed.table) _ _ (with_tracked version version keep keep _ t (min_valid version listed.min keep t.tracked within.0 valid.tracked) valid) valid) tables all)

-- a truncation, and tracking that goes on or off

emptied_valid : (version : ℕ) (keep : Option Keep) (draws : Bool) (t : Table) → IsTableValid version keep t
    → IsTableValid version keep (record t { rows = []; tracked = cond draws (with_min version t.tracked) t.tracked })
emptied_valid version keep true t valid = record { schema = valid.schema; rows = tt; rising = tt; tracked = min_valid version version keep t.tracked (omega arith) valid.tracked }
emptied_valid version keep false t valid = record { schema = valid.schema; rows = tt; rising = tt; tracked = valid.tracked }

tracking_keeps : (version : ℕ) (keep : Option Keep) (id : ℕ) (tracked : Option Tracked) → IsTrackedValid version keep tracked
    → (tables : List Table) → AllByRecursion (IsTableValid version keep) tables
    → AllByRecursion (IsTableValid version keep) (map (tracked_as id tracked) tables)
tracking_keeps version keep id tracked is tables all =
    all_map (IsTableValid version keep) _ (tracked_as id tracked) (λ t valid. either version keep (eqb t.schema.id id) _ _ (with_tracked version version keep keep tracked t is valid) valid) tables all

-- the settings

settings_on : (version : ℕ) (keep : Option Keep) (now : Keep) (tracked : Option Tracked) → IsTrackedValid version keep tracked
    → IsTrackedValid version (Some now) tracked
settings_on version keep now None valid = tt
settings_on version keep now (Some tracked) valid = (refl, valid.1)

untracked_valid : (version : ℕ) (keep : Option Keep) (tracked : Option Tracked) → tracked ≡ None → IsTrackedValid version keep tracked
untracked_valid version keep None e = tt
untracked_valid version keep (Some tracked) e = cc

pub tables_keep : (db : Db) (version : ℕ) (draws : Bool) (act : Act) → db.version ≤ version → ActApplies db version draws act
    → AreNumbered 1 db.tables → AllByRecursion (IsTableValid db.version db.keep) db.tables
    → AllByRecursion (IsTableValid version (keep_after act db.keep)) (tables_after act version draws db.tables)
tables_keep db version draws (Commit writes) le applies numbered all = writes_keep version db.keep writes db.tables numbered applies.1 (tables_later db.version version db.keep le db.tables all)
tables_keep db version draws (Define schema) le applies numbered all =
    all_append _ db.tables _ (tables_later db.version version db.keep le db.tables all) (record { schema = applies.0.definable; rows = tt; rising = tt; tracked = tt }, tt)
tables_keep db version draws (Truncate id) le applies numbered all =
    all_map (IsTableValid version db.keep) _ (truncated id version draws) (λ t valid. either version db.keep (eqb t.schema.id id) _ _ (emptied_valid version db.keep draws t valid) valid) db.tables
    (tables_later db.version version db.keep le db.tables all)
tables_keep db version draws (Enable id masks) le applies numbered all =
    tracking_keeps version db.keep id (Some (record { min = version; masks = masks })) (applies.0, omega arith) db.tables (tables_later db.version version db.keep le db.tables all)
tables_keep db version draws (Disable id) le applies numbered all = tracking_keeps version db.keep id None tt db.tables (tables_later db.version version db.keep le db.tables all)
tables_keep db version draws (Database (Some now)) le applies numbered all =
    all_weaken _ _ (λ t valid. with_tracked version version db.keep (Some now) t.tracked t (settings_on version db.keep now t.tracked valid.tracked) valid) db.tables (tables_later db.version version db.keep le db.tables all)
tables_keep db version draws (Database None) le applies numbered all =
    all_join _ _ _ (λ t valid none. with_tracked db.version version db.keep None t.tracked t (untracked_valid version None t.tracked none) valid) db.tables all applies.1
tables_keep db version draws (Raise minima) le applies numbered all =
    raises_keep version db.keep minima db.tables (all_weaken (IsRaise db.tables version) _ (λ listed raise. raise.1) minima applies.2) (tables_later db.version version db.keep le db.tables all)
