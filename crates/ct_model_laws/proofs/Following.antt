-- The ids and the names of tables, and what fits of the kept changes, stay under each act.
use Rattle.std.proofs.Common.{◌≡◌, ◌≢◌, ◌≤◌, ◌+◌, ℕ, Bool, true, false, cond, eqb, List, [], ◌∷◌, ◌++◌, map, fold, length, Option, None, Some, refl, sym, ap, ◌∙◌, subst, arith, map-id, length-append}
use Rattle.std.proofs.lemmas.List.{length-map}
use Rattle.std.proofs.lemmas.Bool.Decides.{nat_tests}
use Rattle.std.specs.Prelude.{nat_lt}
use Rattle.std.specs.Option.{IsSomeAnd}
use Rattle.ct_types.specs.declared.schema.Schema.{Schema}
use Rattle.ct_types.specs.declared.tracked.Tracked.{Tracked}
use Rattle.ct_types.specs.declared.entry.Change.{Change}
use Rattle.ct_types.specs.declared.entry.Write.{Write}
use Rattle.ct_types.specs.declared.entry.Min.{Min}
use Rattle.ct_types.specs.declared.entry.Act.{Act}
use Rattle.ct_types.specs.declared.entry.Act.TheVariants.{Commit, Define, Truncate, Enable, Disable, Database, Raise}
use Rattle.ct_model.specs.declared.db.Table.{Table}
use Rattle.ct_model.specs.declared.db.Db.{Db}
use Rattle.ct_model.specs.Applies.{IsNewSchema, ActApplies}
use Rattle.ct_model.specs.Apply.{written, tracked_as, with_min, truncated, raised, tables_after}
use Rattle.ct_model.specs.Lists.{EachToLater}
use Rattle.ct_model.specs.Names.{folded}
use Rattle.ct_model.specs.Tables.{rows_with, table_of, is_above, has_masks}
use Rattle.ct_model.specs.Valid.{AreNumbered, ChangeFits}
use Rattle.ct_model.proofs.Members.{all_map, each_append}
use Rattle.ct_model_laws.proofs.Fitting.{mask_fits_on}
use Rattle.ct_model.proofs.Found.{some_and_weaken, found_map, found_append}

abbrev pub names_of : List Table → List (List ℕ)
names_of tables = map (λ table. folded table.schema.name) tables

-- a change up to this version that fits its old table fits its new one, where its version is above the new minimum
abbrev pub ChangesCarry : ℕ → List Table → List Table → Type 0
ChangesCarry version old new =
    (v : ℕ) (change : Change) → v ≤ version → IsSomeAnd (table_of old change.table) (ChangeFits v change)
    → IsSomeAnd (table_of new change.table) (λ table. is_above v table.tracked ≡ true → ChangeFits v change table)

pub record TablesFollow (version : ℕ) (old new : List Table) : Type 0 where
  pub few : length new ≤ 256
  pub numbered : AreNumbered 1 new
  pub names : EachToLater (λ a b. a ≢ b) (names_of new)
  pub carry : ChangesCarry version old new

-- a change of a table that keeps its schema, and its masks as long as a version up to this one is above its minimum
pub record KeepsTable (version : ℕ) (f : Table → Table) : Type 0 where
  pub schema : (t : Table) → (f t).schema ≡ t.schema
  pub masks : (v : ℕ) (t : Table) → v ≤ version → is_above v (f t).tracked ≡ true → has_masks (f t).tracked ≡ has_masks t.tracked

pub numbered_map : (f : Table → Table) → ((t : Table) → (f t).schema ≡ t.schema) → (first : ℕ) (tables : List Table)
    → AreNumbered first tables → AreNumbered first (map f tables)
numbered_map f same first [] numbered = tt
numbered_map f same first (t ∷ ts) numbered = (ap (λ s. s.id) (same t) ∙ numbered.0, numbered_map f same (first + 1) ts numbered.1)

pub names_map : (f : Table → Table) → ((t : Table) → (f t).schema ≡ t.schema) → (tables : List Table)
    → names_of (map f tables) ≡ names_of tables
names_map f same [] = refl
names_map f same (t ∷ ts) = cc (ap (λ s. folded s.name) (same t), names_map f same ts)

carry_one : (version v : ℕ) (f : Table → Table) (change : Change) (t : Table) → KeepsTable version f → v ≤ version → ChangeFits v change t
    → is_above v (f t).tracked ≡ true → ChangeFits v change (f t)
carry_one version v f change t keeps le fits above = record {
  above = above;
  key = rw (keeps.schema t) fits.key;
  mask = mask_fits_on t (f t) change.op change.mask (keeps.schema t) (keeps.masks v t le above) fits.mask;
  context = fits.context;
}

mapped_follow : (version : ℕ) (f : Table → Table) → KeepsTable version f → (tables : List Table) → length tables ≤ 256
    → AreNumbered 1 tables → EachToLater (λ a b. a ≢ b) (names_of tables) → TablesFollow version tables (map f tables)
mapped_follow version f keeps tables few numbered names = record {
  few = rw (length-map tables f) few;
  numbered = numbered_map f keeps.schema 1 tables numbered;
  names = subst (EachToLater (λ a b. a ≢ b)) (sym (names_map f keeps.schema tables)) names;
  carry = λ v change le fits. found_map (ChangeFits v change) _ f keeps.schema (λ t fits. carry_one version v f change t keeps le fits) tables change.table fits;
}

-- a write

pub written_schema : (write : Write) (t : Table) → (written write t).schema ≡ t.schema
written_schema write t =
    elim (eqb t.schema.id write.table) as (λ b. (cond b (record t { rows = rows_with t.schema t.rows write.key write.row }) t).schema ≡ t.schema) [ true ↦ refl | false ↦ refl ]

pub written_tracked : (write : Write) (t : Table) → (written write t).tracked ≡ t.tracked
written_tracked write t =
    elim (eqb t.schema.id write.table) as (λ b. (cond b (record t { rows = rows_with t.schema t.rows write.key write.row }) t).tracked ≡ t.tracked) [ true ↦ refl | false ↦ refl ]

-- a table after writes
abbrev pub after_writes : List Write → Table → Table
after_writes writes table = fold (λ t write. written write t) table writes

pub after_writes_schema : (writes : List Write) (t : Table) → (after_writes writes t).schema ≡ t.schema
after_writes_schema [] t = refl
after_writes_schema (write ∷ writes) t = after_writes_schema writes (written write t) ∙ written_schema write t

pub after_writes_tracked : (writes : List Write) (t : Table) → (after_writes writes t).tracked ≡ t.tracked
after_writes_tracked [] t = refl
after_writes_tracked (write ∷ writes) t = after_writes_tracked writes (written write t) ∙ written_tracked write t

map_twice : {X : Type 0} (g f : X → X) (xs : List X) → map g (map f xs) ≡ map (λ x. g (f x)) xs
map_twice g f [] = refl
map_twice g f (x ∷ xs) = ap (λ rest. g (f x) ∷ rest) (map_twice g f xs)

-- changes of all tables, one after the other, change each table by one after the other
pub fold_of_maps : {A X : Type 0} (g : A → X → X) (steps : List A) (xs : List X)
    → fold (λ ys step. map (g step) ys) xs steps ≡ map (λ x. fold (λ y step. g step y) x steps) xs
fold_of_maps g [] xs = sym (map-id xs)
fold_of_maps g (step ∷ steps) xs = fold_of_maps g steps (map (g step) xs) ∙ map_twice (λ x. fold (λ y step. g step y) x steps) (g step) xs

writes_keep : (version : ℕ) (writes : List Write) → KeepsTable version (after_writes writes)
writes_keep version writes = record {
  schema = after_writes_schema writes;
  masks = λ v t le above. ap has_masks (after_writes_tracked writes t);
}

-- a minimum

pub with_min_masks : (min : ℕ) (tracked : Option Tracked) → has_masks (with_min min tracked) ≡ has_masks tracked
with_min_masks min None = refl
with_min_masks min (Some tracked) = refl

pub raised_schema : (listed : Min) (t : Table) → (raised listed t).schema ≡ t.schema
raised_schema listed t =
    elim (eqb t.schema.id listed.table) as (λ b. (cond b (record t { tracked = with_min listed.min t.tracked }) t).schema ≡ t.schema) [ true ↦ refl | false ↦ refl ]

raised_masks : (listed : Min) (t : Table) → has_masks (raised listed t).tracked ≡ has_masks t.tracked
raised_masks listed t =
    elim (eqb t.schema.id listed.table) as (λ b. has_masks (cond b (record t { tracked = with_min listed.min t.tracked }) t).tracked ≡ has_masks t.tracked)
    [ true ↦ with_min_masks listed.min t.tracked | false ↦ refl ]

abbrev pub after_raises : List Min → Table → Table
after_raises minima table = fold (λ t listed. raised listed t) table minima

pub after_raises_schema : (minima : List Min) (t : Table) → (after_raises minima t).schema ≡ t.schema
after_raises_schema [] t = refl
after_raises_schema (listed ∷ minima) t = after_raises_schema minima (raised listed t) ∙ raised_schema listed t

after_raises_masks : (minima : List Min) (t : Table) → has_masks (after_raises minima t).tracked ≡ has_masks t.tracked
after_raises_masks [] t = refl
after_raises_masks (listed ∷ minima) t = after_raises_masks minima (raised listed t) ∙ raised_masks listed t

raises_keep : (version : ℕ) (minima : List Min) → KeepsTable version (after_raises minima)
raises_keep version minima = record { schema = after_raises_schema minima; masks = λ v t le above. after_raises_masks minima t }

-- a truncation

choose_masks : (draws : Bool) (version : ℕ) (tracked : Option Tracked)
    → has_masks (cond draws (with_min version tracked) tracked) ≡ has_masks tracked
choose_masks true version tracked = with_min_masks version tracked
choose_masks false version tracked = refl

pub truncation_keeps : (id version : ℕ) (draws : Bool) → KeepsTable version (truncated id version draws)
truncation_keeps id version draws = record {
  schema = λ t. elim (eqb t.schema.id id) as (λ b. (cond b (record t { rows = []; tracked = cond draws (with_min version t.tracked) t.tracked }) t).schema ≡ t.schema) [ true ↦ refl | false ↦ refl ];
  masks = λ v t le above.
      elim (eqb t.schema.id id) as (λ b. has_masks (cond b (record t { rows = []; tracked = cond draws (with_min version t.tracked) t.tracked }) t).tracked ≡ has_masks t.tracked)
      [ true ↦ choose_masks draws version t.tracked | false ↦ refl ];
}

-- tracking that goes on or off: no version up to this one is above the new minimum

none_above : (version v : ℕ) → v ≤ version → nat_lt version v ≡ false
none_above version v le = grind (arith, nat_tests)

abbrev HasNoneAbove : ℕ → Option Tracked → Type 0
HasNoneAbove version tracked = (v : ℕ) → v ≤ version → is_above v tracked ≡ false

pub tracked_as_schema : (id : ℕ) (tracked : Option Tracked) (t : Table) → (tracked_as id tracked t).schema ≡ t.schema
tracked_as_schema id tracked t = elim (eqb t.schema.id id) as (λ b. (cond b (record t { tracked = tracked }) t).schema ≡ t.schema) [ true ↦ refl | false ↦ refl ]

tracking_keeps : (id version : ℕ) (tracked : Option Tracked) → HasNoneAbove version tracked → KeepsTable version (tracked_as id tracked)
tracking_keeps id version tracked none = record {
  schema = tracked_as_schema id tracked;
  masks = λ v t le above.
      let step : (b : Bool) → is_above v (cond b (record t { tracked = tracked }) t).tracked ≡ true → has_masks (cond b (record t { tracked = tracked }) t).tracked ≡ has_masks t.tracked =
      elim [ true ↦ (λ a. cc (none v le, a)) | false ↦ (λ a. refl) ] in
      step (eqb t.schema.id id) above;
}

-- a definition

numbered_append : (first : ℕ) (tables : List Table) (t : Table) → AreNumbered first tables → t.schema.id ≡ first + length tables
    → AreNumbered first (tables ++ t ∷ [])
numbered_append first [] t numbered is = (omega (arith, is), tt)
numbered_append first (other ∷ tables) t numbered is = (numbered.0, numbered_append (first + 1) tables t numbered.1 (omega (arith, is)))

names_append : (tables : List Table) (t : Table) → names_of (tables ++ t ∷ []) ≡ names_of tables ++ folded t.schema.name ∷ []
names_append [] t = refl
names_append (other ∷ tables) t = ap (λ rest. folded other.schema.name ∷ rest) (names_append tables t)

defined_follow : (version : ℕ) (schema : Schema) (tables : List Table) → IsNewSchema tables schema → AreNumbered 1 tables
    → EachToLater (λ a b. a ≢ b) (names_of tables)
    → TablesFollow version tables (tables ++ record { schema = schema; rows = []; tracked = None } ∷ [])
defined_follow version schema tables new numbered names = record {
  few = omega (arith, new.room, length-append tables (record { schema = schema; rows = []; tracked = None } ∷ []));
  numbered = numbered_append 1 tables _ numbered (omega (arith, new.id));
  names = rw (names_append tables (record { schema = schema; rows = []; tracked = None }))
      (each_append (λ a b. a ≢ b) (names_of tables) (folded schema.name ∷ []) names (tt, tt) (all_map _ _ (λ table. folded table.schema.name) (λ t differs. (differs, tt)) tables new.name));
  carry = λ v change le fits. some_and_weaken (ChangeFits v change) _ (λ t fits above. fits) _ (found_append (ChangeFits v change) tables _ change.table fits);
}

pub tables_follow : (db : Db) (version : ℕ) (draws : Bool) (act : Act) → ActApplies db version draws act → length db.tables ≤ 256
    → AreNumbered 1 db.tables → EachToLater (λ a b. a ≢ b) (names_of db.tables)
    → TablesFollow version db.tables (tables_after act version draws db.tables)
tables_follow db version draws (Commit writes) applies few numbered names =
    rw (fold_of_maps written writes db.tables) (mapped_follow version (after_writes writes) (writes_keep version writes) db.tables few numbered names)
tables_follow db version draws (Define schema) applies few numbered names = defined_follow version schema db.tables applies.0 numbered names
tables_follow db version draws (Truncate id) applies few numbered names = mapped_follow version _ (truncation_keeps id version draws) db.tables few numbered names
tables_follow db version draws (Enable id masks) applies few numbered names =
    mapped_follow version _ (tracking_keeps id version (Some (record { min = version; masks = masks })) (λ v le. none_above version v le)) db.tables few numbered names
tables_follow db version draws (Disable id) applies few numbered names = mapped_follow version _ (tracking_keeps id version None (λ v le. refl)) db.tables few numbered names
tables_follow db version draws (Database keep) applies few numbered names = record {
  few = few;
  numbered = numbered;
  names = names;
  carry = λ v change le fits. some_and_weaken (ChangeFits v change) _ (λ t fits above. fits) _ fits;
}
tables_follow db version draws (Raise minima) applies few numbered names =
    rw (fold_of_maps raised minima db.tables) (mapped_follow version (after_raises minima) (raises_keep version minima) db.tables few numbered names)

-- a table that is there keeps its schema
pub act_schema : (schema : Schema) (version : ℕ) (draws : Bool) (act : Act) (tables : List Table) (id : ℕ) → IsSomeAnd (table_of tables id) (λ t. t.schema ≡ schema)
    → IsSomeAnd (table_of (tables_after act version draws tables) id) (λ t. t.schema ≡ schema)
act_schema schema version draws (Commit writes) tables id found =
    subst (λ (ts : List Table). IsSomeAnd (table_of ts id) (λ t. t.schema ≡ schema)) (sym (fold_of_maps written writes tables))
    (found_map _ _ (after_writes writes) (after_writes_schema writes) (λ t is. after_writes_schema writes t ∙ is) tables id found)
act_schema schema version draws (Define defined) tables id found = found_append _ tables _ id found
act_schema schema version draws (Truncate other) tables id found =
    found_map _ _ (truncated other version draws) (truncation_keeps other version draws).schema (λ t is. (truncation_keeps other version draws).schema t ∙ is) tables id found
act_schema schema version draws (Enable other masks) tables id found =
    found_map _ _ (tracked_as other _) (tracked_as_schema other _) (λ t is. tracked_as_schema other _ t ∙ is) tables id found
act_schema schema version draws (Disable other) tables id found = found_map _ _ (tracked_as other None) (tracked_as_schema other None) (λ t is. tracked_as_schema other None t ∙ is) tables id found
act_schema schema version draws (Database keep) tables id found = found
act_schema schema version draws (Raise minima) tables id found =
    subst (λ (ts : List Table). IsSomeAnd (table_of ts id) (λ t. t.schema ≡ schema)) (sym (fold_of_maps raised minima tables))
    (found_map _ _ (after_raises minima) (after_raises_schema minima) (λ t is. after_raises_schema minima t ∙ is) tables id found)
