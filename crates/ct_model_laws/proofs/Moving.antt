-- What an act does to the row of a key, in a table that is tracked after it with a minimum up to a noted version: the
-- row stays, or one of the act's changes is of its key.
use Rattle.std.proofs.Common.{◌≡◌, ◌≤◌, ◌<◌, ◌⊎◌, inl, inr, ⊎_elim, ℕ, Bool, true, false, cond, eqb, eqb-true, List, [], ◌∷◌, ◌++◌, map, filter, Option, None, Some, is_some, refl, sym, ap, ◌∙◌, subst, arith}
use Rattle.std.specs.List.{AllByRecursion}
use Rattle.std.specs.declared.cmp.Ordering.{Ordering}
use Rattle.std.specs.declared.cmp.Ordering.TheVariants.{Less, Equal, Greater}
use Rattle.ct_types.specs.Order.{key_cmp}
use Rattle.std.proofs.lemmas.Cmp.{tied_itself}
use Rattle.ct_types.proofs.Orders.{key_cmp_total, key_cmp_exact}
use Rattle.ct_types.specs.declared.value.Key.{Key}
use Rattle.ct_types.specs.declared.value.Row.{Row}
use Rattle.ct_types.specs.declared.schema.Schema.{Schema}
use Rattle.ct_types.specs.declared.tracked.Tracked.{Tracked}
use Rattle.ct_types.specs.declared.entry.Change.{Change}
use Rattle.ct_types.specs.declared.entry.Write.{Write}
use Rattle.ct_types.specs.declared.entry.Min.{Min}
use Rattle.ct_types.specs.declared.entry.Act.{Act}
use Rattle.ct_types.specs.declared.entry.Act.TheVariants.{Commit, Define, Truncate, Enable, Disable, Database, Raise}
use Rattle.ct_model.specs.declared.db.Table.{Table}
use Rattle.ct_model.specs.declared.db.Db.{Db}
use Rattle.ct_model.specs.Applies.{WriteFits, WritesApply, MinRises, IsRaise, ActApplies}
use Rattle.ct_model.specs.Apply.{written, tracked_as, with_min, truncated, raised, tables_after, change_of, changes_of}
use Rattle.ct_model.specs.Tables.{key_of, rows_with, row_at, table_of}
use Rattle.ct_model.specs.Valid.{AreNumbered}
use Rattle.ct_types.proofs.Lists.{all_everywhere}
use Rattle.ct_model.proofs.Members.{all_weaken}
use Rattle.ct_model_laws.proofs.Fitting.{written_row}
use Rattle.ct_model_laws.proofs.Following.{numbered_map, written_schema, written_tracked, after_writes, after_writes_schema, after_writes_tracked, after_raises, after_raises_schema, raised_schema, truncation_keeps, tracked_as_schema, fold_of_maps}
use Rattle.ct_model_laws.proofs.Keeping.{each_found}
use Rattle.ct_model_laws.proofs.NetKeys.{IsOf, IsWithin}
use Rattle.ct_model.proofs.RowAt.{row_stays}
use Rattle.ct_model_laws.proofs.Somewhere.{Somewhere, some_map, some_from_map, some_filter, some_from_filter, any_from_some}

pub record Moves (noted : ℕ) (changes : List Change) (old new : Table) : Type 0 where
  pub schema : new.schema ≡ old.schema
  pub tracked : IsWithin noted old.tracked
  pub rows : (key : Key) → (row_at old.schema new.rows key ≡ row_at old.schema old.rows key) ⊎ Somewhere (IsOf old.schema.id key) changes

-- a table that is found, and tracked within the noted version, was found before
abbrev pub FoundMoves : ℕ → List Change → Option Table → Option Table → Type 0
FoundMoves noted changes old new = (after : Table) → new ≡ Some after → IsWithin noted after.tracked → (before : Table) × (old ≡ Some before) × Moves noted changes before after

abbrev TableMoves : ℕ → List Change → Table → Table → Type 0
TableMoves noted changes old new = IsWithin noted new.tracked → Moves noted changes old new

itself : (noted : ℕ) (changes : List Change) (t : Table) → TableMoves noted changes t t
itself noted changes t within = record { schema = refl; tracked = within; rows = λ key. inl refl }

moves_map : (noted : ℕ) (changes : List Change) (P : Table → Type 0) (f : Table → Table) → ((t : Table) → (f t).schema ≡ t.schema)
    → ((t : Table) → P t → TableMoves noted changes t (f t)) → (tables : List Table) (id : ℕ) → AllByRecursion P tables
    → FoundMoves noted changes (table_of tables id) (table_of (map f tables) id)
moves_map noted changes P f same moves [] id all after is within = cc
moves_map noted changes P f same moves (t ∷ ts) id all after is within =
    let there : cond (eqb t.schema.id id) (Some (f t)) (table_of (map f ts) id) ≡ Some after = subst (λ s. cond (eqb s.id id) (Some (f t)) (table_of (map f ts) id) ≡ Some after) (same t) is in
    let step : (b : Bool) → cond b (Some (f t)) (table_of (map f ts) id) ≡ Some after → (before : Table) × (cond b (Some t) (table_of ts id) ≡ Some before) × Moves noted changes before after =
    elim [
      | true ↦ (λ e. let eq : f t ≡ after = cc in (t, refl, subst (Moves noted changes t) eq (moves t all.0 (subst (λ x. IsWithin noted x.tracked) (sym eq) within))))
      | false ↦ (λ e. moves_map noted changes P f same moves ts id all.1 after e within)
    ] in
    step (eqb t.schema.id id) there

-- writes

-- the writes fit this table, each after those before it
abbrev pub WritesOn : List Write → Table → Type 0
WritesOn [] table = Unit {0}
WritesOn (write ∷ writes) table = (table.schema.id ≡ write.table → WriteFits write table) × WritesOn writes (written write table)

all_from_map : {X : Type 0} (P Q : X → Type 0) (f : X → X) (xs : List X) → AllByRecursion P (map f xs) → AllByRecursion Q xs
    → AllByRecursion (λ x. Q x × P (f x)) xs
all_from_map P Q f [] ps qs = tt
all_from_map P Q f (x ∷ xs) ps qs = ((qs.0, ps.0), all_from_map P Q f xs ps.1 qs.1)

pub writes_on : (writes : List Write) (tables : List Table) → AreNumbered 1 tables → WritesApply tables writes
    → AllByRecursion (WritesOn writes) tables
writes_on [] tables numbered apply = all_everywhere _ (λ t. tt) tables
writes_on (write ∷ writes) tables numbered apply =
    all_from_map (WritesOn writes) (λ t. t.schema.id ≡ write.table → WriteFits write t) (written write) tables
    (writes_on writes (map (written write) tables) (numbered_map (written write) (written_schema write) 1 tables numbered) apply.1)
    (each_found (WriteFits write) write.table 1 tables numbered apply.0)

-- a tracked write of this table and key
abbrev IsWriteOf : ℕ → Key → Write → Type 0
IsWriteOf id key write = (write.tracked ≡ true) × (write.table ≡ id) × (write.key ≡ key)

put_moves : (t : Table) (write : Write) (key : Key) → is_some t.tracked ≡ true → WriteFits write t → t.schema.id ≡ write.table
    → (row_at t.schema (rows_with t.schema t.rows write.key write.row) key ≡ row_at t.schema t.rows key) ⊎ IsWriteOf t.schema.id key write
put_moves t write key tracked fits here =
    let at = all_weaken _ (λ r. key_of t.schema r ≡ write.key) (λ r is. is.1) _ (written_row t.schema write.op write.key write.row fits.row) in
    let step : (o : Ordering) → o ≡ key_cmp write.key key → (row_at t.schema (rows_with t.schema t.rows write.key write.row) key ≡ row_at t.schema t.rows key) ⊎ IsWriteOf t.schema.id key write =
    elim [
      | Less ↦ (λ e. inl (row_stays t.schema t.rows write.key key write.row at (λ same. differs Less e same (λ d. cc))))
      | Equal ↦ (λ e. inr (fits.tracked ∙ tracked, sym here, key_cmp_exact write.key key (sym e)))
      | Greater ↦ (λ e. inl (row_stays t.schema t.rows write.key key write.row at (λ same. differs Greater e same (λ d. cc))))
    ] in
    step (key_cmp write.key key) refl
  where
    differs : (o : Ordering) → o ≡ key_cmp write.key key → write.key ≡ key → (o ≡ Equal → ⊥) → ⊥
    differs o e same other = other (e ∙ ap (λ k. key_cmp k key) same ∙ tied_itself key_cmp_total key)

written_moves : (t : Table) (write : Write) (key : Key) → is_some t.tracked ≡ true → (t.schema.id ≡ write.table → WriteFits write t)
    → (row_at t.schema (written write t).rows key ≡ row_at t.schema t.rows key) ⊎ IsWriteOf t.schema.id key write
written_moves t write key tracked fits =
    let step : (b : Bool) → b ≡ eqb t.schema.id write.table
    → (row_at t.schema (cond b (record t { rows = rows_with t.schema t.rows write.key write.row }) t).rows key ≡ row_at t.schema t.rows key) ⊎ IsWriteOf t.schema.id key write =
    elim [ true ↦ (λ e. let here = eqb-true t.schema.id write.table (sym e) in put_moves t write key tracked (fits here) here) | false ↦ (λ e. inl refl) ] in
    step (eqb t.schema.id write.table) refl

writes_move : (writes : List Write) (t : Table) (key : Key) → is_some t.tracked ≡ true → WritesOn writes t
    → (row_at t.schema (after_writes writes t).rows key ≡ row_at t.schema t.rows key) ⊎ Somewhere (IsWriteOf t.schema.id key) writes
writes_move [] t key tracked on = inl refl
writes_move (write ∷ writes) t key tracked on =
    let u = written write t in
    let same : u.schema ≡ t.schema = written_schema write t in
    let later = subst (λ s. (row_at s (after_writes writes u).rows key ≡ row_at s u.rows key) ⊎ Somewhere (IsWriteOf s.id key) writes) same
    (writes_move writes u key (ap is_some (written_tracked write t) ∙ tracked) on.1) in
    join _ _ _ _ _ (written_moves t write key tracked on.0) later
  where
    join : (A B C : Option Row) (W S : Type 0) → (B ≡ C) ⊎ W → (A ≡ B) ⊎ S → (A ≡ C) ⊎ (W ⊎ S)
    join A B C W S (inr w) later = inr (inl w)
    join A B C W S (inl e) (inr s) = inr (inr s)
    join A B C W S (inl e) (inl f) = inl (f ∙ e)

write_changes : (id : ℕ) (key : Key) (writes : List Write) → Somewhere (IsWriteOf id key) writes
    → Somewhere (IsOf id key) (map change_of (filter (λ write. write.tracked) writes))
write_changes id key writes some = some_map (IsWriteOf id key) (IsOf id key) change_of (λ write is. (is.1, is.2)) _ (some_filter (IsWriteOf id key) (λ write. write.tracked) (λ write is. is.0) writes some)

within_some : (noted : ℕ) (tracked : Option Tracked) → IsWithin noted tracked → is_some tracked ≡ true
within_some noted None within = elim within [ ]
within_some noted (Some tracked) within = refl

commit_moves : (noted : ℕ) (writes : List Write) (t : Table) → WritesOn writes t
    → TableMoves noted (changes_of (Commit writes)) t (after_writes writes t)
commit_moves noted writes t on within =
    let tracked = subst (IsWithin noted) (after_writes_tracked writes t) within in
    record {
      schema = after_writes_schema writes t;
      tracked = tracked;
      rows = λ key. ⊎_elim (λ e. inl e) (λ s. inr (write_changes t.schema.id key writes s)) (writes_move writes t key (within_some noted t.tracked tracked) on);
    }

-- minima

-- tracked as before, with a minimum that is no less
abbrev HasGrown : Option Tracked → Option Tracked → Type 0
HasGrown None None = Unit {0}
HasGrown None (Some now) = ⊥
HasGrown (Some before) None = ⊥
HasGrown (Some before) (Some now) = before.min ≤ now.min

grown_itself : (tracked : Option Tracked) → HasGrown tracked tracked
grown_itself None = tt
grown_itself (Some tracked) = omega arith

grown_within : (noted : ℕ) (before now : Option Tracked) → HasGrown before now → IsWithin noted now → IsWithin noted before
grown_within noted None None grown within = within
grown_within noted None (Some now) grown within = elim grown [ ]
grown_within noted (Some before) None grown within = elim grown [ ]
grown_within noted (Some before) (Some now) grown within = omega (arith, grown, within)

min_grows : (min : ℕ) (before now : Option Tracked) → MinRises min before → HasGrown before now → HasGrown before (with_min min now)
min_grows min None now rises grown = elim rises [ ]
min_grows min (Some before) None rises grown = grown
min_grows min (Some before) (Some now) rises grown = omega (arith, rises)

raise_grows : (before : Option Tracked) (listed : Min) (t : Table) → (t.schema.id ≡ listed.table → MinRises listed.min before)
    → HasGrown before t.tracked → HasGrown before (raised listed t).tracked
raise_grows before listed t rises grown =
    let step : (b : Bool) → b ≡ eqb t.schema.id listed.table → HasGrown before (cond b (record t { tracked = with_min listed.min t.tracked }) t).tracked =
    elim [ true ↦ (λ e. min_grows listed.min before t.tracked (rises (eqb-true _ _ (sym e))) grown) | false ↦ (λ e. grown) ] in
    step (eqb t.schema.id listed.table) refl

raises_grow : (before : Option Tracked) (minima : List Min) (t : Table)
    → AllByRecursion (λ listed. t.schema.id ≡ listed.table → MinRises listed.min before) minima → HasGrown before t.tracked
    → HasGrown before (after_raises minima t).tracked
raises_grow before [] t rises grown = grown
raises_grow before (listed ∷ minima) t rises grown =
    raises_grow before minima (raised listed t) (subst (λ s. AllByRecursion (λ listed. s.id ≡ listed.table → MinRises listed.min before) minima) (sym (raised_schema listed t)) rises.1)
    (raise_grows before listed t rises.0 grown)

raised_rows : (listed : Min) (t : Table) → (raised listed t).rows ≡ t.rows
raised_rows listed t = elim (eqb t.schema.id listed.table) as (λ b. (cond b (record t { tracked = with_min listed.min t.tracked }) t).rows ≡ t.rows) [ true ↦ refl | false ↦ refl ]

after_raises_rows : (minima : List Min) (t : Table) → (after_raises minima t).rows ≡ t.rows
after_raises_rows [] t = refl
after_raises_rows (listed ∷ minima) t = after_raises_rows minima (raised listed t) ∙ raised_rows listed t

abbrev RaisesOn : List Min → Table → Type 0
RaisesOn minima table = AllByRecursion (λ listed. table.schema.id ≡ listed.table → MinRises listed.min table.tracked) minima

raise_moves : (noted : ℕ) (minima : List Min) (t : Table) → RaisesOn minima t → TableMoves noted [] t (after_raises minima t)
raise_moves noted minima t rises within = record {
  schema = after_raises_schema minima t;
  tracked = grown_within noted t.tracked _ (raises_grow t.tracked minima t rises (grown_itself t.tracked)) within;
  rows = λ key. inl (ap (λ rows. row_at t.schema rows key) (after_raises_rows minima t));
}

all_cons : {A X : Type 0} (R : A → X → Type 0) (a : A) (others : List A) (xs : List X) → AllByRecursion (R a) xs
    → AllByRecursion (λ x. AllByRecursion (λ b. R b x) others) xs → AllByRecursion (λ x. AllByRecursion (λ b. R b x) (a ∷ others)) xs
all_cons R a others [] ps qs = tt
all_cons R a others (x ∷ xs) ps qs = ((ps.0, qs.0), all_cons R a others xs ps.1 qs.1)

raises_on : (version : ℕ) (minima : List Min) (tables : List Table) → AreNumbered 1 tables → AllByRecursion (IsRaise tables version) minima
    → AllByRecursion (RaisesOn minima) tables
raises_on version [] tables numbered raises = all_everywhere _ (λ t. tt) tables
raises_on version (listed ∷ minima) tables numbered raises =
    all_cons (λ listed t. t.schema.id ≡ listed.table → MinRises listed.min t.tracked) listed minima tables
    (each_found (λ t. MinRises listed.min t.tracked) listed.table 1 tables numbered raises.0.0)
    (raises_on version minima tables numbered raises.1)

-- a truncation, and tracking that goes on or off

draws_within : (noted version : ℕ) (draws : Bool) (tracked : Option Tracked) → draws ≡ is_some tracked → (draws ≡ true → noted < version)
    → IsWithin noted (cond draws (with_min version tracked) tracked) → ⊥
draws_within noted version true None is above within = cc
draws_within noted version true (Some tracked) is above within = let lt : noted < version = above refl in omega (arith, within)
draws_within noted version false None is above within = within
draws_within noted version false (Some tracked) is above within = cc

truncation_moves : (noted id version : ℕ) (draws : Bool) (t : Table) → (draws ≡ true → noted < version)
    → (t.schema.id ≡ id → draws ≡ is_some t.tracked) → TableMoves noted [] t (truncated id version draws t)
truncation_moves noted id version draws t above is =
    let step : (b : Bool) → b ≡ eqb t.schema.id id → TableMoves noted [] t (cond b (record t { rows = []; tracked = cond draws (with_min version t.tracked) t.tracked }) t) =
    elim [ true ↦ (λ e within. absurd (draws_within noted version draws t.tracked (is (eqb-true _ _ (sym e))) above within)) | false ↦ (λ e. itself noted [] t) ] in
    step (eqb t.schema.id id) refl

tracking_moves : (noted id : ℕ) (tracked : Option Tracked) (t : Table) → (IsWithin noted tracked → ⊥)
    → TableMoves noted [] t (tracked_as id tracked t)
tracking_moves noted id tracked t never =
    elim (eqb t.schema.id id) as (λ b. TableMoves noted [] t (cond b (record t { tracked = tracked }) t)) [ true ↦ (λ within. absurd (never within)) | false ↦ itself noted [] t ]

-- a definition: the new table is not tracked

define_moves : (noted : ℕ) (schema : Schema) (tables : List Table) (id : ℕ)
    → FoundMoves noted [] (table_of tables id) (table_of (tables ++ record { schema = schema; rows = []; tracked = None } ∷ []) id)
define_moves noted schema [] id after is within =
    let step : (b : Bool) → cond b (Some (record { schema = schema; rows = []; tracked = None })) None ≡ Some after → (before : Table) × (None ≡ Some before) × Moves noted [] before after =
    elim [
      | true ↦ (λ e. let new : record { schema = schema; rows = []; tracked = None } ≡ after = cc in absurd (subst (λ t. IsWithin noted t.tracked) (sym new) within))
      | false ↦ (λ e. cc)
    ] in
    step (eqb schema.id id) is
define_moves noted schema (t ∷ ts) id after is within =
    let step : (b : Bool) → cond b (Some t) (table_of (ts ++ record { schema = schema; rows = []; tracked = None } ∷ []) id) ≡ Some after
    → (before : Table) × (cond b (Some t) (table_of ts id) ≡ Some before) × Moves noted [] before after =
    elim [ true ↦ (λ e. (after, e, itself noted [] after within)) | false ↦ (λ e. define_moves noted schema ts id after e within) ] in
    step (eqb t.schema.id id) is

pub tables_move : (db : Db) (version noted id : ℕ) (draws : Bool) (act : Act) → (draws ≡ true → noted < version)
    → ActApplies db version draws act → AreNumbered 1 db.tables
    → FoundMoves noted (changes_of act) (table_of db.tables id) (table_of (tables_after act version draws db.tables) id)
tables_move db version noted id draws (Commit writes) above applies numbered =
    rw (fold_of_maps written writes db.tables)
    (moves_map noted (changes_of (Commit writes)) (WritesOn writes) (after_writes writes) (after_writes_schema writes) (commit_moves noted writes) db.tables id (writes_on writes db.tables numbered applies.1))
tables_move db version noted id draws (Define schema) above applies numbered = define_moves noted schema db.tables id
tables_move db version noted id draws (Truncate of) above applies numbered =
    moves_map noted [] (λ t. t.schema.id ≡ of → draws ≡ is_some t.tracked) (truncated of version draws) (truncation_keeps of version draws).schema (λ t is. truncation_moves noted of version draws t above is) db.tables id
    (each_found (λ t. draws ≡ is_some t.tracked) of 1 db.tables numbered applies)
tables_move db version noted id draws (Enable of masks) above applies numbered =
    let lt : noted < version = above applies.2 in
    let now : Option Tracked = Some (record { min = version; masks = masks }) in
    moves_map noted [] (λ t. Unit {0}) (tracked_as of now) (tracked_as_schema of now) (λ t u. tracking_moves noted of now t (λ within. omega (arith, within))) db.tables id (all_everywhere _ (λ t. tt) db.tables)
tables_move db version noted id draws (Disable of) above applies numbered =
    moves_map noted [] (λ t. Unit {0}) (tracked_as of None) (tracked_as_schema of None) (λ t u. tracking_moves noted of None t (λ within. within)) db.tables id (all_everywhere _ (λ t. tt) db.tables)
tables_move db version noted id draws (Database keep) above applies numbered = λ after is within. (after, is, itself noted [] after within)
tables_move db version noted id draws (Raise minima) above applies numbered =
    rw (fold_of_maps raised minima db.tables)
    (moves_map noted [] (RaisesOn minima) (after_raises minima) (after_raises_schema minima) (raise_moves noted minima) db.tables id (raises_on version minima db.tables numbered applies.2))

-- an act with changes draws
pub changes_draw : (db : Db) (version id : ℕ) (key : Key) (draws : Bool) (act : Act) → ActApplies db version draws act
    → Somewhere (IsOf id key) (changes_of act) → draws ≡ true
changes_draw db version id key draws (Commit writes) applies some =
    applies.2 ∙ any_from_some (λ write. write.tracked ≡ true) (λ write. write.tracked) (λ write e. e) writes
    (some_from_filter (λ write. Unit {0}) _ (λ write. write.tracked) (λ write e u. e) writes (some_from_map (λ write. Unit {0}) (IsOf id key) change_of (λ write is. tt) _ some))
changes_draw db version id key draws (Define schema) applies some = elim some [ ]
changes_draw db version id key draws (Truncate of) applies some = elim some [ ]
changes_draw db version id key draws (Enable of masks) applies some = elim some [ ]
changes_draw db version id key draws (Disable of) applies some = elim some [ ]
changes_draw db version id key draws (Database keep) applies some = elim some [ ]
changes_draw db version id key draws (Raise minima) applies some = elim some [ ]
