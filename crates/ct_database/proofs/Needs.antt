-- Whether some tracked table needs what was changed at a version, and that no act makes a table need more of what is stored.
use Rattle.std.proofs.Common.{◌≡◌, ◌≢◌, ℕ, ◌+◌, ◌≤◌, nat_lt, Bool, true, false, cond, ◌==◌, ◌&&◌, ◌||◌, List, [], ◌∷◌, ◌++◌, map, fold, Option, None, Some, if◌then◌else◌, refl, sym, ap, ◌∙◌, subst, inl, eqb-true, eq-eqb, arith, tests}
use Rattle.std.specs.List.{AllByRecursion, list_any}
use Rattle.std.specs.Option.{IfSome}
use Rattle.std.proofs.lemmas.Simd.{map-map}
use Rattle.std.proofs.lemmas.List.Folds.{list_any-append}
use Rattle.ct_types.specs.declared.schema.Schema.{Schema}
use Rattle.ct_types.specs.declared.tracked.Tracked.{Tracked}
use Rattle.ct_types.specs.declared.entry.Min.{Min}
use Rattle.ct_types.specs.declared.entry.Write.{Write}
use Rattle.ct_types.specs.declared.entry.Act.{Act}
use Rattle.ct_types.specs.declared.entry.Act.TheVariants.{Commit, Define, Truncate, Enable, Disable, Database, Raise}
use Rattle.ct_types.proofs.Lists.{all_join, all_everywhere}
use Rattle.ct_model.specs.declared.db.Table.{Table}
use Rattle.ct_model.specs.Apply.{written, tracked_as, truncated, raised, with_min, tables_after}
use Rattle.ct_model.specs.Tables.{table_of, rows_with, is_above}
use Rattle.ct_model.specs.Valid.{AreNumbered}
use Rattle.ct_model.proofs.Members.{all_weaken}
use Rattle.ct_database.specs.Storable.{IsMinStorable, IsActStorable}
use Rattle.ct_database.proofs.Numbered.{not_equal, no_table}

-- some table, whose id passes a test, is tracked with a minimum below the version
abbrev pub needed : (ℕ → Bool) → ℕ → List Table → Bool
needed test version tables = list_any (λ table. test table.schema.id && is_above version table.tracked) tables

-- ---- tests

pub or_weaker : (a b c d : Bool) → (a ≡ true → c ≡ true) → (b ≡ true → d ≡ true) → (a || b) ≡ true → (c || d) ≡ true
or_weaker true b c d first second e = ap (λ (x : Bool). x || d) (first refl)
or_weaker false b true d first second e = refl
or_weaker false b false d first second e = second e

and_weaker : (t b d : Bool) → (b ≡ true → d ≡ true) → (t && b) ≡ true → (t && d) ≡ true
and_weaker true b d weaker e = weaker e
and_weaker false b d weaker e = e

or_none : (a b : Bool) → b ≡ false → (a || b) ≡ a
or_none true b e = refl
or_none false b e = e

-- ---- tables that are changed one by one

-- the changed table needs no more of a version than the table did
abbrev pub NeedsNoMore : ℕ → (Table → Table) → Table → Type 0
NeedsNoMore version f table = ((f table).schema ≡ table.schema) × (is_above version (f table).tracked ≡ true → is_above version table.tracked ≡ true)

mapped_needs : (test : ℕ → Bool) (version : ℕ) (f : Table → Table) (tables : List Table) → AllByRecursion (NeedsNoMore version f) tables
    → needed test version (map f tables) ≡ true → needed test version tables ≡ true
mapped_needs test version f [] all needs = needs
mapped_needs test version f (table ∷ tables) all needs =
    let here : (test (f table).schema.id && is_above version (f table).tracked) ≡ true → (test table.schema.id && is_above version table.tracked) ≡ true =
    (λ e. and_weaker (test table.schema.id) (is_above version (f table).tracked) (is_above version table.tracked) all.0.1
    (subst (λ (s : Schema). (test s.id && is_above version (f table).tracked) ≡ true) all.0.0 e)) in
    or_weaker (test (f table).schema.id && is_above version (f table).tracked) (needed test version (map f tables)) (test table.schema.id && is_above version table.tracked) (needed test version tables)
    here (mapped_needs test version f tables all.1) needs

all_mapped_needs : (test : ℕ → Bool) (version : ℕ) (f : Table → Table) → ((table : Table) → NeedsNoMore version f table) → (tables : List Table)
    → needed test version (map f tables) ≡ true → needed test version tables ≡ true
all_mapped_needs test version f each tables = mapped_needs test version f tables (all_everywhere (NeedsNoMore version f) each tables)

-- ---- writes, and other ways to track

written_needs : (version : ℕ) (write : Write) (table : Table) → NeedsNoMore version (written write) table
written_needs version write table =
    let now : Bool → Table = (λ b. if b then record table { rows = rows_with table.schema table.rows write.key write.row } else table) in
    let step : (b : Bool) → ((now b).schema ≡ table.schema) × (is_above version (now b).tracked ≡ true → is_above version table.tracked ≡ true) = elim [ true ↦ (refl, λ e. e) | false ↦ (refl, λ e. e) ] in
    step (table.schema.id == write.table)

all_written_need : (test : ℕ → Bool) (version : ℕ) (writes : List Write) (tables : List Table)
    → needed test version (fold (λ before write. map (written write) before) tables writes) ≡ true → needed test version tables ≡ true
all_written_need test version [] tables needs = needs
all_written_need test version (write ∷ writes) tables needs =
    all_mapped_needs test version (written write) (written_needs version write) tables (all_written_need test version writes (map (written write) tables) needs)

clash : {P : Type 0} (a : Bool) → a ≡ false → a ≡ true → P
clash a fails passes = absurd (let bad : false ≡ true = sym fails ∙ passes in cc)

tracked_needs : (version id : ℕ) (tracked : Option Tracked) → is_above version tracked ≡ false → (table : Table) → NeedsNoMore version (tracked_as id tracked) table
tracked_needs version id tracked none table =
    let now : Bool → Table = (λ b. if b then record table { tracked = tracked } else table) in
    let step : (b : Bool) → ((now b).schema ≡ table.schema) × (is_above version (now b).tracked ≡ true → is_above version table.tracked ≡ true) =
    elim [ true ↦ (refl, λ e. clash (is_above version tracked) none e) | false ↦ (refl, λ e. e) ] in
    step (table.schema.id == id)

above_none : (version min : ℕ) → version ≤ min → nat_lt min version ≡ false
above_none version min low = search (tests, arith)

with_min_above : (version min : ℕ) → version ≤ min → (tracked : Option Tracked) → is_above version (with_min min tracked) ≡ false
with_min_above version min low None = refl
with_min_above version min low (Some tracked) = above_none version min low

truncated_needs : (version id min : ℕ) (draws : Bool) → version ≤ min → (table : Table) → NeedsNoMore version (truncated id min draws) table
truncated_needs version id min true low table =
    let now : Bool → Table = (λ b. if b then record table { rows = []; tracked = with_min min table.tracked } else table) in
    let step : (b : Bool) → ((now b).schema ≡ table.schema) × (is_above version (now b).tracked ≡ true → is_above version table.tracked ≡ true) =
    elim [ true ↦ (refl, λ e. clash (is_above version (with_min min table.tracked)) (with_min_above version min low table.tracked) e) | false ↦ (refl, λ e. e) ] in
    step (table.schema.id == id)
truncated_needs version id min false low table =
    let now : Bool → Table = (λ b. if b then record table { rows = []; tracked = table.tracked } else table) in
    let step : (b : Bool) → ((now b).schema ≡ table.schema) × (is_above version (now b).tracked ≡ true → is_above version table.tracked ≡ true) = elim [ true ↦ (refl, λ e. e) | false ↦ (refl, λ e. e) ] in
    step (table.schema.id == id)

-- ---- minima that rise

-- tracked as before or with a higher minimum, or no more
abbrev IsNarrower : Option Tracked → Option Tracked → Type 0
IsNarrower old None = Unit {0}
IsNarrower None (Some now) = ⊥
IsNarrower (Some old) (Some now) = old.min ≤ now.min

abbrev MayRise : Option Tracked → ℕ → Type 0
MayRise tracked min = IfSome tracked (λ tracked. tracked.min ≤ min)

itself_narrower : (tracked : Option Tracked) → IsNarrower tracked tracked
itself_narrower None = tt
itself_narrower (Some tracked) = omega arith

rises : (old now : Option Tracked) (min : ℕ) → MayRise old min → IsNarrower old now → IsNarrower old (with_min min now)
rises old None min may narrower = tt
rises None (Some now) min may narrower = narrower
rises (Some old) (Some now) min may narrower = may

narrower_above : (version : ℕ) (old now : Option Tracked) → IsNarrower old now → is_above version now ≡ true → is_above version old ≡ true
narrower_above version old None narrower e = absurd (let bad : false ≡ true = e in cc)
narrower_above version None (Some now) narrower e = absurd narrower
narrower_above version (Some old) (Some now) narrower e = search (tests, arith)

abbrev pub raised_all : List Min → Table → Table
raised_all minima table = fold (λ (before : Table) (listed : Min). raised listed before) table minima

abbrev IsRaisedFrom : Table → Table → Type 0
IsRaisedFrom table now = (now.schema ≡ table.schema) × IsNarrower table.tracked now.tracked

raised_once : (table now : Table) (listed : Min) → (listed.table ≡ table.schema.id → MayRise table.tracked listed.min) → IsRaisedFrom table now → IsRaisedFrom table (raised listed now)
raised_once table now listed may from =
    let own : (b : Bool) → b ≡ (now.schema.id == listed.table) → IsRaisedFrom table (if b then record now { tracked = with_min listed.min now.tracked } else now) =
    elim [
      | true ↦
          (λ e. let id : now.schema.id ≡ listed.table = eqb-true now.schema.id listed.table (sym e) in
          (from.0, rises table.tracked now.tracked listed.min (may (sym id ∙ ap (λ (s : Schema). s.id) from.0)) from.1))
      | false ↦ (λ e. from)
    ] in
    own (now.schema.id == listed.table) refl

all_raised : (table : Table) (minima : List Min) (now : Table) → AllByRecursion (λ listed. listed.table ≡ table.schema.id → MayRise table.tracked listed.min) minima
    → IsRaisedFrom table now → IsRaisedFrom table (raised_all minima now)
all_raised table [] now may from = from
all_raised table (listed ∷ minima) now may from = all_raised table minima (raised listed now) may.1 (raised_once table now listed may.0 from)

map_itself : {X : Type 0} (xs : List X) → xs ≡ map (λ x. x) xs
map_itself [] = refl
map_itself (x ∷ xs) = ap (λ rest. x ∷ rest) (map_itself xs)

-- tables that are raised by one minimum after the other are each raised by all
pub raised_each : (minima : List Min) (tables : List Table) → fold (λ before listed. map (raised listed) before) tables minima ≡ map (raised_all minima) tables
raised_each [] tables = map_itself tables
raised_each (listed ∷ minima) tables = raised_each minima (map (raised listed) tables) ∙ map-map (raised_all minima) (raised listed) tables

-- ---- the table of an id

numbered_from : (from : ℕ) (tables : List Table) → AreNumbered from tables → AllByRecursion (λ table. from ≤ table.schema.id) tables
numbered_from from [] numbered = tt
numbered_from from (table ∷ tables) numbered =
    (omega (arith, numbered.0), all_weaken (λ table. from + 1 ≤ table.schema.id) (λ table. from ≤ table.schema.id) (λ table le. omega arith) tables (numbered_from (from + 1) tables numbered.1))

own_later : (from : ℕ) (first table : Table) (tables : List Table) → first.schema.id ≡ from → from + 1 ≤ table.schema.id → table_of tables table.schema.id ≡ Some table
    → table_of (first ∷ tables) table.schema.id ≡ Some table
own_later from first table tables is later found =
    let other : first.schema.id ≢ table.schema.id = (λ e. absurd (omega (arith, is, e))) in
    rw (not_equal first.schema.id table.schema.id other) found

-- each table is found by its id
all_found : (from : ℕ) (tables : List Table) → AreNumbered from tables → AllByRecursion (λ table. table_of tables table.schema.id ≡ Some table) tables
all_found from [] numbered = tt
all_found from (first ∷ tables) numbered = (
  rw (eq-eqb first.schema.id first.schema.id refl) refl,
  all_join (λ table. from + 1 ≤ table.schema.id) (λ table. table_of tables table.schema.id ≡ Some table) (λ table. table_of (first ∷ tables) table.schema.id ≡ Some table)
      (λ table later found. own_later from first table tables numbered.0 later found) tables (numbered_from (from + 1) tables numbered.1) (all_found (from + 1) tables numbered.1),
)

raised_needs : (version : ℕ) (tables : List Table) (minima : List Min) → AllByRecursion (IsMinStorable tables) minima → (table : Table) → table_of tables table.schema.id ≡ Some table
    → NeedsNoMore version (raised_all minima) table
raised_needs version tables minima storable table found =
    let own : (listed : Min) → IsMinStorable tables listed → listed.table ≡ table.schema.id → MayRise table.tracked listed.min =
    (λ listed may e. subst (λ (it : Option Table). IfSome it (λ table. MayRise table.tracked listed.min)) (ap (table_of tables) e ∙ found) may) in
    let may = all_weaken (IsMinStorable tables) (λ listed. listed.table ≡ table.schema.id → MayRise table.tracked listed.min) own minima storable in
    let from = all_raised table minima table may (refl, itself_narrower table.tracked) in
    (from.0, narrower_above version table.tracked (raised_all minima table).tracked from.1)

all_raised_need : (test : ℕ → Bool) (version : ℕ) (tables : List Table) (minima : List Min) → AreNumbered 1 tables → AllByRecursion (IsMinStorable tables) minima
    → needed test version (fold (λ before listed. map (raised listed) before) tables minima) ≡ true → needed test version tables ≡ true
all_raised_need test version tables minima numbered storable needs =
    mapped_needs test version (raised_all minima) tables
    (all_weaken (λ table. table_of tables table.schema.id ≡ Some table) (NeedsNoMore version (raised_all minima)) (raised_needs version tables minima storable) tables (all_found 1 tables numbered))
    (subst (λ (now : List Table). needed test version now ≡ true) (raised_each minima tables) needs)

-- ---- acts

defined_needs : (test : ℕ → Bool) (version : ℕ) (schema : Schema) (tables : List Table)
    → needed test version (tables ++ record { schema = schema; rows = []; tracked = None } ∷ []) ≡ true → needed test version tables ≡ true
defined_needs test version schema tables needs =
    let none : (b : Bool) → ((b && false) || false) ≡ false = elim [ true ↦ refl | false ↦ refl ] in
    sym (list_any-append (λ (table : Table). test table.schema.id && is_above version table.tracked) tables (record { schema = schema; rows = []; tracked = None } ∷ [])
    ∙ or_none (needed test version tables) ((test schema.id && false) || false) (none (test schema.id)))
    ∙ needs

-- after an act of an entry, no table needs more of what was changed at or before the entry's version
pub act_needs : (act : Act) (entry : ℕ) (draws : Bool) (tables : List Table) → IsActStorable tables act → AreNumbered 1 tables
    → (test : ℕ → Bool) (version : ℕ) → version ≤ entry → needed test version (tables_after act entry draws tables) ≡ true → needed test version tables ≡ true
act_needs (Commit writes) entry draws tables storable numbered test version low = all_written_need test version writes tables
act_needs (Define schema) entry draws tables storable numbered test version low = defined_needs test version schema tables
act_needs (Truncate id) entry draws tables storable numbered test version low = all_mapped_needs test version (truncated id entry draws) (truncated_needs version id entry draws low) tables
act_needs (Enable id masks) entry draws tables storable numbered test version low =
    all_mapped_needs test version (tracked_as id (Some (record { min = entry; masks = masks }))) (tracked_needs version id (Some (record { min = entry; masks = masks })) (above_none version entry low)) tables
act_needs (Disable id) entry draws tables storable numbered test version low = all_mapped_needs test version (tracked_as id None) (tracked_needs version id None refl) tables
act_needs (Database keep) entry draws tables storable numbered test version low = λ needs. needs
act_needs (Raise minima) entry draws tables storable numbered test version low = all_raised_need test version tables minima numbered storable

-- ---- what the table of an id needs

-- whether a version is above the minimum of a table, if it is there
abbrev pub above_of : Option Table → ℕ → Bool
above_of None version = false
above_of (Some table) version = is_above version table.tracked

needed_other : (id version : ℕ) (tables : List Table) → AllByRecursion (λ table. table.schema.id ≢ id) tables → needed (λ it. it == id) version tables ≡ false
needed_other id version [] others = refl
needed_other id version (table ∷ tables) others = rw (not_equal table.schema.id id others.0) (needed_other id version tables others.1)

pub needed_own : (from id version : ℕ) (tables : List Table) → AreNumbered from tables → needed (λ it. it == id) version tables ≡ above_of (table_of tables id) version
needed_own from id version [] numbered = refl
needed_own from id version (table ∷ tables) numbered =
    let step : (b : Bool) → b ≡ (table.schema.id == id)
    → ((b && is_above version table.tracked) || needed (λ it. it == id) version tables) ≡ above_of (cond b (Some table) (table_of tables id)) version =
    elim [
      | true ↦
          (λ e. let is : table.schema.id ≡ id = eqb-true table.schema.id id (sym e) in
          or_none (is_above version table.tracked) (needed (λ it. it == id) version tables)
          (needed_other id version tables (no_table (from + 1) id tables numbered.1 (inl (omega (arith, is, numbered.0))))))
      | false ↦ (λ e. needed_own (from + 1) id version tables numbered.1)
    ] in
    step (table.schema.id == id) refl

-- what the table of an id needs, some table needs
pub needed_some : (test : ℕ → Bool) (version : ℕ) (tables : List Table) → needed test version tables ≡ true → list_any (λ table. is_above version table.tracked) tables ≡ true
needed_some test version [] needs = needs
needed_some test version (table ∷ tables) needs =
    let here : (t b : Bool) → (t && b) ≡ true → b ≡ true = (λ t b. elim t as (λ (t : Bool). (t && b) ≡ true → b ≡ true) [ true ↦ (λ e. e) | false ↦ (λ e. absurd (let bad : false ≡ true = e in cc)) ]) in
    or_weaker (test table.schema.id && is_above version table.tracked) (needed test version tables) (is_above version table.tracked) (list_any (λ table. is_above version table.tracked) tables)
    (here (test table.schema.id) (is_above version table.tracked)) (needed_some test version tables) needs
