-- The cause of each refusal of binding but three, told of the catalogue, the settings, the variables and the statement: nothing here says how
-- binding goes through a statement. The forms are T-SQL's; the limits, the rules of a table and the refusals without a number are this
-- project's own.
use Rattle.std.specs.Prelude.{◌≡◌, ◌≢◌, ℕ, ◌<◌, ◌≤◌, ◌⊎◌, Bool, true, false, not, ◌&&◌, codes, List, [], ◌∷◌, length, map, Option, Some, None, is_some, IsSome, IsNone, IsTrue, IsFalse}
use Rattle.std.specs.List.{Contains, list_all, position_from}
use Rattle.std.specs.Option.{IsSomeAnd}
use Rattle.ct_types.specs.declared.catalogue.Catalogued.{Catalogued}
use Rattle.ct_types.specs.declared.catalogue.Variable.{Variable}
use Rattle.ct_types.specs.declared.entry.Keep.{Keep}
use Rattle.ct_types.specs.declared.refusal.Refusal.{Refusal}
use Rattle.ct_types.specs.declared.refusal.Refusal.TheVariants.{NoColumn, NoObject, Exists, Overflow, NotTracked, AlreadyTracked, TrackingOff, TypeClash, BadRetention, TablesTracked, BadTable, Ambiguous, NoVariable, VariableExists, KeyUpdate, CountClash, TooMany}
use Rattle.ct_types.specs.declared.schema.Schema.{Schema}
use Rattle.ct_types.specs.declared.stmt.ColumnDef.{ColumnDef}
use Rattle.ct_types.specs.declared.stmt.DatabaseOption.TheVariants as option
use Rattle.ct_types.specs.declared.stmt.Retention.{Retention}
use Rattle.ct_types.specs.declared.stmt.Stmt.{Stmt}
use Rattle.ct_types.specs.declared.stmt.Stmt.TheVariants as stmt
use Rattle.ct_types.specs.declared.stmt.TypeName.{TypeName}
use Rattle.ct_types.specs.declared.stmt.TypeName.TheVariants as type
use Rattle.ct_types.specs.declared.stmt.WriteStmt.TheVariants as write
use Rattle.ct_bind_names.specs.Catalogue.{table_named, system_table, is_declared}
use Rattle.ct_bind_names.specs.Names.{same, table_name}
use Rattle.ct_bind_names.specs.Numbers.{within}
use Rattle.ct_bind_definition.specs.Definitions.{keys_written, is_there, is_repeated, has_clear_nulls, key_names, are_different, is_free_name, id_from, is_in_sys, tracked_count}
use Rattle.ct_bind.specs.Writes.{target_from, is_key}
use Rattle.ct_bind_refusal_laws.specs.Mentions.{Mention, OfTable, OfTracked, OfSource, OfVariable, OfNumber, OfTuple, of_statement}

-- ---- what a statement mentions

-- the statement mentions this
abbrev pub Mentions : Stmt → Mention → Type 0
Mentions statement mention = Contains (of_statement statement) mention

-- Overflow: the statement mentions a number above 9,223,372,036,854,775,807
abbrev pub MentionsTooLargeNumber : Stmt → Type 0
MentionsTooLargeNumber statement = (digits : List ℕ) × Mentions statement (OfNumber digits) × IsNone (within 0 9223372036854775807 digits)

-- ---- tables and variables of a name

-- no table of the catalogue has the name
abbrev pub HasNoTable : List Catalogued → List ℕ → Type 0
HasNoTable tables name = IsNone (table_named tables name)

-- a table of the catalogue has the name
abbrev pub HasTable : List Catalogued → List ℕ → Type 0
HasTable tables name = IsSome (table_named tables name)

-- a table of the catalogue has the name, and is tracked
abbrev pub HasTracked : List Catalogued → List ℕ → Type 0
HasTracked tables name = IsSomeAnd (table_named tables name) (λ table. IsSome table.tracked)

-- a table of the catalogue has the name, and is not tracked
abbrev pub HasUntracked : List Catalogued → List ℕ → Type 0
HasUntracked tables name = IsSomeAnd (table_named tables name) (λ table. IsNone table.tracked)

-- a variable of the name is declared
abbrev pub HasVariable : List Variable → List ℕ → Type 0
HasVariable variables name = IsTrue (is_declared variables name)

-- no variable of the name is declared
abbrev pub HasNoVariable : List Variable → List ℕ → Type 0
HasNoVariable variables name = IsFalse (is_declared variables name)

-- ---- NoObject: a table that is not there, or not where it may stand

-- a SELECT of two sources
abbrev pub Joins : Stmt → Type 0
Joins (stmt.Select query) = IsSomeAnd query.from (λ from. IsSome from.join)
Joins _ = ⊥

-- a SELECT of two sources, and the name of a system table
abbrev pub JoinsSystemTable : Stmt → List ℕ → Type 0
JoinsSystemTable statement name = Joins statement × IsSome (system_table name)

-- an UPDATE whose FROM names another table than the one that is updated, and this is its name
abbrev pub UpdatesFromAnother : Stmt → List ℕ → Type 0
UpdatesFromAnother (stmt.Write context (write.Update table sets from filter)) name =
    IsSomeAnd from (λ source. (name ≡ table_name source.table) × IsFalse (same name (table_name table)))
UpdatesFromAnother _ name = ⊥

-- neither a system table nor a table of the catalogue has the name; or a system table has it, and another source stands beside it
abbrev pub IsNoSource : List Catalogued → Stmt → List ℕ → Type 0
IsNoSource tables statement name = (IsNone (system_table name) × HasNoTable tables name) ⊎ JoinsSystemTable statement name

-- NoObject: a name in FROM that is no source; a name elsewhere that no table of the catalogue has; the name of such an UPDATE
abbrev pub IsNoObject : List Catalogued → Stmt → List ℕ → Type 0
IsNoObject tables statement name =
    ((Mentions statement (OfTable name) ⊎ Mentions statement (OfTracked name)) × HasNoTable tables name)
    ⊎ ((Mentions statement (OfSource name) × IsNoSource tables statement name) ⊎ UpdatesFromAnother statement name)

-- ---- what the settings of the database refuse

-- ENABLE of the table of this name
abbrev pub Enables : Stmt → List ℕ → Type 0
Enables (stmt.EnableTracking table masks) name = name ≡ table_name table
Enables _ name = ⊥

-- ALTER DATABASE .. CHANGE_TRACKING = ON
abbrev pub SwitchesOn : Stmt → Type 0
SwitchesOn (stmt.AlterDatabase database (option.TrackingOn options)) = Unit {0}
SwitchesOn _ = ⊥

-- ALTER DATABASE .. CHANGE_TRACKING = OFF
abbrev pub SwitchesOff : Stmt → Type 0
SwitchesOff (stmt.AlterDatabase database option.TrackingOff) = Unit {0}
SwitchesOff _ = ⊥

-- what is taken only while tracking is on: ENABLE, `= OFF` and `CHANGE_TRACKING (..)`
abbrev pub NeedsTracking : Stmt → Type 0
NeedsTracking (stmt.EnableTracking table masks) = Unit {0}
NeedsTracking (stmt.AlterDatabase database option.TrackingOff) = Unit {0}
NeedsTracking (stmt.AlterDatabase database (option.Tracking options)) = Unit {0}
NeedsTracking _ = ⊥

-- AlreadyTracked: the table is tracked; of the database, by that name, tracking is on
abbrev pub IsAlreadyTracked : List Catalogued → Option Keep → Stmt → List ℕ → Type 0
IsAlreadyTracked tables keep statement name =
    (Enables statement name × HasTracked tables name) ⊎ ((name ≡ codes "database") × SwitchesOn statement × IsSome keep)

-- TablesTracked: `= OFF` while tracking is on and so many tables, one at least, are tracked
abbrev pub LeavesTablesTracked : List Catalogued → Option Keep → Stmt → ℕ → Type 0
LeavesTablesTracked tables keep statement count = SwitchesOff statement × IsSome keep × (count ≡ tracked_count tables) × (0 < count)

-- the retention that ALTER DATABASE writes
abbrev pub written_retention : Stmt → Option Retention
written_retention (stmt.AlterDatabase database (option.TrackingOn options)) = options.retention
written_retention (stmt.AlterDatabase database (option.Tracking options)) = options.retention
written_retention _ = None

-- a retention is written, and its number is not from 1 to 2,147,483,647
abbrev pub IsBadRetention : Option Retention → Type 0
IsBadRetention written = IsSomeAnd written (λ retention. IsNone (within 1 2147483647 retention.amount))

-- BadRetention: ALTER DATABASE writes such a retention
abbrev pub WritesBadRetention : Stmt → Type 0
WritesBadRetention statement = IsBadRetention (written_retention statement)

-- ---- definitions

-- CREATE TABLE
abbrev pub IsCreate : Stmt → Type 0
IsCreate (stmt.CreateTable table columns key) = Unit {0}
IsCreate _ = ⊥

-- CREATE TABLE of this name
abbrev pub Creates : Stmt → List ℕ → Type 0
Creates (stmt.CreateTable table columns key) name = name ≡ table_name table
Creates _ name = ⊥

-- the length of the type, where it has one, is within its bounds
abbrev pub has_length : TypeName → Bool
has_length type.Int = true
has_length type.BigInt = true
has_length (type.NVarChar digits) = is_some (within 1 4000 digits)
has_length (type.VarBinary digits) = is_some (within 1 8000 digits)

-- the key has one name, and a column of the table has it
abbrev pub is_one_column : List ColumnDef → List (List ℕ) → Bool
is_one_column columns [] = false
is_one_column columns (name ∷ []) = is_some (id_from name 1 columns)
is_one_column columns (name ∷ other ∷ more) = false

-- Whether a definition keeps each rule, in the order of their numbers: there is a primary key; there are not two, no column is both NULL and
-- NOT NULL, and none of the key is NULL; columns have different names, and no column of the key one that CHANGETABLE shows beside the key;
-- each type has a length that it may have; the key is one column of the table; the schema is not `sys`.
abbrev pub rules : List ℕ → List ColumnDef → Option (List (List ℕ)) → List Bool
rules name columns key =
    is_there (keys_written columns key)
    ∷ (not (is_repeated (keys_written columns key)) && list_all (has_clear_nulls key) columns)
    ∷ (are_different columns && list_all is_free_name (key_names columns key))
    ∷ list_all (λ column. has_length column.kind) columns
    ∷ is_one_column columns (key_names columns key)
    ∷ not (is_in_sys name)
    ∷ []

-- BadTable: of a CREATE TABLE this is the least rule that is broken; a DECLARE breaks the one of types
abbrev pub BreaksRule : Stmt → ℕ → Type 0
BreaksRule (stmt.CreateTable table columns key) rule = position_from not 1 (rules (table_name table) columns key) ≡ Some rule
BreaksRule (stmt.Declare variable type value) rule = (rule ≡ 4) × IsFalse (has_length type)
BreaksRule _ rule = ⊥

-- DECLARE of this name
abbrev pub Declares : Stmt → List ℕ → Type 0
Declares (stmt.Declare variable type value) name = name ≡ variable
Declares _ name = ⊥

-- ---- limits

-- an INSERT of more than so many tuples
abbrev pub InsertsMoreThan : Stmt → ℕ → Type 0
InsertsMoreThan (stmt.Write context (write.Insert table columns tuples)) limit = limit < length tuples
InsertsMoreThan _ limit = ⊥

-- a CREATE TABLE of more than so many columns
abbrev pub CreatesMoreThan : Stmt → ℕ → Type 0
CreatesMoreThan (stmt.CreateTable table columns key) limit = limit < length columns
CreatesMoreThan _ limit = ⊥

-- TooMany: 1,000 tuples, 64 columns, 256 tables
abbrev pub IsTooMany : List Catalogued → Stmt → ℕ → Type 0
IsTooMany tables statement limit =
    ((limit ≡ 1000) × InsertsMoreThan statement limit)
    ⊎ (((limit ≡ 64) × CreatesMoreThan statement limit) ⊎ ((limit ≡ 256) × IsCreate statement × (limit ≤ length tables)))

-- ---- CountClash

-- an INSERT into a table of so many columns
abbrev pub InsertsInto : List Catalogued → Stmt → ℕ → Type 0
InsertsInto tables (stmt.Write context (write.Insert table columns tuples)) wanted = IsSomeAnd (table_named tables (table_name table)) (λ found. wanted ≡ length found.schema.columns)
InsertsInto tables _ wanted = ⊥

-- how many values a tuple is to have: one for each column of the list, and without a list one for each column of the table
abbrev pub IsWanted : List Catalogued → Stmt → Option ℕ → ℕ → Type 0
IsWanted tables statement (Some columns) wanted = wanted ≡ columns
IsWanted tables statement None wanted = InsertsInto tables statement wanted

-- a tuple has so many values, and is to have another number of them
abbrev pub IsCountClash : List Catalogued → Stmt → ℕ → ℕ → Type 0
IsCountClash tables statement wanted got = (wanted ≢ got) × ((columns : Option ℕ) × Mentions statement (OfTuple columns got) × IsWanted tables statement columns wanted)

-- ---- KeyUpdate

-- a column of the key has the name
abbrev pub HasKeyColumn : Schema → List ℕ → Type 0
HasKeyColumn table name = IsSomeAnd (target_from name 1 table.columns) (λ column. IsTrue (is_key table column.column))

-- the SET list of an UPDATE has the name as it is written, and a column of the key of its table has it too
abbrev pub SetsKey : List Catalogued → Stmt → List ℕ → Type 0
SetsKey tables (stmt.Write context (write.Update table sets from filter)) name =
    Contains (map (λ set. set.column) sets) name × IsSomeAnd (table_named tables (table_name table)) (λ found. HasKeyColumn found.schema name)
SetsKey tables _ name = ⊥

-- ---- the causes

-- the refusals of which a cause is stated here: all but a column that is not there, one that is ambiguous, and kinds that clash
abbrev pub HasStatedCause : Refusal → Type 0
HasStatedCause (NoColumn name) = ⊥
HasStatedCause (Ambiguous name) = ⊥
HasStatedCause TypeClash = ⊥
HasStatedCause _ = Unit {0}

-- The cause of each refusal. Of a column that is not there, of one that is ambiguous and of kinds that clash nothing is said here: their
-- causes hang on a place in the statement and stand in the rules of the walk. Any other refusal is none of binding's, and has no cause.
module _ (tables : List Catalogued) (keep : Option Keep) (variables : List Variable) (statement : Stmt) where
  abbrev pub HasCause : Refusal → Type 0
  HasCause (NoObject name) = IsNoObject tables statement name
  HasCause (Exists name) = Creates statement name × HasTable tables name
  HasCause Overflow = MentionsTooLargeNumber statement
  HasCause (NotTracked name) = Mentions statement (OfTracked name) × HasUntracked tables name
  HasCause (AlreadyTracked name) = IsAlreadyTracked tables keep statement name
  HasCause TrackingOff = NeedsTracking statement × IsNone keep
  HasCause (TablesTracked count) = LeavesTablesTracked tables keep statement count
  HasCause BadRetention = WritesBadRetention statement
  HasCause (BadTable rule) = BreaksRule statement rule
  HasCause (NoVariable name) = Mentions statement (OfVariable name) × HasNoVariable variables name
  HasCause (VariableExists name) = Declares statement name × HasVariable variables name
  HasCause (KeyUpdate name) = SetsKey tables statement name
  HasCause (CountClash wanted got) = IsCountClash tables statement wanted got
  HasCause (TooMany limit) = IsTooMany tables statement limit
  HasCause (NoColumn name) = Unit {0}
  HasCause (Ambiguous name) = Unit {0}
  HasCause TypeClash = Unit {0}
  HasCause _ = ⊥
