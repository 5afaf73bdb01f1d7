-- The grammar of data definition: ALTER DATABASE, ALTER TABLE, CREATE TABLE and TRUNCATE TABLE. The head comment of each
-- rule is the rule as it is published. `[ ]` is optional, `{ }` repeats, `|` chooses.
use Rattle.std.specs.Prelude.{ℕ, Bool, true, false, List, [], ◌∷◌, Option, Some, None}
use Rattle.ct_types.specs.declared.expr.ObjectName.{ObjectName}
use Rattle.ct_types.specs.declared.stmt.Stmt.{Stmt}
use Rattle.ct_types.specs.declared.stmt.Stmt.TheVariants as s
use Rattle.ct_types.specs.declared.stmt.DatabaseOption.{DatabaseOption}
use Rattle.ct_types.specs.declared.stmt.DatabaseOption.TheVariants as d
use Rattle.ct_types.specs.declared.stmt.TrackingOptions.{TrackingOptions}
use Rattle.ct_types.specs.declared.stmt.Retention.{Retention}
use Rattle.ct_types.specs.declared.stmt.TimeUnit.{TimeUnit}
use Rattle.ct_types.specs.declared.stmt.TimeUnit.TheVariants as unit
use Rattle.ct_types.specs.declared.stmt.ColumnDef.{ColumnDef}
use Rattle.ct_types.specs.declared.stmt.TypeName.{TypeName}
use Rattle.ct_types.specs.declared.stmt.TypeName.TheVariants as type
use Rattle.ct_types.specs.declared.stmt.ColumnRule.{ColumnRule}
use Rattle.ct_types.specs.declared.stmt.ColumnRule.TheVariants as rule
use Rattle.ct_grammar.specs.declared.kind.Kind.{Kind}
use Rattle.ct_grammar.specs.declared.kind.Kind.TheVariants as k
use Rattle.ct_grammar.specs.declared.repeats.Turn.{Turn}
use Rattle.ct_grammar.specs.declared.repeats.Turn.TheVariants.{More, Last}
use Rattle.ct_grammar.specs.Kinds.{Set}
use Rattle.ct_grammar.specs.Rules.{Rule, ◌and◌, ◌or◌, ◌of◌, maybe, many, until, one, kind, name, number}
use Rattle.ct_grammar.specs.Names.{table_name}
use Rattle.ct_parse_expr.specs.Grammar.{name_list}

-- ---- sets of kinds

abbrev pub switches : Set
switches = k.On ∷ k.Off ∷ []

abbrev pub units : Set
units = k.Days ∷ k.Hours ∷ k.Minutes ∷ []

-- ---- what the parts of a rule make

abbrev pub is_on : Kind → Bool
is_on k.On = true
is_on _ = false

abbrev pub unit_of : Kind → TimeUnit
unit_of k.Days = unit.Days
unit_of k.Hours = unit.Hours
unit_of _ = unit.Minutes

-- no options are written
abbrev pub options_in : Option TrackingOptions → TrackingOptions
options_in None = record { retention = None; cleanup = None }
options_in (Some options) = options

-- TRACK_COLUMNS_UPDATED is off where it is not written
abbrev pub on_in : Option Bool → Bool
on_in None = false
on_in (Some on) = on

abbrev pub tracking_of : ObjectName → Option Bool → Stmt
tracking_of table None = s.DisableTracking table
tracking_of table (Some columns_updated) = s.EnableTracking table columns_updated

-- ---- ALTER DATABASE

-- CHANGE_RETENTION "=" number (DAYS | HOURS | MINUTES)
unfoldable pub retention : Rule Retention
retention = (λ p. record { amount = p.1.1.0; unit = unit_of p.1.1.1 }) of (one k.ChangeRetention and one k.Equal and number and kind units)

-- AUTO_CLEANUP "=" (ON | OFF)
unfoldable pub cleanup : Rule Bool
cleanup = (λ p. is_on p.1.1) of (one k.AutoCleanup and one k.Equal and kind switches)

-- "(" option {"," option} ")", where an option stands at most once
unfoldable pub options : Rule TrackingOptions
options = (λ p. p.1.0) of (one k.Open and (
    ((λ p. record { retention = Some p.0; cleanup = p.1 }) of (retention and maybe ((λ p. p.1) of (one k.Comma and cleanup))))
    or ((λ p. record { retention = p.1; cleanup = Some p.0 }) of (cleanup and maybe ((λ p. p.1) of (one k.Comma and retention))))
    ) and one k.Close)

-- dboption = CHANGE_TRACKING "=" ON ["(" option {"," option} ")"] | CHANGE_TRACKING "=" OFF
--          | CHANGE_TRACKING "(" option {"," option} ")" | ALLOW_SNAPSHOT_ISOLATION ON | READ_COMMITTED_SNAPSHOT ON
unfoldable pub switched : Rule DatabaseOption
switched = ((λ p. d.TrackingOn (options_in p.1)) of (one k.On and maybe options)) or ((λ p. d.TrackingOff) of one k.Off)

unfoldable pub database_option : Rule DatabaseOption
database_option =
    ((λ p. p.1) of (one k.ChangeTracking and (((λ p. p.1) of (one k.Equal and switched)) or ((λ options. d.Tracking options) of options))))
    or ((λ p. d.AllowSnapshotIsolation) of (one k.AllowSnapshotIsolation and one k.On))
    or ((λ p. d.ReadCommittedSnapshot) of (one k.ReadCommittedSnapshot and one k.On))

-- behind ALTER in: database = ALTER DATABASE name SET dboption
unfoldable pub database : Rule Stmt
database = (λ p. s.AlterDatabase p.1.0 p.1.1.1) of (one k.Database and name and one k.Set and database_option)

-- ---- ALTER TABLE, CREATE TABLE, TRUNCATE TABLE

-- WITH "(" TRACK_COLUMNS_UPDATED "=" (ON | OFF) ")"
unfoldable pub columns_updated : Rule Bool
columns_updated = (λ p. is_on p.1.1.1.1.0) of (one k.With and one k.Open and one k.TrackColumnsUpdated and one k.Equal and kind switches and one k.Close)

-- behind ALTER in: tracking = ALTER TABLE tname ENABLE CHANGE_TRACKING [WITH "(" TRACK_COLUMNS_UPDATED "=" (ON | OFF) ")"]
--                           | ALTER TABLE tname DISABLE CHANGE_TRACKING
unfoldable pub tracking : Rule Stmt
tracking = (λ p. tracking_of p.1.0 p.1.1) of (one k.Table and table_name and (
    ((λ p. Some (on_in p.1.1)) of (one k.Enable and one k.ChangeTracking and maybe columns_updated))
    or ((λ p. None) of (one k.Disable and one k.ChangeTracking))))

unfoldable pub alter : Rule Stmt
alter = (λ p. p.1) of (one k.Alter and (database or tracking))

unfoldable pub size : Rule (List ℕ)
size = (λ p. p.1.0) of (one k.Open and number and one k.Close)

-- type = INT | BIGINT | NVARCHAR "(" number ")" | VARBINARY "(" number ")"
unfoldable pub type_name : Rule TypeName
type_name =
    ((λ p. type.Int) of one k.Int)
    or ((λ p. type.BigInt) of one k.BigInt)
    or ((λ p. type.NVarChar p.1) of (one k.NVarChar and size))
    or ((λ p. type.VarBinary p.1) of (one k.VarBinary and size))

-- [CONSTRAINT name] PRIMARY KEY
unfoldable pub primary_key : Rule Unit
primary_key = (λ p. tt) of (maybe (one k.Constraint and name) and one k.Primary and one k.Key)

-- column = name type {NULL | NOT NULL | [CONSTRAINT name] PRIMARY KEY}
unfoldable pub column_rule : Rule ColumnRule
column_rule =
    ((λ p. rule.Null) of one k.Null)
    or ((λ p. rule.NotNull) of (one k.Not and one k.Null))
    or ((λ p. rule.PrimaryKey) of primary_key)

unfoldable pub column : Rule ColumnDef
column = (λ p. record { name = p.0; kind = p.1.0; rules = p.1.1 }) of (name and type_name and many column_rule)

-- tablekey = [CONSTRAINT name] PRIMARY KEY "(" name {"," name} ")"
unfoldable pub table_key : Rule (List (List ℕ))
table_key = (λ p. p.1) of (primary_key and name_list)

-- "," column, or "," tablekey
unfoldable pub table_part : Rule (Turn ColumnDef (List (List ℕ)))
table_part = (λ p. p.1) of (one k.Comma and (((λ column. More column) of column) or ((λ key. Last key) of table_key)))

-- create = CREATE TABLE tname "(" column {"," column} ["," tablekey] ")"
unfoldable pub create : Rule Stmt
create = (λ p. s.CreateTable p.1.1.0 (p.1.1.1.1.0 ∷ p.1.1.1.1.1.0.0) p.1.1.1.1.1.0.1)
    of (one k.Create and one k.Table and table_name and one k.Open and column and until table_part and one k.Close)

-- truncate = TRUNCATE TABLE tname
unfoldable pub truncate : Rule Stmt
truncate = (λ p. s.TruncateTable p.1.1) of (one k.Truncate and one k.Table and table_name)
