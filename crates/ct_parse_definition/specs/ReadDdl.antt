-- How data definition is read: each reader mirrors a rule of the grammar, and chooses by the next lexemes.
use Rattle.std.specs.Prelude.{ℕ, Bool, List, [], ◌∷◌, Option, Some, None}
use Rattle.ct_types.specs.declared.stmt.Stmt.{Stmt}
use Rattle.ct_types.specs.declared.stmt.Stmt.TheVariants as s
use Rattle.ct_types.specs.declared.stmt.DatabaseOption.{DatabaseOption}
use Rattle.ct_types.specs.declared.stmt.DatabaseOption.TheVariants as d
use Rattle.ct_types.specs.declared.stmt.TrackingOptions.{TrackingOptions}
use Rattle.ct_types.specs.declared.stmt.Retention.{Retention}
use Rattle.ct_types.specs.declared.stmt.ColumnDef.{ColumnDef}
use Rattle.ct_types.specs.declared.stmt.TypeName.{TypeName}
use Rattle.ct_types.specs.declared.stmt.TypeName.TheVariants as type
use Rattle.ct_types.specs.declared.stmt.ColumnRule.{ColumnRule}
use Rattle.ct_types.specs.declared.stmt.ColumnRule.TheVariants as rule
use Rattle.ct_grammar.specs.declared.kind.Kind.TheVariants as k
use Rattle.ct_grammar.specs.declared.repeats.Turn.{Turn}
use Rattle.ct_grammar.specs.declared.repeats.Turn.TheVariants.{More, Last}
use Rattle.ct_grammar.specs.Kinds.{names}
use Rattle.ct_grammar.specs.Reading.{Reader, both, making, pick, option, repeat, until_last, need, kind, name, number}
use Rattle.ct_grammar.specs.ReadNames.{table_name}
use Rattle.ct_parse_expr.specs.ReadExpr.{name_list}
use Rattle.ct_parse_definition.specs.Grammar.{switches, units, is_on, unit_of, options_in, on_in, tracking_of}

-- ---- ALTER DATABASE

unfoldable pub retention : Reader Retention
retention = making (λ p. record { amount = p.1.1.0; unit = unit_of p.1.1.1 }) (both (need k.ChangeRetention) (both (need k.Equal) (both number (kind units))))

unfoldable pub cleanup : Reader Bool
cleanup = making (λ p. is_on p.1.1) (both (need k.AutoCleanup) (both (need k.Equal) (kind switches)))

unfoldable pub next_cleanup : Reader Bool
next_cleanup = making (λ p. p.1) (both (need k.Comma) cleanup)

unfoldable pub next_retention : Reader Retention
next_retention = making (λ p. p.1) (both (need k.Comma) retention)

unfoldable pub retention_first : Reader TrackingOptions
retention_first = making (λ p. record { retention = Some p.0; cleanup = p.1 }) (both retention (option (k.Comma ∷ []) next_cleanup))

unfoldable pub cleanup_first : Reader TrackingOptions
cleanup_first = making (λ p. record { retention = p.1; cleanup = Some p.0 }) (both cleanup (option (k.Comma ∷ []) next_retention))

unfoldable pub listed_options : Reader TrackingOptions
listed_options = pick (k.ChangeRetention ∷ []) retention_first cleanup_first

unfoldable pub options : Reader TrackingOptions
options = making (λ p. p.1.0) (both (need k.Open) (both listed_options (need k.Close)))

unfoldable pub switched_on : Reader DatabaseOption
switched_on = making (λ p. d.TrackingOn (options_in p.1)) (both (need k.On) (option (k.Open ∷ []) options))

unfoldable pub switched : Reader DatabaseOption
switched = pick (k.On ∷ []) switched_on (making (λ p. d.TrackingOff) (need k.Off))

unfoldable pub equal_switched : Reader DatabaseOption
equal_switched = making (λ p. p.1) (both (need k.Equal) switched)

unfoldable pub tracking_tail : Reader DatabaseOption
tracking_tail = pick (k.Equal ∷ []) equal_switched (making (λ options. d.Tracking options) options)

unfoldable pub tracking_option : Reader DatabaseOption
tracking_option = making (λ p. p.1) (both (need k.ChangeTracking) tracking_tail)

unfoldable pub snapshot_option : Reader DatabaseOption
snapshot_option = making (λ p. d.AllowSnapshotIsolation) (both (need k.AllowSnapshotIsolation) (need k.On))

unfoldable pub read_option : Reader DatabaseOption
read_option = making (λ p. d.ReadCommittedSnapshot) (both (need k.ReadCommittedSnapshot) (need k.On))

unfoldable pub database_option : Reader DatabaseOption
database_option = pick (k.ChangeTracking ∷ []) tracking_option (pick (k.AllowSnapshotIsolation ∷ []) snapshot_option read_option)

unfoldable pub database : Reader Stmt
database = making (λ p. s.AlterDatabase p.1.0 p.1.1.1) (both (need k.Database) (both name (both (need k.Set) database_option)))

-- ---- ALTER TABLE, CREATE TABLE, TRUNCATE TABLE

unfoldable pub columns_updated : Reader Bool
columns_updated = making (λ p. is_on p.1.1.1.1.0) (both (need k.With) (both (need k.Open) (both (need k.TrackColumnsUpdated) (both (need k.Equal) (both (kind switches) (need k.Close))))))

unfoldable pub enabled : Reader (Option Bool)
enabled = making (λ p. Some (on_in p.1.1)) (both (need k.Enable) (both (need k.ChangeTracking) (option (k.With ∷ []) columns_updated)))

unfoldable pub disabled : Reader (Option Bool)
disabled = making (λ p. None) (both (need k.Disable) (need k.ChangeTracking))

unfoldable pub enabled_or_not : Reader (Option Bool)
enabled_or_not = pick (k.Enable ∷ []) enabled disabled

unfoldable pub tracking : Reader Stmt
tracking = making (λ p. tracking_of p.1.0 p.1.1) (both (need k.Table) (both table_name enabled_or_not))

unfoldable pub altered : Reader Stmt
altered = pick (k.Database ∷ []) database tracking

unfoldable pub alter : Reader Stmt
alter = making (λ p. p.1) (both (need k.Alter) altered)

unfoldable pub size : Reader (List ℕ)
size = making (λ p. p.1.0) (both (need k.Open) (both number (need k.Close)))

unfoldable pub nvarchar : Reader TypeName
nvarchar = making (λ p. type.NVarChar p.1) (both (need k.NVarChar) size)

unfoldable pub varbinary : Reader TypeName
varbinary = making (λ p. type.VarBinary p.1) (both (need k.VarBinary) size)

unfoldable pub type_name : Reader TypeName
type_name =
    pick (k.Int ∷ []) (making (λ p. type.Int) (need k.Int))
    (pick (k.BigInt ∷ []) (making (λ p. type.BigInt) (need k.BigInt))
    (pick (k.NVarChar ∷ []) nvarchar varbinary))

unfoldable pub constraint : Reader (Unit × List ℕ)
constraint = both (need k.Constraint) name

unfoldable pub primary_key : Reader Unit
primary_key = making (λ p. tt) (both (option (k.Constraint ∷ []) constraint) (both (need k.Primary) (need k.Key)))

unfoldable pub not_null : Reader ColumnRule
not_null = making (λ p. rule.NotNull) (both (need k.Not) (need k.Null))

unfoldable pub column_rule : Reader ColumnRule
column_rule = pick (k.Null ∷ []) (making (λ p. rule.Null) (need k.Null)) (pick (k.Not ∷ []) not_null (making (λ p. rule.PrimaryKey) primary_key))

unfoldable pub column_rules : Reader (List ColumnRule)
column_rules = repeat (k.Null ∷ k.Not ∷ k.Constraint ∷ k.Primary ∷ []) column_rule

unfoldable pub column : Reader ColumnDef
column = making (λ p. record { name = p.0; kind = p.1.0; rules = p.1.1 }) (both name (both type_name column_rules))

unfoldable pub table_key : Reader (List (List ℕ))
table_key = making (λ p. p.1) (both primary_key name_list)

unfoldable pub column_or_key : Reader (Turn ColumnDef (List (List ℕ)))
column_or_key = pick names (making (λ column. More column) column) (making (λ key. Last key) table_key)

unfoldable pub table_part : Reader (Turn ColumnDef (List (List ℕ)))
table_part = making (λ p. p.1) (both (need k.Comma) column_or_key)

unfoldable pub table_parts : Reader (List ColumnDef × Option (List (List ℕ)))
table_parts = until_last (k.Comma ∷ []) table_part

unfoldable pub create : Reader Stmt
create = making (λ p. s.CreateTable p.1.1.0 (p.1.1.1.1.0 ∷ p.1.1.1.1.1.0.0) p.1.1.1.1.1.0.1)
    (both (need k.Create) (both (need k.Table) (both table_name (both (need k.Open) (both column (both table_parts (need k.Close)))))))

unfoldable pub truncate : Reader Stmt
truncate = making (λ p. s.TruncateTable p.1.1) (both (need k.Truncate) (both (need k.Table) table_name))
