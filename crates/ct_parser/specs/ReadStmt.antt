-- How statements are read: each reader mirrors a rule of the grammar, and chooses by the next lexemes.
use Rattle.std.specs.Prelude.{ℕ, suc, ◌-◌, List, [], ◌∷◌, length, Result, Ok, Err}
use Rattle.ct_types.specs.declared.expr.Expr.{Expr}
use Rattle.ct_types.specs.declared.stmt.Stmt.{Stmt}
use Rattle.ct_types.specs.declared.refusal.Refusal.{Refusal}
use Rattle.ct_types.specs.declared.refusal.Refusal.TheVariants as refusal
use Rattle.ct_lexer.specs.declared.token.Token.{Token}
use Rattle.ct_types.specs.declared.stmt.Stmt.TheVariants as s
use Rattle.ct_types.specs.declared.stmt.WriteStmt.{WriteStmt}
use Rattle.ct_types.specs.declared.stmt.WriteStmt.TheVariants as w
use Rattle.ct_types.specs.declared.stmt.SetColumn.{SetColumn}
use Rattle.ct_types.specs.declared.stmt.TableSource.{TableSource}
use Rattle.ct_types.specs.declared.stmt.Select.{Select}
use Rattle.ct_types.specs.declared.stmt.SelectItem.{SelectItem}
use Rattle.ct_types.specs.declared.stmt.SelectItem.TheVariants as item_as
use Rattle.ct_types.specs.declared.stmt.FromClause.{FromClause}
use Rattle.ct_types.specs.declared.stmt.Source.{Source}
use Rattle.ct_types.specs.declared.stmt.Source.TheVariants as source_as
use Rattle.ct_types.specs.declared.stmt.VersionSource.{VersionSource}
use Rattle.ct_types.specs.declared.stmt.JoinClause.{JoinClause}
use Rattle.ct_types.specs.declared.stmt.JoinClause.TheVariants as join_as
use Rattle.ct_types.specs.declared.stmt.JoinKind.{JoinKind}
use Rattle.ct_types.specs.declared.stmt.JoinKind.TheVariants as side
use Rattle.ct_types.specs.declared.stmt.OrderItem.{OrderItem}
use Rattle.ct_types.specs.declared.stmt.Isolation.{Isolation}
use Rattle.ct_types.specs.declared.stmt.Isolation.TheVariants as isolation_as
use Rattle.ct_grammar.specs.declared.kind.Kind.TheVariants as k
use Rattle.ct_grammar.specs.declared.fault.Fault.{Fault}
use Rattle.ct_grammar.specs.declared.fault.Fault.TheVariants.{Memory, Syntax, TooDeep}
use Rattle.ct_grammar.specs.Kinds.{names}
use Rattle.ct_grammar.specs.Lexemes.{Lexeme}
use Rattle.ct_grammar.specs.Reading.{Outcome, Reader, both, making, pick, ahead, option, repeat, need, kind, name, variable}
use Rattle.ct_parse_expr.specs.declared.level.Entry.{Entry}
use Rattle.ct_parse_expr.specs.declared.level.Entry.TheVariants.{Whole}
use Rattle.ct_parser.specs.declared.parts.ChangeTable.{ChangeTable}
use Rattle.ct_parser.specs.declared.parts.ChangeTable.TheVariants as table_as
use Rattle.ct_parse_definition.specs.ReadDdl.{alter, create, truncate, type_name}
use Rattle.ct_grammar.specs.ReadNames.{table_name}
use Rattle.ct_parse_expr.specs.ReadExpr.{alias, name_list, tuple, version_tail, version, expr}
use Rattle.ct_parser.specs.Exact.{place}
use Rattle.ct_parser.specs.Statements.{directions, transactions, list_in, source_of, descends}

-- ---- transactions

unfoldable pub begin : Reader Stmt
begin = making (λ p. s.Begin) (both (need k.Begin) (kind transactions))

unfoldable pub commit : Reader Stmt
commit = making (λ p. s.Commit) (both (need k.Commit) (option transactions (kind transactions)))

unfoldable pub rollback : Reader Stmt
rollback = making (λ p. s.Rollback) (both (need k.Rollback) (option transactions (kind transactions)))

-- ---- SET

unfoldable pub read_committed : Reader Isolation
read_committed = making (λ p. isolation_as.ReadCommitted) (both (need k.Read) (need k.Committed))

unfoldable pub isolation : Reader Isolation
isolation = pick (k.Snapshot ∷ []) (making (λ p. isolation_as.Snapshot) (need k.Snapshot)) read_committed

unfoldable pub set_isolation : Reader Stmt
set_isolation = making (λ p. s.SetIsolation p.1.1.1) (both (need k.Transaction) (both (need k.Isolation) (both (need k.Level) isolation)))

unfoldable pub set_timeout : Reader Stmt
set_timeout = making (λ p. s.SetLockTimeout) (both (need k.LockTimeout) (need k.Zero))

-- ---- FROM

unfoldable pub table_source : Reader TableSource
table_source = making (λ p. record { table = p.0; alias = p.1 }) (both table_name (option (k.As ∷ names) alias))

unfoldable pub inner_join : Reader JoinKind
inner_join = making (λ p. side.Inner) (both (need k.Inner) (need k.Join))

unfoldable pub left_join : Reader JoinKind
left_join = making (λ p. side.Left) (both (need k.Left) (both (option (k.Outer ∷ []) (need k.Outer)) (need k.Join)))

unfoldable pub right_join : Reader JoinKind
right_join = making (λ p. side.Right) (both (need k.Right) (both (option (k.Outer ∷ []) (need k.Outer)) (need k.Join)))

unfoldable pub join_kind : Reader JoinKind
join_kind =
    pick (k.Join ∷ []) (making (λ p. side.Inner) (need k.Join))
    (pick (k.Inner ∷ []) inner_join (pick (k.Left ∷ []) left_join right_join))

module _ (inner : Entry → Reader Expr) where
  unfoldable pub condition : Reader Expr
  condition = making (λ p. p.1) (both (need k.Where) (inner Whole))

  unfoldable pub version_source : Reader VersionSource
  version_source = making (λ p. record { version = p.0; alias = p.1 }) (both (version inner) alias)

  unfoldable pub changes : Reader ChangeTable
  changes = making (λ p. table_as.Changes p.1.0 p.1.1.1.0) (both (need k.Changes) (both table_name (both (need k.Comma) (both (inner Whole) (need k.Close)))))

  unfoldable pub change_table : Reader ChangeTable
  change_table = pick (k.Changes ∷ []) changes (making (λ version. table_as.Version version) (version_tail inner))

  unfoldable pub change_source : Reader Source
  change_source = making (λ p. source_of p.1.1.0 p.1.1.1) (both (need k.ChangeTable) (both (need k.Open) (both change_table alias)))

  unfoldable pub source : Reader Source
  source = ahead ((k.ChangeTable ∷ []) ∷ (k.Open ∷ []) ∷ []) change_source (making (λ table. source_as.Table table) table_source)

  unfoldable pub join_on : Reader JoinClause
  join_on = making (λ p. join_as.On p.0 p.1.0 p.1.1.1) (both join_kind (both source (both (need k.On) (inner Whole))))

  unfoldable pub join_apply : Reader JoinClause
  join_apply = making (λ p. join_as.Apply p.1.1) (both (need k.Cross) (both (need k.Apply) version_source))

  unfoldable pub join : Reader JoinClause
  join = pick (k.Join ∷ k.Inner ∷ k.Left ∷ k.Right ∷ []) join_on join_apply

  unfoldable pub from : Reader FromClause
  from = making (λ p. record { source = p.1.0; join = p.1.1 }) (both (need k.From) (both source (option (k.Join ∷ k.Inner ∷ k.Left ∷ k.Right ∷ k.Cross ∷ []) join)))

  -- ---- SELECT

  unfoldable pub item_all_of : Reader SelectItem
  item_all_of = making (λ p. item_as.AllOf p.0) (both name (both (need k.Dot) (need k.Star)))

  unfoldable pub item_one : Reader SelectItem
  item_one = making (λ p. item_as.One p.0 p.1) (both (inner Whole) (option (k.As ∷ names) alias))

  unfoldable pub item : Reader SelectItem
  item = pick (k.Star ∷ []) (making (λ p. item_as.All) (need k.Star)) (ahead (names ∷ (k.Dot ∷ []) ∷ (k.Star ∷ []) ∷ []) item_all_of item_one)

  unfoldable pub next_item : Reader SelectItem
  next_item = making (λ p. p.1) (both (need k.Comma) item)

  unfoldable pub more_items : Reader (List SelectItem)
  more_items = repeat (k.Comma ∷ []) next_item

  unfoldable pub order_item : Reader OrderItem
  order_item = making (λ p. record { value = p.0; descending = descends p.1 }) (both (inner Whole) (option directions (kind directions)))

  unfoldable pub next_order : Reader OrderItem
  next_order = making (λ p. p.1) (both (need k.Comma) order_item)

  unfoldable pub more_order : Reader (List OrderItem)
  more_order = repeat (k.Comma ∷ []) next_order

  unfoldable pub order : Reader (List OrderItem)
  order = making (λ p. p.1.1.0 ∷ p.1.1.1) (both (need k.Order) (both (need k.By) (both order_item more_order)))

  unfoldable pub select : Reader Select
  select = making (λ p. record { items = p.1.0 ∷ p.1.1.0; from = p.1.1.1.0; condition = p.1.1.1.1.0; order = list_in p.1.1.1.1.1 })
      (both (need k.Select) (both item (both more_items (both (option (k.From ∷ []) from) (both (option (k.Where ∷ []) condition) (option (k.Order ∷ []) order))))))

  unfoldable pub selection : Reader Stmt
  selection = making (λ select. s.Select select) select

  -- ---- writes

  unfoldable pub next_tuple : Reader (List Expr)
  next_tuple = making (λ p. p.1) (both (need k.Comma) (tuple inner))

  unfoldable pub more_tuples : Reader (List (List Expr))
  more_tuples = repeat (k.Comma ∷ []) next_tuple

  unfoldable pub insert : Reader WriteStmt
  insert = making (λ p. w.Insert p.1.1.0 p.1.1.1.0 (p.1.1.1.1.1.0 ∷ p.1.1.1.1.1.1))
      (both (need k.Insert) (both (option (k.Into ∷ []) (need k.Into)) (both table_name (both (option (k.Open ∷ []) name_list) (both (need k.Values) (both (tuple inner) more_tuples))))))

  unfoldable pub set_column : Reader SetColumn
  set_column = making (λ p. record { column = p.0; value = p.1.1 }) (both name (both (need k.Equal) (inner Whole)))

  unfoldable pub next_set : Reader SetColumn
  next_set = making (λ p. p.1) (both (need k.Comma) set_column)

  unfoldable pub more_sets : Reader (List SetColumn)
  more_sets = repeat (k.Comma ∷ []) next_set

  unfoldable pub from_table : Reader TableSource
  from_table = making (λ p. p.1) (both (need k.From) table_source)

  unfoldable pub update : Reader WriteStmt
  update = making (λ p. w.Update p.1.0 (p.1.1.1.0 ∷ p.1.1.1.1.0) p.1.1.1.1.1.0 p.1.1.1.1.1.1)
      (both (need k.Update) (both table_name (both (need k.Set) (both set_column (both more_sets (both (option (k.From ∷ []) from_table) (option (k.Where ∷ []) condition)))))))

  unfoldable pub delete : Reader WriteStmt
  delete = making (λ p. w.Delete p.1.1.0 p.1.1.1) (both (need k.Delete) (both (option (k.From ∷ []) (need k.From)) (both table_name (option (k.Where ∷ []) condition))))

  unfoldable pub write : Reader WriteStmt
  write = pick (k.Insert ∷ []) insert (pick (k.Update ∷ []) update delete)

  unfoldable pub context : Reader Expr
  context = making (λ p. p.1.1.1.0) (both (need k.With) (both (need k.ChangeTrackingContext) (both (need k.Open) (both (inner Whole) (need k.Close)))))

  unfoldable pub written : Reader Stmt
  written = making (λ p. s.Write p.0 p.1) (both (option (k.With ∷ []) context) write)

  -- ---- SET and DECLARE

  unfoldable pub set_variable : Reader Stmt
  set_variable = making (λ p. s.SetVariable p.0 p.1.1) (both variable (both (need k.Equal) (inner Whole)))

  unfoldable pub set_tail : Reader Stmt
  set_tail = pick (k.Transaction ∷ []) set_isolation (pick (k.LockTimeout ∷ []) set_timeout set_variable)

  unfoldable pub set : Reader Stmt
  set = making (λ p. p.1) (both (need k.Set) set_tail)

  unfoldable pub first_value : Reader Expr
  first_value = making (λ p. p.1) (both (need k.Equal) (inner Whole))

  unfoldable pub declare : Reader Stmt
  declare = making (λ p. s.Declare p.1.0 p.1.1.1.0 p.1.1.1.1)
      (both (need k.Declare) (both variable (both (option (k.As ∷ []) (need k.As)) (both type_name (option (k.Equal ∷ []) first_value)))))

  -- ---- statements

  unfoldable pub body_of_session : Reader Stmt
  body_of_session = pick (k.Begin ∷ []) begin (pick (k.Commit ∷ []) commit (pick (k.Rollback ∷ []) rollback (pick (k.Set ∷ []) set declare)))

  unfoldable pub body : Reader Stmt
  body = pick (k.Alter ∷ []) alter (pick (k.Create ∷ []) create (pick (k.Truncate ∷ []) truncate
      (pick (k.With ∷ k.Insert ∷ k.Update ∷ k.Delete ∷ []) written (pick (k.Select ∷ []) selection body_of_session))))

  unfoldable pub whole : Reader Stmt
  whole = making (λ p. p.0) (both body (option (k.Semicolon ∷ []) (need k.Semicolon)))

-- no lexeme may be left
abbrev pub ended : Stmt → List Lexeme → Result Stmt Fault
ended tree [] = Ok tree
ended tree (x ∷ rest) = Err (Syntax (length (x ∷ rest)))

abbrev pub whole_of : Outcome Stmt → Result Stmt Fault
whole_of (Ok x) = ended x.0 x.1
whole_of (Err fault) = Err fault

unfoldable pub statement : ℕ → Reader Stmt
statement n = whole (expr (suc n))

unfoldable pub sentence : ℕ → List Lexeme → Result Stmt Fault
sentence n i = whole_of (statement n i)

-- the answer to a reading
abbrev pub answer : List ℕ → List Token → Result Stmt Fault → Result Stmt Refusal
answer text tokens (Ok tree) = Ok tree
answer text tokens (Err Memory) = Err refusal.Memory
answer text tokens (Err (Syntax left)) = Err (refusal.Syntax (place (length text) tokens (length tokens - left)))
answer text tokens (Err TooDeep) = Err (refusal.TooMany 64)
