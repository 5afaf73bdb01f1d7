-- The grammar of statements, over that of expressions. `inner` is the rule of an expression.
use Rattle.std.specs.Prelude.{ℕ, suc, Bool, true, false, List, [], ◌∷◌, Option, Some, None}
use Rattle.ct_types.specs.declared.expr.Expr.{Expr}
use Rattle.ct_types.specs.declared.stmt.Stmt.{Stmt}
use Rattle.ct_types.specs.declared.stmt.Stmt.TheVariants as s
use Rattle.ct_types.specs.declared.stmt.WriteStmt.{WriteStmt}
use Rattle.ct_types.specs.declared.stmt.WriteStmt.TheVariants as w
use Rattle.ct_types.specs.declared.stmt.SetColumn.{SetColumn}
use Rattle.ct_types.specs.declared.stmt.TableSource.{TableSource}
use Rattle.ct_types.specs.declared.stmt.Select.{Select}
use Rattle.ct_types.specs.declared.stmt.SelectItem.{SelectItem}
use Rattle.ct_types.specs.declared.stmt.SelectItem.TheVariants as item_as
use Rattle.ct_types.specs.declared.stmt.FromClause.{FromClause}
use Rattle.ct_types.specs.declared.stmt.Source.{Source}
use Rattle.ct_types.specs.declared.stmt.Source.TheVariants as source_as
use Rattle.ct_types.specs.declared.stmt.VersionSource.{VersionSource}
use Rattle.ct_types.specs.declared.stmt.JoinClause.{JoinClause}
use Rattle.ct_types.specs.declared.stmt.JoinClause.TheVariants as join_as
use Rattle.ct_types.specs.declared.stmt.JoinKind.{JoinKind}
use Rattle.ct_types.specs.declared.stmt.JoinKind.TheVariants as side
use Rattle.ct_types.specs.declared.stmt.OrderItem.{OrderItem}
use Rattle.ct_types.specs.declared.stmt.Isolation.TheVariants as isolation_as
use Rattle.ct_grammar.specs.declared.kind.Kind.{Kind}
use Rattle.ct_grammar.specs.declared.kind.Kind.TheVariants as k
use Rattle.ct_grammar.specs.Kinds.{Set}
use Rattle.ct_grammar.specs.Lexemes.{Lexeme}
use Rattle.ct_grammar.specs.Rules.{Rule, ◌and◌, ◌or◌, ◌of◌, maybe, many, one, kind, name, variable}
use Rattle.ct_parse_expr.specs.declared.level.Entry.{Entry}
use Rattle.ct_parse_expr.specs.declared.level.Entry.TheVariants.{Whole}
use Rattle.ct_parser.specs.declared.parts.ChangeTable.{ChangeTable}
use Rattle.ct_parser.specs.declared.parts.ChangeTable.TheVariants as table_as
use Rattle.ct_parse_definition.specs.Grammar.{alter, create, truncate, type_name}
use Rattle.ct_grammar.specs.Names.{table_name}
use Rattle.ct_parse_expr.specs.Grammar.{alias, name_list, tuple, version_tail, version, expr}

-- ---- sets of kinds

abbrev pub directions : Set
directions = k.Asc ∷ k.Desc ∷ []

abbrev pub transactions : Set
transactions = k.Tran ∷ k.Transaction ∷ []

-- ---- what the parts of a rule make

abbrev pub list_in : {A : Type 0} → Option (List A) → List A
list_in None = []
list_in (Some items) = items

abbrev pub source_of : ChangeTable → List ℕ → Source
source_of (table_as.Changes table since) alias = source_as.Changes table since alias
source_of (table_as.Version version) alias = source_as.Version (record { version = version; alias = alias })

abbrev pub descends : Option Kind → Bool
descends (Some k.Desc) = true
descends _ = false

-- ---- transactions

-- tran = BEGIN (TRAN | TRANSACTION) | (COMMIT | ROLLBACK) [TRAN | TRANSACTION]
unfoldable pub begin : Rule Stmt
begin = (λ p. s.Begin) of (one k.Begin and kind transactions)

unfoldable pub commit : Rule Stmt
commit = (λ p. s.Commit) of (one k.Commit and maybe (kind transactions))

unfoldable pub rollback : Rule Stmt
rollback = (λ p. s.Rollback) of (one k.Rollback and maybe (kind transactions))

-- ---- FROM

-- tname [[AS] name]
unfoldable pub table_source : Rule TableSource
table_source = (λ p. record { table = p.0; alias = p.1 }) of (table_name and maybe alias)

-- ([INNER] | LEFT [OUTER] | RIGHT [OUTER]) JOIN
unfoldable pub join_kind : Rule JoinKind
join_kind =
    ((λ p. side.Inner) of one k.Join)
    or ((λ p. side.Inner) of (one k.Inner and one k.Join))
    or ((λ p. side.Left) of (one k.Left and maybe (one k.Outer) and one k.Join))
    or ((λ p. side.Right) of (one k.Right and maybe (one k.Outer) and one k.Join))

module _ (inner : Entry → Expr → List Lexeme → Type 0) where
  -- WHERE expr
  unfoldable pub condition : Rule Expr
  condition = (λ p. p.1) of (one k.Where and inner Whole)

  -- version [AS] name
  unfoldable pub version_source : Rule VersionSource
  version_source = (λ p. record { version = p.0; alias = p.1 }) of (version inner and alias)

  -- source = tname [[AS] name] | CHANGETABLE "(" CHANGES tname "," expr ")" [AS] name | version [AS] name
  unfoldable pub change_table : Rule ChangeTable
  change_table =
      ((λ p. table_as.Changes p.1.0 p.1.1.1.0) of (one k.Changes and table_name and one k.Comma and inner Whole and one k.Close))
      or ((λ version. table_as.Version version) of version_tail inner)

  unfoldable pub source : Rule Source
  source =
      ((λ p. source_of p.1.1.0 p.1.1.1) of (one k.ChangeTable and one k.Open and change_table and alias))
      or ((λ table. source_as.Table table) of table_source)

  -- join = ([INNER] | LEFT [OUTER] | RIGHT [OUTER]) JOIN source ON expr | CROSS APPLY version [AS] name
  unfoldable pub join : Rule JoinClause
  join =
      ((λ p. join_as.On p.0 p.1.0 p.1.1.1) of (join_kind and source and one k.On and inner Whole))
      or ((λ p. join_as.Apply p.1.1) of (one k.Cross and one k.Apply and version_source))

  unfoldable pub from : Rule FromClause
  from = (λ p. record { source = p.1.0; join = p.1.1 }) of (one k.From and source and maybe join)

  -- ---- SELECT

  -- item = "*" | name "." "*" | expr [[AS] name]
  unfoldable pub item : Rule SelectItem
  item =
      ((λ p. item_as.All) of one k.Star)
      or ((λ p. item_as.AllOf p.0) of (name and one k.Dot and one k.Star))
      or ((λ p. item_as.One p.0 p.1) of (inner Whole and maybe alias))

  -- order = expr [ASC | DESC]
  unfoldable pub order_item : Rule OrderItem
  order_item = (λ p. record { value = p.0; descending = descends p.1 }) of (inner Whole and maybe (kind directions))

  -- ORDER BY order {"," order}
  unfoldable pub order : Rule (List OrderItem)
  order = (λ p. p.1.1.0 ∷ p.1.1.1) of (one k.Order and one k.By and order_item and many ((λ p. p.1) of (one k.Comma and order_item)))

  -- select = SELECT item {"," item} [FROM source [join]] [WHERE expr] [ORDER BY order {"," order}]
  unfoldable pub select : Rule Select
  select = (λ p. record { items = p.1.0 ∷ p.1.1.0; from = p.1.1.1.0; condition = p.1.1.1.1.0; order = list_in p.1.1.1.1.1 })
      of (one k.Select and item and many ((λ p. p.1) of (one k.Comma and item)) and maybe from and maybe condition and maybe order)

  -- ---- writes

  -- write = INSERT [INTO] tname ["(" name {"," name} ")"] VALUES tuple {"," tuple} | ..
  unfoldable pub insert : Rule WriteStmt
  insert = (λ p. w.Insert p.1.1.0 p.1.1.1.0 (p.1.1.1.1.1.0 ∷ p.1.1.1.1.1.1))
      of (one k.Insert and maybe (one k.Into) and table_name and maybe name_list and one k.Values and tuple inner and many ((λ p. p.1) of (one k.Comma and tuple inner)))

  unfoldable pub set_column : Rule SetColumn
  set_column = (λ p. record { column = p.0; value = p.1.1 }) of (name and one k.Equal and inner Whole)

  -- .. | UPDATE tname SET name "=" expr {"," name "=" expr} [FROM tname [[AS] name]] [WHERE expr] | ..
  unfoldable pub update : Rule WriteStmt
  update = (λ p. w.Update p.1.0 (p.1.1.1.0 ∷ p.1.1.1.1.0) p.1.1.1.1.1.0 p.1.1.1.1.1.1)
      of (one k.Update and table_name and one k.Set and set_column and many ((λ p. p.1) of (one k.Comma and set_column))
      and maybe ((λ p. p.1) of (one k.From and table_source)) and maybe condition)

  -- .. | DELETE [FROM] tname [WHERE expr]
  unfoldable pub delete : Rule WriteStmt
  delete = (λ p. w.Delete p.1.1.0 p.1.1.1) of (one k.Delete and maybe (one k.From) and table_name and maybe condition)

  -- context = WITH CHANGE_TRACKING_CONTEXT "(" expr ")"
  unfoldable pub context : Rule Expr
  context = (λ p. p.1.1.1.0) of (one k.With and one k.ChangeTrackingContext and one k.Open and inner Whole and one k.Close)

  -- [context] write
  unfoldable pub written : Rule Stmt
  written = (λ p. s.Write p.0 p.1) of (maybe context and (insert or update or delete))

  -- ---- SET and DECLARE

  -- behind SET in: set = SET TRANSACTION ISOLATION LEVEL (SNAPSHOT | READ COMMITTED) | SET LOCK_TIMEOUT number | SET variable "=" expr
  -- of which the number is 0
  unfoldable pub set : Rule Stmt
  set = (λ p. p.1) of (one k.Set and (
      ((λ p. s.SetIsolation p.1.1.1) of (one k.Transaction and one k.Isolation and one k.Level and (
      ((λ p. isolation_as.Snapshot) of one k.Snapshot) or ((λ p. isolation_as.ReadCommitted) of (one k.Read and one k.Committed)))))
      or ((λ p. s.SetLockTimeout) of (one k.LockTimeout and one k.Zero))
      or ((λ p. s.SetVariable p.0 p.1.1) of (variable and one k.Equal and inner Whole))))

  -- declare = DECLARE variable [AS] type ["=" expr]
  unfoldable pub declare : Rule Stmt
  declare = (λ p. s.Declare p.1.0 p.1.1.1.0 p.1.1.1.1)
      of (one k.Declare and variable and maybe (one k.As) and type_name and maybe ((λ p. p.1) of (one k.Equal and inner Whole)))

  -- ---- statements

  -- body = database | create | tracking | truncate | [context] write | select | tran | set | declare
  unfoldable pub body : Rule Stmt
  body =
      alter or create or truncate or written or ((λ select. s.Select select) of select)
      or begin or commit or rollback or set or declare

  -- statement = body [";"]
  unfoldable pub whole : Rule Stmt
  whole = (λ p. p.0) of (body and maybe (one k.Semicolon))

-- a statement with at most so many levels
abbrev pub statement : ℕ → Rule Stmt
statement n = whole (expr (suc n))
