-- The kinds of tokens that rules speak of, and sets of them.
use Rattle.std.specs.Prelude.{Bool, true, false, not, ◌&&◌, ◌||◌, if◌then◌else◌, ℕ, List, [], ◌∷◌, ◌++◌, codes}
use Rattle.std.specs.Str.{str_eq_ignore_ascii_case}
use denote.Enum.Bare.{sameb}
use Rattle.ct_lexer.specs.declared.token.TokenKind.{TokenKind}
use Rattle.ct_lexer.specs.declared.token.TokenKind.TheVariants as form
use Rattle.ct_grammar.specs.declared.kind.Kind.{Kind}
use Rattle.ct_grammar.specs.declared.kind.Kind.TheVariants as k
use Rattle.ct_grammar.specs.contracts.kind.Kind.{the_type}

-- ---- words

-- how a word or a sign of the rules is spelled
unfoldable pub spelling : Kind → List ℕ
spelling k.Alter = codes "ALTER"
spelling k.And = codes "AND"
spelling k.As = codes "AS"
spelling k.Asc = codes "ASC"
spelling k.Begin = codes "BEGIN"
spelling k.By = codes "BY"
spelling k.Commit = codes "COMMIT"
spelling k.Constraint = codes "CONSTRAINT"
spelling k.Create = codes "CREATE"
spelling k.Cross = codes "CROSS"
spelling k.Database = codes "DATABASE"
spelling k.Declare = codes "DECLARE"
spelling k.Delete = codes "DELETE"
spelling k.Desc = codes "DESC"
spelling k.From = codes "FROM"
spelling k.Inner = codes "INNER"
spelling k.Insert = codes "INSERT"
spelling k.Into = codes "INTO"
spelling k.Is = codes "IS"
spelling k.Join = codes "JOIN"
spelling k.Key = codes "KEY"
spelling k.Left = codes "LEFT"
spelling k.Not = codes "NOT"
spelling k.Null = codes "NULL"
spelling k.On = codes "ON"
spelling k.Or = codes "OR"
spelling k.Order = codes "ORDER"
spelling k.Outer = codes "OUTER"
spelling k.Primary = codes "PRIMARY"
spelling k.Right = codes "RIGHT"
spelling k.Rollback = codes "ROLLBACK"
spelling k.Select = codes "SELECT"
spelling k.Set = codes "SET"
spelling k.Table = codes "TABLE"
spelling k.Tran = codes "TRAN"
spelling k.Transaction = codes "TRANSACTION"
spelling k.Truncate = codes "TRUNCATE"
spelling k.Update = codes "UPDATE"
spelling k.Values = codes "VALUES"
spelling k.Where = codes "WHERE"
spelling k.With = codes "WITH"
spelling k.AllowSnapshotIsolation = codes "ALLOW_SNAPSHOT_ISOLATION"
spelling k.Apply = codes "APPLY"
spelling k.AutoCleanup = codes "AUTO_CLEANUP"
spelling k.BigInt = codes "BIGINT"
spelling k.Changes = codes "CHANGES"
spelling k.ChangeTable = codes "CHANGETABLE"
spelling k.ChangeRetention = codes "CHANGE_RETENTION"
spelling k.ChangeTracking = codes "CHANGE_TRACKING"
spelling k.ChangeTrackingContext = codes "CHANGE_TRACKING_CONTEXT"
spelling k.Committed = codes "COMMITTED"
spelling k.Days = codes "DAYS"
spelling k.Disable = codes "DISABLE"
spelling k.Enable = codes "ENABLE"
spelling k.Hours = codes "HOURS"
spelling k.Int = codes "INT"
spelling k.Isolation = codes "ISOLATION"
spelling k.Level = codes "LEVEL"
spelling k.LockTimeout = codes "LOCK_TIMEOUT"
spelling k.Minutes = codes "MINUTES"
spelling k.NVarChar = codes "NVARCHAR"
spelling k.Off = codes "OFF"
spelling k.Read = codes "READ"
spelling k.ReadCommittedSnapshot = codes "READ_COMMITTED_SNAPSHOT"
spelling k.Snapshot = codes "SNAPSHOT"
spelling k.TrackColumnsUpdated = codes "TRACK_COLUMNS_UPDATED"
spelling k.VarBinary = codes "VARBINARY"
spelling k.Version = codes "VERSION"
spelling k.CurrentVersion = codes "CHANGE_TRACKING_CURRENT_VERSION"
spelling k.MinValidVersion = codes "CHANGE_TRACKING_MIN_VALID_VERSION"
spelling k.IsColumnInMask = codes "CHANGE_TRACKING_IS_COLUMN_IN_MASK"
spelling k.ObjectId = codes "OBJECT_ID"
spelling k.ColumnProperty = codes "COLUMNPROPERTY"
spelling k.IsNull = codes "ISNULL"
spelling k.Different = codes "<>"
spelling k.Unlike = codes "!="
spelling k.AtMost = codes "<="
spelling k.AtLeast = codes ">="
spelling k.Open = codes "("
spelling k.Close = codes ")"
spelling k.Comma = codes ","
spelling k.Dot = codes "."
spelling k.Semicolon = codes ";"
spelling k.Equal = codes "="
spelling k.Less = codes "<"
spelling k.More = codes ">"
spelling k.Plus = codes "+"
spelling k.Minus = codes "-"
spelling k.Star = codes "*"
spelling k.Zero = codes "0"
spelling _ = []

-- words that are no names, unless they stand in brackets
abbrev pub reserved : List Kind
reserved = k.Alter ∷ k.And ∷ k.As ∷ k.Asc ∷ k.Begin ∷ k.By ∷ k.Commit ∷ k.Constraint ∷ k.Create ∷ k.Cross ∷ k.Database ∷ k.Declare ∷ k.Delete ∷ k.Desc ∷ k.From ∷ k.Inner ∷ k.Insert ∷ k.Into ∷ k.Is ∷ k.Join ∷ k.Key ∷ k.Left ∷ k.Not ∷ k.Null ∷ k.On ∷ k.Or ∷ k.Order ∷ k.Outer ∷ k.Primary ∷ k.Right ∷ k.Rollback ∷ k.Select ∷ k.Set ∷ k.Table ∷ k.Tran ∷ k.Transaction ∷ k.Truncate ∷ k.Update ∷ k.Values ∷ k.Where ∷ k.With ∷ []

-- words of functions: names too, but where `(` follows in an expression
abbrev pub functions : List Kind
functions = k.CurrentVersion ∷ k.MinValidVersion ∷ k.IsColumnInMask ∷ k.ObjectId ∷ k.ColumnProperty ∷ k.IsNull ∷ []

-- words that are names too, where a rule asks for a name
abbrev pub unreserved : List Kind
unreserved = k.AllowSnapshotIsolation ∷ k.Apply ∷ k.AutoCleanup ∷ k.BigInt ∷ k.Changes ∷ k.ChangeTable ∷ k.ChangeRetention ∷ k.ChangeTracking ∷ k.ChangeTrackingContext ∷ k.Committed ∷ k.Days ∷ k.Disable ∷ k.Enable ∷ k.Hours ∷ k.Int ∷ k.Isolation ∷ k.Level ∷ k.LockTimeout ∷ k.Minutes ∷ k.NVarChar ∷ k.Off ∷ k.Read ∷ k.ReadCommittedSnapshot ∷ k.Snapshot ∷ k.TrackColumnsUpdated ∷ k.VarBinary ∷ k.Version ∷ k.CurrentVersion ∷ k.MinValidVersion ∷ k.IsColumnInMask ∷ k.ObjectId ∷ k.ColumnProperty ∷ k.IsNull ∷ []

abbrev pub signs : List Kind
signs = k.Different ∷ k.Unlike ∷ k.AtMost ∷ k.AtLeast ∷ k.Open ∷ k.Close ∷ k.Comma ∷ k.Dot ∷ k.Semicolon ∷ k.Equal ∷ k.Less ∷ k.More ∷ k.Plus ∷ k.Minus ∷ k.Star ∷ []

-- where the case of ASCII letters does not count
unfoldable pub spells : Kind → List ℕ → Bool
spells kind word = str_eq_ignore_ascii_case word (spelling kind)

-- the first of the kinds that is spelled so
unfoldable pub kind_in : List Kind → List ℕ → Kind → Kind
kind_in [] word otherwise = otherwise
kind_in (kind ∷ kinds) word otherwise = if spells kind word then kind else kind_in kinds word otherwise

-- the kind of a token: a name in brackets is never a word of the rules
abbrev pub kind_of : TokenKind → List ℕ → Kind
kind_of form.Name word = kind_in (reserved ++ unreserved) word k.Unlisted
kind_of form.Bracketed word = k.Bracketed
kind_of form.Variable word = k.Variable
kind_of form.Number word = kind_in (k.Zero ∷ []) word k.Number
kind_of form.Text word = k.Text
kind_of form.Bytes word = k.Bytes
kind_of form.Sign word = kind_in signs word k.Other

-- ---- sets of kinds

-- `==` on kinds
unfoldable pub same : Kind → Kind → Bool
same = sameb the_type

abbrev pub Set : Type 0
Set = List Kind

unfoldable pub has : Set → Kind → Bool
has [] kind = false
has (x ∷ xs) kind = same x kind || has xs kind

-- no kind is in both
unfoldable pub apart : Set → Set → Bool
apart [] ys = true
apart (x ∷ xs) ys = not (has ys x) && apart xs ys

-- each kind of the first is in the second
unfoldable pub within : Set → Set → Bool
within [] ys = true
within (x ∷ xs) ys = has ys x && within xs ys

-- what a rule takes where it asks for a name
abbrev pub names : Set
names = k.Unlisted ∷ k.Bracketed ∷ unreserved
