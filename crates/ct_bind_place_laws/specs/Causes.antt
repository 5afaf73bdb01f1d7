-- The causes of NoColumn, Ambiguous and TypeClash at an expression that stands at a place of a statement: each is that of one of its
-- parts, whatever stands before it. The kinds of operands are those of what they come to.
use Rattle.std.specs.Prelude.{◌≡◌, ◌⊎◌, ℕ, true, false, List, slice_get, Some, Ok}
use Rattle.std.specs.List.{Contains}
use Rattle.ct_types.specs.declared.catalogue.Catalogued.{Catalogued}
use Rattle.ct_types.specs.declared.catalogue.Variable.{Variable}
use Rattle.ct_types.specs.declared.expr.Expr.{Expr, roll-Expr}
use Rattle.ct_types.specs.declared.expr.Expr.TheOpen as e
use Rattle.ct_types.specs.declared.expr.RowVersion.{RowVersion}
use Rattle.ct_types.specs.declared.expr.Scalar.{Scalar}
use Rattle.ct_types.specs.declared.expr.Term.{Term}
use Rattle.ct_types.specs.declared.refusal.Refusal.{Refusal}
use Rattle.ct_types.specs.declared.refusal.Refusal.TheVariants.{NoColumn, Ambiguous, TypeClash}
use Rattle.ct_types.specs.declared.schema.Column.{Column}
use Rattle.ct_bind_kinds.specs.declared.kind.Kind.{Kind}
use Rattle.ct_bind_kinds.specs.declared.kind.Kind.TheVariants.{Number, Text, Bytes, Condition}
use Rattle.ct_bind_kinds.specs.Kinds.{is_value}
use Rattle.ct_bind_names.specs.Catalogue.{table_named}
use Rattle.ct_bind_names.specs.Names.{same, table_name}
use Rattle.ct_bind_expr.specs.declared.place.Place.{Place}
use Rattle.ct_bind_expr.specs.declared.place.Typed.{Typed}
use Rattle.ct_bind_expr.specs.Places.{is_a, go_together}
use Rattle.ct_bind_expr.specs.Versions.{key_column, key_columns, kind_of_column}
use Rattle.ct_bind_expr.specs.Walk.{walk}
use Rattle.ct_bind_place_laws.specs.Columns.{IsNoColumn, IsAmbiguous, IsNotOfKey, IsNotShown}
use Rattle.ct_bind_place_laws.specs.Parts.{Form, HasPart}

-- ---- CHANGETABLE(VERSION ..)

module _ (tables : List Catalogued) where
  -- the table of its name
  abbrev pub IsTable : RowVersion → Catalogued → Type 0
  IsTable version table = table_named tables (table_name version.table) ≡ Some table

  -- the list of columns is not that of the key
  abbrev pub ListsWrongly : RowVersion → List ℕ → Type 0
  ListsWrongly version name = (table : Catalogued) × IsTable version table × IsNotOfKey (key_columns table.schema) version.columns name

  -- a SELECT in brackets names another source than its own, or a column that this does not show
  abbrev pub NamesWrongly : Scalar → List ℕ → Type 0
  NamesWrongly scalar name =
      ((name ≡ scalar.source) × (same scalar.source scalar.alias ≡ false))
      ⊎ ((name ≡ scalar.column) × ((table : Catalogued) × IsTable scalar.version table × IsNotShown table.schema scalar.column))

module _ (tables : List Catalogued) (variables : List Variable) (place : Place) where
  -- ---- kinds

  -- an operand has a kind that may not stand where this one is wanted
  abbrev pub IsNoOperand : Kind → Expr → Type 0
  IsNoOperand wanted y = (it : Typed) × (walk tables variables y place ≡ Ok it) × (is_a it.kind wanted ≡ false)

  -- an operand is a condition, where a value is wanted
  abbrev pub IsNoValue : Expr → Type 0
  IsNoValue y = (it : Typed) × (walk tables variables y place ≡ Ok it) × (is_value it.kind ≡ false)

  -- two operands have kinds that do not go together
  abbrev pub Differ : Expr → Expr → Type 0
  Differ left right = (a : Typed) × (b : Typed) × (walk tables variables left place ≡ Ok a) × (walk tables variables right place ≡ Ok b) × (go_together a.kind b.kind ≡ false)

  -- one of the operands of a chain
  abbrev pub SomeIsNoOperand : Kind → List Expr → Type 0
  SomeIsNoOperand wanted operands = (y : Expr) × Contains operands y × IsNoOperand wanted y

  -- one of the operands of a sum after the first
  abbrev pub SomeTermIsNoOperand : List Term → Type 0
  SomeTermIsNoOperand terms = (term : Term) × Contains terms term × IsNoOperand Number term.value

  -- ---- what CHANGETABLE(VERSION ..) refuses

  -- a value of the tuple is not of the kind of the column that stands at its place in the list
  abbrev pub IsNoKeyValue : RowVersion → Type 0
  IsNoKeyValue version =
      (table : Catalogued) × IsTable tables version table
      × ((at : ℕ) × (y : Expr) × (name : List ℕ) × (column : Column)
      × (slice_get version.values at ≡ Some y) × (slice_get version.columns at ≡ Some name) × (key_column (key_columns table.schema) name ≡ Some column) × IsNoOperand (kind_of_column column) y)

  abbrev pub OfVersion : RowVersion → Refusal → Type 0
  OfVersion version (NoColumn name) = ListsWrongly tables version name
  OfVersion version (Ambiguous name) = ⊥
  OfVersion version TypeClash = IsNoKeyValue version
  OfVersion version _ = Unit {0}

  abbrev pub OfScalar : Scalar → Refusal → Type 0
  OfScalar scalar (NoColumn name) = NamesWrongly tables scalar name ⊎ ListsWrongly tables scalar.version name
  OfScalar scalar (Ambiguous name) = ⊥
  OfScalar scalar TypeClash = IsNoKeyValue scalar.version
  OfScalar scalar _ = Unit {0}

  -- ---- a form

  -- the kinds of its operands are not those that are wanted; where no column may be named, a column is
  abbrev pub Clashes : Form → Type 0
  Clashes (e.Column name) = place.is_closed ≡ true
  Clashes (e.MinValidVersion table) = IsNoOperand Number table
  Clashes (e.IsColumnInMask column mask) = IsNoOperand Number column ⊎ IsNoOperand Bytes mask
  Clashes (e.ObjectId name) = IsNoOperand Text name
  Clashes (e.ColumnProperty table column name) = IsNoOperand Number table ⊎ (IsNoOperand Text column ⊎ IsNoOperand Text name)
  Clashes (e.IfNull value instead) = Differ value instead
  Clashes (e.Scalar scalar) = OfScalar scalar TypeClash
  Clashes (e.Negative value) = IsNoOperand Number value
  Clashes (e.Product factors) = SomeIsNoOperand Number factors
  Clashes (e.Sum first more) = IsNoOperand Number first ⊎ SomeTermIsNoOperand more
  Clashes (e.Compare operator left right) = Differ left right
  Clashes (e.IsNull value) = IsNoValue value
  Clashes (e.IsNotNull value) = IsNoValue value
  Clashes (e.Not value) = IsNoOperand Condition value
  Clashes (e.And operands) = SomeIsNoOperand Condition operands
  Clashes (e.Or operands) = SomeIsNoOperand Condition operands
  Clashes _ = ⊥

  -- it names a column that is not there
  abbrev pub Lacks : Form → List ℕ → Type 0
  Lacks (e.Column column) name = (place.is_closed ≡ false) × IsNoColumn place column.source column.column name
  Lacks (e.Scalar scalar) name = OfScalar scalar (NoColumn name)
  Lacks _ name = ⊥

  -- it names a column of which there are several
  abbrev pub HasSeveral : Form → List ℕ → Type 0
  HasSeveral (e.Column column) name = (place.is_closed ≡ false) × IsAmbiguous place column.source column.column name
  HasSeveral _ name = ⊥

  -- the cause of a refusal at a form; of others than these three nothing is said here
  abbrev pub OfForm : Form → Refusal → Type 0
  OfForm form (NoColumn name) = Lacks form name
  OfForm form (Ambiguous name) = HasSeveral form name
  OfForm form TypeClash = Clashes form
  OfForm form _ = Unit {0}

  -- a part of the expression has the cause
  abbrev pub HasCause : Expr → Refusal → Type 0
  HasCause x refusal = (part : Expr) × HasPart x part × ((form : Form) × (part ≡ roll-Expr form) × OfForm form refusal)
