-- What names of columns mean at a place of a statement. That a column of two sources is refused is as in T-SQL; what ORDER BY may
-- name, and which refusal answers, is this project's own.
use Rattle.std.specs.Prelude.{ℕ, ◌+◌, Bool, true, false, ◌&&◌, List, [], ◌∷◌, ◌++◌, ◌==◌, count_by, length, find, if◌then◌else◌, Option, Some, None, Ok, Err}
use Rattle.ct_types.specs.declared.bound.BoundExpr.{BoundExpr}
use Rattle.ct_types.specs.declared.bound.BoundExpr.TheVariants.{Column as column_here}
use Rattle.ct_types.specs.declared.expr.ColumnName.{ColumnName}
use Rattle.ct_types.specs.declared.refusal.Refusal.TheVariants.{NoColumn, Ambiguous, TypeClash}
use Rattle.ct_bind_kinds.specs.declared.kind.Kind.{Kind}
use Rattle.ct_bind_kinds.specs.declared.kind.Kind.TheVariants.{Condition}
use Rattle.ct_bind_kinds.specs.Kinds.{is_value, suits}
use Rattle.ct_types.specs.Answers.{Answer, ◌>>=◌, ◌>>◌, demand}
use Rattle.ct_bind_names.specs.Names.{same}
use Rattle.ct_bind_expr.specs.declared.place.Typed.{Typed}
use Rattle.ct_bind_expr.specs.declared.place.Shown.{Shown}
use Rattle.ct_bind_expr.specs.declared.place.Shape.{Shape}
use Rattle.ct_bind_expr.specs.declared.place.Output.{Output}
use Rattle.ct_bind_expr.specs.declared.place.Spot.{Spot}
use Rattle.ct_bind_expr.specs.declared.place.Place.{Place}

-- ---- kinds

abbrev pub typed : BoundExpr → Kind → Typed
typed expr kind = record { expr = expr; kind = kind }

-- The judgement of kinds where one is wanted: an expression of the first kind may stand where the second is
-- wanted. A condition stands for a condition alone; a value for one of its kind, and NULL for every value.
abbrev pub is_a : Kind → Kind → Bool
is_a Condition Condition = true
is_a kind Condition = false
is_a kind wanted = suits kind wanted

abbrev pub of_kind : Kind → Typed → Answer BoundExpr
of_kind wanted it = demand (is_a it.kind wanted) TypeClash >> Ok it.expr

-- a value, of whatever kind
abbrev pub any_value : Typed → Answer BoundExpr
any_value it = demand (is_value it.kind) TypeClash >> Ok it.expr

-- two values whose kinds are one, NULL aside
abbrev pub go_together : Kind → Kind → Bool
go_together a b = is_value a && suits b a

-- ---- places

-- where no column may be named
abbrev pub closed : Place
closed = record { is_closed = true; sources = []; outputs = [] }

-- a row of these sources, the columns of the first before those of the second
abbrev pub row_of : List Shape → Place
row_of sources = record { is_closed = false; sources = sources; outputs = [] }

-- ORDER BY, which may name outputs too
abbrev pub ordering : List Shape → List Output → Place
ordering sources outputs = record { is_closed = false; sources = sources; outputs = outputs }

-- ---- the columns of a row

abbrev pub spot : ℕ → Kind → Spot
spot place kind = record { place = place; kind = kind }

-- the columns of this name, by their places in the row, the first of which is `at`
unfoldable pub named : List ℕ → ℕ → List Shown → List Spot
named name at [] = []
named name at (column ∷ more) = if same column.name name then spot at column.kind ∷ named name (at + 1) more else named name (at + 1) more

-- those of all sources
unfoldable pub named_in : List ℕ → ℕ → List Shape → List Spot
named_in name at [] = []
named_in name at (source ∷ more) = named name at source.columns ++ named_in name (at + length source.columns) more

-- those of the source of that name, of which there is one at most; 207 where there is none
unfoldable pub named_of : List ℕ → List ℕ → ℕ → List Shape → Answer (List Spot)
named_of wanted name at [] = Err (NoColumn wanted)
named_of wanted name at (source ∷ more) =
    if same source.name wanted then Ok (named name at source.columns) else named_of wanted name (at + length source.columns) more

-- the column that stands there
abbrev pub column_at : Spot → Typed
column_at spot = typed (column_here spot.place) spot.kind

-- 207 where the row has no such column, ambiguous where it has several
unfoldable pub only : List ℕ → List Spot → Answer Typed
only name [] = Err (NoColumn name)
only name (one ∷ []) = Ok (column_at one)
only name (one ∷ other ∷ more) = Err (Ambiguous name)

-- ---- the outputs, for ORDER BY

abbrev pub has_name : List ℕ → Option (List ℕ) → Bool
has_name name None = false
has_name name (Some other) = same other name

unfoldable pub is_output : List ℕ → Output → Bool
is_output name output = has_name name output.name

-- the output that is named so, if it is the only one
unfoldable pub output_at : List ℕ → List Output → Option Output
output_at name outputs = if count_by (is_output name) outputs == 1 then find (is_output name) outputs else None

-- ---- what a name means

-- A name alone: the output that it names, else the one column of the row. An output is a column too: ORDER BY is
-- evaluated on the row followed by the values of the items, and each output has its place there.
abbrev pub plain_by : Place → List ℕ → Option Output → Answer Typed
plain_by place name (Some output) = Ok (column_at output.spot)
plain_by place name None = only name (named_in name 0 place.sources)

unfoldable pub plain_column : Place → List ℕ → Answer Typed
plain_column place name = plain_by place name (output_at name place.outputs)

unfoldable pub column_of_source : Place → List ℕ → List ℕ → Answer Typed
column_of_source place source name = named_of source name 0 place.sources >>= only name

abbrev pub column_in : Place → Option (List ℕ) → List ℕ → Answer Typed
column_in place None name = plain_column place name
column_in place (Some source) name = column_of_source place source name

-- Where no column may be named, each is a clash, known or not.
unfoldable pub column : Place → ColumnName → Answer Typed
column place name = if place.is_closed then Err TypeClash else column_in place name.source name.column
