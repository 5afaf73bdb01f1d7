-- The readers of entries and of the pieces of a checkpoint: each reads what is spelled by its namesake in Spellings, as the laws say.
use Rattle.std.specs.Prelude.{ℕ, ℤ, Bool, true, false, nat_le, ◌==◌, if◌then◌else◌, List, [], ◌∷◌, Option, Some, None}
use Rattle.std.specs.Int.{cast_signed, w64}
use Rattle.ct_types.specs.declared.value.Value.{Value}
use Rattle.ct_types.specs.declared.value.Value.TheVariants.{Null, Int, Text, Bytes}
use Rattle.ct_types.specs.declared.value.Key.{Key}
use Rattle.ct_types.specs.declared.value.Row.{Row}
use Rattle.ct_types.specs.declared.schema.ColType.{ColType}
use Rattle.ct_types.specs.declared.schema.ColType.TheVariants as kind
use Rattle.ct_types.specs.declared.schema.Column.{Column}
use Rattle.ct_types.specs.declared.schema.Schema.{Schema}
use Rattle.ct_types.specs.declared.tracked.Tracked.{Tracked}
use Rattle.ct_types.specs.declared.entry.Op.{Op}
use Rattle.ct_types.specs.declared.entry.Op.TheVariants.{Insert, Update, Delete}
use Rattle.ct_types.specs.declared.entry.Change.{Change}
use Rattle.ct_types.specs.declared.entry.Write.{Write}
use Rattle.ct_types.specs.declared.entry.Keep.{Keep}
use Rattle.ct_types.specs.declared.entry.Min.{Min}
use Rattle.ct_types.specs.declared.entry.Act.{Act}
use Rattle.ct_types.specs.declared.entry.Act.TheVariants.{Commit, Define, Truncate, Enable, Disable, Database, Raise}
use Rattle.ct_types.specs.declared.entry.Entry.{Entry}
use Rattle.ct_types.specs.declared.entry.Kept.{Kept}
use Rattle.ct_types.specs.declared.piece.Piece.{Piece}
use Rattle.ct_types.specs.declared.piece.Piece.TheVariants as piece
use Rattle.ct_codec.specs.Readers.{Reader, ◌>>=◌, pure, fails, making, choosing, pair, number, taken, counted, measured, text, whole}

abbrev pub flag_of : ℕ → Option Bool
flag_of n = if n == 0 then Some false else if n == 1 then Some true else None

unfoldable pub flag : Reader Bool
flag = choosing flag_of (number 1)

-- ---- values

unfoldable pub integer : Reader ℤ
integer = making (cast_signed w64) (number 8)

-- what stands behind a tag
unfoldable pub content : ℕ → Reader Value
content tag =
    if tag == 0 then pure Null
    else if tag == 1 then making Int integer
    else if tag == 2 then making Text (text 4)
    else if tag == 3 then making Bytes (measured 4)
    else fails

unfoldable pub value : Reader Value
value = number 1 >>= content

unfoldable pub row : Reader Row
row = making (λ values. record { 0 = values }) (counted 2 value)

-- a list of the one value that is read
abbrev pub one : {A : Type 0} → Reader A → Reader (List A)
one reader = making (λ a. a ∷ []) reader

unfoldable pub key : Reader Key
key = making (λ values. record { 0 = values }) (one value)

-- ---- writes and changes

abbrev pub op_of : ℕ → Option Op
op_of n = if n == 1 then Some Insert else if n == 2 then Some Update else if n == 3 then Some Delete else None

unfoldable pub op : Reader Op
op = choosing op_of (number 1)

-- what stands behind a context's first byte
unfoldable pub context_of : ℕ → Reader (Option (List ℕ))
context_of n = if n == 255 then pure None else if nat_le n 128 then making Some (taken n) else fails

unfoldable pub context : Reader (Option (List ℕ))
context = number 1 >>= context_of

abbrev pub with_row : Row → Key × Option Row
with_row row = (record { 0 = [] }, Some row)

abbrev pub with_key : Key → Key × Option Row
with_key key = (key, None)

unfoldable pub target : Op → Reader (Key × Option Row)
target Insert = making with_row row
target Update = making with_row row
target Delete = making with_key key

unfoldable pub notes : Bool → Reader (ℕ × Option (List ℕ))
notes true = pair (number 8) (λ mask. context)
notes false = pure (0, None)

abbrev pub tracking : Reader (Bool × (ℕ × Option (List ℕ)))
tracking = pair flag notes

abbrev pub made_write : ℕ × (Op × ((Key × Option Row) × (Bool × (ℕ × Option (List ℕ))))) → Write
made_write w = record { table = w.0; op = w.1.0; key = w.1.1.0.0; row = w.1.1.0.1; tracked = w.1.1.1.0; mask = w.1.1.1.1.0; context = w.1.1.1.1.1 }

unfoldable pub write : Reader Write
write = making made_write (pair (number 4) (λ table. pair op (λ op. pair (target op) (λ target. tracking))))

abbrev pub made_min : ℕ × ℕ → Min
made_min m = record { table = m.0; min = m.1 }

unfoldable pub min : Reader Min
min = making made_min (pair (number 4) (λ table. number 8))

abbrev pub made_change : ℕ × (Op × (Key × (ℕ × Option (List ℕ)))) → Change
made_change c = record { table = c.0; op = c.1.0; key = c.1.1.0; mask = c.1.1.1.0; context = c.1.1.1.1 }

unfoldable pub change : Reader Change
change = making made_change (pair (number 4) (λ table. pair op (λ op. pair key (λ key. pair (number 8) (λ mask. context)))))

-- ---- definitions

-- a type with a number has it behind its byte, any other type 0
abbrev pub type_of : ℕ × ℕ → Option ColType
type_of t =
    if t.0 == 1 then (if t.1 == 0 then Some kind.Int else None)
    else if t.0 == 2 then (if t.1 == 0 then Some kind.BigInt else None)
    else if t.0 == 3 then Some (kind.NVarChar t.1)
    else if t.0 == 4 then Some (kind.VarBinary t.1)
    else None

unfoldable pub type_ : Reader ColType
type_ = choosing type_of (pair (number 1) (λ type. number 2))

abbrev pub made_column : List ℕ × (ColType × Bool) → Column
made_column c = record { name = c.0; kind = c.1.0; nullable = c.1.1 }

unfoldable pub column : Reader Column
column = making made_column (pair (text 2) (λ name. pair type_ (λ kind. flag)))

abbrev pub made_schema : ℕ × (List ℕ × (List Column × List ℕ)) → Schema
made_schema s = record { id = s.0; name = s.1.0; columns = s.1.1.0; key = s.1.1.1 }

unfoldable pub schema : Reader Schema
schema = making made_schema (pair (number 4) (λ id. pair (text 2) (λ name. pair (counted 2 column) (λ columns. one (number 2)))))

abbrev pub made_keep : ℕ × Bool → Option Keep
made_keep k = Some (record { retention = k.0; auto = k.1 })

abbrev pub no_keep : ℕ × Bool → Option (Option Keep)
no_keep k = if k.0 == 0 then (if k.1 then None else Some None) else None

-- the settings of a database that is on, and of one that is off
unfoldable pub keep_of : Bool → Reader (Option Keep)
keep_of true = making made_keep (pair (number 8) (λ retention. flag))
keep_of false = choosing no_keep (pair (number 8) (λ retention. flag))

unfoldable pub keep : Reader (Option Keep)
keep = flag >>= keep_of

abbrev pub made_tracked : ℕ × Bool → Option Tracked
made_tracked t = Some (record { min = t.0; masks = t.1 })

unfoldable pub tracked_of : Bool → Reader (Option Tracked)
tracked_of true = making made_tracked (pair (number 8) (λ min. flag))
tracked_of false = pure None

unfoldable pub tracked : Reader (Option Tracked)
tracked = flag >>= tracked_of

-- ---- entries

abbrev pub made_enable : ℕ × Bool → Act
made_enable e = Enable e.0 e.1

-- what stands behind the fields that all entries have, by the kind of the act
unfoldable pub act : ℕ → Reader Act
act kind =
    if kind == 1 then making Commit (counted 4 write)
    else if kind == 2 then making Define schema
    else if kind == 3 then making Truncate (number 4)
    else if kind == 4 then making made_enable (pair (number 4) (λ table. flag))
    else if kind == 5 then making Disable (number 4)
    else if kind == 6 then making Database keep
    else if kind == 7 then making Raise (counted 2 min)
    else fails

abbrev pub made_entry : ℕ × (Bool × (ℕ × (ℕ × (ℕ × Act)))) → Entry
made_entry e = record { draws = e.1.0; version = e.1.1.0; xdes = e.1.1.1.0; time = e.1.1.1.1.0; act = e.1.1.1.1.1 }

unfoldable pub entry : Reader Entry
entry = making made_entry (pair (number 1) (λ kind. pair flag (λ draws. pair (number 8) (λ version. pair (number 8) (λ xdes. pair (number 8) (λ time. act kind))))))

-- the bare entry whose spelling the whole of the bytes is
abbrev pub entry_of : List ℕ → Option Entry
entry_of bytes = whole entry bytes

-- ---- pieces of a checkpoint

abbrev pub made_kept : ℕ × (ℕ × (ℕ × List Change)) → Kept
made_kept k = record { version = k.0; xdes = k.1.0; time = k.1.1.0; changes = k.1.1.1 }

unfoldable pub kept : Reader Kept
kept = making made_kept (pair (number 8) (λ version. pair (number 8) (λ xdes. pair (number 8) (λ time. counted 4 change))))

abbrev pub made_head : ℕ × (ℕ × (ℕ × Option Keep)) → Piece
made_head h = piece.Head h.0 h.1.0 h.1.1.0 h.1.1.1

abbrev pub head : Reader Piece
head = making made_head (pair (number 8) (λ version. pair (number 8) (λ time. pair (number 8) (λ last_xdes. keep))))

abbrev pub made_table : Schema × Option Tracked → Piece
made_table t = piece.Table t.0 t.1

abbrev pub table : Reader Piece
table = making made_table (pair schema (λ schema. tracked))

abbrev pub made_rows : ℕ × List Row → Piece
made_rows r = piece.Rows r.0 r.1

abbrev pub rows : Reader Piece
rows = making made_rows (pair (number 4) (λ table. counted 4 row))

-- the payload of a piece, by its kind
unfoldable pub payload : ℕ → Reader Piece
payload kind =
    if kind == 1 then head
    else if kind == 2 then table
    else if kind == 3 then rows
    else if kind == 4 then making piece.Kept kept
    else if kind == 5 then pure piece.End
    else fails

-- the piece with which the bytes begin, and the bytes behind it
unfoldable pub piece_of : Reader Piece
piece_of = number 1 >>= (λ kind. choosing (whole (payload kind)) (measured 4))
