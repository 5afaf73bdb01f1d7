-- How entries and the pieces of a checkpoint are spelled, and what of them can be spelled. This project's own.
use Rattle.std.specs.Prelude.{◌≡◌, ◌≢◌, ℕ, ◌^◌, ◌<◌, ◌≤◌, Bool, true, false, List, [], ◌∷◌, ◌++◌, length, map, Option, Some, None}
use Rattle.std.specs.Int.{cast_unsigned, w64}
use Rattle.std.specs.List.{AllByRecursion, flat_map}
use Rattle.std.specs.Str.{IsUtf8}
use Rattle.byteorder.specs.Endian.{little_bytes}
use Rattle.ct_types.specs.ColumnFit.{IsBigInt}
use Rattle.ct_types.specs.declared.value.Value.{Value}
use Rattle.ct_types.specs.declared.value.Value.TheVariants.{Null, Int, Text, Bytes}
use Rattle.ct_types.specs.declared.value.Key.{Key}
use Rattle.ct_types.specs.declared.value.Row.{Row}
use Rattle.ct_types.specs.declared.schema.ColType.{ColType}
use Rattle.ct_types.specs.declared.schema.ColType.TheVariants as kind
use Rattle.ct_types.specs.declared.schema.Column.{Column}
use Rattle.ct_types.specs.declared.schema.Schema.{Schema}
use Rattle.ct_types.specs.declared.tracked.Tracked.{Tracked}
use Rattle.ct_types.specs.declared.entry.Op.{Op}
use Rattle.ct_types.specs.declared.entry.Op.TheVariants.{Insert, Update, Delete}
use Rattle.ct_types.specs.declared.entry.Change.{Change}
use Rattle.ct_types.specs.declared.entry.Write.{Write}
use Rattle.ct_types.specs.declared.entry.Keep.{Keep}
use Rattle.ct_types.specs.declared.entry.Min.{Min}
use Rattle.ct_types.specs.declared.entry.Act.{Act}
use Rattle.ct_types.specs.declared.entry.Act.TheVariants.{Commit, Define, Truncate, Enable, Disable, Database, Raise}
use Rattle.ct_types.specs.declared.entry.Entry.{Entry}
use Rattle.ct_types.specs.declared.entry.Kept.{Kept}
use Rattle.ct_types.specs.declared.piece.Piece.{Piece}
use Rattle.ct_types.specs.declared.piece.Piece.TheVariants as piece

-- ---- what all spellings are made of

-- a number fits so many bytes, in which it is spelled as little_bytes: the least byte first
abbrev pub IsIn : ℕ → ℕ → Type 0
IsIn size n = n < 256 ^ size

-- a count in so many bytes, and then each
abbrev pub spell_counted : {A : Type 0} → ℕ → (A → List ℕ) → List A → List ℕ
spell_counted size spell list = little_bytes size (length list) ++ flat_map spell list

abbrev pub CountedFit : {A : Type 0} → ℕ → (A → Type 0) → List A → Type 0
CountedFit size fits list = IsIn size (length list) × AllByRecursion fits list

-- a list of exactly one
abbrev pub IsOne : {A : Type 0} → (A → Type 0) → List A → Type 0
IsOne fits [] = ⊥
IsOne fits (a ∷ []) = fits a
IsOne fits (a ∷ other ∷ more) = ⊥

-- a length in so many bytes, and then the bytes
abbrev pub spell_measured : ℕ → List ℕ → List ℕ
spell_measured size bytes = little_bytes size (length bytes) ++ bytes

abbrev pub TextFits : ℕ → List ℕ → Type 0
TextFits size text = IsIn size (length text) × IsUtf8 text

-- a flag is 0 or 1
abbrev pub flag_byte : Bool → ℕ
flag_byte false = 0
flag_byte true = 1

abbrev pub spell_flag : Bool → List ℕ
spell_flag flag = little_bytes 1 (flag_byte flag)

-- ---- values

-- a value has a tag, and then its content
abbrev pub tag_of : Value → ℕ
tag_of Null = 0
tag_of (Int n) = 1
tag_of (Text t) = 2
tag_of (Bytes b) = 3

-- a number with a sign is two's complement in 8 bytes; a text and bytes have a length of 4 bytes
abbrev pub spell_content : Value → List ℕ
spell_content Null = []
spell_content (Int n) = little_bytes 8 (cast_unsigned w64 n)
spell_content (Text t) = spell_measured 4 t
spell_content (Bytes b) = spell_measured 4 b

abbrev pub spell_value : Value → List ℕ
spell_value value = little_bytes 1 (tag_of value) ++ spell_content value

abbrev pub ValueFits : Value → Type 0
ValueFits Null = Unit {0}
ValueFits (Int n) = IsBigInt n
ValueFits (Text t) = TextFits 4 t
ValueFits (Bytes b) = IsIn 4 (length b)

-- a row is counted in 2 bytes
abbrev pub spell_row : Row → List ℕ
spell_row row = spell_counted 2 spell_value row.0

abbrev pub RowFits : Row → Type 0
RowFits row = CountedFit 2 ValueFits row.0

-- a key is its one value, with no count
abbrev pub spell_key : Key → List ℕ
spell_key key = flat_map spell_value key.0

abbrev pub KeyFits : Key → Type 0
KeyFits key = IsOne ValueFits key.0

-- ---- writes and changes

abbrev pub op_byte : Op → ℕ
op_byte Insert = 1
op_byte Update = 2
op_byte Delete = 3

abbrev pub spell_op : Op → List ℕ
spell_op op = little_bytes 1 (op_byte op)

-- a context has a length of one byte, 0 to 128, and its bytes; 255 says that there is none
abbrev pub context_byte : Option (List ℕ) → ℕ
context_byte None = 255
context_byte (Some bytes) = length bytes

abbrev pub context_bytes : Option (List ℕ) → List ℕ
context_bytes None = []
context_bytes (Some bytes) = bytes

abbrev pub spell_context : Option (List ℕ) → List ℕ
spell_context context = little_bytes 1 (context_byte context) ++ context_bytes context

abbrev pub ContextFits : Option (List ℕ) → Type 0
ContextFits None = Unit {0}
ContextFits (Some bytes) = length bytes ≤ 128

-- a write tells its row, or its key where it has no row
abbrev pub spell_target : Key → Option Row → List ℕ
spell_target key None = spell_key key
spell_target key (Some row) = spell_row row

-- a delete has a key and no row; any other write has a row, and no key beside it
abbrev pub TargetFits : Op → Key → Option Row → Type 0
TargetFits op key None = (op ≡ Delete) × KeyFits key
TargetFits op key (Some row) = (op ≢ Delete) × (key.0 ≡ []) × RowFits row

-- a tracked write tells its columns and its context
abbrev pub spell_notes : Bool → ℕ → Option (List ℕ) → List ℕ
spell_notes true mask context = little_bytes 8 mask ++ spell_context context
spell_notes false mask context = []

-- one that is not tracked has neither
abbrev pub NotesFit : Bool → ℕ → Option (List ℕ) → Type 0
NotesFit true mask context = IsIn 8 mask × ContextFits context
NotesFit false mask context = (mask ≡ 0) × (context ≡ None)

-- a write: table, operation, row or key, whether it is tracked, and what a tracked one tells
abbrev pub spell_write : Write → List ℕ
spell_write write =
    little_bytes 4 write.table ++ (spell_op write.op ++ (spell_target write.key write.row ++ (spell_flag write.tracked ++ spell_notes write.tracked write.mask write.context)))

abbrev pub WriteFits : Write → Type 0
WriteFits write = IsIn 4 write.table × TargetFits write.op write.key write.row × NotesFit write.tracked write.mask write.context

-- a new minimum: table and minimum
abbrev pub spell_min : Min → List ℕ
spell_min min = little_bytes 4 min.table ++ little_bytes 8 min.min

abbrev pub MinFits : Min → Type 0
MinFits min = IsIn 4 min.table × IsIn 8 min.min

-- a kept change: table, operation, key, columns and context
abbrev pub spell_change : Change → List ℕ
spell_change change =
    little_bytes 4 change.table ++ (spell_op change.op ++ (spell_key change.key ++ (little_bytes 8 change.mask ++ spell_context change.context)))

abbrev pub ChangeFits : Change → Type 0
ChangeFits change = IsIn 4 change.table × KeyFits change.key × IsIn 8 change.mask × ContextFits change.context

-- ---- definitions

abbrev pub type_byte : ColType → ℕ
type_byte kind.Int = 1
type_byte kind.BigInt = 2
type_byte (kind.NVarChar most) = 3
type_byte (kind.VarBinary most) = 4

-- the number of a type; 0 for the types that have none
abbrev pub most_of : ColType → ℕ
most_of kind.Int = 0
most_of kind.BigInt = 0
most_of (kind.NVarChar most) = most
most_of (kind.VarBinary most) = most

abbrev pub spell_type : ColType → List ℕ
spell_type type = little_bytes 1 (type_byte type) ++ little_bytes 2 (most_of type)

-- a column: name, type, and whether it is nullable
abbrev pub spell_column : Column → List ℕ
spell_column column = spell_measured 2 column.name ++ (spell_type column.kind ++ spell_flag column.nullable)

abbrev pub ColumnFits : Column → Type 0
ColumnFits column = TextFits 2 column.name × IsIn 2 (most_of column.kind)

-- a definition: id, name, columns counted in 2 bytes, and the id of the one key column, with no count
abbrev pub spell_schema : Schema → List ℕ
spell_schema schema =
    little_bytes 4 schema.id ++ (spell_measured 2 schema.name ++ (spell_counted 2 spell_column schema.columns ++ flat_map (little_bytes 2) schema.key))

abbrev pub SchemaFits : Schema → Type 0
SchemaFits schema = IsIn 4 schema.id × TextFits 2 schema.name × CountedFit 2 ColumnFits schema.columns × IsOne (IsIn 2) schema.key

-- the settings: whether the database is on, retention and AUTO_CLEANUP, both 0 where it is off
abbrev pub spell_keep : Option Keep → List ℕ
spell_keep None = spell_flag false ++ (little_bytes 8 0 ++ spell_flag false)
spell_keep (Some keep) = spell_flag true ++ (little_bytes 8 keep.retention ++ spell_flag keep.auto)

abbrev pub KeepFits : Option Keep → Type 0
KeepFits None = Unit {0}
KeepFits (Some keep) = IsIn 8 keep.retention

-- whether a table is tracked, and where it is its minimum and whether it has masks
abbrev pub spell_tracked : Option Tracked → List ℕ
spell_tracked None = spell_flag false
spell_tracked (Some tracked) = spell_flag true ++ (little_bytes 8 tracked.min ++ spell_flag tracked.masks)

abbrev pub TrackedFits : Option Tracked → Type 0
TrackedFits None = Unit {0}
TrackedFits (Some tracked) = IsIn 8 tracked.min

-- ---- entries

abbrev pub act_byte : Act → ℕ
act_byte (Commit writes) = 1
act_byte (Define schema) = 2
act_byte (Truncate table) = 3
act_byte (Enable table masks) = 4
act_byte (Disable table) = 5
act_byte (Database keep) = 6
act_byte (Raise minima) = 7

-- writes are counted in 4 bytes, minima in 2
abbrev pub spell_act : Act → List ℕ
spell_act (Commit writes) = spell_counted 4 spell_write writes
spell_act (Define schema) = spell_schema schema
spell_act (Truncate table) = little_bytes 4 table
spell_act (Enable table masks) = little_bytes 4 table ++ spell_flag masks
spell_act (Disable table) = little_bytes 4 table
spell_act (Database keep) = spell_keep keep
spell_act (Raise minima) = spell_counted 2 spell_min minima

abbrev pub ActFits : Act → Type 0
ActFits (Commit writes) = CountedFit 4 WriteFits writes
ActFits (Define schema) = SchemaFits schema
ActFits (Truncate table) = IsIn 4 table
ActFits (Enable table masks) = IsIn 4 table
ActFits (Disable table) = IsIn 4 table
ActFits (Database keep) = KeepFits keep
ActFits (Raise minima) = CountedFit 2 MinFits minima

-- an entry: the kind of its act, whether it draws its version, version, transaction number, time, and the act
abbrev pub spell_entry : Entry → List ℕ
spell_entry entry =
    little_bytes 1 (act_byte entry.act) ++ (spell_flag entry.draws ++ (little_bytes 8 entry.version ++ (little_bytes 8 entry.xdes ++ (little_bytes 8 entry.time ++ spell_act entry.act))))

-- the entries that can be spelled
abbrev pub EntryFits : Entry → Type 0
EntryFits entry = IsIn 8 entry.version × IsIn 8 entry.xdes × IsIn 8 entry.time × ActFits entry.act

-- an entry without the keys of writes that have a row: such a key is that of the row, and is not spelled
abbrev pub bare_key : Key → Option Row → Key
bare_key key None = key
bare_key key (Some row) = record { 0 = [] }

abbrev pub bare_write : Write → Write
bare_write write = record { table = write.table; op = write.op; key = bare_key write.key write.row; row = write.row; tracked = write.tracked; mask = write.mask; context = write.context }

abbrev pub bare_act : Act → Act
bare_act (Commit writes) = Commit (map bare_write writes)
bare_act (Define schema) = Define schema
bare_act (Truncate table) = Truncate table
bare_act (Enable table masks) = Enable table masks
bare_act (Disable table) = Disable table
bare_act (Database keep) = Database keep
bare_act (Raise minima) = Raise minima

abbrev pub bare : Entry → Entry
bare entry = record { version = entry.version; draws = entry.draws; xdes = entry.xdes; time = entry.time; act = bare_act entry.act }

-- ---- pieces of a checkpoint

abbrev pub spell_kept : Kept → List ℕ
spell_kept kept = little_bytes 8 kept.version ++ (little_bytes 8 kept.xdes ++ (little_bytes 8 kept.time ++ spell_counted 4 spell_change kept.changes))

abbrev pub KeptFits : Kept → Type 0
KeptFits kept = IsIn 8 kept.version × IsIn 8 kept.xdes × IsIn 8 kept.time × CountedFit 4 ChangeFits kept.changes

abbrev pub piece_byte : Piece → ℕ
piece_byte (piece.Head version time last_xdes keep) = 1
piece_byte (piece.Table schema tracked) = 2
piece_byte (piece.Rows table rows) = 3
piece_byte (piece.Kept kept) = 4
piece_byte piece.End = 5

-- the rows of a piece are counted in 4 bytes
abbrev pub spell_payload : Piece → List ℕ
spell_payload (piece.Head version time last_xdes keep) = little_bytes 8 version ++ (little_bytes 8 time ++ (little_bytes 8 last_xdes ++ spell_keep keep))
spell_payload (piece.Table schema tracked) = spell_schema schema ++ spell_tracked tracked
spell_payload (piece.Rows table rows) = little_bytes 4 table ++ spell_counted 4 spell_row rows
spell_payload (piece.Kept kept) = spell_kept kept
spell_payload piece.End = []

abbrev pub PayloadFits : Piece → Type 0
PayloadFits (piece.Head version time last_xdes keep) = IsIn 8 version × IsIn 8 time × IsIn 8 last_xdes × KeepFits keep
PayloadFits (piece.Table schema tracked) = SchemaFits schema × TrackedFits tracked
PayloadFits (piece.Rows table rows) = IsIn 4 table × CountedFit 4 RowFits rows
PayloadFits (piece.Kept kept) = KeptFits kept
PayloadFits piece.End = Unit {0}

-- a piece: its kind, the length of its payload in 4 bytes, and the payload
abbrev pub spell_piece : Piece → List ℕ
spell_piece piece = little_bytes 1 (piece_byte piece) ++ spell_measured 4 (spell_payload piece)

-- the pieces that can be spelled
abbrev pub PieceFits : Piece → Type 0
PieceFits piece = IsIn 4 (length (spell_payload piece)) × PayloadFits piece
