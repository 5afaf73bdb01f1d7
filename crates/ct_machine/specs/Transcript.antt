-- The text of a journal. This project's own; the error numbers are those of
-- https://learn.microsoft.com/sql/relational-databases/errors-events/database-engine-events-and-errors.
use Rattle.std.specs.Prelude.{ℕ, ◌+◌, ◌/◌, ◌%◌, nat_lt, ◌==◌, ◌||◌, codes, List, [], ◌∷◌, ◌++◌, length, flat_map, Option, None, Some, if◌then◌else◌}
use Rattle.std.specs.Fmt.{decimal, signed_decimal}
use Rattle.ct_types.specs.declared.value.Value.{Value}
use Rattle.ct_types.specs.declared.value.Value.TheVariants.{Null, Int, Text, Bytes}
use Rattle.ct_types.specs.declared.value.Key.{Key}
use Rattle.ct_types.specs.declared.value.Row.{Row}
use Rattle.ct_types.specs.declared.refusal.Refusal.{Refusal}
use Rattle.ct_types.specs.declared.refusal.Refusal.TheVariants as refusal
use Rattle.ct_types.specs.declared.verdict.Touched.{Touched}
use Rattle.ct_types.specs.declared.verdict.CopyOut.{CopyOut}
use Rattle.ct_types.specs.declared.verdict.Verdict.{Verdict}
use Rattle.ct_types.specs.declared.verdict.Verdict.TheVariants.{Initialised, Synced, Looked, Reinitialise, NotTracked}
use Rattle.ct_types.specs.declared.reply.Grid.{Grid}
use Rattle.ct_types.specs.declared.reply.Reply.{Reply}
use Rattle.ct_types.specs.declared.reply.Reply.TheVariants as reply
use Rattle.ct_types.specs.declared.command.Journaled.{Journaled}
use Rattle.ct_machine.specs.Reads.{op_name}

-- ---- values

-- a digit of base 16, with small letters from 10 on
abbrev pub lower_digit : ℕ → ℕ
lower_digit n = if nat_lt n 10 then n + 48 else n + 87

-- a digit of base 16, with capital letters from 10 on
abbrev pub upper_digit : ℕ → ℕ
upper_digit n = if nat_lt n 10 then n + 48 else n + 55

-- two hexadecimal digits of a byte
abbrev pub lower_hex : ℕ → List ℕ
lower_hex byte = lower_digit (byte / 16) ∷ lower_digit (byte % 16) ∷ []

-- the same with capital letters
abbrev pub upper_hex : ℕ → List ℕ
upper_hex byte = upper_digit (byte / 16) ∷ upper_digit (byte % 16) ∷ []

-- a byte of a text between quotes: a quote and a backslash are doubled, and the control characters U+0000 to U+001F
-- and U+007F are `\x` with two digits
abbrev pub escaped : ℕ → List ℕ
escaped byte =
    if byte == 39 then codes "''"
    else if byte == 92 then codes "\\\\"
    else if nat_lt byte 32 || byte == 127 then codes "\\x" ++ lower_hex byte
    else byte ∷ []

-- a value: NULL, a number in decimal, a text between quotes, or bytes in hexadecimal digits
abbrev pub value_text : Value → List ℕ
value_text Null = codes "NULL"
value_text (Int n) = signed_decimal n
value_text (Text text) = codes "'" ++ flat_map escaped text ++ codes "'"
value_text (Bytes bytes) = codes "0x" ++ flat_map upper_hex bytes

-- texts with a separator between each two
abbrev pub joined : List ℕ → List (List ℕ) → List ℕ
joined by [] = []
joined by (first ∷ more) = first ++ flat_map (λ text. by ++ text) more

-- values with a separator between each two
abbrev pub values_text : List ℕ → List Value → List ℕ
values_text by [] = []
values_text by (first ∷ more) = value_text first ++ flat_map (λ value. by ++ value_text value) more

-- the line of a row
abbrev pub row_text : Row → List ℕ
row_text row = values_text (codes " | ") row.0 ++ codes "\n"

-- a key, whose values have commas between them
abbrev pub key_text : Key → List ℕ
key_text key = values_text (codes ", ") key.0

-- ---- refusals

-- a line that ends with a name
abbrev pub named : List ℕ → List ℕ → List ℕ
named words name = words ++ name ++ codes "\n"

-- a line that ends with a number
abbrev pub counted : List ℕ → ℕ → List ℕ
counted words n = words ++ decimal n ++ codes "\n"

-- the line of a refusal: its number or its name, and what it names
unfoldable pub refusal_text : Refusal → List ℕ
refusal_text (refusal.Syntax at) = counted (codes "Msg 102 at ") at
refusal_text (refusal.NoColumn name) = named (codes "Msg 207 ") name
refusal_text (refusal.NoObject name) = named (codes "Msg 208 ") name
refusal_text (refusal.NotNull column) = named (codes "Msg 515 ") column
refusal_text refusal.Victim = codes "Msg 1205\n"
refusal_text (refusal.Blocked table key holder) = codes "Msg 1222 " ++ table ++ codes " key " ++ key_text key ++ codes " holder " ++ decimal holder ++ codes "\n"
refusal_text (refusal.Duplicate table key) = codes "Msg 2627 " ++ table ++ codes " key " ++ key_text key ++ codes "\n"
refusal_text (refusal.Exists name) = named (codes "Msg 2714 ") name
refusal_text refusal.NoCommit = codes "Msg 3902\n"
refusal_text refusal.NoRollback = codes "Msg 3903\n"
refusal_text (refusal.Conflict table xdes) = codes "Msg 3960 " ++ table ++ codes " by " ++ decimal xdes ++ codes "\n"
refusal_text refusal.Overflow = codes "Msg 8115\n"
refusal_text (refusal.TooLong column) = named (codes "Msg 8152 ") column
refusal_text (refusal.LogFull used needed) = codes "Msg 9002 used " ++ decimal used ++ codes " needed " ++ decimal needed ++ codes "\n"
refusal_text (refusal.NotTracked name) = named (codes "Refused NotTracked ") name
refusal_text (refusal.AlreadyTracked name) = named (codes "Refused AlreadyTracked ") name
refusal_text refusal.TrackingOff = codes "Refused TrackingOff\n"
refusal_text refusal.InTransaction = codes "Refused InTransaction\n"
refusal_text refusal.NoCheckpoint = codes "Refused NoCheckpoint\n"
refusal_text refusal.NoLook = codes "Refused NoLook\n"
refusal_text refusal.TypeClash = codes "Refused TypeClash\n"
refusal_text refusal.BadRetention = codes "Refused BadRetention\n"
refusal_text refusal.DiskFault = codes "Refused DiskFault\n"
refusal_text refusal.Memory = codes "Refused Memory\n"
refusal_text (refusal.TablesTracked count) = counted (codes "Refused TablesTracked ") count
refusal_text (refusal.CheckpointBusy owner) = counted (codes "Refused CheckpointBusy ") owner
refusal_text (refusal.BadTable rule) = counted (codes "Refused BadTable ") rule
refusal_text (refusal.Ambiguous name) = named (codes "Refused Ambiguous ") name
refusal_text (refusal.NoVariable name) = named (codes "Refused NoVariable ") name
refusal_text (refusal.VariableExists name) = named (codes "Refused VariableExists ") name
refusal_text (refusal.KeyUpdate name) = named (codes "Refused KeyUpdate ") name
refusal_text (refusal.CountClash wanted got) = codes "Refused CountClash " ++ decimal wanted ++ codes " " ++ decimal got ++ codes "\n"
refusal_text (refusal.TooMany limit) = counted (codes "Refused TooMany ") limit
refusal_text (refusal.Exhausted limit) = counted (codes "Refused Exhausted ") limit
refusal_text (refusal.Stopped event) = counted (codes "Refused Stopped at ") event
refusal_text refusal.NotBuilt = codes "Refused NotBuilt\n"

-- ---- replies

-- the letter of a net change and its key
abbrev pub touched_text : Touched → List ℕ
touched_text touched = op_name touched.op ++ codes " " ++ key_text touched.key ++ codes "\n"

-- the lines of a step of synchronisation: what it came to, and then each net change that it brought
unfoldable pub verdict_text : Verdict → List ℕ
verdict_text (Initialised version rows) = codes "Initialised version " ++ decimal version ++ codes " rows " ++ decimal rows ++ codes "\n"
verdict_text (Synced from to changes) =
    codes "Synced from " ++ decimal from ++ codes " to " ++ decimal to ++ codes " changes " ++ decimal (length changes) ++ codes "\n" ++ flat_map touched_text changes
verdict_text (Looked version min) = codes "Looked version " ++ decimal version ++ codes " minimum " ++ decimal min ++ codes "\n"
verdict_text (Reinitialise noted min) = codes "Reinitialise noted " ++ decimal noted ++ codes " minimum " ++ decimal min ++ codes "\n"
verdict_text NotTracked = codes "NotTracked\n"

-- the lines of a client's copy: its version and its rows
abbrev pub copy_text : Option CopyOut → List ℕ
copy_text None = codes "copy none\n"
copy_text (Some copied) = codes "copy version " ++ decimal copied.noted ++ codes " rows " ++ decimal (length copied.rows) ++ codes "\n" ++ flat_map row_text copied.rows

-- the lines of a SELECT's answer: the names, each row, and how many rows there are
abbrev pub grid_text : Grid → List ℕ
grid_text grid = joined (codes " | ") grid.names ++ codes "\n" ++ flat_map row_text grid.rows ++ codes "rows " ++ decimal (length grid.rows) ++ codes "\n"

-- the lines of a reply
unfoldable pub reply_text : Reply → List ℕ
reply_text reply.Done = codes "OK\n"
reply_text (reply.Count n) = counted (codes "rows ") n
reply_text (reply.Rows grid) = grid_text grid
reply_text (reply.Raised count) = counted (codes "raised ") count
reply_text (reply.Verdict verdict) = verdict_text verdict
reply_text (reply.Copied copied) = copy_text copied
reply_text (reply.Refused refused) = refusal_text refused

-- ---- journals

-- a block begins with its place in the journal, the session, and the statement's number there
unfoldable pub head_text : ℕ → ℕ → ℕ → List ℕ
head_text place session number = codes "[" ++ decimal place ++ codes "] " ++ decimal session ++ codes "." ++ decimal number ++ codes "\n"

-- the head of a block and the lines of its reply
abbrev pub block_text : ℕ → Journaled → List ℕ
block_text place one = head_text place one.session one.number ++ reply_text one.reply

-- the blocks of a journal whose first place is this
abbrev pub text_from : ℕ → List Journaled → List ℕ
text_from place [] = []
text_from place (one ∷ more) = block_text place one ++ text_from (place + 1) more

-- places count from 1
abbrev pub transcript : List Journaled → List ℕ
transcript journal = text_from 1 journal

-- ---- runs

-- the journals of phases that follow a phase, the first of which has this place next: a line stands before each
abbrev pub further_from : ℕ → List (List Journaled) → List ℕ
further_from place [] = []
further_from place (journal ∷ more) = codes "#phase\n" ++ text_from place journal ++ further_from (place + length journal) more

-- the transcript of a run, by the journals of its phases: places count on through the phases
abbrev pub run_text : List (List Journaled) → List ℕ
run_text [] = []
run_text (journal ∷ more) = text_from 1 journal ++ further_from (length journal + 1) more
