-- The laws of what a disk stands for.
use Rattle.std.specs.Prelude.{◌≡◌, ℕ, ◌+◌, ◌<◌, List, [], ◌∷◌, ◌++◌}
use Rattle.ct_types.specs.declared.piece.Piece.{Piece}
use Rattle.ct_types.specs.declared.entry.Entry.{Entry}
use Rattle.ct_faults.specs.Disk.{Image}
use Rattle.ct_model.specs.declared.db.Db.{Db}
use Rattle.ct_model.specs.Apply.{apply}
use Rattle.ct_log.specs.Log.{IsLog}
use Rattle.ct_pages.specs.declared.slot.Super.{Super}
use Rattle.ct_pages.specs.Slots.{Names, IsNamed}
use Rattle.ct_replay.specs.Replay.{Adds}
use Rattle.ct_found.specs.Pieces.{pieces_of}
use Rattle.ct_found.specs.Checkpoint.{IsCheckpoint}
use Rattle.ct_found.specs.Found.{last_of, Stands, StandsFor}
use Rattle.ct_found.specs.Foreign.{IsForeign}

-- a list of pieces begins with those of one database at most
abbrev pub OneDatabase : Type 0
OneDatabase = (a b : Db) (more : List Piece) → pieces_of a ≡ pieces_of b ++ more → a ≡ b

-- bytes are the checkpoint of one database at most
abbrev pub OneCheckpoint : Type 0
OneCheckpoint = (bytes : List ℕ) (size : ℕ) (a b : Db) → IsCheckpoint bytes size a → IsCheckpoint bytes size b → a ≡ b

-- a disk stands for one database at most
abbrev pub StandsOnce : Type 0
StandsOnce = (image : Image) (a b : Db) → StandsFor image a → StandsFor image b → a ≡ b

-- and its slot, the count of its records and the used bytes are determined
abbrev pub StandsSo : Type 0
StandsSo =
    (slot other : Super) (image : Image) (a b : Db) (records count used end : ℕ) → Stands slot image a records used → Stands other image b count end
    → (slot ≡ other) × (records ≡ count) × (used ≡ end)

-- one that stands for a database is not foreign
abbrev pub StandingIsNotForeign : Type 0
StandingIsNotForeign = (image : Image) (db : Db) (area offset : ℕ) → StandsFor image db → IsForeign image area offset → ⊥

-- and one that is foreign is so by one area and one offset
abbrev pub ForeignOnce : Type 0
ForeignOnce = (image : Image) (area other offset at : ℕ) → IsForeign image area offset → IsForeign image other at → (area ≡ other) × (offset ≡ at)

-- no area but this one is other than before
abbrev pub Elsewhere : ℕ → Image → Image → Type 0
Elsewhere area old new = (other : ℕ) → (other ≡ area → ⊥) → new other ≡ old other

-- with the record of one entry more in its last log, a disk stands for the database with the entry applied
abbrev pub OneMoreStands : Type 0
OneMoreStands =
    (slot : Super) (old new : Image) (db : Db) (records used end : ℕ) (entry : Entry) (payload : List ℕ) (payloads : List (List ℕ)) → Stands slot old db records used → Adds db payload entry
    → Elsewhere (last_of slot) old new → IsLog payloads used (old (last_of slot)) → IsLog (payloads ++ payload ∷ []) end (new (last_of slot))
    → Stands slot new (apply db entry) (records + 1) end

-- with the same records there, whatever stands behind them, it stands for what it stood for
abbrev pub SameRecordsStand : Type 0
SameRecordsStand =
    (slot : Super) (old new : Image) (db : Db) (records used : ℕ) (payloads : List (List ℕ)) → Stands slot old db records used → Elsewhere (last_of slot) old new
    → IsLog payloads used (old (last_of slot)) → IsLog payloads used (new (last_of slot)) → Stands slot new db records used

-- areas that the current slot does not name play no part
abbrev pub OnlyNamed : Type 0
OnlyNamed =
    (slot : Super) (old new : Image) (db : Db) (records used : ℕ) → Stands slot old db records used → ((area : ℕ) → IsNamed slot area → new area ≡ old area)
    → Stands slot new db records used

-- a slot that names the same checkpoint and first log, and an empty second log, changes nothing of the database
abbrev pub BegunStands : Type 0
BegunStands =
    (slot next : Super) (old new : Image) (db : Db) (records used : ℕ) → Stands slot old db records used → slot.second ≡ 0 → Names (new 0) next
    → next.checkpoint ≡ slot.checkpoint → next.length ≡ slot.length → next.first ≡ slot.first → 0 < next.second
    → ((area : ℕ) → IsNamed slot area → (area ≡ 0 → ⊥) → new area ≡ old area) → IsLog [] 1 (new next.second) → Stands next new db records 1

-- nor does one that names a checkpoint of the database and an empty log
abbrev pub WrittenStands : Type 0
WrittenStands =
    (next : Super) (new : Image) (db : Db) → Names (new 0) next → 0 < next.checkpoint → next.second ≡ 0 → IsCheckpoint (new next.checkpoint) next.length db
    → IsLog [] 1 (new next.first) → Stands next new db 0 1
