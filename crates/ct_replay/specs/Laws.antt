-- The laws of replays: bytes make one database of another, or break off at one place.
use Rattle.std.specs.Prelude.{◌≡◌, ◌+◌, ℕ, List, [], ◌∷◌, ◌++◌, length}
use Rattle.ct_types.specs.declared.entry.Entry.{Entry}
use Rattle.ct_model.specs.declared.db.Db.{Db}
use Rattle.ct_model.specs.Applies.{ApplyInTurn}
use Rattle.ct_model.specs.Apply.{apply, replay}
use Rattle.ct_log.specs.Log.{IsLog}
use Rattle.ct_replay.specs.Replay.{Adds, Replays, BreaksOff}

-- a payload adds one entry at most to a database
abbrev pub OneEntry : Type 0
OneEntry = (db : Db) (payload : List ℕ) (entry other : Entry) → Adds db payload entry → Adds db payload other → entry ≡ other

-- a log makes one database of another
pub record OneReplay : Type 0 where
  pub database : (before after other : Db) (bytes : List ℕ) (records count used end : ℕ) → Replays before bytes after records used → Replays before bytes other count end → after ≡ other
  pub records : (before after other : Db) (bytes : List ℕ) (records count used end : ℕ) → Replays before bytes after records used → Replays before bytes other count end → records ≡ count
  pub used : (before after other : Db) (bytes : List ℕ) (records count used end : ℕ) → Replays before bytes after records used → Replays before bytes other count end → used ≡ end

-- a replay breaks off at one place at most
abbrev pub OneBreak : Type 0
OneBreak = (before : Db) (bytes : List ℕ) (offset other : ℕ) → BreaksOff before bytes offset → BreaksOff before bytes other → offset ≡ other

-- and nowhere in a log whose entries apply in turn
abbrev pub ReplaysDoNotBreak : Type 0
ReplaysDoNotBreak = (before after : Db) (bytes : List ℕ) (records used offset : ℕ) → Replays before bytes after records used → BreaksOff before bytes offset → ⊥

-- with one record more, a log makes the database with its entry applied
abbrev pub OneMore : Type 0
OneMore =
    (before after : Db) (old new payload : List ℕ) (payloads : List (List ℕ)) (records used end : ℕ) (entry : Entry) → Replays before old after records used → IsLog payloads used old
    → IsLog (payloads ++ payload ∷ []) end new → Adds after payload entry → Replays before new (apply after entry) (records + 1) end

-- with the same records it makes the same
abbrev pub SameRecords : Type 0
SameRecords =
    (before after : Db) (old new : List ℕ) (payloads : List (List ℕ)) (records used : ℕ) → Replays before old after records used → IsLog payloads used old
    → IsLog payloads used new → Replays before new after records used

-- what is made of a database is made by entries that apply in turn, as many as there are records
abbrev pub IsReplay : Type 0
IsReplay =
    (before after : Db) (bytes : List ℕ) (records used : ℕ) → Replays before bytes after records used
    → (entries : List Entry) × ApplyInTurn before entries × (after ≡ replay before entries) × (records ≡ length entries)
