-- What the records of a log make of a database. This project's own.
--
-- The payload of a record spells an entry. The entries of a log apply to a database in turn, each to what those before it
-- made. The reading of a log goes record by record, and stops at the first closed gate; where neither a closed gate stands
-- nor a record whose entry applies, it breaks off.
use Rattle.std.specs.Prelude.{◌≡◌, ◌⊎◌, ℕ, ◌<◌, List, [], ◌∷◌, ◌++◌, length, Some}
use Rattle.std.specs.List.{AllByRecursion}
use Rattle.ct_types.specs.declared.entry.Entry.{Entry}
use Rattle.ct_model.specs.declared.db.Db.{Db}
use Rattle.ct_model.specs.Applies.{Applies}
use Rattle.ct_model.specs.Apply.{apply}
use Rattle.ct_codec.specs.EntryReaders.{entry_of}
use Rattle.ct_codec.specs.Spellings.{bare}
use Rattle.ct_log.specs.Log.{records_of, HasRecord, IsLog, BeginsWith, IsClosed}

-- a payload adds an entry to a database: it spells the entry, without the keys that its rows have, and the entry applies
pub record Adds (db : Db) (payload : List ℕ) (entry : Entry) : Type 0 where
  pub spells : entry_of payload ≡ Some (bare entry)
  pub applies : Applies db entry

-- payloads add entries in turn to the first database, and make the second of it
abbrev pub Plays : Db → List (List ℕ) → Db → Type 0
Plays before [] after = after ≡ before
Plays before (payload ∷ payloads) after = (entry : Entry) × Adds before payload entry × Plays (apply before entry) payloads after

-- the bytes are a log, whose so many records make the second database of the first
pub record Replays (before : Db) (bytes : List ℕ) (after : Db) (records used : ℕ) : Type 0 where
  pub payloads : List (List ℕ)
  pub log : IsLog payloads used bytes
  pub plays : Plays before payloads after
  pub records_is : records ≡ length payloads

-- nothing goes on here: no closed gate stands first, nor a whole record with a gate behind it whose entry applies
pub record IsStuck (db : Db) (bytes : List ℕ) : Type 0 where
  pub not_closed : IsClosed bytes → ⊥
  pub no_entry : (payload : List ℕ) (entry : Entry) → BeginsWith payload bytes → Adds db payload entry → ⊥

-- the replay breaks off: behind records that add entries in turn, at this offset, nothing goes on. An area without a gate
-- is an empty one, since behind each record there is a gate
pub record BreaksOff (before : Db) (bytes : List ℕ) (offset : ℕ) : Type 0 where
  pub payloads : List (List ℕ)
  pub rest : List ℕ
  pub split : bytes ≡ records_of payloads ++ rest
  pub gate : (payloads ≡ []) ⊎ (0 < length rest)
  pub fit : AllByRecursion HasRecord payloads
  pub between : Db
  pub plays : Plays before payloads between
  pub stuck : IsStuck between rest
  pub offset_is : offset ≡ length (records_of payloads)
