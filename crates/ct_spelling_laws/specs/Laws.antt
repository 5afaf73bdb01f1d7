-- The laws that what is written of a valid database can be spelled. This project's own.
use Rattle.std.specs.Prelude.{◌↔◌, ◌+◌, ◌*◌, ◌^◌, ◌<◌, ◌≤◌, List, length}
use Rattle.std.specs.List.{AllByRecursion}
use Rattle.ct_types.specs.declared.entry.Entry.{Entry}
use Rattle.ct_model.specs.declared.db.Db.{Db}
use Rattle.ct_model.specs.Applies.{Applies, ApplyInTurn}
use Rattle.ct_model.specs.Apply.{apply, replay}
use Rattle.ct_model.specs.Valid.{IsValid}
use Rattle.ct_codec.specs.Spellings.{spell_entry, EntryFits, bare, PieceFits}
use Rattle.ct_faults.specs.Disk.{Image}
use Rattle.ct_found.specs.Pieces.{pieces_of}
use Rattle.ct_found.specs.Found.{StandsFor}
use Rattle.ct_spelling_laws.specs.Sizes.{count_of_writes, IsShortEntry, HasShortCommits}

-- ---- entries

-- an entry that applies to a valid database can be spelled, where its writes can be counted in four bytes
abbrev pub EntriesFit : Type 0
EntriesFit = (db : Db) (entry : Entry) → IsValid db → Applies db entry → count_of_writes entry.act < 2 ^ 32 → EntryFits (bare entry)

-- one that has a record, whose length fits four bytes, can be spelled with no premise on its writes
abbrev pub ShortEntriesFit : Type 0
ShortEntriesFit = (db : Db) (entry : Entry) → IsValid db → Applies db entry → IsShortEntry entry → EntryFits (bare entry)

-- its spelling has at most 2^20 bytes for each write, and 2^14 beside
abbrev pub EntriesAreShort : Type 0
EntriesAreShort =
    (db : Db) (entry : Entry) → IsValid db → Applies db entry → length (spell_entry (bare entry)) ≤ 2 ^ 20 * count_of_writes entry.act + 2 ^ 14

-- so with the five bytes of its frame it has fewer than 2^64
abbrev pub FramesAreShort : Type 0
FramesAreShort =
    (db : Db) (entry : Entry) → IsValid db → Applies db entry → count_of_writes entry.act < 2 ^ 32 → length (spell_entry (bare entry)) + 5 < 2 ^ 64

-- ---- the pieces of a checkpoint

-- the pieces of a valid database can be spelled exactly where its kept commits are short
abbrev pub PiecesFit : Type 0
PiecesFit = (db : Db) → IsValid db → AllByRecursion PieceFits (pieces_of db) ↔ HasShortCommits db

-- a short entry leaves kept commits short
abbrev pub CommitsStayShort : Type 0
CommitsStayShort =
    (db : Db) (entry : Entry) → IsValid db → Applies db entry → IsShortEntry entry → HasShortCommits db → HasShortCommits (apply db entry)

-- so do short entries that apply in turn
abbrev pub ReplaysStayShort : Type 0
ReplaysStayShort =
    (db : Db) (entries : List Entry) → IsValid db → ApplyInTurn db entries → AllByRecursion IsShortEntry entries → HasShortCommits db
    → HasShortCommits (replay db entries)

-- kept commits of a valid database are short where each has fewer than 2^18 changes
abbrev pub FewChangesAreShort : Type 0
FewChangesAreShort = (db : Db) → IsValid db → AllByRecursion (λ kept. length kept.changes < 2 ^ 18) db.kept → HasShortCommits db

-- the pieces of a database for which a disk stands can be spelled
abbrev pub StandingPiecesFit : Type 0
StandingPiecesFit = (image : Image) (db : Db) → StandsFor image db → AllByRecursion PieceFits (pieces_of db)
