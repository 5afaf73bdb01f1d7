-- The pieces of a database for which a disk stands can be spelled.
use Rattle.std.proofs.Common.{◌≡◌, ⊎_elim, ℕ, zero, suc, ◌^◌, ◌<◌, List, [], ◌∷◌, length, sym, subst}
use Rattle.std.specs.List.{AllByRecursion}
use Rattle.ct_types.specs.declared.entry.Entry.{Entry}
use Rattle.ct_faults.specs.Disk.{Image}
use Rattle.ct_model.specs.declared.db.Db.{Db}
use Rattle.ct_model.specs.Apply.{apply, no_db}
use Rattle.ct_model.specs.Valid.{IsValid}
use Rattle.ct_model_laws.proofs.InTurn.{no_db_valid}
use Rattle.ct_model_laws.proofs.Validity.{stays_valid}
use Rattle.ct_codec.specs.Spellings.{bare}
use Rattle.ct_codec.proofs.Combined.{whole_is}
use Rattle.ct_codec.proofs.EntryLaws.{law_entry}
use Rattle.ct_log.specs.Log.{HasRecord}
use Rattle.ct_pages.specs.declared.slot.Super.{Super}
use Rattle.ct_replay.specs.Replay.{Adds, Plays, Replays}
use Rattle.ct_found.specs.Found.{BeginsIn, EarlierBy, Makes}
use Rattle.ct_spelling_laws.specs.Sizes.{IsShortEntry, HasShortCommits}
use Rattle.ct_spelling_laws.specs.Laws.{StandingPiecesFit}
use Rattle.ct_spelling_laws.proofs.Commits.{commits_stay_short}
use Rattle.ct_spelling_laws.proofs.Pieces.{pieces_fit}

-- a valid database with short commits
abbrev IsSpellable : Db → Type 0
IsSpellable db = IsValid db × HasShortCommits db

empty_is : (db : Db) → db ≡ no_db → IsSpellable db
empty_is db is = subst IsSpellable (sym is) (no_db_valid, tt)

-- ---- logs

-- an entry is short that a record adds
added_is_short : (db : Db) (payload : List ℕ) (entry : Entry) → HasRecord payload → Adds db payload entry → IsShortEntry entry
added_is_short db payload entry fits adds = subst (λ bytes. length bytes < 2 ^ 32) (whole_is law_entry payload (bare entry) adds.spells).0 fits

played : (before : Db) (payloads : List (List ℕ)) (after : Db) → AllByRecursion HasRecord payloads → Plays before payloads after → IsSpellable before → IsSpellable after
played before [] after fit plays is = subst IsSpellable (sym plays) is
played before (payload ∷ payloads) after fit plays is =
    let entry = plays.0 in
    let short : IsShortEntry entry = added_is_short before payload entry fit.0 plays.1 in
    played (apply before entry) payloads after fit.1 plays.2 (stays_valid before entry is.0 plays.1.applies, commits_stay_short before entry is.0 plays.1.applies short is.1)

replayed : (before after : Db) (bytes : List ℕ) (records used : ℕ) → IsSpellable before → Replays before bytes after records used → IsSpellable after
replayed before after bytes records used is replays = played before replays.payloads after replays.log.fit replays.plays is

-- ---- disks

begun : (area size : ℕ) (image : Image) (db : Db) → BeginsIn area size image db → IsSpellable db
begun zero size image db is = empty_is db is
begun (suc area) size image db is = (is.valid, (pieces_fit db is.valid).0 is.fit)

earlier_is : (second : ℕ) (bytes : List ℕ) (start before : Db) (records : ℕ) → IsSpellable start → EarlierBy second bytes start before records → IsSpellable before
earlier_is zero bytes start before records is earlier = subst IsSpellable (sym earlier.0) is
earlier_is (suc second) bytes start before records is earlier = replayed start before bytes records earlier.0 is earlier.1

made : (slot : Super) (image : Image) (db : Db) (records used : ℕ) → Makes slot image db records used → IsSpellable db
made slot image db records used makes =
    replayed makes.before db _ makes.last_records used
    (earlier_is slot.second (image slot.first) makes.start makes.before makes.earlier_records (begun slot.checkpoint slot.length image makes.start makes.begins) makes.earlier) makes.last

pub standing_pieces_fit : StandingPiecesFit
standing_pieces_fit image db stands =
    let is : IsSpellable db = ⊎_elim (λ fresh. empty_is db fresh.db_is) (λ one. made one.0 image db one.1 one.2 one.3.makes) stands in
    (pieces_fit db is.0).1 is.1
