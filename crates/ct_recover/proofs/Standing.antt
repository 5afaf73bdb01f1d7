-- What a disk stands for is a valid database.
use Rattle.std.proofs.Common.{◌≡◌, ⊎_elim, ℕ, zero, suc, List, sym, subst}
use Rattle.ct_faults.specs.Disk.{Image}
use Rattle.ct_model.specs.declared.db.Db.{Db}
use Rattle.ct_model.specs.Apply.{no_db}
use Rattle.ct_model.specs.Valid.{IsValid}
use Rattle.ct_model_laws.proofs.InTurn.{no_db_valid, replay-valid}
use Rattle.ct_pages.specs.declared.slot.Super.{Super}
use Rattle.ct_replay.specs.Replay.{Replays}
use Rattle.ct_replay.proofs.Once.{is_replay}
use Rattle.ct_found.specs.Found.{BeginsIn, EarlierBy, Makes}
use Rattle.ct_recover.specs.Laws.{StandsIsValid}

empty_is_valid : (db : Db) → db ≡ no_db → IsValid db
empty_is_valid db is = subst IsValid (sym is) no_db_valid

begins_valid : (area size : ℕ) (image : Image) (db : Db) → BeginsIn area size image db → IsValid db
begins_valid zero size image db is = empty_is_valid db is
begins_valid (suc area) size image db is = is.valid

replays_valid : (before after : Db) (bytes : List ℕ) (records used : ℕ) → IsValid before → Replays before bytes after records used → IsValid after
replays_valid before after bytes records used valid replays =
    let made = is_replay before after bytes records used replays in
    subst IsValid (sym made.2) (replay-valid before made.0 valid made.1)

earlier_valid : (second : ℕ) (bytes : List ℕ) (start before : Db) (records : ℕ) → IsValid start → EarlierBy second bytes start before records → IsValid before
earlier_valid zero bytes start before records valid earlier = subst IsValid (sym earlier.0) valid
earlier_valid (suc second) bytes start before records valid earlier = replays_valid start before bytes records earlier.0 valid earlier.1

pub makes_valid : (slot : Super) (image : Image) (db : Db) (records used : ℕ) → Makes slot image db records used → IsValid db
makes_valid slot image db records used makes =
    replays_valid makes.before db _ makes.last_records used
    (earlier_valid slot.second (image slot.first) makes.start makes.before makes.earlier_records (begins_valid slot.checkpoint slot.length image makes.start makes.begins) makes.earlier) makes.last

pub stands_is_valid : StandsIsValid
stands_is_valid image db stands = ⊎_elim (λ fresh. empty_is_valid db fresh.db_is) (λ one. makes_valid one.0 image db one.1 one.2 one.3.makes) stands
