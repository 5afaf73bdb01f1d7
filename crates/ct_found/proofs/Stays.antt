-- What a change of the last log, or of an area that is not named, leaves of what a disk stands for.
use Rattle.std.proofs.Common.{◌≡◌, inl, inr, ℕ, zero, suc, ◌+◌, ◌<◌, List, [], refl, sym, subst, arith}
use Rattle.ct_faults.specs.Disk.{Image}
use Rattle.ct_model.specs.declared.db.Db.{Db}
use Rattle.ct_model.specs.Apply.{apply}
use Rattle.ct_log.specs.Log.{IsLog}
use Rattle.ct_pages.specs.declared.slot.Super.{Super}
use Rattle.ct_pages.specs.Slots.{IsCanonical, Names, IsNamed}
use Rattle.ct_pages.proofs.Decoding.{named_is_canonical}
use Rattle.ct_replay.specs.Replay.{Replays}
use Rattle.ct_replay.proofs.Once.{one_more, same_records}
use Rattle.ct_found.specs.Checkpoint.{IsCheckpoint}
use Rattle.ct_found.specs.Found.{last_of, BeginsIn, EarlierBy, Makes, Stands}
use Rattle.ct_found.specs.Laws.{Elsewhere, OneMoreStands, SameRecordsStand, OnlyNamed, BegunStands, WrittenStands}
use Rattle.ct_found.proofs.Apart.{canonical_apart, named_apart, last_named, last_one, last_two}

begins_stays : (area size : ℕ) (old new : Image) (db : Db) → (0 < area → new area ≡ old area) → BeginsIn area size old db → BeginsIn area size new db
begins_stays zero size old new db e begins = begins
begins_stays (suc area) size old new db e begins = subst (λ bytes. IsCheckpoint bytes size db) (sym (e (omega arith))) begins

earlier_stays : (second : ℕ) (old new : List ℕ) (start before : Db) (records : ℕ) → (0 < second → new ≡ old) → EarlierBy second old start before records → EarlierBy second new start before records
earlier_stays zero old new start before records e earlier = earlier
earlier_stays (suc second) old new start before records e earlier = (earlier.0, subst (λ bytes. Replays start bytes before records earlier.0) (sym (e (omega arith))) earlier.1)

-- with another last log, which makes another database
with_last : (slot : Super) (old new : Image) (db to : Db) (records used last end : ℕ) (stands : Stands slot old db records used) → Elsewhere (last_of slot) old new
    → Replays stands.makes.before (new (last_of slot)) to last end → Stands slot new to (stands.makes.earlier_records + last) end
with_last slot old new db to records used last end stands elsewhere replays =
    let apart = named_apart (old 0) slot stands.names in
    let makes = stands.makes in
    record {
      names = subst (λ bytes. Names bytes slot) (sym (elsewhere 0 (λ e. omega (arith, apart.back, e)))) stands.names;
      makes = record {
        start = makes.start;
        begins = begins_stays slot.checkpoint slot.length old new makes.start (λ some. elsewhere slot.checkpoint (λ e. omega (arith, apart.front, e))) makes.begins;
        before = makes.before;
        earlier_records = makes.earlier_records;
        earlier = earlier_stays slot.second (old slot.first) (new slot.first) makes.start makes.before makes.earlier_records (λ some. elsewhere slot.first (apart.first some)) makes.earlier;
        last_records = last;
        last = replays;
        records_is = refl;
      };
    }

pub one_more_stands : OneMoreStands
one_more_stands slot old new db records used end entry payload payloads stands adds elsewhere was is =
    let makes = stands.makes in
    let last = makes.last_records in
    let more = one_more makes.before db (old (last_of slot)) (new (last_of slot)) payload payloads last used end entry makes.last was is adds in
    subst (λ n. Stands slot new (apply db entry) n end) (omega (arith, makes.records_is)) (with_last slot old new db (apply db entry) records used (last + 1) end stands elsewhere more)

pub same_records_stand : SameRecordsStand
same_records_stand slot old new db records used payloads stands elsewhere was is =
    let makes = stands.makes in
    let last = makes.last_records in
    let same = same_records makes.before db (old (last_of slot)) (new (last_of slot)) payloads last used makes.last was is in
    subst (λ n. Stands slot new db n used) (sym makes.records_is) (with_last slot old new db db records used last used stands elsewhere same)

-- ---- areas that play no part

pub makes_stays : (slot : Super) (old new : Image) (db : Db) (records used : ℕ) → IsCanonical slot → ((area : ℕ) → IsNamed slot area → (area ≡ 0 → ⊥) → new area ≡ old area) → Makes slot old db records used
    → Makes slot new db records used
makes_stays slot old new db records used canonical same makes = record {
  start = makes.start;
  begins = begins_stays slot.checkpoint slot.length old new makes.start (λ some. same slot.checkpoint (inr (inl refl)) (λ e. omega (arith, some, e))) makes.begins;
  before = makes.before;
  earlier_records = makes.earlier_records;
  earlier = earlier_stays slot.second (old slot.first) (new slot.first) makes.start makes.before makes.earlier_records (λ some. same slot.first (inr (inr (inl refl))) (λ e. omega (arith, canonical.first.0, e))) makes.earlier;
  last_records = makes.last_records;
  last = subst (λ bytes. Replays makes.before bytes db makes.last_records used) (sym (same (last_of slot) (last_named slot) (λ e. omega (arith, (canonical_apart slot canonical).back, e)))) makes.last;
  records_is = makes.records_is;
}

pub only_named : OnlyNamed
only_named slot old new db records used stands same = record {
  names = subst (λ bytes. Names bytes slot) (sym (same 0 (inl refl))) stands.names;
  makes = makes_stays slot old new db records used (named_is_canonical (old 0) slot stands.names) (λ area named other. same area named) stands.makes;
}

-- ---- other slots

-- an empty log makes nothing
empty : (db : Db) (bytes : List ℕ) → IsLog [] 1 bytes → Replays db bytes db 0 1
empty db bytes log = record { payloads = []; log = log; plays = refl; records_is = refl }

pub written_stands : WrittenStands
written_stands next new db names some none checkpoint log = record {
  names = names;
  makes = record {
    start = db;
    begins = begins_in next.checkpoint some checkpoint;
    before = db;
    earlier_records = 0;
    earlier = subst (λ second. EarlierBy second (new next.first) db db 0) (sym none) (refl, refl);
    last_records = 0;
    last = subst (λ area. Replays db (new area) db 0 1) (sym (last_one next none)) (empty db (new next.first) log);
    records_is = refl;
  };
}
  where
    begins_in : (area : ℕ) → 0 < area → IsCheckpoint (new area) next.length db → BeginsIn area next.length new db
    begins_in zero some checkpoint = absurd (omega arith)
    begins_in (suc area) some checkpoint = checkpoint

pub begun_stands : BegunStands
begun_stands slot next old new db records used stands none names checkpoint size first some same log =
    let makes = stands.makes in
    let last : Replays makes.before (old slot.first) db makes.last_records used = subst (λ area. Replays makes.before (old area) db makes.last_records used) (last_one slot none) makes.last in
    let start : (makes.before ≡ makes.start) × (makes.earlier_records ≡ 0) = subst (λ second. EarlierBy second (old slot.first) makes.start makes.before makes.earlier_records) none makes.earlier in
    let apart = named_apart (old 0) slot stands.names in
    let first_is : new slot.first ≡ old slot.first = same slot.first (inr (inr (inl refl))) (λ e. omega (arith, apart.back, last_one slot none, e)) in
    let replayed : Replays makes.start (new slot.first) db makes.last_records used =
    subst (λ bytes. Replays makes.start bytes db makes.last_records used) (sym first_is) (subst (λ d. Replays d (old slot.first) db makes.last_records used) start.0 last) in
    record {
      names = names;
      makes = record {
        start = makes.start;
        begins = subst (λ area. BeginsIn area next.length new makes.start) (sym checkpoint)
            (subst (λ n. BeginsIn slot.checkpoint n new makes.start) (sym size)
            (begins_stays slot.checkpoint slot.length old new makes.start (λ is. same slot.checkpoint (inr (inl refl)) (λ e. omega (arith, is, e))) makes.begins));
        before = db;
        earlier_records = makes.last_records;
        earlier = earlier_by next.second some (used, subst (λ area. Replays makes.start (new area) db makes.last_records used) (sym first) replayed);
        last_records = 0;
        last = subst (λ area. Replays db (new area) db 0 1) (sym (last_two next some)) (empty db (new next.second) log);
        records_is = omega (arith, makes.records_is, start.1);
      };
    }
  where
    earlier_by : (second : ℕ) → 0 < second → ((end : ℕ) × Replays stands.makes.start (new next.first) db stands.makes.last_records end)
        → EarlierBy second (new next.first) stands.makes.start db stands.makes.last_records
    earlier_by zero some replays = absurd (omega arith)
    earlier_by (suc second) some replays = replays
