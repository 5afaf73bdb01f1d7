-- What the logs that a slot names make, and where they fail.
use Rattle.std.proofs.Common.{◌≡◌, ◌≢◌, inl, inr, ℕ, zero, suc, ◌+◌, ◌<◌, List, Err, refl, sym, subst, arith}
use Rattle.ct_faults.specs.Disk.{Image}
use Rattle.ct_model.specs.declared.db.Db.{Db}
use Rattle.ct_log.specs.Reading.{IsNoForeign}
use Rattle.ct_log.specs.declared.fault.OpenFault.{OpenFault}
use Rattle.ct_log.specs.declared.fault.OpenFault.TheVariants.{Foreign, DiskFault, Memory}
use Rattle.ct_pages.specs.declared.slot.Super.{Super}
use Rattle.ct_pages.specs.Slots.{IsCanonical}
use Rattle.ct_replay.specs.Replay.{Replays}
use Rattle.ct_found.specs.Found.{Begins, EarlierBy, Makes}
use Rattle.ct_found.proofs.Apart.{last_one, last_two}
use Rattle.ct_recover.specs.Reading.{ReplaysArea, ReadsNamed}

-- what is not told of bytes
pub area_failed : (area : ℕ) (start : Db) (bytes : List ℕ) (e : OpenFault) → IsNoForeign e → ReplaysArea area start bytes (Err e)
area_failed area start bytes (Foreign at offset) told = absurd told
area_failed area start bytes DiskFault told = tt
area_failed area start bytes Memory told = tt

-- one log
pub one_log_makes : (slot : Super) (image : Image) (start db : Db) (records used : ℕ) → Begins slot image start → slot.second ≡ 0 → Replays start (image slot.first) db records used → Makes slot image db records used
one_log_makes slot image start db records used begins none replays = record {
  start = start;
  begins = begins;
  before = start;
  earlier_records = 0;
  earlier = subst (λ second. EarlierBy second (image slot.first) start start 0) (sym none) (refl, refl);
  last_records = records;
  last = subst (λ area. Replays start (image area) db records used) (sym (last_one slot none)) replays;
  records_is = omega arith;
}

-- two logs
pub two_logs_make : (slot : Super) (image : Image) (start before db : Db) (records count used end : ℕ) → Begins slot image start → slot.second ≢ 0 → Replays start (image slot.first) before records used
    → Replays before (image slot.second) db count end → Makes slot image db (records + count) end
two_logs_make slot image start before db records count used end begins some first second = record {
  start = start;
  begins = begins;
  before = before;
  earlier_records = records;
  earlier = by slot.second some;
  last_records = count;
  last = subst (λ area. Replays before (image area) db count end) (sym (last_two slot (omega (arith, some)))) second;
  records_is = refl;
}
  where
    by : (n : ℕ) → n ≢ 0 → EarlierBy n (image slot.first) start before records
    by zero some = absurd (some refl)
    by (suc n) some = (used, first)

-- a fault in the first log, and in the second
pub first_failed : (slot : Super) (image : Image) (start : Db) (e : OpenFault) → Begins slot image start → ReplaysArea slot.first start (image slot.first) (Err e) → ReadsNamed slot image (Err e)
first_failed slot image start (Foreign area offset) begins fails = inr (inl (record { start = start; begins = begins; area_is = fails.0; fault = fails.1 }))
first_failed slot image start DiskFault begins fails = tt
first_failed slot image start Memory begins fails = tt

pub second_failed : (slot : Super) (image : Image) (start before : Db) (records used : ℕ) (e : OpenFault) → Begins slot image start → slot.second ≢ 0 → Replays start (image slot.first) before records used
    → ReplaysArea slot.second before (image slot.second) (Err e) → ReadsNamed slot image (Err e)
second_failed slot image start before records used (Foreign area offset) begins some first fails =
    inr (inr (record { start = start; begins = begins; some = some; before = before; records = records; used = used; first = first; area_is = fails.0; fault = fails.1 }))
second_failed slot image start before records used DiskFault begins some first fails = tt
second_failed slot image start before records used Memory begins some first fails = tt

-- the areas of a slot that may stand are areas of the disk
pub first_within : (slot : Super) → IsCanonical slot → slot.first < 6
first_within slot canonical = omega (arith, canonical.first.1)
