-- What an append to the last log makes of what a disk stands for.
use Rattle.std.proofs.Common.{◌≡◌, inl, inr, ⊎_elim, ℕ, ◌+◌, List, length, Result, Ok, Err, OnOk, refl, sym, ap, subst}
use Rattle.ct_types.specs.declared.entry.Entry.{Entry}
use Rattle.ct_faults.specs.Disk.{Image, Changes, Same, Runs, LeavesOnly}
use Rattle.ct_faults.proofs.Moments.{Runs-wider}
use Rattle.ct_model.specs.declared.db.Db.{Db}
use Rattle.ct_model.specs.Applies.{Applies}
use Rattle.ct_model.specs.Apply.{apply}
use Rattle.ct_log.specs.Log.{IsLog}
use Rattle.ct_log.specs.Append.{payload_in, AllAreLogs, AllAreOneLog, IsAppended, MayAppend}
use Rattle.ct_pages.specs.declared.slot.Super.{Super}
use Rattle.ct_pages.proofs.Moves.{leaves_now, Runs-after}
use Rattle.ct_replay.specs.Replay.{Adds}
use Rattle.ct_found.specs.Found.{last_of, Stands, StandsFor}
use Rattle.ct_found.specs.Laws.{Elsewhere}
use Rattle.ct_found.proofs.Apart.{last_named}
use Rattle.ct_found.proofs.Stays.{one_more_stands, same_records_stand, only_named}
use Rattle.ct_recover.specs.declared.fault.VolumeError.{VolumeError}
use Rattle.ct_recover.specs.Volume.{IsSteady, MayTake, MayAppendTo, IsFrameOf}

-- after calls that change nothing, a log in all images is one in all of them
pub logs_stay : (before now area used : ℕ) (payloads : List (List ℕ)) (past images : ℕ → Image → Type 0) → Runs before now past images Same → AllAreLogs area payloads used (past before) → AllAreLogs area payloads used (images now)
logs_stay before now area used payloads past images run all = record {
  log = λ image is. ⊎_elim
      (λ was. all.log image was)
      (λ from. subst (λ (i : Image). IsLog payloads used (i area)) (sym from.2) (all.log from.0 from.1))
      (leaves_now before now past images Same image run is);
}

pub one_log_stays : (before now area used : ℕ) (past images : ℕ → Image → Type 0) → Runs before now past images Same → AllAreOneLog area used (past before) → AllAreOneLog area used (images now)
one_log_stays before now area used past images run all = record { payloads = all.payloads; all = logs_stay before now area used all.payloads past images run all.all }

-- calls that change nothing, and then an append
pub append_after : (before mid now area used : ℕ) (payloads : List (List ℕ)) (body : List ℕ) (past between images : ℕ → Image → Type 0) → Runs before mid past between Same → AllAreLogs area payloads used (past before)
    → (AllAreLogs area payloads used (between mid) → Runs mid now between images (Changes area (MayAppend payloads used body))) → Runs before now past images (Changes area (MayAppend payloads used body))
append_after before mid now area used payloads body past between images run all goes =
    Runs-after before mid now past between images (Changes area (MayAppend payloads used body))
    (λ image was. record { here = inl (all.log image was); elsewhere = λ other ne. refl }) run (goes (logs_stay before mid area used payloads past between run all))

-- ---- a steady disk

pub payloads_of : (slot : Super) (used : ℕ) (content : Image) (images : Image → Type 0) (db : Db) → IsSteady slot used content images db → List (List ℕ)
payloads_of slot used content images db steady = steady.stands.makes.last.payloads

-- its last log is one log in all images
pub all_are_logs : (slot : Super) (used : ℕ) (content : Image) (images : Image → Type 0) (db : Db) (steady : IsSteady slot used content images db)
    → AllAreLogs (last_of slot) steady.stands.makes.last.payloads used images
all_are_logs slot used content images db steady = record {
  log = λ image is. subst (λ bytes. IsLog steady.stands.makes.last.payloads used bytes) (sym (steady.same image is (last_of slot) (last_named slot))) steady.stands.makes.last.log;
}

pub takes_one_log : (slot : Super) (used area : ℕ) (content : Image) (images : Image → Type 0) (entry : Entry) → area ≡ last_of slot → MayTake slot used content images entry → AllAreOneLog area used images
takes_one_log slot used area content images entry is takes = subst (λ (n : ℕ). AllAreOneLog n used images) (sym is) (record {
  payloads = takes.steady.stands.makes.last.payloads;
  all = all_are_logs slot used content images takes.db takes.steady;
})

-- each image stands for the database
pub steady_stands : (slot : Super) (used : ℕ) (content : Image) (images : Image → Type 0) (db : Db) (steady : IsSteady slot used content images db) (image : Image) → images image → Stands slot image db steady.records used
steady_stands slot used content images db steady image is = only_named slot content image db steady.records used steady.stands (λ area named. steady.same image is area named)

stands_for : (slot : Super) (image : Image) (db : Db) (records used : ℕ) → Stands slot image db records used → StandsFor image db
stands_for slot image db records used stands = inr (slot, records, used, stands)

-- ---- an append

-- an image after an append stands for the one or for the other
may_append : (slot : Super) (used : ℕ) (content : Image) (images : Image → Type 0) (db : Db) (entry : Entry) (body : List ℕ) (steady : IsSteady slot used content images db) → Adds db (payload_in body) entry
    → (old new : Image) → images old → Changes (last_of slot) (MayAppend steady.stands.makes.last.payloads used body) old new → MayAppendTo db entry old new
may_append slot used content images db entry body steady adds old new is changes =
    let stands = steady_stands slot used content images db steady old is in
    let payloads = steady.stands.makes.last.payloads in
    let log = (all_are_logs slot used content images db steady).log old is in
    ⊎_elim
    (λ same. inl (stands_for slot new db steady.records used (same_records_stand slot old new db steady.records used payloads stands changes.elsewhere log same)))
    (λ more. inr (stands_for slot new (apply db entry) (steady.records + 1) (used + length body)
    (one_more_stands slot old new db steady.records used (used + length body) entry (payload_in body) payloads stands adds changes.elsewhere log more)))
    changes.here

pub append_images : (slot : Super) (used area before now size : ℕ) (content : Image) (past images : ℕ → Image → Type 0) (db : Db) (entry : Entry) (body : List ℕ) → area ≡ last_of slot → (steady : IsSteady slot used content (past before) db) → Applies db entry → IsFrameOf entry size body
    → ((payloads : List (List ℕ)) → AllAreLogs area payloads used (past before) → Runs before now past images (Changes area (MayAppend payloads used body))) → Runs before now past images (MayAppendTo db entry)
append_images slot used area before now size content past images db entry body is steady applies frame runs =
    let payloads = steady.stands.makes.last.payloads in
    let run = runs payloads (subst (λ (n : ℕ). AllAreLogs n payloads used (past before)) (sym is) (all_are_logs slot used content (past before) db steady)) in
    Runs-wider before now past images (Changes area (MayAppend payloads used body)) (MayAppendTo db entry) run
    (λ old image from changes. may_append slot used content (past before) db entry body steady (record { spells = frame.spells; applies = applies }) old image from
    (subst (λ (n : ℕ). Changes n (MayAppend payloads used body) old image) is changes))

-- with no call, or with calls that change nothing, each stands for the one
pub nothing_images : (slot : Super) (used before now : ℕ) (content : Image) (past images : ℕ → Image → Type 0) (db : Db) (entry : Entry) → IsSteady slot used content (past before) db → Runs before now past images Same → Runs before now past images (MayAppendTo db entry)
nothing_images slot used before now content past images db entry steady run =
    Runs-wider before now past images Same (MayAppendTo db entry) run
    (λ old image from same. inl (stands_for slot image db steady.records used
    (subst (λ (i : Image). Stands slot i db steady.records used) (sym same) (steady_stands slot used content (past before) db steady old from))))

-- after Ok the disk is steady at the other
pub append_steady : (slot : Super) (used area end size : ℕ) (content now : Image) (images left : Image → Type 0) (db : Db) (entry : Entry) (body : List ℕ) → area ≡ last_of slot → (steady : IsSteady slot used content images db) → Applies db entry → IsFrameOf entry size body
    → end ≡ used + length body → images content → LeavesOnly now left
    → ((payloads : List (List ℕ)) → AllAreLogs area payloads used images → Changes area (IsAppended payloads used body) content now) → IsSteady slot end now left (apply db entry)
append_steady slot used area end size content now images left db entry body is steady applies frame end_is from only appended =
    let payloads = steady.stands.makes.last.payloads in
    let all = all_are_logs slot used content images db steady in
    let changes = subst (λ (n : ℕ). Changes n (IsAppended payloads used body) content now) is (appended payloads (subst (λ (n : ℕ). AllAreLogs n payloads used images) (sym is) all)) in
    record {
      records = steady.records + 1;
      stands = subst (λ (n : ℕ). Stands slot now (apply db entry) (steady.records + 1) n) (sym end_is)
          (one_more_stands slot content now db steady.records used (used + length body) entry (payload_in body) payloads steady.stands (record { spells = frame.spells; applies = applies }) changes.elsewhere (all.log content from) changes.here);
      same = λ image is_left area named. ap (λ (i : Image). i area) (only image is_left);
    }

pub append_steady_on : (result : Result (Unit {0}) VolumeError) (slot : Super) (used area end size : ℕ) (content now : Image) (images left : Image → Type 0) (entry : Entry) (body : List ℕ) → area ≡ last_of slot → IsFrameOf entry size body → images content
    → OnOk result (end ≡ used + length body) → OnOk result (LeavesOnly now left)
    → OnOk result ((payloads : List (List ℕ)) → AllAreLogs area payloads used images → Changes area (IsAppended payloads used body) content now)
    → OnOk result ((db : Db) → IsSteady slot used content images db → Applies db entry → IsSteady slot end now left (apply db entry))
append_steady_on (Ok done) slot used area end size content now images left entry body is frame from end_is only appended =
    λ db steady applies. append_steady slot used area end size content now images left db entry body is steady applies frame end_is from only appended
append_steady_on (Err e) slot used area end size content now images left entry body is frame from end_is only appended = tt

-- and no other area has changed
pub append_elsewhere_on : (result : Result (Unit {0}) VolumeError) (slot : Super) (used area : ℕ) (content now : Image) (images : Image → Type 0) (entry : Entry) (body : List ℕ) → area ≡ last_of slot → MayTake slot used content images entry
    → OnOk result ((payloads : List (List ℕ)) → AllAreLogs area payloads used images → Changes area (IsAppended payloads used body) content now) → OnOk result (Elsewhere (last_of slot) content now)
append_elsewhere_on (Ok done) slot used area content now images entry body is takes appended =
    let payloads = takes.steady.stands.makes.last.payloads in
    let all = subst (λ (n : ℕ). AllAreLogs n payloads used images) (sym is) (all_are_logs slot used content images takes.db takes.steady) in
    let changes = subst (λ (n : ℕ). Changes n (IsAppended payloads used body) content now) is (appended payloads all) in
    changes.elsewhere
append_elsewhere_on (Err e) slot used area content now images entry body is takes appended = tt
