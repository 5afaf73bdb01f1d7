-- A disk is made ready: what it stands for, and what a crash may leave, call by call.
use Rattle.std.proofs.Common.{◌≡◌, ◌≢◌, inl, inr, ⊎_elim, ℕ, Bool, true, false, cond, eqb, Err, refl, sym, ◌∙◌, ap, subst, arith}
use Rattle.std.proofs.lemmas.Bool.Decides.{nat_tests}
use Rattle.ct_faults.specs.Disk.{Image, Runs, Same, LeavesOnly}
use Rattle.ct_faults.proofs.Moments.{Runs-more}
use Rattle.ct_model.specs.declared.db.Db.{Db}
use Rattle.ct_model.specs.Apply.{no_db}
use Rattle.ct_log.specs.declared.fault.OpenFault.{OpenFault}
use Rattle.ct_log.specs.declared.fault.OpenFault.TheVariants.{Foreign, DiskFault, Memory}
use Rattle.ct_pages.specs.declared.slot.Super.{Super}
use Rattle.ct_pages.specs.Fresh.{fresh_slot, IsFinished}
use Rattle.ct_pages.specs.Slots.{Names}
use Rattle.ct_pages.proofs.Decoding.{one_slot, unfinished_names_none}
use Rattle.ct_found.specs.Found.{Makes, Stands, StandsFor, Finds}
use Rattle.ct_found.specs.Foreign.{IsForeign}
use Rattle.ct_found.proofs.Once.{stands_once, stands_so}
use Rattle.ct_found.proofs.Faults.{standing_is_not_foreign}
use Rattle.ct_recover.specs.Reading.{ReadsNamed}
use Rattle.ct_recover.specs.Condensing.{KeepsNamedBy}
use Rattle.ct_recover.specs.Settling.{MaySettle, RunsFromSync, IsSettled}
use Rattle.ct_recover.specs.Volume.{IsSteady}
use Rattle.ct_recover.proofs.Settles.{fresh_stands, settled_stands, settling_stands}
use Rattle.ct_recover.specs.Opening.{StaysFor, KeepsAreas, Opens}
use Rattle.ct_recover.proofs.Syncs.{sync_more, sync_wider, sync_leaves}

-- what the settling may leave from its sync on stands for what the disk stood for
pub settle_opens : (before now last : ℕ) (past images : ℕ → Image → Type 0) (content : Image) (db : Db) → StandsFor content db → RunsFromSync before now last past images (MaySettle content) → RunsFromSync before now last past images (λ image. StandsFor image db)
settle_opens before now last past images content db stands run = sync_wider before now last past images (MaySettle content) (λ image. StandsFor image db) run (λ image may. settling_stands content image db stands may)

-- and so does what a reading behind it leaves
pub opens_same : (before mid now : ℕ) (past between images : ℕ → Image → Type 0) (content : Image) (db : Db) → StandsFor content db → RunsFromSync before mid mid past between (MaySettle content) → Runs mid now between images Same
    → RunsFromSync before now now past images (λ image. StandsFor image db)
opens_same before mid now past between images content db stands one two =
    sync_more before mid now past between images (MaySettle content) (λ image. StandsFor image db) Same one two (λ image may. settling_stands content image db stands may)
    (λ old image may same. settling_stands content image db stands (subst (MaySettle content) (sym same) may))

by_slot : (slot : Super) (image : Image) (db : Db) → ((records : ℕ) × (used : ℕ) × Stands slot image db records used) → StandsFor image db
by_slot slot image db it = inr (slot, it.0, it.1, it.2)

-- what it stands for is what it stood for
pub settled_back : (old mid : Image) (slot : Super) (db : Db) → IsSettled old mid slot → StandsFor mid db → StandsFor old db
settled_back old mid slot db settled stands = ⊎_elim
    (λ same. subst (λ (i : Image). StandsFor i db) same stands)
    (λ was.
    let empty : StandsFor old no_db = inl (record { unfinished = was.0; db_is = refl }) in
    let is : db ≡ no_db = stands_once mid db no_db stands (by_slot slot mid no_db (settled_stands old mid slot no_db settled empty)) in
    subst (StandsFor old) (sym is) empty)
    settled.change

pub opens_failed : (old mid new : Image) (images : Image → Type 0) (slot : Super) (e : OpenFault) → IsSettled old mid slot → new ≡ mid → ReadsNamed slot mid (Err e) → Opens old new images (Err e)
opens_failed old mid new images slot (Foreign area offset) settled stays fails =
    let foreign : IsForeign mid area offset = inr (slot, settled.names, fails) in
    ⊎_elim
    (λ same. (subst (λ (i : Image). IsForeign i area offset) same foreign, stays ∙ same))
    (λ was.
    let empty : StandsFor old no_db = inl (record { unfinished = was.0; db_is = refl }) in
    absurd (standing_is_not_foreign mid no_db area offset (by_slot slot mid no_db (settled_stands old mid slot no_db settled empty)) foreign))
    settled.change
opens_failed old mid new images slot DiskFault settled stays fails = tt
opens_failed old mid new images slot Memory settled stays fails = tt

pub steady_of : (slot : Super) (content : Image) (images : Image → Type 0) (db : Db) (records used : ℕ) → Stands slot content db records used → LeavesOnly content images → IsSteady slot used content images db
steady_of slot content images db records used stands only = record { records = records; stands = stands; same = λ image is area named. ap (λ (i : Image). i area) (only image is) }

-- what was read is what the disk stood for
pub read_back : (old mid : Image) (slot : Super) (db : Db) (records used : ℕ) → IsSettled old mid slot → Makes slot mid db records used → StandsFor old db
read_back old mid slot db records used settled makes = settled_back old mid slot db settled (inr (slot, records, used, record { names = settled.names; makes = makes }))

-- what is left behind the reading, by calls that keep what was read standing
pub opens_on : (before mid near now : ℕ) (past between reading images : ℕ → Image → Type 0) (old content : Image) (slot : Super) (db found : Db) (records used : ℕ) → IsSettled old content slot → Makes slot content found records used → StandsFor old db
    → RunsFromSync before mid mid past between (MaySettle old) → Runs mid near between reading Same → Runs near now reading images (StaysFor found) → RunsFromSync before now now past images (λ image. StandsFor image db)
opens_on before mid near now past between reading images old content slot db found records used settled makes stands one two three =
    let is : found ≡ db = stands_once old found db (read_back old content slot found records used settled makes) stands in
    sync_more before near now past reading images (λ image. StandsFor image db) (λ image. StandsFor image db) (StaysFor db) (opens_same before mid near past between reading old db stands one two) (subst (λ d. Runs near now reading images (StaysFor d)) is three)
    (λ image left. left) (λ image after was left. left)

-- ---- the used bytes with which an opening goes on

pub used_of_one : (second last : ℕ) → second ≡ 0 → last ≡ cond (eqb second 0) last 1
used_of_one second last none = ap (λ n. cond (eqb n 0) last 1) (sym none)

used_tested : (single : Bool) (second last : ℕ) → single ≡ eqb second 0 → second ≢ 0 → 1 ≡ cond single last 1
used_tested true second last is some = let none : second ≡ 0 = grind (arith, nat_tests, is) in absurd (some none)
used_tested false second last is some = refl

pub used_of_two : (second last : ℕ) → second ≢ 0 → 1 ≡ cond (eqb second 0) last 1
used_of_two second last some = used_tested (eqb second 0) second last refl some

used_fresh : (single : Bool) (last : ℕ) → last ≡ 1 → cond single last 1 ≡ 1
used_fresh true last is = is
used_fresh false last is = refl

-- they are those of the disk as it stood
pub finds_back : (old mid : Image) (slot : Super) (db : Db) (records last used : ℕ) → IsSettled old mid slot → Makes slot mid db records last → used ≡ cond (eqb slot.second 0) last 1 → Finds old db used
finds_back old mid slot db records last used settled makes is =
    let there : Stands slot mid db records last = record { names = settled.names; makes = makes } in
    ⊎_elim
    (λ same. inr (slot, records, last, subst (λ (i : Image). Stands slot i db records last) same there, is))
    (λ was.
    let fresh : Stands fresh_slot mid no_db 0 1 = fresh_stands mid was.1.fresh in
    let one = stands_so fresh_slot slot mid no_db db 0 records 1 last fresh there in
    let same : db ≡ no_db = stands_once mid db no_db (by_slot slot mid db (records, last, there)) (by_slot fresh_slot mid no_db (0, 1, fresh)) in
    inl (record { unfinished = was.0; db_is = same }, is ∙ used_fresh (eqb slot.second 0) last (sym one.2)))
    settled.change

-- ---- a foreign disk

-- of one that is foreign the settling leaves what may have been left before
pub foreign_settles : (before now last : ℕ) (past images : ℕ → Image → Type 0) (content : Image) (area offset : ℕ) → IsForeign content area offset → past before content → RunsFromSync before now last past images (MaySettle content) → Runs before now past images Same
foreign_settles before now last past images content area offset foreign there run = record {
  later = run.later;
  keeps = run.keeps;
  kept = run.kept;
  during = λ m image lt le is. ⊎_elim
      (λ was. (image, was, refl))
      (λ may. ⊎_elim
      (λ same. (content, there, same))
      (λ finish. absurd (standing_is_not_foreign content no_db area offset (inl (record { unfinished = finish.0; db_is = refl })) foreign))
      may)
      (sync_leaves before now last past images (MaySettle content) run m image lt le is);
}

-- and so does a reading behind it
pub foreign_reads : (before mid now last : ℕ) (past between images : ℕ → Image → Type 0) (content : Image) (area offset : ℕ) → IsForeign content area offset → past before content → RunsFromSync before mid last past between (MaySettle content) → Runs mid now between images Same
    → Runs before now past images Same
foreign_reads before mid now last past between images content area offset foreign there one two =
    Runs-more before mid now past between images Same (foreign_settles before mid last past between content area offset foreign there one) two (λ old near image first second. second ∙ first)

-- ---- what stays as it was

-- where the slot names one log
pub keeps_of_one : (old mid new : Image) (slot : Super) → IsSettled old mid slot → new ≡ mid → KeepsAreas old new
keeps_of_one old mid new slot settled stays = ⊎_elim
    (λ same.
    let all : new ≡ old = stays ∙ same in
    let named : Names (old 0) slot = subst (λ (i : Image). Names (i 0) slot) same settled.names in
    record {
      unfinished = λ is. absurd (unfinished_names_none (old 0) slot is named);
      one_log = λ other names none. all;
      two_logs = λ other names some area is ne. ap (λ (i : Image). i area) all;
    })
    (λ was. record {
      unfinished = λ is. subst (IsFinished old) (sym stays) was.1;
      one_log = λ other names none. absurd (unfinished_names_none (old 0) other was.0 names);
      two_logs = λ other names some. absurd (unfinished_names_none (old 0) other was.0 names);
    })
    settled.change

-- where it names two
pub keeps_of_two : (old mid new : Image) (slot : Super) → IsSettled old mid slot → slot.second ≢ 0 → KeepsNamedBy slot mid new → KeepsAreas old new
keeps_of_two old mid new slot settled some keeps = ⊎_elim
    (λ same.
    let named : Names (old 0) slot = subst (λ (i : Image). Names (i 0) slot) same settled.names in
    record {
      unfinished = λ is. absurd (unfinished_names_none (old 0) slot is named);
      one_log = λ other names none. absurd (some (subst (λ (s : Super). s.second ≡ 0) (one_slot (old 0) other slot names named) none));
      two_logs = λ other names more. subst (λ s. KeepsNamedBy s old new) (one_slot (old 0) slot other named names) (subst (λ (i : Image). KeepsNamedBy slot i new) same keeps);
    })
    (λ was. absurd (some (ap (λ (s : Super). s.second) (one_slot (mid 0) slot fresh_slot settled.names was.1.fresh.names))))
    settled.change
