-- A disk with two logs is written anew: what it stands for, at each moment.
use Rattle.std.proofs.Common.{◌≡◌, ◌≢◌, inl, inr, ⊎_elim, ℕ, ◌-◌, ◌^◌, ◌<◌, ◌≤◌, cond, eqb, true, false, Bool, List, length, refl, sym, ◌∙◌, ap, subst, arith}
use Rattle.std.proofs.lemmas.Bool.Decides.{nat_tests}
use Rattle.ct_faults.specs.Disk.{Image, Runs, Same, LeavesOnly}
use Rattle.ct_faults.proofs.Moments.{Runs-wider, Runs-more}
use Rattle.ct_model.specs.declared.db.Db.{Db}
use Rattle.ct_pages.specs.declared.slot.Super.{Super}
use Rattle.ct_pages.specs.Slots.{IsCanonical}
use Rattle.ct_pages.proofs.Moves.{leaves_now}
use Rattle.ct_found.specs.Checkpoint.{IsCheckpoint}
use Rattle.ct_found.specs.Found.{Stands, StandsFor}
use Rattle.ct_found.proofs.Stays.{makes_stays, written_stands}
use Rattle.ct_recover.proofs.Settles.{empty_log}
use Rattle.ct_recover.specs.Condensing.{next_slot, IsApart, IsCondensed, KeepsNamedBy, MayCondense}
use Rattle.ct_recover.specs.Opening.{StaysFor}

-- ---- the next slot

other_checkpoint : (b : Bool) (area : ℕ) → b ≡ eqb area 1 → area ≤ 2 → (1 ≤ cond b 2 1) × (cond b 2 1 ≤ 2) × (cond b 2 1 ≢ area)
other_checkpoint true area is low = (omega arith, omega arith, λ e. let one : area ≡ 1 = grind (arith, nat_tests, is) in omega (arith, one, e))
other_checkpoint false area is low = (omega arith, omega arith, λ e. let not : area ≢ 1 = grind (arith, nat_tests, is) in omega (arith, not, e))

pub apart_next : (slot : Super) (size : ℕ) → IsCanonical slot → slot.second ≢ 0 → IsApart slot (next_slot slot size)
apart_next slot size canonical some =
    let two = ⊎_elim (λ none. absurd (some none)) (λ it. it) canonical.second in
    let first = canonical.first in
    let low = canonical.checkpoint.0 in
    let other = other_checkpoint (eqb slot.checkpoint 1) slot.checkpoint refl low in
    let place = 12 - slot.first - slot.second in
    record {
      checkpoint = λ named. ⊎_elim (λ e. omega (arith, e, other.0)) (λ more. ⊎_elim (λ e. other.2 e) (λ logs. ⊎_elim (λ e. omega (arith, e, other.1, first.0)) (λ e. omega (arith, e, other.1, two.0.0)) logs) more) named;
      log = λ named. ⊎_elim (λ e. omega (arith, e, first.0, first.1, two.0, two.1)) (λ more. ⊎_elim (λ e. omega (arith, e, low, first.0, first.1, two.0.0, two.0.1, two.1)) (λ logs. ⊎_elim (λ e. omega (arith, e, first.0, first.1, two.0.0, two.0.1, two.1)) (λ e. omega (arith, e, first.0, first.1, two.0.0, two.0.1, two.1)) logs) more) named;
      some = other.0;
      low = other.1;
      above = omega (arith, first.0, first.1, two.0.0, two.0.1, two.1);
      within = omega (arith, first.0, first.1, two.0.0, two.0.1, two.1);
    }

pub canonical_next : (slot : Super) (size : ℕ) → IsCanonical slot → slot.second ≢ 0 → 0 < size → size < 2 ^ 64 → IsCanonical (next_slot slot size)
canonical_next slot size canonical some few fits =
    let apart = apart_next slot size canonical some in
    record {
      format = refl;
      turn = omega arith;
      checkpoint = (apart.low, ((λ e. omega (arith, e, few)), (λ e. omega (arith, e, apart.some))));
      fits = fits;
      first = (apart.above, apart.within);
      second = inl refl;
    }

-- with a checkpoint of all these bytes
pub next_made : (slot next : Super) (bytes : List ℕ) (db : Db) → IsCanonical slot → slot.second ≢ 0 → next ≡ next_slot slot (length bytes) → IsCheckpoint bytes (length bytes) db → IsApart slot next × (next.second ≡ 0) × IsCheckpoint bytes next.length db
next_made slot next bytes db canonical some is whole = (
  subst (IsApart slot) (sym is) (apart_next slot (length bytes) canonical some),
  ap (λ (s : Super). s.second) is,
  subst (λ n. IsCheckpoint bytes n db) (sym (ap (λ (s : Super). s.length) is)) whole,
)

-- ---- what it stands for

pub condensed_stands : (next : Super) (bytes : List ℕ) (image : Image) (db : Db) → 1 ≤ next.checkpoint → next.second ≡ 0 → IsCheckpoint bytes next.length db → IsCondensed next bytes image → Stands next image db 0 1
condensed_stands next bytes image db some none is condensed =
    written_stands next image db condensed.names some none (subst (λ l. IsCheckpoint l next.length db) (sym condensed.checkpoint) is) (empty_log (image next.first) condensed.log)

may_stand : (slot next : Super) (bytes : List ℕ) (content image : Image) (db : Db) (records used : ℕ) → IsCanonical slot → Stands slot content db records used → 1 ≤ next.checkpoint → next.second ≡ 0 → IsCheckpoint bytes next.length db
    → MayCondense slot next bytes content image → StandsFor image db
may_stand slot next bytes content image db records used canonical stands some none is may = ⊎_elim
    (λ names. inr (slot, records, used, record { names = names; makes = makes_stays slot content image db records used canonical may.kept stands.makes }))
    (λ condensed. inr (next, 0, 1, condensed_stands next bytes image db some none is condensed))
    may.stage

pub only_after : (before now : ℕ) (past images : ℕ → Image → Type 0) (old new : Image) → Runs before now past images Same → LeavesOnly old (past before) → new ≡ old → LeavesOnly new (images now)
only_after before now past images old new run only stays image is = ⊎_elim
    (λ was. only image was ∙ sym stays)
    (λ from. from.2 ∙ only from.0 from.1 ∙ sym stays)
    (leaves_now before now past images Same image run is)

-- what comes of calls that change nothing stands for what the disk stands for
pub stands_still : (before now : ℕ) (past images : ℕ → Image → Type 0) (slot : Super) (content : Image) (db : Db) (records used : ℕ) → Stands slot content db records used → LeavesOnly content (past before) → Runs before now past images Same
    → Runs before now past images (StaysFor db)
stands_still before now past images slot content db records used stands only run = Runs-wider before now past images Same (StaysFor db) run
    (λ old image was same. inr (slot, records, used, subst (λ (i : Image). Stands slot i db records used) (sym (same ∙ only old was)) stands))

pub condense_opens : (before mid now : ℕ) (past between images : ℕ → Image → Type 0) (slot next : Super) (bytes : List ℕ) (content near : Image) (db : Db) (records used : ℕ) → IsCanonical slot → Stands slot content db records used → 1 ≤ next.checkpoint
    → next.second ≡ 0 → IsCheckpoint bytes next.length db → near ≡ content → LeavesOnly content (past before) → Runs before mid past between Same → Runs mid now between images (MayCondense slot next bytes) → Runs before now past images (StaysFor db)
condense_opens before mid now past between images slot next bytes content near db records used canonical stands some none is stays first one two =
    let only = only_after before mid past between content near one first stays in
    Runs-more before mid now past between images (StaysFor db) (stands_still before mid past between slot content db records used stands first one)
    (Runs-wider mid now between images (MayCondense slot next bytes) (StaysFor db) two
    (λ old image was may. may_stand slot next bytes content image db records used canonical stands some none is (subst (λ (i : Image). MayCondense slot next bytes i image) (only old was ∙ stays) may)))
    (λ old near image one two. two)

-- what reads give keeps the areas that the slot names
pub keeps_content : (before now : ℕ) (past images : ℕ → Image → Type 0) (slot next : Super) (bytes : List ℕ) (content new : Image) → LeavesOnly content (past before) → Runs before now past images (MayCondense slot next bytes) → images now new → KeepsNamedBy slot content new
keeps_content before now past images slot next bytes content new only run is = ⊎_elim
    (λ was. still (only new was))
    (λ from. subst (λ (i : Image). KeepsNamedBy slot i new) (only from.0 from.1) from.2.kept)
    (leaves_now before now past images (MayCondense slot next bytes) new run is)
  where
    still : new ≡ content → KeepsNamedBy slot content new
    still same = λ area named other. ap (λ (i : Image). i area) same
