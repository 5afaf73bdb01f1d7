-- A disk stands for one database.
use Rattle.std.proofs.Common.{◌≡◌, ⊎_elim, ℕ, zero, suc, ◌+◌, List, sym, ◌∙◌, subst}
use Rattle.ct_faults.specs.Disk.{Image}
use Rattle.ct_model.specs.declared.db.Db.{Db}
use Rattle.ct_pages.specs.declared.slot.Super.{Super}
use Rattle.ct_pages.proofs.Decoding.{one_slot, unfinished_names_none}
use Rattle.ct_replay.specs.Replay.{Replays}
use Rattle.ct_replay.proofs.Once.{one_replay}
use Rattle.ct_found.specs.Found.{last_of, BeginsIn, EarlierBy, Earlier, Makes, Stands}
use Rattle.ct_found.specs.Laws.{StandsOnce, StandsSo}
use Rattle.ct_found.proofs.Meeting.{one_checkpoint}

pub begins_once : (area size : ℕ) (image : Image) (a b : Db) → BeginsIn area size image a → BeginsIn area size image b → a ≡ b
begins_once zero size image a b x y = x ∙ sym y
begins_once (suc area) size image a b x y = one_checkpoint (image (suc area)) size a b x y

earlier_once : (second : ℕ) (bytes : List ℕ) (start a b : Db) (records count : ℕ) → EarlierBy second bytes start a records → EarlierBy second bytes start b count → (a ≡ b) × (records ≡ count)
earlier_once zero bytes start a b records count x y = (x.0 ∙ sym y.0, x.1 ∙ sym y.1)
earlier_once (suc second) bytes start a b records count x y =
    (one_replay.database start a b bytes records count x.0 y.0 x.1 y.1, one_replay.records start a b bytes records count x.0 y.0 x.1 y.1)

-- what is before the last log
pub before_once : (slot : Super) (image : Image) (a b : Db) (records count used end : ℕ) (x : Makes slot image a records used) (y : Makes slot image b count end) → (x.before ≡ y.before) × (x.earlier_records ≡ y.earlier_records)
before_once slot image a b records count used end x y =
    let start = begins_once slot.checkpoint slot.length image x.start y.start x.begins y.begins in
    earlier_once slot.second (image slot.first) x.start x.before y.before x.earlier_records y.earlier_records x.earlier
    (subst (λ db. Earlier slot image db y.before y.earlier_records) (sym start) y.earlier)

makes_once : (slot : Super) (image : Image) (a b : Db) (records count used end : ℕ) → Makes slot image a records used → Makes slot image b count end → (a ≡ b) × (records ≡ count) × (used ≡ end)
makes_once slot image a b records count used end x y =
    let before = before_once slot image a b records count used end x y in
    let area = image (last_of slot) in
    let last = subst (λ db. Replays db area b y.last_records end) (sym before.0) y.last in
    let many = one_replay.records x.before a b area x.last_records y.last_records used end x.last last in (
      one_replay.database x.before a b area x.last_records y.last_records used end x.last last,
      x.records_is ∙ (λ i. before.1 i + many i) ∙ sym y.records_is,
      one_replay.used x.before a b area x.last_records y.last_records used end x.last last,
    )

both_once : (slot other : Super) (image : Image) (a b : Db) (records count used end : ℕ) → Stands slot image a records used → Stands other image b count end
    → (slot ≡ other) × (a ≡ b) × (records ≡ count) × (used ≡ end)
both_once slot other image a b records count used end x y =
    let same = one_slot (image 0) slot other x.names y.names in
    let one = makes_once slot image a b records count used end x.makes (subst (λ s. Makes s image b count end) (sym same) y.makes) in
    (same, one.0, one.1, one.2)

pub stands_so : StandsSo
stands_so slot other image a b records count used end x y =
    let one = both_once slot other image a b records count used end x y in
    (one.0, one.2, one.3)

pub stands_once : StandsOnce
stands_once image a b x y =
    ⊎_elim
    (λ fresh. ⊎_elim
    (λ other. fresh.db_is ∙ sym other.db_is)
    (λ other. absurd (unfinished_names_none (image 0) other.0 fresh.unfinished other.3.names))
    y)
    (λ one. ⊎_elim
    (λ fresh. absurd (unfinished_names_none (image 0) one.0 fresh.unfinished one.3.names))
    (λ other. (both_once one.0 other.0 image a b one.1 other.1 one.2 other.2 one.3 other.3).1)
    y)
    x
