-- What a crash may leave of calls that begin with a sync, call by call.
use Rattle.std.proofs.Common.{◌≡◌, ◌⊎◌, inl, inr, ⊎_elim, ℕ, ◌+◌, ◌<◌, ◌≤◌, Result, Ok, Err, IsErrAnd, arith, subst, sym, ◌∙◌}
use Rattle.std.proofs.lemmas.Bool.{cases_lt}
use Rattle.ct_faults.specs.Disk.{Image, Runs, Same, LeavesOnly}
use Rattle.ct_faults.proofs.Moments.{Runs-same}
use Rattle.ct_pages.specs.Fresh.{MayFinish}
use Rattle.ct_pages.specs.Slots.{IsUnfinished}
use Rattle.ct_recover.specs.Settling.{RunsFromSync, synced_by, MaySettle}

-- no sync was done
pub sync_none : (before now : ℕ) (past images : ℕ → Image → Type 0) (Such : Image → Type 0) → Runs before now past images Same → RunsFromSync before now (now + 1) past images Such
sync_none before now past images Such run = record {
  later = run.later;
  keeps = run.keeps;
  kept = run.kept;
  synced = now + 1;
  behind = omega (arith, run.later);
  within = omega arith;
  waits = λ m image lt below le is.
      let from = run.during m image lt le is in
      subst (past before) (sym from.2) from.1;
  holds = λ m image from le is. absurd (omega arith);
}

-- it was done by the last call
pub sync_now : (before now : ℕ) (past images : ℕ → Image → Type 0) (Such : Image → Type 0) → before < now → Runs before now past images Same → ((image : Image) → images now image → Such image) → RunsFromSync before now now past images Such
sync_now before now past images Such rises run such = record {
  later = run.later;
  keeps = run.keeps;
  kept = run.kept;
  synced = now;
  behind = rises;
  within = omega arith;
  waits = λ m image lt below le is.
      let from = run.during m image lt le is in
      subst (past before) (sym from.2) from.1;
  holds = λ m image from le is.
      let last : m ≡ now = omega arith in
      such image (subst (λ (n : ℕ). images n image) last is);
}

-- it was done, and more calls came
pub sync_more : (before mid now : ℕ) (past between images : ℕ → Image → Type 0) (Such After : Image → Type 0) (step : Image → Image → Type 0) → RunsFromSync before mid mid past between Such → Runs mid now between images step
    → ((image : Image) → Such image → After image) → ((old image : Image) → Such old → step old image → After image) → RunsFromSync before now now past images After
sync_more before mid now past between images Such After step one two stays moves = record {
  later = omega (arith, one.later, two.later);
  keeps = λ m image le was. two.keeps m image (omega (arith, one.later)) (one.keeps m image le was);
  kept = λ m image le is. one.kept m image le (two.kept m image (omega (arith, one.later)) is);
  synced = one.synced;
  behind = one.behind;
  within = omega (arith, one.within, two.later);
  waits = λ m image lt below le is. one.waits m image lt below (omega (arith, one.within)) (two.kept m image (omega (arith, one.within)) is);
  holds = λ m image from le is. ⊎_elim
      (λ more.
      let near = two.during m image more le is in
      moves near.0 image (one.holds mid near.0 one.within (omega arith) near.1) near.2)
      (λ most. stays image (one.holds m image from most (two.kept m image most is)))
      (cases_lt mid m);
}

-- the same calls, with wider images
pub sync_wider : (before now last : ℕ) (past images : ℕ → Image → Type 0) (Such Wider : Image → Type 0) → RunsFromSync before now last past images Such → ((image : Image) → Such image → Wider image) → RunsFromSync before now last past images Wider
sync_wider before now last past images Such Wider run widens = record {
  later = run.later;
  keeps = run.keeps;
  kept = run.kept;
  synced = run.synced;
  behind = run.behind;
  within = run.within;
  waits = run.waits;
  holds = λ m image from le is. widens image (run.holds m image from le is);
}

-- a sync that was done is done by any later moment
pub sync_later : (before now : ℕ) (past images : ℕ → Image → Type 0) (Such : Image → Type 0) → RunsFromSync before now now past images Such → RunsFromSync before now (now + 1) past images Such
sync_later before now past images Such run = record {
  later = run.later;
  keeps = run.keeps;
  kept = run.kept;
  synced = run.synced;
  behind = run.behind;
  within = omega (arith, run.within);
  waits = run.waits;
  holds = run.holds;
}

-- whatever the answer is
pub sync_answered : {T E : Type 0} (result : Result T E) (before now : ℕ) (past images : ℕ → Image → Type 0) (Such : Image → Type 0) → RunsFromSync before now now past images Such → RunsFromSync before now (synced_by result now) past images Such
sync_answered (Ok done) before now past images Such run = run
sync_answered (Err e) before now past images Such run = sync_later before now past images Such run

-- an error tells no sync
pub sync_failed : {T E : Type 0} (Q : E → Type 0) (result : Result T E) (before now : ℕ) (past images : ℕ → Image → Type 0) (Such : Image → Type 0) → IsErrAnd result Q → RunsFromSync before now (now + 1) past images Such → RunsFromSync before now (synced_by result now) past images Such
sync_failed Q (Ok done) before now past images Such failed run = absurd failed
sync_failed Q (Err e) before now past images Such failed run = run

-- an image of a moment behind the first was left at it, or is such an image
pub sync_leaves : (before now last : ℕ) (past images : ℕ → Image → Type 0) (Such : Image → Type 0) → RunsFromSync before now last past images Such → (m : ℕ) (image : Image) → before < m → m ≤ now → images m image → past before image ⊎ Such image
sync_leaves before now last past images Such run m image lt le is = ⊎_elim (λ below. inl (run.waits m image lt below le is)) (λ from. inr (run.holds m image from le is)) (cases_lt m run.synced)

-- ---- the settling

-- a sync comes behind calls that change nothing: a crash leaves what reads gave
pub sync_first : (before mid now : ℕ) (past between images : ℕ → Image → Type 0) (content new : Image) → Runs before mid past between Same → mid < now → Runs mid now between images Same → new ≡ content → LeavesOnly new (images now)
    → RunsFromSync before now now past images (λ image. image ≡ content)
sync_first before mid now past between images content new one rises two stays only =
    sync_now before now past images (λ image. image ≡ content) (omega (arith, one.later, rises)) (Runs-same before mid now past between images one two) (λ image is. only image is ∙ stays)

-- and so after more calls that change nothing
sync_stays : (before mid now : ℕ) (past between images : ℕ → Image → Type 0) (content : Image) → RunsFromSync before mid mid past between (λ image. image ≡ content) → Runs mid now between images Same → RunsFromSync before now now past images (λ image. image ≡ content)
sync_stays before mid now past between images content one two =
    sync_more before mid now past between images (λ image. image ≡ content) (λ image. image ≡ content) Same one two (λ image same. same) (λ old image was same. same ∙ was)

pub settle_stays : (before mid now : ℕ) (past between images : ℕ → Image → Type 0) (content : Image) → RunsFromSync before mid mid past between (λ image. image ≡ content) → Runs mid now between images Same → RunsFromSync before now now past images (MaySettle content)
settle_stays before mid now past between images content one two =
    sync_wider before now now past images (λ image. image ≡ content) (MaySettle content) (sync_stays before mid now past between images content one two) (λ image same. inl same)

-- of an unfinished disk it leaves from then on what the finishing may leave
pub settle_finishes : (before mid near now : ℕ) (past between reading images : ℕ → Image → Type 0) (content : Image) → IsUnfinished (content 0) → RunsFromSync before mid mid past between (λ image. image ≡ content) → Runs mid near between reading Same
    → Runs near now reading images MayFinish → RunsFromSync before now now past images (MaySettle content)
settle_finishes before mid near now past between reading images content unfinished one two three =
    sync_more before near now past reading images (λ image. image ≡ content) (MaySettle content) MayFinish (sync_stays before mid near past between reading content one two) three (λ image same. inl same)
    (λ old image was may. inr (unfinished, subst (λ (i : Image). MayFinish i image) was may))
