-- A checkpoint and a log are written beside those of a slot, and then named: what a crash may leave, call by call.
use Rattle.std.proofs.Common.{◌≡◌, inl, inr, ⊎_elim, ℕ, ◌+◌, ◌<◌, List, [], ◌∷◌, ◌++◌, length, sym, ◌∙◌, ap, subst, arith}
use Rattle.std.proofs.lemmas.List.{append-nil, drop_all}
use Rattle.ct_faults.specs.Disk.{Image, Changes, IsWritten, Runs, LeavesOnly, overwritten}
use Rattle.ct_faults.proofs.Moments.{Runs-wider, Runs-more, Runs-then}
use Rattle.ct_pages.specs.declared.slot.Super.{Super}
use Rattle.ct_pages.specs.Slots.{Names, IsNamed}
use Rattle.ct_pages.specs.Areas.{IsSpare, KeepsNamed, IsStarted}
use Rattle.ct_pages.specs.Flips.{IsFlipped, MayFlip}
use Rattle.ct_pages.proofs.Decoding.{one_slot}
use Rattle.ct_pages.proofs.Moves.{leaves_now}
use Rattle.ct_recover.specs.Condensing.{IsApart, IsCondensed, MayCondense}

-- an area that the one slot does not name is spare
pub spare_at : (area : ℕ) (slot : Super) (content : Image) (images : Image → Type 0) → Names (content 0) slot → LeavesOnly content images → ¬ IsNamed slot area → IsSpare area images
spare_at area slot content images names only other = λ image said is here named.
    let same : image ≡ content = only image is in
    let slot_is : said ≡ slot = one_slot (content 0) said slot (subst (λ (i : Image). Names (i 0) said) same here) names in
    other (subst (λ s. IsNamed s area) slot_is named)

-- and it stays so over calls that keep what is named
pub spare_after : (area before now : ℕ) (past images : ℕ → Image → Type 0) → Runs before now past images KeepsNamed → IsSpare area (past before) → IsSpare area (images now)
spare_after area before now past images run spare = λ image said is here. ⊎_elim
    (λ was. spare image said was here)
    (λ from. spare from.0 said from.1 (subst (λ bytes. Names bytes said) from.2.head here))
    (leaves_now before now past images KeepsNamed image run is)

keeps_more : (old near image : Image) → KeepsNamed old near → KeepsNamed near image → KeepsNamed old image
keeps_more old near image one two = record {
  head = two.head ∙ one.head;
  named = λ slot area names named. two.named slot area (subst (λ bytes. Names bytes slot) (sym one.head) names) named ∙ one.named slot area names named;
}

pub keeps_then : (before mid now : ℕ) (past between images : ℕ → Image → Type 0) → Runs before mid past between KeepsNamed → Runs mid now between images KeepsNamed → Runs before now past images KeepsNamed
keeps_then before mid now past between images one two = Runs-more before mid now past between images KeepsNamed one two keeps_more

module _ (slot next : Super) (bytes : List ℕ) (content : Image) (names : Names (content 0) slot) (past : ℕ → Image → Type 0) (before : ℕ) (only : LeavesOnly content (past before)) where
  names_in : (image : Image) → past before image → Names (image 0) slot
  names_in image was = subst (λ (i : Image). Names (i 0) slot) (sym (only image was)) names

  keeps_condense : (old image : Image) → past before old → KeepsNamed old image → MayCondense slot next bytes old image
  keeps_condense old image was keeps = record {
    kept = λ area named other. keeps.named slot area (names_in old was) named;
    stage = inl (subst (λ l. Names l slot) (sym keeps.head) (names_in old was));
  }

  -- before the flip
  pub condense_first : (now : ℕ) (images : ℕ → Image → Type 0) → Runs before now past images KeepsNamed → Runs before now past images (MayCondense slot next bytes)
  condense_first now images run = Runs-wider before now past images KeepsNamed (MayCondense slot next bytes) run keeps_condense

  -- and with it
  pub condense_all : (mid now : ℕ) (between images : ℕ → Image → Type 0) (near : Image) → before < mid → IsApart slot next → near next.checkpoint ≡ bytes → near next.first ≡ 0 ∷ []
      → Runs before mid past between KeepsNamed → LeavesOnly near (between mid) → Runs mid now between images (Changes 0 (MayFlip slot next)) → Runs before now past images (MayCondense slot next bytes)
  condense_all mid now between images near rises apart checkpoint log one leaves two =
      Runs-then before mid now past between images KeepsNamed (Changes 0 (MayFlip slot next)) (MayCondense slot next bytes) rises one two keeps_condense
      (λ old left image was keeps is flips. record {
        kept = λ area named other. flips.elsewhere area other ∙ keeps.named slot area (names_in old was) named;
        stage = ⊎_elim
            (λ stays. inl stays)
            (λ turned. inr (record {
              names = turned;
              checkpoint = flips.elsewhere next.checkpoint (λ e. omega (arith, e, apart.some)) ∙ ap (λ (i : Image). i next.checkpoint) (leaves left is) ∙ checkpoint;
              log = flips.elsewhere next.first (λ e. omega (arith, e, apart.above)) ∙ ap (λ (i : Image). i next.first) (leaves left is) ∙ log;
            }))
            flips.here;
      })

-- ---- what reads give

-- the checkpoint's bytes, after the area was emptied and written
pub checkpoint_there : (area : ℕ) (log : ℕ) (bytes : List ℕ) (content first second third : Image) → area < 3 → (area ≡ log → ⊥) → Changes area (IsStarted area) content first → Changes area (IsWritten 0 bytes) first second → Changes log (IsStarted log) second third
    → third area ≡ bytes
checkpoint_there area log bytes content first second third low other emptied wrote started =
    let empty : first area ≡ [] = emptied.here.checkpoint low in
    started.elsewhere area other
    ∙ wrote.here
    ∙ ap (λ old. overwritten 0 bytes old) empty
    ∙ ap (λ l. bytes ++ l) (drop_all (0 + length bytes) [] (omega arith))
    ∙ append-nil bytes

pub head_there : (area log : ℕ) (bytes : List ℕ) (content first second third : Image) → (0 ≡ area → ⊥) → (0 ≡ log → ⊥) → Changes area (IsStarted area) content first → Changes area (IsWritten 0 bytes) first second → Changes log (IsStarted log) second third
    → third 0 ≡ content 0
head_there area log bytes content first second third not_area not_log emptied wrote started = started.elsewhere 0 not_log ∙ wrote.elsewhere 0 not_area ∙ emptied.elsewhere 0 not_area

pub condensed_there : (slot next : Super) (bytes : List ℕ) (near last : Image) → IsApart slot next → near next.checkpoint ≡ bytes → near next.first ≡ 0 ∷ [] → Changes 0 (IsFlipped next) near last → IsCondensed next bytes last
condensed_there slot next bytes near last apart checkpoint log flips = record {
  names = flips.here;
  checkpoint = flips.elsewhere next.checkpoint (λ e. omega (arith, e, apart.some)) ∙ checkpoint;
  log = flips.elsewhere next.first (λ e. omega (arith, e, apart.above)) ∙ log;
}
