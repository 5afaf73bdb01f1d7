-- An unfinished disk is finished: what a crash may leave, call by call.
use Rattle.std.proofs.Common.{◌≡◌, inl, inr, ⊎_elim, ℕ, ◌<◌, List, [], ◌∷◌, ◌++◌, length, take, drop, refl, sym, ◌∙◌, ap, subst, arith, take-append-drop}
use Rattle.std.proofs.lemmas.List.{append-nil, drop_all}
use Rattle.ct_faults.specs.Disk.{Image, Changes, IsWritten, MayTear, Runs, Same, LeavesOnly}
use Rattle.ct_faults.proofs.Moments.{Runs-wider, Runs-more}
use Rattle.ct_pages.specs.Slots.{Names, IsLaidOut, IsUnfinished}
use Rattle.ct_pages.specs.Flips.{SameHead, IsPut, MayPut}
use Rattle.ct_pages.specs.Areas.{Anything, IsStarted}
use Rattle.ct_pages.specs.Fresh.{fresh_slot, IsFinished, MayFinish, head_without_end, BecomesLaidOut, StaysUnfinished}
use Rattle.ct_pages.proofs.Turning.{fresh_is_current, closed_is_laid_out}
use Rattle.ct_pages.proofs.Moves.{Runs-after, same_after, both_heads}

-- ---- the layout of area 0

-- the mark and 31 zeros, with a byte more, are laid out
laid_out : (bytes : List ℕ) (last : ℕ) (rest : List ℕ) → bytes ≡ head_without_end ++ last ∷ rest → IsLaidOut bytes
laid_out bytes last rest is = subst IsLaidOut (sym is) (record {
  marked = record { long = omega arith; marked = refl };
  zero = λ opens. cc opens;
  one = λ opens. cc opens;
})

-- while the first 39 bytes are torn, it is short
torn_front : (old new : List ℕ) → length old < 40 → MayTear 0 39 old new → IsUnfinished new
torn_front old new short torn = inl (omega (arith, short, torn.longest))

-- then it has these
written_front : (old new : List ℕ) → length old < 40 → IsWritten 0 head_without_end old new → new ≡ head_without_end
written_front old new short written = written ∙ ap (λ l. head_without_end ++ l) (drop_all 39 old (omega (arith, short))) ∙ append-nil head_without_end

-- while the last byte is torn, it is short, or laid out
torn_end : (old new : List ℕ) → old ≡ head_without_end → MayTear 39 1 old new → IsUnfinished new
torn_end old new is torn =
    let front : take 39 new ≡ head_without_end = torn.before 39 (omega arith) (omega (arith, ap length is)) ∙ ap (λ l. take 39 l) is in
    let split : new ≡ head_without_end ++ drop 39 new = sym (take-append-drop 39 new) ∙ ap (λ l. l ++ drop 39 new) front in
    by_end (drop 39 new) split
  where
    by_end : (end : List ℕ) → new ≡ head_without_end ++ end → IsUnfinished new
    by_end [] split = inl (omega (arith, ap length split))
    by_end (last ∷ rest) split = inr (laid_out new last rest split)

-- a read finds area 0 short; its front is written, and then its end
module _ (content : Image) (unfinished : IsUnfinished (content 0)) (short : length (content 0) < 40) (bytes : List ℕ) (is_front : bytes ≡ head_without_end) where
  still_unfinished : (image : Image) → image 0 ≡ content 0 → Changes 0 StaysUnfinished image image
  still_unfinished image same = record { here = subst IsUnfinished (sym same) unfinished; elsewhere = λ other ne. refl }

  -- the front is torn
  unfinished_first : (before mid now : ℕ) (past between images : ℕ → Image → Type 0) → SameHead content (past before)
      → Runs before mid past between Same → Runs mid now between images (Changes 0 (MayTear 0 (length bytes))) → Runs before now past images (Changes 0 StaysUnfinished)
  unfinished_first before mid now past between images same read one =
      let same_mid = same_after before mid past between content content read same refl in
      Runs-after before mid now past between images (Changes 0 StaysUnfinished) (λ image was. still_unfinished image (same image was)) read
      (Runs-wider mid now between images (Changes 0 (MayTear 0 (length bytes))) (Changes 0 StaysUnfinished) one (λ old image was step. record {
        here = torn_front (old 0) (image 0) (omega (arith, short, ap length (same_mid old was))) (subst (λ l. MayTear 0 (length l) (old 0) (image 0)) is_front step.here);
        elsewhere = step.elsewhere;
      }))

  module _ (mid_content near_content : Image) (stays : mid_content ≡ content) (wrote : Changes 0 (IsWritten 0 bytes) mid_content near_content) where
    front_there : near_content 0 ≡ head_without_end
    front_there = written_front (content 0) (near_content 0) short (subst (λ (i : Image). IsWritten 0 head_without_end (i 0) (near_content 0)) stays (subst (λ l. IsWritten 0 l (mid_content 0) (near_content 0)) is_front wrote.here))

    -- and then the end
    pub unfinished_second : (before mid near now : ℕ) (past between left images : ℕ → Image → Type 0) → SameHead content (past before)
        → Runs before mid past between Same → Runs mid near between left (Changes 0 (MayTear 0 (length bytes))) → LeavesOnly near_content (left near) → Runs near now left images (Changes 0 (MayTear 39 1))
        → Runs before now past images (Changes 0 StaysUnfinished)
    unfinished_second before mid near now past between left images same read one only two =
        Runs-more before near now past left images (Changes 0 StaysUnfinished) (unfinished_first before mid near past between left same read one)
        (Runs-wider near now left images (Changes 0 (MayTear 39 1)) (Changes 0 StaysUnfinished) two (λ old image was step. record {
          here = torn_end (old 0) (image 0) (ap (λ (i : Image). i 0) (only old was) ∙ front_there) step.here;
          elsewhere = step.elsewhere;
        }))
        (λ old between image a b. both_heads StaysUnfinished StaysUnfinished StaysUnfinished old between image a b (λ x y. y))

-- ---- the whole finishing

finish_more : (old near image : Image) → MayFinish old near → MayFinish near image → MayFinish old image
finish_more old near image a b = record { stage = b.stage; others = λ area not_head not_log. b.others area not_head not_log ∙ a.others area not_head not_log }

-- while area 0 is laid out
finish_first : (before mid : ℕ) (past between : ℕ → Image → Type 0) → Runs before mid past between (Changes 0 StaysUnfinished) → Runs before mid past between MayFinish
finish_first before mid past between one = Runs-wider before mid past between (Changes 0 StaysUnfinished) MayFinish one (λ old image was step. record {
  stage = inl step.here;
  others = λ area not_head not_log. step.elsewhere area not_head;
})

module _ (first : Image) (laid : IsLaidOut (first 0)) where
  -- and then the log is started
  pub finish_second : (before mid now : ℕ) (past between images : ℕ → Image → Type 0) → SameHead first (between mid)
      → Runs before mid past between (Changes 0 StaysUnfinished) → Runs mid now between images (Changes 3 Anything) → Runs before now past images MayFinish
  finish_second before mid now past between images same one two =
      Runs-more before mid now past between images MayFinish (finish_first before mid past between one)
      (Runs-wider mid now between images (Changes 3 Anything) MayFinish two (λ near image was step. record {
        stage = inl (subst IsUnfinished (sym (step.elsewhere 0 (λ e. absurd (omega (arith, e))) ∙ same near was)) (inr laid));
        others = λ area not_head not_log. step.elsewhere area not_log;
      }))
      finish_more

  module _ (second : Image) (started : Changes 3 (IsStarted 3) first second) where
    laid_there : IsLaidOut (second 0)
    laid_there = subst IsLaidOut (sym (started.elsewhere 0 (λ e. absurd (omega (arith, e))))) laid

    log_there : second 3 ≡ 0 ∷ []
    log_there = started.here.log (omega arith)

    put_finishes : (near image : Image) → near ≡ second → Changes 0 (MayPut 0 fresh_slot) near image → MayFinish near image
    put_finishes near image is step =
        let laid_near : IsLaidOut (near 0) = subst (λ (i : Image). IsLaidOut (i 0)) (sym is) laid_there in
        let log_near : near 3 ≡ 0 ∷ [] = ap (λ (i : Image). i 3) is ∙ log_there in
        record {
          stage = ⊎_elim
              (λ shut. inl (inr (subst IsLaidOut (sym shut.2) (closed_is_laid_out (near 0) shut.0 shut.1 laid_near))))
              (λ put. inr (record { names = subst (λ l. Names l fresh_slot) (sym put) (fresh_is_current (near 0) laid_near); log = step.elsewhere 3 (λ e. absurd (omega (arith, e))) ∙ log_near }))
              step.here;
          others = λ area not_head not_log. step.elsewhere area not_head;
        }

    -- and then the slot is put in place
    pub finish_third : (before mid near now : ℕ) (past between left images : ℕ → Image → Type 0) → SameHead first (between mid)
        → Runs before mid past between (Changes 0 StaysUnfinished) → Runs mid near between left (Changes 3 Anything) → LeavesOnly second (left near) → Runs near now left images (Changes 0 (MayPut 0 fresh_slot))
        → Runs before now past images MayFinish
    finish_third before mid near now past between left images same one two only three =
        Runs-more before near now past left images MayFinish (finish_second before mid near past between left same one two)
        (Runs-wider near now left images (Changes 0 (MayPut 0 fresh_slot)) MayFinish three (λ old image was step. put_finishes old image (only old was) step))
        finish_more

    pub finish_done : (content last : Image) → Changes 0 BecomesLaidOut content first → Changes 0 (IsPut 0 fresh_slot) second last → IsFinished content last
    finish_done content last lays put = record {
      fresh = record {
        names = subst (λ l. Names l fresh_slot) (sym put.here) (fresh_is_current (second 0) laid_there);
        log = put.elsewhere 3 (λ e. absurd (omega (arith, e))) ∙ log_there;
      };
      others = λ area not_head not_log. put.elsewhere area not_head ∙ started.elsewhere area not_log ∙ lays.elsewhere area not_head;
    }
