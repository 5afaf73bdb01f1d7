-- What an append makes of a log, call by call.
use Rattle.std.proofs.Common.{◌≡◌, inl, inr, ℕ, ◌+◌, ◌-◌, ◌<◌, ◌≤◌, List, [], ◌∷◌, ◌++◌, length, get_or, take, drop, sym, ◌∙◌, ap, arith, append_assoc, length-append, take-append-drop}
use Rattle.std.proofs.lemmas.Bool.{cases_eq}
use Rattle.std.proofs.lemmas.List.{take_at}
use Rattle.byteorder.specs.Endian.{little_bytes}
use Rattle.ct_types.proofs.Lists.{all_append}
use Rattle.ct_faults.specs.Disk.{Image, Changes, IsWritten, MayTear, Runs, LeavesOnly}
use Rattle.ct_faults.proofs.Moments.{Runs-then, Runs-wider}
use Rattle.ct_log.specs.Log.{HasRecord, records_of, IsLog}
use Rattle.ct_log.specs.Append.{payload_in, IsFrame, AllAreLogs, IsAppended, MayAppend}
use Rattle.ct_log.proofs.Pieces.{torn_byte, written_byte}
use Rattle.ct_log.proofs.Records.{records_of-push, length-records_of-push}

-- ---- the area of a log

-- with a frame behind its gate
abbrev Staged : List (List ℕ) → List ℕ → ℕ → List ℕ → List ℕ → Type 0
Staged payloads body gate tail bytes = bytes ≡ records_of payloads ++ gate ∷ (body ++ tail)

pub used_within : (payloads : List (List ℕ)) (used : ℕ) (bytes : List ℕ) → IsLog payloads used bytes → used ≤ length bytes
used_within payloads used bytes log = omega (arith, log.used_is, ap length log.split, length-append (records_of payloads) (log.gate ∷ log.ignored))

front : (payloads : List (List ℕ)) (used : ℕ) (old : List ℕ) (log : IsLog payloads used old) → take used old ≡ records_of payloads ++ log.gate ∷ []
front payloads used old log =
    ap (λ l. take used l) (log.split ∙ sym (append_assoc (records_of payloads) (log.gate ∷ []) log.ignored))
    ∙ take_at (records_of payloads ++ log.gate ∷ []) log.ignored used (omega (arith, log.used_is, length-append (records_of payloads) (log.gate ∷ [])))

-- where the bytes up to the closed gate stay, the log stays
pub torn_frame : (payloads : List (List ℕ)) (used n : ℕ) (old new : List ℕ) → IsLog payloads used old → MayTear used n old new → IsLog payloads used new
torn_frame payloads used n old new log torn = record {
  gate = log.gate;
  ignored = drop used new;
  split =
      sym (take-append-drop used new)
      ∙ ap (λ l. l ++ drop used new) (torn.before used (omega arith) (used_within payloads used old log) ∙ front payloads used old log)
      ∙ append_assoc (records_of payloads) (log.gate ∷ []) (drop used new);
  closed = log.closed;
  fit = log.fit;
  used_is = log.used_is;
}

written_frame : (payloads : List (List ℕ)) (used : ℕ) (body old new : List ℕ) (log : IsLog payloads used old) → IsWritten used body old new → Staged payloads body log.gate (drop (used + length body) old) new
written_frame payloads used body old new log written =
    written
    ∙ append_assoc (take used old) body (drop (used + length body) old)
    ∙ ap (λ l. l ++ (body ++ drop (used + length body) old)) (front payloads used old log)
    ∙ append_assoc (records_of payloads) (log.gate ∷ []) (body ++ drop (used + length body) old)

-- behind an open gate, a frame is one record more, and a closed gate
opened : (payloads : List (List ℕ)) (used : ℕ) (body tail old new : List ℕ) → IsLog payloads used old → IsFrame body → Staged payloads body 1 tail new → IsAppended payloads used body old new
opened payloads used body tail old new log frame staged =
    let payload = payload_in body in
    let spelled : body ++ tail ≡ little_bytes 4 (length payload) ++ payload ++ 0 ∷ tail =
    (ap (λ l. l ++ tail) frame.framed ∙ append_assoc (little_bytes 4 (length payload) ++ payload) (0 ∷ []) tail) in
    let long : length body ≡ length payload + 5 = omega (arith, ap length frame.framed, length-append (little_bytes 4 (length payload) ++ payload) (0 ∷ [])) in
    record {
      gate = 0;
      ignored = tail;
      split = staged ∙ ap (λ l. records_of payloads ++ 1 ∷ l) spelled ∙ sym (records_of-push payloads payload (0 ∷ tail));
      closed = omega arith;
      fit = all_append HasRecord payloads (payload ∷ []) log.fit (frame.fits, tt);
      used_is = omega (arith, log.used_is, long, length-records_of-push payloads payload);
    }

-- behind any gate, the log is as it was or has that record more
staged_log : (payloads : List (List ℕ)) (used : ℕ) (body : List ℕ) (gate : ℕ) (tail old new : List ℕ) → IsLog payloads used old → IsFrame body → Staged payloads body gate tail new → MayAppend payloads used body old new
staged_log payloads used body gate tail old new log frame staged = elim (cases_eq gate 1) [
  | inl is_open ↦ inr (opened payloads used body tail old new log frame (staged ∙ ap (λ g. records_of payloads ++ g ∷ (body ++ tail)) is_open))
  | inr is_closed ↦ inl (record { gate = gate; ignored = body ++ tail; split = staged; closed = is_closed; fit = log.fit; used_is = log.used_is })
]

-- ---- the disk

-- while the frame is written, a crash leaves the log
pub images_first : (area : ℕ) (payloads : List (List ℕ)) (used n : ℕ) (body : List ℕ) (before mid : ℕ) (past between : ℕ → Image → Type 0) → AllAreLogs area payloads used (past before)
    → Runs before mid past between (Changes area (MayTear used n)) → Runs before mid past between (Changes area (MayAppend payloads used body))
images_first area payloads used n body before mid past between all run = Runs-wider before mid past between _ _ run (λ old image was step. record {
  here = inl (torn_frame payloads used n (old area) (image area) (all.log old was) step.here);
  elsewhere = step.elsewhere;
})

module _ (area : ℕ) (payloads : List (List ℕ)) (used : ℕ) (body : List ℕ) (first second : Image) (log : IsLog payloads used (first area)) (frame : IsFrame body) (wrote : Changes area (IsWritten used body) first second) where
  staged : Staged payloads body log.gate (drop (used + length body) (first area)) (second area)
  staged = written_frame payloads used body (first area) (second area) log wrote.here

  front_long : length (records_of payloads) ≡ used - 1
  front_long = omega (arith, log.used_is)

  -- while the gate is opened, it leaves the log, or the log with one record more
  pub images_second : (before mid now : ℕ) (past between images : ℕ → Image → Type 0) → before < mid → AllAreLogs area payloads used (past before)
      → Runs before mid past between (Changes area (MayAppend payloads used body)) → LeavesOnly second (between mid) → Runs mid now between images (Changes area (MayTear (used - 1) 1))
      → Runs before now past images (Changes area (MayAppend payloads used body))
  images_second before mid now past between images rises all one only two = Runs-then before mid now past between images _ _ _ rises one two
      (λ old image was step. step)
      (λ old near image was step left tear. record {
        here =
            let is : near area ≡ records_of payloads ++ log.gate ∷ (body ++ drop (used + length body) (first area)) = ap (λ (i : Image). i area) (only near left) ∙ staged in
            staged_log payloads used body (get_or (image area) (used - 1) 0) (drop (used + length body) (first area)) (old area) (image area) (all.log old was) frame
            (torn_byte (records_of payloads) (body ++ drop (used + length body) (first area)) (used - 1) front_long log.gate (near area) (image area) is tear.here);
        elsewhere = λ other ne. tear.elsewhere other ne ∙ step.elsewhere other ne;
      })

  -- and once it is open, reads give one record more
  pub appended : (third : Image) → Changes area (IsWritten (used - 1) (1 ∷ [])) second third → Changes area (IsAppended payloads used body) first third
  appended third opens = record {
    here = opened payloads used body (drop (used + length body) (first area)) (first area) (third area) log frame
        (written_byte (records_of payloads) (body ++ drop (used + length body) (first area)) (used - 1) front_long log.gate 1 (second area) (third area) staged opens.here);
    elsewhere = λ other ne. opens.elsewhere other ne ∙ wrote.elsewhere other ne;
  }
