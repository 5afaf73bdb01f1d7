-- A slot is closed, and another one put in its place: what a crash may leave, call by call.
use Rattle.std.proofs.Common.{◌≡◌, ◌≢◌, inl, inr, ⊎_elim, ℕ, ◌+◌, ◌-◌, ◌%◌, ◌<◌, ◌≤◌, List, [], ◌∷◌, length, get_or, take, drop, refl, sym, ◌∙◌, ap, subst, arith, length-drop}
use Rattle.std.proofs.lemmas.Bool.{cases_eq}
use Rattle.std.proofs.lemmas.List.{take_all, drop_more}
use Rattle.ct_faults.specs.Disk.{Image, Changes, IsWritten, MayTear, Runs, Same, LeavesOnly}
use Rattle.ct_faults.proofs.Moments.{Runs-then, Runs-wider, Runs-more}
use Rattle.ct_log.specs.Reading.{IsOpen}
use Rattle.ct_pages.specs.declared.slot.Super.{Super}
use Rattle.ct_pages.specs.Slots.{IsCanonical, spelled, offset_of, slot_at, Names}
use Rattle.ct_pages.specs.Flips.{SameHead, IsFlipped, MayFlip, with_slot, IsClosedSlot, IsShut, MayShut, IsPut, MayPut}
use Rattle.ct_pages.proofs.Windows.{slot_size, with_own, torn_gate, written_gate, torn_body, written_body}
use Rattle.ct_pages.proofs.Decoding.{length-spelled, opened-spelled}
use Rattle.ct_pages.proofs.Turning.{closed_is_ignored, next_is_current}
use Rattle.ct_pages.proofs.Moves.{Runs-after, same_after, both_heads}

-- ---- gates

closed_gate : (gate : ℕ) (body : List ℕ) → length body ≡ 15 → gate ≢ 1 → IsClosedSlot (gate ∷ body)
closed_gate gate body size closed = record { size = omega (arith, size); closed = λ opens. closed (cc opens) }

-- sixteen bytes are a gate and fifteen bytes
gate_first : (slot : List ℕ) → length slot ≡ 16 → slot ≡ get_or slot 0 0 ∷ drop 1 slot
gate_first slot size = drop_more slot 0 0 (omega (arith, size))

behind_gate : (slot : List ℕ) → length slot ≡ 16 → length (drop 1 slot) ≡ 15
behind_gate slot size = omega (arith, size, length-drop 1 slot)

gate_is_closed : (slot : List ℕ) → length slot ≡ 16 → (IsOpen slot → ⊥) → get_or slot 0 0 ≢ 1
gate_is_closed slot size closed e = closed (gate_first slot size ∙ ap (λ g. g ∷ drop 1 slot) e)

-- ---- a slot is closed

-- where it is closed already, area 0 stays
pub shut_already : (place : ℕ) (bytes : List ℕ) → offset_of place + 16 ≤ length bytes → (IsOpen (slot_at place bytes) → ⊥) → IsShut place bytes bytes
shut_already place bytes long closed = (slot_at place bytes, record { size = slot_size place bytes long; closed = closed }, sym (with_own place bytes long))

-- area 0 by the gate of the slot
with_gate : (place : ℕ) (bytes : List ℕ) → offset_of place + 16 ≤ length bytes → bytes ≡ with_slot place (get_or (slot_at place bytes) 0 0 ∷ drop 1 (slot_at place bytes)) bytes
with_gate place bytes long = sym (with_own place bytes long) ∙ ap (λ slot. with_slot place slot bytes) (gate_first (slot_at place bytes) (slot_size place bytes long))

-- an open slot that is torn in its gate is as it was, or closed
pub torn_shut : (place : ℕ) (old new : List ℕ) → offset_of place + 16 ≤ length old → IsOpen (slot_at place old) → MayTear (offset_of place) 1 old new → MayShut place old new
torn_shut place old new long opens torn =
    let slot = slot_at place old in
    let body = drop 1 slot in
    let gate = get_or new (offset_of place) 0 in
    let is : new ≡ with_slot place (gate ∷ body) old = torn_gate place old long (get_or slot 0 0) body old new (with_gate place old long) torn in
    ⊎_elim
    (λ e. inl (is ∙ ap (λ g. with_slot place (g ∷ body) old) e ∙ ap (λ l. with_slot place l old) (sym opens) ∙ with_own place old long))
    (λ ne. inr (gate ∷ body, closed_gate gate body (behind_gate slot (slot_size place old long)) ne, is))
    (cases_eq gate 1)

pub written_shut : (place : ℕ) (old new : List ℕ) → offset_of place + 16 ≤ length old → IsWritten (offset_of place) (0 ∷ []) old new → IsShut place old new
written_shut place old new long written =
    let slot = slot_at place old in
    let body = drop 1 slot in (
      0 ∷ body,
      closed_gate 0 body (behind_gate slot (slot_size place old long)) (λ e. absurd (omega (arith, e))),
      written_gate place old long (get_or slot 0 0) 0 body old new (with_gate place old long) written,
    )

-- ---- a slot is put behind its closed gate

-- while its bytes behind the gate are torn, it is closed
pub torn_behind : (place : ℕ) (old new : List ℕ) → offset_of place + 16 ≤ length old → (IsOpen (slot_at place old) → ⊥) → MayTear (offset_of place + 1) 15 old new → IsShut place old new
torn_behind place old new long closed torn =
    let slot = slot_at place old in
    let size = slot_size place old long in
    let gate = get_or slot 0 0 in
    let there = torn_body place old long gate (drop 1 slot) old new (behind_gate slot size) (with_gate place old long) torn in
    (gate ∷ take 15 (drop (offset_of place + 1) new), closed_gate gate (take 15 (drop (offset_of place + 1) new)) there.1 (gate_is_closed slot size closed), there.0)

-- once they are written, it is closed, and those behind its gate are the new ones
pub written_behind : (place : ℕ) (old new body : List ℕ) → offset_of place + 16 ≤ length old → length body ≡ 15 → IsWritten (offset_of place + 1) body old new → new ≡ with_slot place (get_or (slot_at place old) 0 0 ∷ body) old
written_behind place old new body long size written =
    let slot = slot_at place old in
    written_body place old long (get_or slot 0 0) (drop 1 slot) body old new (behind_gate slot (slot_size place old long)) size (with_gate place old long) written

-- the bytes behind the gate of a spelling
pub body_of : (slot : Super) (bytes : List ℕ) → bytes ≡ spelled slot → take 15 (drop 1 bytes) ≡ drop 1 (spelled slot)
body_of slot bytes is = ap (λ l. take 15 (drop 1 l)) is ∙ take_all 15 (drop 1 (spelled slot)) (omega (arith, behind_gate (spelled slot) (length-spelled slot)))

slot_of_body : (slot : Super) (body : List ℕ) → body ≡ drop 1 (spelled slot) → 1 ∷ body ≡ spelled slot
slot_of_body slot body is = ap (λ l. 1 ∷ l) is ∙ sym (opened-spelled slot)

-- while its gate is torn, it is closed or there
pub torn_put : (place gate : ℕ) (old near new body : List ℕ) (slot : Super) → offset_of place + 16 ≤ length old → body ≡ drop 1 (spelled slot) → near ≡ with_slot place (gate ∷ body) old → MayTear (offset_of place) 1 near new → MayPut place slot old new
torn_put place gate old near new body slot long is_body is_near torn =
    let g = get_or new (offset_of place) 0 in
    let is : new ≡ with_slot place (g ∷ body) old = torn_gate place old long gate body near new is_near torn in
    let size : length body ≡ 15 = ap length is_body ∙ behind_gate (spelled slot) (length-spelled slot) in
    ⊎_elim
    (λ e. inr (is ∙ ap (λ x. with_slot place (x ∷ body) old) e ∙ ap (λ l. with_slot place l old) (slot_of_body slot body is_body)))
    (λ ne. inl (g ∷ body, closed_gate g body size ne, is))
    (cases_eq g 1)

pub written_put : (place gate : ℕ) (old near new body : List ℕ) (slot : Super) → offset_of place + 16 ≤ length old → body ≡ drop 1 (spelled slot) → near ≡ with_slot place (gate ∷ body) old → IsWritten (offset_of place) (1 ∷ []) near new → IsPut place slot old new
written_put place gate old near new body slot long is_body is_near written =
    written_gate place old long gate 1 body near new is_near written
    ∙ ap (λ l. with_slot place l old) (slot_of_body slot body is_body)

-- ---- what a crash may leave, where area 0 is the same in each image as the calls begin

module _ (place : ℕ) (content : Image) (long : offset_of place + 16 ≤ length (content 0)) (at : ℕ) (is_at : at ≡ offset_of place) where
  long_there : (old : Image) → old 0 ≡ content 0 → offset_of place + 16 ≤ length (old 0)
  long_there old same = omega (arith, long, ap length same)

  stays_shut : (image : Image) → Changes 0 (MayShut place) image image
  stays_shut image = record { here = inl refl; elsewhere = λ other ne. refl }

  -- a read finds the slot open, and its gate is torn
  pub shut_by_write : (before mid now : ℕ) (past between images : ℕ → Image → Type 0) → IsOpen (slot_at place (content 0)) → SameHead content (past before)
      → Runs before mid past between Same → Runs mid now between images (Changes 0 (MayTear at 1)) → Runs before now past images (Changes 0 (MayShut place))
  shut_by_write before mid now past between images opens same read one =
      let same_mid = same_after before mid past between content content read same refl in
      Runs-after before mid now past between images (Changes 0 (MayShut place)) (λ image was. stays_shut image) read
      (Runs-wider mid now between images (Changes 0 (MayTear at 1)) (Changes 0 (MayShut place)) one (λ old image was step. record {
        here =
            let is = same_mid old was in
            torn_shut place (old 0) (image 0) (long_there old is) (subst (λ l. IsOpen (slot_at place l)) (sym is) opens) (subst (λ o. MayTear o 1 (old 0) (image 0)) is_at step.here);
        elsewhere = step.elsewhere;
      }))

  pub shut_done : (new : Image) → Changes 0 (IsWritten at (0 ∷ [])) content new → Changes 0 (IsShut place) content new
  shut_done new wrote = record { here = written_shut place (content 0) (new 0) long (subst (λ o. IsWritten o (0 ∷ []) (content 0) (new 0)) is_at wrote.here); elsewhere = wrote.elsewhere }

  module _ (slot : Super) (body : List ℕ) (is_body : body ≡ drop 1 (spelled slot)) where
    size_of_body : length body ≡ 15
    size_of_body = ap length is_body ∙ behind_gate (spelled slot) (length-spelled slot)

    -- the bytes behind the gate are torn
    pub put_first : (before mid : ℕ) (past between : ℕ → Image → Type 0) → (IsOpen (slot_at place (content 0)) → ⊥) → SameHead content (past before)
        → Runs before mid past between (Changes 0 (MayTear (at + 1) (length body))) → Runs before mid past between (Changes 0 (MayPut place slot))
    put_first before mid past between closed same one =
        Runs-wider before mid past between (Changes 0 (MayTear (at + 1) (length body))) (Changes 0 (MayPut place slot)) one (λ old image was step. record {
          here =
              let is = same old was in
              let torn : MayTear (offset_of place + 1) 15 (old 0) (image 0) = subst (λ n. MayTear (offset_of place + 1) n (old 0) (image 0)) size_of_body (subst (λ o. MayTear (o + 1) (length body) (old 0) (image 0)) is_at step.here) in
              inl (torn_behind place (old 0) (image 0) (long_there old is) (λ opens. closed (subst (λ l. IsOpen (slot_at place l)) is opens)) torn);
          elsewhere = step.elsewhere;
        })

    module _ (near_content : Image) (wrote : Changes 0 (IsWritten (at + 1) body) content near_content) where
      abbrev gate : ℕ
      gate = get_or (slot_at place (content 0)) 0 0

      staged : near_content 0 ≡ with_slot place (gate ∷ body) (content 0)
      staged = written_behind place (content 0) (near_content 0) body long size_of_body (subst (λ o. IsWritten (o + 1) body (content 0) (near_content 0)) is_at wrote.here)

      torn_there : (again : ℕ) (old near image : Image) → again ≡ offset_of place → old 0 ≡ content 0 → near ≡ near_content → MayTear again 1 (near 0) (image 0) → MayPut place slot (old 0) (image 0)
      torn_there again old near image is_again same is torn =
          torn_put place gate (old 0) (near 0) (image 0) body slot (long_there old same) is_body
          (ap (λ (i : Image). i 0) is ∙ staged ∙ ap (λ l. with_slot place (gate ∷ body) l) (sym same))
          (subst (λ o. MayTear o 1 (near 0) (image 0)) is_again torn)

      -- and then the gate
      pub put_second : (again before mid now : ℕ) (past between images : ℕ → Image → Type 0) → again ≡ offset_of place → before < mid → (IsOpen (slot_at place (content 0)) → ⊥) → SameHead content (past before)
          → Runs before mid past between (Changes 0 (MayTear (at + 1) (length body))) → LeavesOnly near_content (between mid) → Runs mid now between images (Changes 0 (MayTear again 1))
          → Runs before now past images (Changes 0 (MayPut place slot))
      put_second again before mid now past between images is_again rises closed same one only two =
          Runs-then before mid now past between images (Changes 0 (MayPut place slot)) (Changes 0 (MayTear again 1)) (Changes 0 (MayPut place slot)) rises (put_first before mid past between closed same one) two
          (λ old image was step. step)
          (λ old near image was step left tear. record {
            here = torn_there again old near image is_again (same old was) (only near left) tear.here;
            elsewhere = λ other ne. tear.elsewhere other ne ∙ step.elsewhere other ne;
          })

      pub put_done : (again : ℕ) (new : Image) → again ≡ offset_of place → Changes 0 (IsWritten again (1 ∷ [])) near_content new → Changes 0 (IsPut place slot) content new
      put_done again new is_again opens = record {
        here = written_put place gate (content 0) (near_content 0) (new 0) body slot long is_body staged (subst (λ o. IsWritten o (1 ∷ []) (near_content 0) (new 0)) is_again opens.here);
        elsewhere = λ other ne. opens.elsewhere other ne ∙ wrote.elsewhere other ne;
      }

-- a read finds the slot closed
pub shut_stays : (place : ℕ) (content new : Image) → offset_of place + 16 ≤ length (content 0) → (IsOpen (slot_at place (content 0)) → ⊥) → new ≡ content → Changes 0 (IsShut place) content new
shut_stays place content new long closed same =
    subst (λ (i : Image). Changes 0 (IsShut place) content i) (sym same) (record { here = shut_already place (content 0) long closed; elsewhere = λ other ne. refl })

-- ---- a flip

module _ (place : ℕ) (old new : Super) (canonical : IsCanonical new) (turn : new.turn ≡ (old.turn + 1) % 4) (is_other : place ≡ 1 - old.turn % 2) where
  shut_keeps : (bytes near : List ℕ) → Names bytes old → IsShut place bytes near → Names near old
  shut_keeps bytes near names shut =
      subst (λ l. Names l old) (ap (λ p. with_slot p shut.0 bytes) (sym is_other) ∙ sym shut.2) (closed_is_ignored bytes shut.0 old shut.1 names)

  put_turns : (bytes near : List ℕ) → Names bytes old → IsPut place new bytes near → Names near new
  put_turns bytes near names put =
      subst (λ l. Names l new) (ap (λ p. with_slot p (spelled new) bytes) (sym is_other) ∙ sym put) (next_is_current bytes old new canonical turn names)

  module _ (content : Image) (names : Names (content 0) old) where
    names_there : (image : Image) → image 0 ≡ content 0 → Names (image 0) old
    names_there image same = subst (λ l. Names l old) (sym same) names

    -- while the other slot is closed, the old one is current
    pub flip_first : (before mid : ℕ) (past between : ℕ → Image → Type 0) → SameHead content (past before)
        → Runs before mid past between (Changes 0 (MayShut place)) → Runs before mid past between (Changes 0 (MayFlip old new))
    flip_first before mid past between same one =
        Runs-wider before mid past between (Changes 0 (MayShut place)) (Changes 0 (MayFlip old new)) one (λ from image was step. record {
          here = inl (⊎_elim
              (λ e. names_there image (e ∙ same from was))
              (λ shut. shut_keeps (from 0) (image 0) (names_there from (same from was)) shut)
              step.here);
          elsewhere = step.elsewhere;
        })

    module _ (near_content : Image) (shut : Changes 0 (IsShut place) content near_content) where
      names_near : Names (near_content 0) old
      names_near = shut_keeps (content 0) (near_content 0) names shut.here

      put_flips : (near image : Image) → near 0 ≡ near_content 0 → Changes 0 (MayPut place new) near image → Changes 0 (MayFlip old new) near image
      put_flips near image is step =
          let there : Names (near 0) old = subst (λ l. Names l old) (sym is) names_near in
          record {
            here = ⊎_elim (λ closed. inl (shut_keeps (near 0) (image 0) there closed)) (λ put. inr (put_turns (near 0) (image 0) there put)) step.here;
            elsewhere = step.elsewhere;
          }

      -- while the new slot is put there, the old one is current or the new
      pub flip_second : (before mid now : ℕ) (past between images : ℕ → Image → Type 0) → SameHead content (past before) → SameHead near_content (between mid)
          → Runs before mid past between (Changes 0 (MayShut place)) → Runs mid now between images (Changes 0 (MayPut place new)) → Runs before now past images (Changes 0 (MayFlip old new))
      flip_second before mid now past between images same same_near one two =
          Runs-more before mid now past between images (Changes 0 (MayFlip old new)) (flip_first before mid past between same one)
          (Runs-wider mid now between images (Changes 0 (MayPut place new)) (Changes 0 (MayFlip old new)) two (λ near image was step. put_flips near image (same_near near was) step))
          (λ from near image a b. both_heads (MayFlip old new) (MayFlip old new) (MayFlip old new) from near image a b (λ x y. y))

      pub flip_done : (last : Image) → Changes 0 (IsPut place new) near_content last → Changes 0 (IsFlipped new) content last
      flip_done last put =
          both_heads (IsShut place) (IsPut place new) (IsFlipped new) content near_content last shut put (λ x y. put_turns (near_content 0) (last 0) names_near y)
