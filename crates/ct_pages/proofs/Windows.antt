-- The slots as windows of sixteen bytes, and what another slot in one of them changes.
use Rattle.std.proofs.Common.{◌≡◌, ℕ, ◌+◌, ◌<◌, ◌≤◌, List, [], ◌∷◌, ◌++◌, length, get_or, take, drop, sym, ◌∙◌, ap, arith, append_assoc, length-append, take-append-drop}
use Rattle.std.proofs.lemmas.List.{length-take-le, length-drop, take_at, drop_at, drop-drop, drop-take, take-take, take-append-le, drop-append-le}
use Rattle.ct_faults.specs.Disk.{MayTear, IsWritten}
use Rattle.ct_log.proofs.Pieces.{torn_size, torn_piece, written_piece, torn_byte, written_byte}
use Rattle.ct_pages.specs.Slots.{offset_of, slot_at, IsMarked}
use Rattle.ct_pages.specs.Flips.{with_slot}

-- ---- one slot in its place

module _ (place : ℕ) (bytes : List ℕ) (long : offset_of place + 16 ≤ length bytes) where
  front_size : length (take (offset_of place) bytes) ≡ offset_of place
  front_size = length-take-le (offset_of place) bytes (omega (arith, long))

  pub slot_size : length (slot_at place bytes) ≡ 16
  slot_size = length-take-le 16 (drop (offset_of place) bytes) (omega (arith, long, length-drop (offset_of place) bytes))

  pub length-with_slot : (slot : List ℕ) → length slot ≡ 16 → length (with_slot place slot bytes) ≡ length bytes
  length-with_slot slot size =
      let rest = drop (offset_of place + 16) bytes in
      omega (arith, long, size, front_size, length-append (take (offset_of place) bytes) (slot ++ rest), length-append slot rest, length-drop (offset_of place + 16) bytes)

  -- the slot that stands there stands there
  pub with_own : with_slot place (slot_at place bytes) bytes ≡ bytes
  with_own =
      let o = offset_of place in
      ap (λ l. take o bytes ++ l) (ap (λ l. slot_at place bytes ++ l) (sym (drop-drop 16 o bytes)) ∙ take-append-drop 16 (drop o bytes)) ∙ take-append-drop o bytes

  behind_slot : (slot : List ℕ) → length slot ≡ 16 → drop (offset_of place + 16) (with_slot place slot bytes) ≡ drop (offset_of place + 16) bytes
  behind_slot slot size =
      let o = offset_of place in
      let rest = drop (o + 16) bytes in
      sym (drop-drop 16 o (with_slot place slot bytes)) ∙ ap (λ l. drop 16 l) (drop_at (take o bytes) (slot ++ rest) o front_size) ∙ drop_at slot rest 16 size

  pub slot_there : (slot : List ℕ) → length slot ≡ 16 → slot_at place (with_slot place slot bytes) ≡ slot
  slot_there slot size =
      let o = offset_of place in
      let rest = drop (o + 16) bytes in
      ap (λ l. take 16 l) (drop_at (take o bytes) (slot ++ rest) o front_size) ∙ take_at slot rest 16 size

  pub front_stays : (n : ℕ) (slot : List ℕ) → n ≤ offset_of place → take n (with_slot place slot bytes) ≡ take n bytes
  front_stays n slot le =
      let o = offset_of place in
      take-append-le n (take o bytes) (slot ++ drop (o + 16) bytes) (omega (arith, front_size, le)) ∙ take-take n o bytes le

  -- ---- what a write of a slot leaves, torn or whole

  -- one that is torn in its gate has some gate
  pub torn_gate : (gate : ℕ) (body old new : List ℕ) → old ≡ with_slot place (gate ∷ body) bytes → MayTear (offset_of place) 1 old new → new ≡ with_slot place (get_or new (offset_of place) 0 ∷ body) bytes
  torn_gate gate body old new is torn = torn_byte (take (offset_of place) bytes) (body ++ drop (offset_of place + 16) bytes) (offset_of place) front_size gate old new is torn

  pub written_gate : (gate other : ℕ) (body old new : List ℕ) → old ≡ with_slot place (gate ∷ body) bytes → IsWritten (offset_of place) (other ∷ []) old new → new ≡ with_slot place (other ∷ body) bytes
  written_gate gate other body old new is written = written_byte (take (offset_of place) bytes) (body ++ drop (offset_of place + 16) bytes) (offset_of place) front_size gate other old new is written

  gate_in_front : (gate : ℕ) (body : List ℕ) → with_slot place (gate ∷ body) bytes ≡ (take (offset_of place) bytes ++ gate ∷ []) ++ (body ++ drop (offset_of place + 16) bytes)
  gate_in_front gate body = sym (append_assoc (take (offset_of place) bytes) (gate ∷ []) (body ++ drop (offset_of place + 16) bytes))

  gate_size : (gate : ℕ) → length (take (offset_of place) bytes ++ gate ∷ []) ≡ offset_of place + 1
  gate_size gate = omega (arith, front_size, length-append (take (offset_of place) bytes) (gate ∷ []))

  -- one that is torn behind its gate has that gate, and fifteen bytes behind it
  pub torn_body : (gate : ℕ) (body old new : List ℕ) → length body ≡ 15 → old ≡ with_slot place (gate ∷ body) bytes → MayTear (offset_of place + 1) 15 old new
      → (new ≡ with_slot place (gate ∷ take 15 (drop (offset_of place + 1) new)) bytes) × (length (take 15 (drop (offset_of place + 1) new)) ≡ 15)
  torn_body gate body old new size is torn =
      let o = offset_of place in
      let front = take o bytes ++ gate ∷ [] in
      let behind = drop (o + 16) bytes in
      let there : old ≡ front ++ (body ++ behind) = is ∙ gate_in_front gate body in (
        torn_piece front behind (o + 1) (gate_size gate) body old new 15 size there torn ∙ sym (gate_in_front gate (take 15 (drop (o + 1) new))),
        torn_size front behind (o + 1) (gate_size gate) body old new 15 size there torn,
      )

  pub written_body : (gate : ℕ) (body other old new : List ℕ) → length body ≡ 15 → length other ≡ 15 → old ≡ with_slot place (gate ∷ body) bytes → IsWritten (offset_of place + 1) other old new → new ≡ with_slot place (gate ∷ other) bytes
  written_body gate body other old new size size_too is written =
      let o = offset_of place in
      let front = take o bytes ++ gate ∷ [] in
      written_piece front (drop (o + 16) bytes) (o + 1) (gate_size gate) body other old new 15 size size_too (is ∙ gate_in_front gate body) written ∙ sym (gate_in_front gate other)

-- ---- the other slot

pub zero_stays : (bytes slot : List ℕ) → 40 ≤ length bytes → slot_at 0 (with_slot 1 slot bytes) ≡ slot_at 0 bytes
zero_stays bytes slot long =
    let front = take 24 bytes in
    let size : length front ≡ 24 = length-take-le 24 bytes (omega (arith, long)) in
    ap (λ l. take 16 l) (drop-append-le 8 front (slot ++ drop 40 bytes) (omega (arith, size)))
    ∙ take-append-le 16 (drop 8 front) (slot ++ drop 40 bytes) (omega (arith, size, length-drop 8 front))
    ∙ ap (λ l. take 16 l) (drop-take 8 16 bytes)
    ∙ take-take 16 16 (drop 8 bytes) (omega arith)

pub one_stays : (bytes slot : List ℕ) → 40 ≤ length bytes → length slot ≡ 16 → slot_at 1 (with_slot 0 slot bytes) ≡ slot_at 1 bytes
one_stays bytes slot long size =
    ap (λ l. take 16 l) (behind_slot 0 bytes (omega (arith, long)) slot size)

pub marked_stays : (place : ℕ) (bytes slot : List ℕ) → place < 2 → length slot ≡ 16 → IsMarked bytes → IsMarked (with_slot place slot bytes)
marked_stays place bytes slot below size marked =
    let long : offset_of place + 16 ≤ length bytes = omega (arith, below, marked.long) in
    record {
      long = omega (arith, marked.long, length-with_slot place bytes long slot size);
      marked = front_stays place bytes long 8 slot (omega arith) ∙ marked.marked;
    }
