-- A piece of an area is torn or written, and what stands before and behind it stays.
use Rattle.std.proofs.Common.{◌≡◌, ℕ, ◌+◌, List, [], ◌∷◌, ◌++◌, length, get_or, take, drop, refl, sym, ◌∙◌, ap, arith, append_assoc, length-append, length-drop, take-append-drop}
use Rattle.std.proofs.lemmas.List.{length-take-le, take_at, drop_at, drop_more, drop-drop}
use Rattle.ct_faults.specs.Disk.{MayTear, IsWritten}

module _ (front behind : List ℕ) (at : ℕ) (size : length front ≡ at) where
  before_piece : (piece old : List ℕ) → old ≡ front ++ (piece ++ behind) → take at old ≡ front
  before_piece piece old is = ap (λ l. take at l) is ∙ take_at front (piece ++ behind) at size

  behind_piece : (piece old : List ℕ) (n : ℕ) → length piece ≡ n → old ≡ front ++ (piece ++ behind) → drop (at + n) old ≡ behind
  behind_piece piece old n same is =
      ap (λ l. drop (at + n) l) is ∙ sym (drop-drop n at (front ++ (piece ++ behind))) ∙ ap (λ l. drop n l) (drop_at front (piece ++ behind) at size) ∙ drop_at piece behind n same

  -- a torn piece keeps its length
  pub torn_size : (piece old new : List ℕ) (n : ℕ) → length piece ≡ n → old ≡ front ++ (piece ++ behind) → MayTear at n old new → length (take n (drop at new)) ≡ n
  torn_size piece old new n same is torn =
      length-take-le n (drop at new) (omega (arith, torn.shortest, size, same, ap length is, length-append front (piece ++ behind), length-append piece behind, length-drop at new))

  pub torn_piece : (piece old new : List ℕ) (n : ℕ) → length piece ≡ n → old ≡ front ++ (piece ++ behind) → MayTear at n old new → new ≡ front ++ (take n (drop at new) ++ behind)
  torn_piece piece old new n same is torn =
      let first : take at new ≡ front = torn.before at (omega arith) (omega (arith, size, ap length is, length-append front (piece ++ behind))) ∙ before_piece piece old is in
      let last : drop (at + n) new ≡ behind = torn.behind ∙ behind_piece piece old n same is in
      let middle : drop at new ≡ take n (drop at new) ++ behind = sym (take-append-drop n (drop at new)) ∙ ap (λ l. take n (drop at new) ++ l) (drop-drop n at new ∙ last) in
      sym (take-append-drop at new) ∙ (λ i. first i ++ middle i)

  pub written_piece : (piece other old new : List ℕ) (n : ℕ) → length piece ≡ n → length other ≡ n → old ≡ front ++ (piece ++ behind) → IsWritten at other old new → new ≡ front ++ (other ++ behind)
  written_piece piece other old new n same same_too is written =
      written ∙ (λ i. before_piece piece old is i ++ other ++ behind_piece piece old (length other) (same ∙ sym same_too) is i) ∙ append_assoc front other behind

  -- in the place of one byte a torn write leaves any byte
  pub torn_byte : (byte : ℕ) (old new : List ℕ) → old ≡ front ++ byte ∷ behind → MayTear at 1 old new → new ≡ front ++ get_or new at 0 ∷ behind
  torn_byte byte old new is torn =
      torn_piece (byte ∷ []) old new 1 refl is torn
      ∙ ap (λ l. front ++ (take 1 l ++ behind)) (drop_more new at 0 (omega (arith, torn.shortest, size, ap length is, length-append front (byte ∷ behind))))

  pub written_byte : (byte other : ℕ) (old new : List ℕ) → old ≡ front ++ byte ∷ behind → IsWritten at (other ∷ []) old new → new ≡ front ++ other ∷ behind
  written_byte byte other old new is written = written_piece (byte ∷ []) (other ∷ []) old new 1 refl refl is written
