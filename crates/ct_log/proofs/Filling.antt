-- Reading into a buffer, piece by piece.
use Rattle.std.proofs.Common.{◌≡◌, ℕ, ◌+◌, ◌≤◌, List, ◌++◌, length, take, drop, sym, ◌∙◌, ap, arith}
use Rattle.std.proofs.Math.Seq.{take-add}
use Rattle.std.proofs.lemmas.List.{length-take-le, take-append-le, drop_at}
use Rattle.std.proofs.lemmas.Slice.{take-put_mid_below}
use borrow.Rule.Slice.PartMut.{put_mid, post_of}

-- a buffer that is filled up to an offset, and the bytes that a read put behind it
pub filled_more : (old new area : List ℕ) (at rest n : ℕ) → at ≤ length old → take at old ≡ take at area → n ≤ length new → take n new ≡ take n (drop at area) → take (at + n) (put_mid at rest old new) ≡ take (at + n) area
filled_more old new area at rest n within so_far fits more =
    let below : take at (put_mid at rest old new) ≡ take at old = take-put_mid_below at rest old new at (omega arith) within in
    let behind : drop at (put_mid at rest old new) ≡ new ++ post_of at rest old = drop_at (take at old) (new ++ post_of at rest old) at (length-take-le at old within) in
    let read : take n (drop at (put_mid at rest old new)) ≡ take n (drop at area) = ap (λ l. take n l) behind ∙ take-append-le n new (post_of at rest old) fits ∙ more in
    take-add at n (put_mid at rest old new) ∙ (λ i. (below ∙ so_far) i ++ read i) ∙ sym (take-add at n area)
