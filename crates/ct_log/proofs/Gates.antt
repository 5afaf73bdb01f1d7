-- What stands at a gate.
use Rattle.std.proofs.Common.{◌≡◌, ◌⊎◌, inl, inr, ⊎_elim, ℕ, ◌+◌, ◌-◌, ◌<◌, ◌≤◌, ◌^◌, List, [], ◌∷◌, ◌++◌, length, get_or, take, drop, Some, None, refl, sym, ◌∙◌, ap, subst, arith, length-append, length-drop, take-append-drop}
use Rattle.std.specs.List.{slice_range, AllByRecursion}
use Rattle.std.proofs.lemmas.List.{length-take-le, drop_at, drop_more, drop-drop}
use Rattle.byteorder.specs.Endian.{little_number, little_bytes}
use Rattle.byteorder.specs.Numbers.{little_number-reads_back}
use Rattle.ct_types.proofs.Lists.{all_append}
use Rattle.ct_log.specs.Log.{record_of, records_of, HasRecord, BeginsWith, IsClosed, IsBroken, IsLog, Breaks}
use Rattle.ct_log.specs.Reading.{IsOpen, IsWholeExactly, IsRecordAt}
use Rattle.ct_log.proofs.Records.{length-record_of, records_of-push, length-records_of-push}

-- too few bytes for a record and a gate
pub too_short : (payload bytes : List ℕ) → length bytes < 6 → BeginsWith payload bytes → ⊥
too_short payload bytes short begins =
    absurd (omega (arith, begins.gate, ap length begins.split, length-append (record_of payload) begins.behind, length-record_of payload))

-- the length that is stated is that of the payload
stated : (payload bytes : List ℕ) (size : ℕ) → size < 2 ^ 32 → take 4 (drop 1 bytes) ≡ little_bytes 4 size → BeginsWith payload bytes → size ≡ length payload
stated payload bytes size small is begins =
    sym (little_number-reads_back 4 size [] small)
    ∙ ap (λ l. little_number 4 (l ++ [])) (sym is)
    ∙ ap (λ l. little_number 4 (take 4 (drop 1 l) ++ [])) begins.split
    ∙ little_number-reads_back 4 (length payload) [] begins.fits

-- where it runs to the end, no record with a gate stands here
pub too_long : (payload bytes : List ℕ) (size : ℕ) → size < 2 ^ 32 → take 4 (drop 1 bytes) ≡ little_bytes 4 size → length bytes ≤ size + 5 → BeginsWith payload bytes → ⊥
too_long payload bytes size small is long begins =
    absurd (omega (arith, begins.gate, stated payload bytes size small is begins, ap length begins.split, length-append (record_of payload) begins.behind, length-record_of payload))

-- and else one does
pub stands_whole : (bytes : List ℕ) (size : ℕ) → IsOpen bytes → size < 2 ^ 32 → take 4 (drop 1 bytes) ≡ little_bytes 4 size → size + 5 < length bytes → BeginsWith (take size (drop 5 bytes)) bytes
stands_whole bytes size is_open small is long =
    let payload = take size (drop 5 bytes) in
    let exact : length payload ≡ size = length-take-le size (drop 5 bytes) (omega (arith, length-drop 5 bytes)) in
    let behind = drop size (drop 5 bytes) in
    record {
      behind = behind;
      split =
          is_open
          ∙ ap (λ l. 1 ∷ l) (
          sym (take-append-drop 4 (drop 1 bytes))
          ∙ (λ i. is i ++ drop-drop 4 1 bytes i)
          ∙ ap (λ l. little_bytes 4 size ++ l) (sym (take-append-drop size (drop 5 bytes)))
          ∙ ap (λ n. little_bytes 4 n ++ (payload ++ behind)) (sym exact)
          );
      fits = omega (arith, exact, small);
      gate = omega (arith, long, length-drop size (drop 5 bytes), length-drop 5 bytes);
    }

-- so far only records were read, with these payloads, and at this offset the next gate is expected
pub record ReadsUpTo (bytes : List ℕ) (payloads : List (List ℕ)) (at : ℕ) : Type 0 where
  pub split : bytes ≡ records_of payloads ++ drop at bytes
  pub gate : (payloads ≡ []) ⊎ (at < length bytes)
  pub fit : AllByRecursion HasRecord payloads
  pub at_is : at ≡ length (records_of payloads)
  pub within : at ≤ length bytes

pub reads_nothing : (bytes : List ℕ) → ReadsUpTo bytes [] 0
reads_nothing bytes = record { split = refl; gate = inl refl; fit = tt; at_is = refl; within = omega arith }

pub reads_record : (bytes : List ℕ) (payloads : List (List ℕ)) (at from to : ℕ) → ReadsUpTo bytes payloads at → IsRecordAt at from to bytes → ReadsUpTo bytes (payloads ++ slice_range bytes from to ∷ []) to
reads_record bytes payloads at from to so_far here =
    let payload = slice_range bytes from to in
    let exact : length payload ≡ to - from = length-take-le (to - from) (drop from bytes) (omega (arith, here.within, length-drop from bytes)) in
    let to_is : at + (length payload + 5) ≡ to = omega (arith, exact, here.from_is, here.forward) in
    let behind : here.begins.behind ≡ drop to bytes =
    (sym (drop_at (record_of payload) here.begins.behind (length payload + 5) (length-record_of payload))
    ∙ ap (λ l. drop (length payload + 5) l) (sym here.begins.split)
    ∙ drop-drop (length payload + 5) at bytes
    ∙ ap (λ n. drop n bytes) to_is) in
    record {
      split =
          so_far.split
          ∙ ap (λ l. records_of payloads ++ l) (here.begins.split ∙ ap (λ l. record_of payload ++ l) behind)
          ∙ sym (records_of-push payloads payload (drop to bytes));
      gate = inr here.within;
      fit = all_append HasRecord payloads (payload ∷ []) so_far.fit (here.begins.fits, tt);
      at_is = omega (arith, so_far.at_is, to_is, length-records_of-push payloads payload);
      within = omega (arith, here.within);
    }

pub reads_log : (bytes : List ℕ) (payloads : List (List ℕ)) (at : ℕ) → ReadsUpTo bytes payloads at → IsClosed (drop at bytes) → IsLog payloads (at + 1) bytes
reads_log bytes payloads at so_far here = record {
  gate = here.gate;
  ignored = here.ignored;
  split = so_far.split ∙ ap (λ l. records_of payloads ++ l) here.split;
  closed = here.closed;
  fit = so_far.fit;
  used_is = ap (λ n. n + 1) so_far.at_is;
}

pub reads_break : (bytes : List ℕ) (payloads : List (List ℕ)) (at : ℕ) → ReadsUpTo bytes payloads at → IsBroken (drop at bytes) → Breaks payloads at bytes
reads_break bytes payloads at so_far here = record {
  rest = drop at bytes;
  split = so_far.split;
  gate = ⊎_elim (λ none. inl none) (λ some. inr (omega (arith, some, length-drop at bytes))) so_far.gate;
  broken = here;
  fit = so_far.fit;
  offset_is = so_far.at_is;
}

-- what stands at a gate, from what is told of the bytes from it on
pub record_here : (bytes rest : List ℕ) (at size : ℕ) → rest ≡ drop at bytes → at ≤ length bytes → IsWholeExactly rest (Some size) → IsRecordAt at (at + 5) (at + 5 + size) bytes
record_here bytes rest at size is le whole =
    let long : length rest ≡ length bytes - at = ap length is ∙ length-drop at bytes in
    let count : size ≡ at + 5 + size - (at + 5) = omega arith in
    let start : drop 5 rest ≡ drop (at + 5) bytes = ap (λ l. drop 5 l) is ∙ drop-drop 5 at bytes in
    let same : take size (drop 5 rest) ≡ slice_range bytes (at + 5) (at + 5 + size) = (λ i. take (count i) (start i)) in
    record {
      begins = subst (λ payload. BeginsWith payload (drop at bytes)) same (subst (λ l. BeginsWith (take size (drop 5 rest)) l) is whole.1);
      from_is = refl;
      forward = omega arith;
      within = omega (arith, le, long, whole.0);
    }

pub broken_here : (bytes rest : List ℕ) (at : ℕ) → rest ≡ drop at bytes → at < length bytes → get_or bytes at 0 ≡ 1 → IsWholeExactly rest None → IsBroken (drop at bytes)
broken_here bytes rest at is within is_open none = record {
  not_closed = λ shut.
      let first : get_or bytes at 0 ∷ drop (at + 1) bytes ≡ shut.gate ∷ shut.ignored = sym (drop_more bytes at 0 within) ∙ shut.split in
      shut.closed (cc (first, is_open));
  no_record = λ payload begins. none payload (subst (λ l. BeginsWith payload l) (sym is) begins);
}
