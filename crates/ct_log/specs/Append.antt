-- How a record is added to a log, and what a crash may leave of that. This project's own.
--
-- The record's frame, which ends with a closed gate, is written behind the closed gate of the log and made durable. Only
-- then the old gate is opened. So at each moment the area has the records that it had, or one more.
use Rattle.std.specs.Prelude.{◌≡◌, ◌⊎◌, ℕ, ◌+◌, ◌-◌, ◌<◌, ◌≤◌, List, [], ◌∷◌, ◌++◌, length, take, drop, Result, Ok, Err}
use Rattle.byteorder.specs.Endian.{little_bytes}
use Rattle.ct_faults.specs.Disk.{Image}
use Rattle.ct_log.specs.Log.{HasRecord, IsLog}
use Rattle.ct_log.specs.declared.fault.LogError.{LogError}
use Rattle.ct_log.specs.declared.fault.LogError.TheVariants.{LogFull, DiskFault}

-- what stands behind the gate of a last record: the length of its payload, the payload, and the closed gate of the log
abbrev pub frame_of : List ℕ → List ℕ
frame_of payload = little_bytes 4 (length payload) ++ payload ++ 0 ∷ []

-- the payload in a frame
unfoldable pub payload_in : List ℕ → List ℕ
payload_in body = take (length body - 5) (drop 4 body)

-- the bytes are the frame of a payload
pub record IsFrame (body : List ℕ) : Type 0 where
  pub framed : body ≡ frame_of (payload_in body)
  pub fits : HasRecord (payload_in body)

-- in each of these images the area is a log of these payloads
pub record AllAreLogs (area : ℕ) (payloads : List (List ℕ)) (used : ℕ) (images : Image → Type 0) : Type 0 where
  pub log : (image : Image) → images image → IsLog payloads used (image area)

-- the same for some payloads
pub record AllAreOneLog (area used : ℕ) (images : Image → Type 0) : Type 0 where
  pub payloads : List (List ℕ)
  pub all : AllAreLogs area payloads used images

-- an area after an append: a log with one more payload, that of the body
abbrev pub IsAppended : List (List ℕ) → ℕ → List ℕ → List ℕ → List ℕ → Type 0
IsAppended payloads used body old new = IsLog (payloads ++ payload_in body ∷ []) (used + length body) new

-- what a crash may leave of an append: the log as it was, or after it
abbrev pub MayAppend : List (List ℕ) → ℕ → List ℕ → List ℕ → List ℕ → Type 0
MayAppend payloads used body old new = IsLog payloads used new ⊎ IsAppended payloads used body old new

-- the most bytes of a log: 64 MiB
abbrev pub most_bytes : ℕ
most_bytes = 67108864

-- LogFull is answered exactly where the bytes that are needed would make the log larger than that
abbrev pub IsFullExactly : ℕ → ℕ → Result (Unit {0}) LogError → Type 0
IsFullExactly used needed (Ok done) = used + needed ≤ most_bytes
IsFullExactly used needed (Err (LogFull was needs)) = (was ≡ used) × (needs ≡ needed) × (most_bytes < used + needed)
IsFullExactly used needed (Err DiskFault) = used + needed ≤ most_bytes

-- calls take at most so many calls and bytes of the room
pub record TakesAtMost (calls bytes : ℕ) (old_calls old_bytes new_calls new_bytes : ℕ) : Type 0 where
  pub calls_left : old_calls ≤ new_calls + calls
  pub no_more_calls : new_calls ≤ old_calls
  pub bytes_left : old_bytes ≤ new_bytes + bytes
  pub no_more_bytes : new_bytes ≤ old_bytes
