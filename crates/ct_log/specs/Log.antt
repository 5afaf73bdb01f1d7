-- What the bytes of a log area stand for. This project's own.
--
-- An area begins with a gate, a byte that is open where it is 1 and closed otherwise. Behind an open gate stand the length
-- of a payload, in four bytes with the least first, the payload, and the next gate. The log ends at the first closed gate,
-- and what follows it is ignored.
use Rattle.std.specs.Prelude.{◌≡◌, ◌≢◌, ◌⊎◌, ℕ, ◌+◌, ◌^◌, ◌<◌, List, [], ◌∷◌, ◌++◌, length}
use Rattle.std.specs.List.{flat_map, AllByRecursion}
use Rattle.byteorder.specs.Endian.{little_bytes}

-- the bytes of a record: its open gate, the length of its payload, and the payload
abbrev pub record_of : List ℕ → List ℕ
record_of payload = 1 ∷ (little_bytes 4 (length payload) ++ payload)

-- a payload has a record where its length fits four bytes
abbrev pub HasRecord : List ℕ → Type 0
HasRecord payload = length payload < 2 ^ 32

-- one record after the other
abbrev pub records_of : List (List ℕ) → List ℕ
records_of payloads = flat_map record_of payloads

-- the bytes are a log: records with these payloads, a closed gate, and what is ignored. What is used of the bytes ends
-- behind that gate
pub record IsLog (payloads : List (List ℕ)) (used : ℕ) (bytes : List ℕ) : Type 0 where
  pub gate : ℕ
  pub ignored : List ℕ
  pub split : bytes ≡ records_of payloads ++ gate ∷ ignored
  pub closed : gate ≢ 1
  pub fit : AllByRecursion HasRecord payloads
  pub used_is : used ≡ length (records_of payloads) + 1

-- ---- the reading of a log, gate by gate

-- a whole record stands first, and a gate behind it
pub record BeginsWith (payload bytes : List ℕ) : Type 0 where
  pub behind : List ℕ
  pub split : bytes ≡ record_of payload ++ behind
  pub fits : HasRecord payload
  pub gate : 0 < length behind

-- a closed gate stands first
pub record IsClosed (bytes : List ℕ) : Type 0 where
  pub gate : ℕ
  pub ignored : List ℕ
  pub split : bytes ≡ gate ∷ ignored
  pub closed : gate ≢ 1

-- neither of the two: there is no gate, or it is open and no whole record with a gate behind it follows
pub record IsBroken (bytes : List ℕ) : Type 0 where
  pub not_closed : IsClosed bytes → ⊥
  pub no_record : (payload : List ℕ) → BeginsWith payload bytes → ⊥

-- the reading breaks off: behind records with these payloads, at this offset, the log is broken. An area without a gate is
-- an empty one, since behind each record there is a gate
pub record Breaks (payloads : List (List ℕ)) (offset : ℕ) (bytes : List ℕ) : Type 0 where
  pub rest : List ℕ
  pub split : bytes ≡ records_of payloads ++ rest
  pub gate : (payloads ≡ []) ⊎ (0 < length rest)
  pub broken : IsBroken rest
  pub fit : AllByRecursion HasRecord payloads
  pub offset_is : offset ≡ length (records_of payloads)
