-- The laws of logs: bytes have one reading.
use Rattle.std.specs.Prelude.{◌≡◌, ℕ, List}
use Rattle.ct_log.specs.Log.{IsLog, Breaks}

-- bytes are one log at most
abbrev pub OneLog : Type 0
OneLog = (payloads others : List (List ℕ)) (used end : ℕ) (bytes : List ℕ) → IsLog payloads used bytes → IsLog others end bytes → (payloads ≡ others) × (used ≡ end)

-- the reading of bytes breaks off at one place at most
abbrev pub OneBreak : Type 0
OneBreak = (payloads others : List (List ℕ)) (offset end : ℕ) (bytes : List ℕ) → Breaks payloads offset bytes → Breaks others end bytes → (payloads ≡ others) × (offset ≡ end)

-- and of a log it breaks off nowhere
abbrev pub LogsDoNotBreak : Type 0
LogsDoNotBreak = (payloads others : List (List ℕ)) (used offset : ℕ) (bytes : List ℕ) → IsLog payloads used bytes → Breaks others offset bytes → ⊥
