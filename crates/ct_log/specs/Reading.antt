-- What the calls that read a log answer.
use Rattle.std.specs.Prelude.{◌≡◌, ℕ, ◌+◌, ◌<◌, ◌≤◌, List, ◌∷◌, length, take, drop, slice_range, Option, Some, None}
use Rattle.ct_log.specs.Log.{BeginsWith, IsClosed, IsBroken, IsLog, Breaks}
use Rattle.ct_log.specs.declared.fault.OpenFault.{OpenFault}
use Rattle.ct_log.specs.declared.fault.OpenFault.TheVariants.{Foreign, DiskFault, Memory}
use Rattle.ct_log.specs.declared.reading.Next.{Next}
use Rattle.ct_log.specs.declared.reading.Next.TheVariants.{Record, Closed, Broken}
use Rattle.ct_log.specs.declared.reading.LogEnd.{LogEnd}
use Rattle.ct_log.specs.declared.reading.LogEnd.TheVariants as ends

-- at this offset a whole record begins; its payload goes from one offset to another, where the next gate stands
pub record IsRecordAt (at from to : ℕ) (bytes : List ℕ) : Type 0 where
  pub begins : BeginsWith (slice_range bytes from to) (drop at bytes)
  pub from_is : from ≡ at + 5
  pub forward : from ≤ to
  pub within : to < length bytes

-- what stands at a gate
abbrev pub StandsAt : ℕ → List ℕ → Next → Type 0
StandsAt at bytes (Record from to) = IsRecordAt at from to bytes
StandsAt at bytes Closed = IsClosed (drop at bytes)
StandsAt at bytes Broken = IsBroken (drop at bytes)

-- an open gate stands first
abbrev pub IsOpen : List ℕ → Type 0
IsOpen bytes = bytes ≡ 1 ∷ drop 1 bytes

-- the length of the payload of the whole record that stands first, exactly where one does and a gate behind it
abbrev pub IsWholeExactly : List ℕ → Option ℕ → Type 0
IsWholeExactly bytes (Some size) = (size + 5 < length bytes) × BeginsWith (take size (drop 5 bytes)) bytes
IsWholeExactly bytes None = (payload : List ℕ) → BeginsWith payload bytes → ⊥

-- the records from the front of an area, and how they end
abbrev pub ReadsAs : List ℕ → List (List ℕ) → LogEnd → Type 0
ReadsAs bytes payloads (ends.Closed used) = IsLog payloads used bytes
ReadsAs bytes payloads (ends.Broken offset) = Breaks payloads offset bytes

-- what is not told of the bytes of an area, but of the disk or of memory
abbrev pub IsNoForeign : OpenFault → Type 0
IsNoForeign (Foreign area offset) = ⊥
IsNoForeign DiskFault = Unit {0}
IsNoForeign Memory = Unit {0}
