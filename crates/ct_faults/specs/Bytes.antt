-- What a whole read and a whole write do to the bytes that a source has left and that a sink holds, where these are
-- known.
use Rattle.std.specs.Prelude.{ℕ, ◌≤◌, ◌<◌, List, length, take, Result, Ok, Err, Option}
use Rattle.std.specs.Io.KnownBytes.{Consumes, Appends, IsAtEnd}
use Rattle.ct_faults.specs.declared.whole.ReadError.{ReadError}
use Rattle.ct_faults.specs.declared.whole.ReadError.TheVariants.{ReadFault, TooLarge, Memory}

-- the most bytes that a whole read gives: 16 MiB
abbrev pub most_bytes : ℕ
most_bytes = 16777216

-- some bytes were taken, and no more than a whole read gives
abbrev pub TakesAtMost : Option (List ℕ) → Option (List ℕ) → Type 0
TakesAtMost old new = (taken : List ℕ) × Consumes old new taken × (length taken ≤ most_bytes)

-- more bytes were taken than a whole read gives
abbrev pub TakesTooMany : Option (List ℕ) → Option (List ℕ) → Type 0
TakesTooMany old new = (taken : List ℕ) × Consumes old new taken × (most_bytes < length taken)

-- what a whole read took, by its answer: Ok gives all bytes that were taken, and the end was read
abbrev pub ReadsAll : Option (List ℕ) → Option (List ℕ) → Result (List ℕ) ReadError → Type 0
ReadsAll old new (Ok bytes) = Consumes old new bytes × IsAtEnd new × (length bytes ≤ most_bytes)
ReadsAll old new (Err ReadFault) = TakesAtMost old new
ReadsAll old new (Err TooLarge) = TakesTooMany old new
ReadsAll old new (Err Memory) = TakesAtMost old new

-- a front part of the bytes was appended, maybe none or all of them
abbrev pub AppendsFront : Option (List ℕ) → Option (List ℕ) → List ℕ → Type 0
AppendsFront old new bytes = (n : ℕ) × (n ≤ length bytes) × Appends old new (take n bytes)
