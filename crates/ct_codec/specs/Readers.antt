-- How bytes are read, from the left and with no step back: a reader gives a value and the bytes behind it, or nothing.
use Rattle.std.specs.Prelude.{ℕ, zero, suc, Bool, true, false, ◌&&◌, nat_lt, nat_le, if◌then◌else◌, List, [], ◌∷◌, length, take, drop, Option, Some, None, Result, Ok, Err, ◌≡◌}
use Rattle.std.specs.Str.{is_utf8}
use Rattle.byteorder.specs.Endian.{little_number}
use Rattle.ct_codec.specs.declared.fault.CodecError.{CodecError}
use Rattle.ct_codec.specs.declared.fault.CodecError.TheVariants.{NotCanonical, Memory}

abbrev pub Outcome : Type 0 → Type 0
Outcome A = Option (A × List ℕ)

abbrev pub Reader : Type 0 → Type 0
Reader A = List ℕ → Outcome A

-- goes on behind what was read
abbrev pub and_then : {A B : Type 0} → Outcome A → (A → Reader B) → Outcome B
and_then (Some found) next = next found.0 found.1
and_then None next = None

infixl 10 ◌>>=◌
abbrev pub ◌>>=◌ : {A B : Type 0} → Reader A → (A → Reader B) → Reader B
reader >>= next = λ bytes. and_then (reader bytes) next

-- a value of no bytes
abbrev pub pure : {A : Type 0} → A → Reader A
pure a = λ bytes. Some (a, bytes)

abbrev pub fails : {A : Type 0} → Reader A
fails = λ bytes. None

-- a value of no bytes, where there is one
abbrev pub given : {A : Type 0} → Option A → Reader A
given (Some a) = pure a
given None = fails

-- what a function makes of the value
abbrev pub making : {A B : Type 0} → (A → B) → Reader A → Reader B
making made reader = reader >>= (λ a. pure (made a))

-- what a function makes of the value, where it makes something
abbrev pub choosing : {A B : Type 0} → (A → Option B) → Reader A → Reader B
choosing chosen reader = reader >>= (λ a. given (chosen a))

-- two values; how the second is read may depend on the first
abbrev pub pair : {A B : Type 0} → Reader A → (A → Reader B) → Reader (A × B)
pair first second = first >>= (λ a. making (λ b. (a, b)) (second a))

-- at least so many numbers stand here, and each of them is a byte
abbrev pub begins_with_bytes : ℕ → List ℕ → Bool
begins_with_bytes zero bytes = true
begins_with_bytes (suc size) [] = false
begins_with_bytes (suc size) (byte ∷ bytes) = nat_lt byte 256 && begins_with_bytes size bytes

-- a number of so many bytes, the least first
unfoldable pub number : ℕ → Reader ℕ
number size = λ bytes. if begins_with_bytes size bytes then Some (little_number size bytes, drop size bytes) else None

-- so many bytes
unfoldable pub taken : ℕ → Reader (List ℕ)
taken count = λ bytes. if nat_le count (length bytes) then Some (take count bytes, drop count bytes) else None

-- so many values, one after the other
unfoldable pub repeated : {A : Type 0} → Reader A → ℕ → Reader (List A)
repeated reader zero = pure []
repeated reader (suc count) = reader >>= (λ a. making (λ more. a ∷ more) (repeated reader count))

-- a count in so many bytes, and as many values
abbrev pub counted : {A : Type 0} → ℕ → Reader A → Reader (List A)
counted size reader = number size >>= repeated reader

-- a length in so many bytes, and as many bytes
abbrev pub measured : ℕ → Reader (List ℕ)
measured size = number size >>= taken

abbrev pub if_utf8 : List ℕ → Option (List ℕ)
if_utf8 bytes = if is_utf8 bytes then Some bytes else None

-- measured bytes that are UTF-8
abbrev pub text : ℕ → Reader (List ℕ)
text size = choosing if_utf8 (measured size)

abbrev pub if_at_end : {A : Type 0} → A → List ℕ → Option A
if_at_end a [] = Some a
if_at_end a (byte ∷ bytes) = None

abbrev pub all_of : {A : Type 0} → Outcome A → Option A
all_of (Some found) = if_at_end found.0 found.1
all_of None = None

-- the value that the whole of the bytes spells
abbrev pub whole : {A : Type 0} → Reader A → List ℕ → Option A
whole reader bytes = all_of (reader bytes)

-- what a function that reads owes: the value and the bytes behind it, NotCanonical exactly where there is none, or want of memory
abbrev pub Reads : {A : Type 0} → Outcome A → Result A CodecError → List ℕ → Type 0
Reads outcome (Ok a) rest = outcome ≡ Some (a, rest)
Reads outcome (Err NotCanonical) rest = outcome ≡ None
Reads outcome (Err Memory) rest = Unit {0}

-- what a function that reads all bytes owes
abbrev pub Gives : {A : Type 0} → Option A → Result A CodecError → Type 0
Gives wanted (Ok a) = wanted ≡ Some a
Gives wanted (Err NotCanonical) = wanted ≡ None
Gives wanted (Err Memory) = Unit {0}
