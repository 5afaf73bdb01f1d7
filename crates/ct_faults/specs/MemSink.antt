-- A sink in memory, as contracts see it.
use Rattle.std.specs.Prelude.{ℕ, ◌+◌, ◌<◌, ◌++◌, ◌⊎◌, List, length, Contains}
use Rattle.ct_faults.specs.Causes.{next_count}

pub record SinkState : Type 0 where
  -- the bytes that it holds
  pub held : List ℕ
  -- how many bytes it can hold
  pub room : ℕ
  -- how many writes there were
  pub calls : ℕ
  -- the numbers of the writes that fail; the first write is 1
  pub failing : List ℕ
  -- how many writes failed
  pub faults : ℕ

-- the next write is one of those that fail, or the piece would pass the room
abbrev pub IsNextFailing : SinkState → List ℕ → Type 0
IsNextFailing s piece = Contains s.failing (next_count s.calls) ⊎ (s.room < length s.held + length piece)

-- after a write that took the whole piece
abbrev pub after_write : SinkState → List ℕ → SinkState
after_write s piece = record {
  held = s.held ++ piece;
  room = s.room;
  calls = next_count s.calls;
  failing = s.failing;
  faults = s.faults;
}

-- after a write that failed, which adds nothing
abbrev pub after_failure : SinkState → SinkState
after_failure s = record {
  held = s.held;
  room = s.room;
  calls = next_count s.calls;
  failing = s.failing;
  faults = next_count s.faults;
}
