-- A source in memory, as contracts see it.
use Rattle.std.specs.Prelude.{ℕ, List, drop, Contains}
use Rattle.ct_faults.specs.Causes.{next_count}

pub record SourceState : Type 0 where
  -- the bytes that are left
  pub left : List ℕ
  -- how many reads there were
  pub calls : ℕ
  -- the numbers of the reads that fail; the first read is 1
  pub failing : List ℕ
  -- how many reads failed
  pub faults : ℕ

-- the next read is one of those that fail
abbrev pub IsNextFailing : SourceState → Type 0
IsNextFailing s = Contains s.failing (next_count s.calls)

-- after a read that gave n bytes
abbrev pub after_read : SourceState → ℕ → SourceState
after_read s n = record { left = drop n s.left; calls = next_count s.calls; failing = s.failing; faults = s.faults }

-- after a read that failed, which takes nothing
abbrev pub after_failure : SourceState → SourceState
after_failure s = record { left = s.left; calls = next_count s.calls; failing = s.failing; faults = next_count s.faults }
