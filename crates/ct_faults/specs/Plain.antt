-- A disk that tells no content, as contracts see it.
use Rattle.std.specs.Prelude.{ℕ}

pub record PlainState : Type 0 where
  -- how many calls have failed
  pub faults : ℕ
  -- for how many calls and bytes there is room
  pub room_calls : ℕ
  pub room_bytes : ℕ
