-- Standard input or output, as contracts see it.
use Rattle.std.specs.Prelude.{ℕ, List, Option}

pub record StreamState : Type 0 where
  -- the bytes that it has left or holds, where the runtime tells them: that of the system does not
  pub bytes : Option (List ℕ)
  -- how many calls failed
  pub faults : ℕ
