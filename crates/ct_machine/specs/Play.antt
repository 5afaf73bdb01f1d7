-- When a journal is a play of the machine. This project's own.
use Rattle.std.specs.Prelude.{◌≡◌, ℕ, true, false, List, [], ◌∷◌, ◌⊎◌, if◌then◌else◌}
use Rattle.std.specs.List.{list_any}
use Rattle.ct_types.specs.declared.reply.Reply.{Reply}
use Rattle.ct_types.specs.declared.command.Command.{Command}
use Rattle.ct_types.specs.declared.command.Journaled.{Journaled}
use Rattle.ct_state.specs.Machine.{Machine}
use Rattle.ct_state.specs.Replies.{is_memory}
use Rattle.ct_machine.specs.Step.{step}

-- the replies that a machine may give to a session: its own, or want of memory
abbrev pub Follows : Machine → ℕ → Command → Reply → Type 0
Follows m s what reply = (is_memory reply ≡ true) ⊎ (reply ≡ (step m s what).1)

-- the machine after a reply; want of memory leaves it as it was
abbrev pub after : Machine → ℕ → Command → Reply → Machine
after m s what reply = if is_memory reply then m else (step m s what).0

-- each reply of the journal follows from the machine before it
abbrev pub IsPlay : Machine → List Journaled → Type 0
IsPlay m [] = Unit {0}
IsPlay m (one ∷ more) = Follows m one.session one.what one.reply × IsPlay (after m one.session one.what one.reply) more

-- the machine after the journal
abbrev pub end_of : Machine → List Journaled → Machine
end_of m [] = m
end_of m (one ∷ more) = end_of (after m one.session one.what one.reply) more

-- what a session asked for, without the reply
pub record Call : Type 0 where
  pub session : ℕ
  pub number : ℕ
  pub what : Command

-- the call that an entry of a journal replies to
abbrev pub call_of : Journaled → Call
call_of one = record { session = one.session; number = one.number; what = one.what }

-- no reply says that memory was wanting
abbrev pub IsWhole : List Journaled → Type 0
IsWhole journal = list_any (λ one. is_memory one.reply) journal ≡ false
