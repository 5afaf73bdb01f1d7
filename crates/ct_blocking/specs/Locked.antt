-- Locks that are those of the machine's sessions: each holds the keys of the writes that wait in its transaction, in their order, and
-- a session without such writes holds none. This project's own.
use Rattle.std.specs.Prelude.{◌≡◌, ℕ, List, map, slice_get, Option}
use Rattle.std.specs.Option.{option_map}
use Rattle.ct_types.specs.declared.refusal.Refusal.{Refusal}
use Rattle.ct_types.specs.declared.refusal.Refusal.TheVariants.{Blocked}
use Rattle.ct_locks.specs.Changes.{lock_of_write}
use Rattle.ct_locks.specs.Holders.{Lock, locks_of}
use Rattle.ct_locks.specs.declared.answers.Holder.{Holder}
use Rattle.ct_session.specs.Sessions.{SessionState}

abbrev pub AreLocked : List Lock → (ℕ → SessionState) → Type 0
AreLocked locks sessions = (number : ℕ) → locks_of locks number ≡ map (lock_of_write number) (sessions number).pending

-- 1222 with the key that a session holds at a place. No public clause speaks of this.
abbrev pub refusal_at : List Lock → List ℕ → Holder → Option Refusal
refusal_at locks name holder = option_map (λ lock. Blocked name lock.key holder.session) (slice_get (locks_of locks holder.session) holder.place)
