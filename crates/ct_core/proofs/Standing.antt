-- A statement that a core settles is taken in each machine for which the core stands.
use Rattle.std.proofs.Common.{◌≡◌, ℕ, nat_le, Bool, true, false, cond, Result, Ok, Err, IfOk, refl, sym, ap, subst, ◌∙◌}
use Rattle.ct_types.specs.declared.command.Command.{Command}
use Rattle.ct_types.specs.declared.memory.Memory.{Memory}
use Rattle.ct_types.specs.declared.refusal.Refusal.TheVariants.{Exhausted}
use Rattle.ct_types.specs.declared.reply.Reply.{Reply}
use Rattle.ct_types.specs.declared.reply.Reply.TheVariants.{Refused}
use Rattle.ct_model.specs.declared.db.Db.{Db}
use Rattle.ct_types.specs.declared.entry.Act.{Act}
use Rattle.ct_session.specs.Sessions.{SessionState, fresh}
use Rattle.ct_machine.specs.declared.decision.Decision.{Decision}
use Rattle.ct_machine.specs.declared.decision.Decision.TheVariants.{Refuses, Aborts, Answers, Commits, Pends, Begins, Ends, Isolates, Sets, Declares}
use Rattle.ct_machine.specs.Decide.{decide}
use Rattle.ct_state.specs.Machine.{Machine, xdes_or}
use Rattle.ct_machine.specs.Play.{after}
use Rattle.ct_state.specs.Replies.{is_memory}
use Rattle.ct_machine.specs.Step.{decision_of, entry_of, has_room, machine_after, most_number, reply_of, settled}
use Rattle.ct_core.specs.Range.{CommitIsKept, DecisionIsKept}
use Rattle.ct_core.specs.Settling.{IsSettled, IsTaken, StaysFor}
use Rattle.ct_core.specs.Stands.{CoreState, Stands}

-- ---- want of memory is told of no decision that changes the machine

same : (b : Bool) (m : Machine) → cond b m m ≡ m
same true m = refl
same false m = refl

module _ (newest db : Db) (state : SessionState) (m : Machine) (s : ℕ) (what : Command) where
  abbrev Told : Decision → Type 0
  Told d = cond (is_memory (reply_of d)) m (machine_after m s what d) ≡ machine_after m s what d

  told : (d : Decision) → DecisionIsKept newest db state d → Told (settled m (m.sessions s) d)
  told (Refuses refusal) kept = same (is_memory (Refused refusal)) m
  told (Aborts refusal) kept = rw kept refl
  told (Answers reply) kept = rw kept refl
  told (Commits act reply) kept = by (has_room (entry_of m (m.sessions s) act))
    where
      by : (room : Bool) → Told (cond room (Commits act reply) (Refuses (Exhausted most_number)))
      by true = rw kept.told refl
      by false = refl
  told (Pends writes reply) kept = by (nat_le (xdes_or m.next (m.sessions s).xdes) most_number)
    where
      by : (room : Bool) → Told (cond room (Pends writes reply) (Refuses (Exhausted most_number)))
      by true = rw kept.told refl
      by false = refl
  told Begins kept = refl
  told Ends kept = refl
  told (Isolates snapshot) kept = refl
  told (Sets name value) kept = refl
  told (Declares name kind value) kept = refl

module _ {D : Type 0} where
  -- one decision
  pub taken : (newest db : Db) (state : SessionState) (core' : CoreState D) (m : Machine) (s : ℕ) (what : Command) (d : Decision) (shown : Reply)
      → d ≡ decide m s what → DecisionIsKept newest db state d → IsSettled m s what d shown core' → IsTaken m s what shown core'
  taken newest db state core' m s what d shown is kept settles =
      let own : settled m (m.sessions s) d ≡ decision_of m s what = ap (settled m (m.sessions s)) is in
      let reply : shown ≡ reply_of (decision_of m s what) = settles.reply ∙ ap reply_of own in
      let shows : after m s what shown ≡ machine_after m s what (settled m (m.sessions s) d) =
      ap (λ machine. cond (is_memory shown) m machine) (ap (machine_after m s what) (sym own))
      ∙ ap (λ it. cond (is_memory it) m (machine_after m s what (settled m (m.sessions s) d))) settles.reply
      ∙ told newest db state m s what d kept in
      record { reply = reply; stands = subst (Stands core') (sym shows) settles.stands }

  -- the same of what is answered, where memory sufficed
  pub taken_if : (core before core' : CoreState D) (newest db : Db) (state : SessionState) (s : ℕ) (what : Command) (d : Decision) (result : Result Reply Memory) → StaysFor core before
      → ((m : Machine) → Stands before m → d ≡ decide m s what) → DecisionIsKept newest db state d
      → IfOk result (λ shown. (m : Machine) → Stands before m → IsSettled m s what d shown core')
      → IfOk result (λ reply. (m : Machine) → Stands core m → IsTaken m s what reply core')
  taken_if core before core' newest db state s what d (Ok shown) stays is kept settles =
      λ m stands. taken newest db state core' m s what d shown (is m (stays m stands)) kept (settles m (stays m stands))
  taken_if core before core' newest db state s what d (Err memory) stays is kept settles = tt

  -- a commit is settled whatever the statement
  pub settled_if : (core core' : CoreState D) (s : ℕ) (what : Command) (d came : Decision) (result : Result Reply Memory) → d ≡ came
      → IfOk result (λ shown. (m : Machine) (any : Command) → Stands core m → IsSettled m s any came shown core')
      → IfOk result (λ shown. (m : Machine) → Stands core m → IsSettled m s what d shown core')
  settled_if core core' s what d came (Ok shown) is settles = λ m stands. subst (λ (it : Decision). IsSettled m s what it shown core') (sym is) (settles m what stands)
  settled_if core core' s what d came (Err memory) is settles = tt

  -- a commit that is decided is taken, where memory sufficed
  pub committed_if : (core core' : CoreState D) (s : ℕ) (what : Command) (act : Act) (reply : Reply) → CommitIsKept core.db act reply → (result : Result Reply Memory)
      → ((m : Machine) → Stands core m → Commits act reply ≡ decide m s what)
      → IfOk result (λ shown. (m : Machine) (any : Command) → Stands core m → IsSettled m s any (Commits act reply) shown core')
      → IfOk result (λ shown. (m : Machine) → Stands core m → IsTaken m s what shown core')
  committed_if core core' s what act reply kept (Ok shown) is settles = λ m stands. taken core.db core.db fresh core' m s what (Commits act reply) shown (is m stands) kept (settles m what stands)
  committed_if core core' s what act reply kept (Err memory) is settles = tt
