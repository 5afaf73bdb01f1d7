-- What COMMIT and ROLLBACK come to: what the session sees plays no part.
use Rattle.std.proofs.Common.{◌≡◌, ℕ, Bool, true, false, ap}
use Rattle.ct_types.specs.Answers.{demand}
use Rattle.ct_types.specs.declared.command.Command.TheVariants.{Sql}
use Rattle.ct_types.specs.declared.refusal.Refusal.TheVariants.{NoCommit, NoRollback}
use Rattle.ct_types.specs.declared.stmt.Stmt.TheVariants as stmt
use Rattle.ct_bind.specs.Binding.{binding}
use Rattle.ct_session.specs.Sessions.{is_open}
use Rattle.ct_machine.specs.declared.decision.Decision.TheVariants.{Ends, Refuses}
use Rattle.ct_machine.specs.Decide.{commits, decide, decide_bound, once_allowed}
use Rattle.ct_state.specs.Machine.{Machine}

module _ (m : Machine) (s : ℕ) where
  pub commit_open : is_open (m.sessions s).tran ≡ true → decide m s (Sql stmt.Commit) ≡ commits (m.sessions s).pending
  unfolding decide decide_bound binding
  commit_open waits = ap (λ (test : Bool). once_allowed m s stmt.Commit (demand test NoCommit)) waits

  pub commit_closed : is_open (m.sessions s).tran ≡ false → decide m s (Sql stmt.Commit) ≡ Refuses NoCommit
  unfolding decide
  commit_closed none = ap (λ (test : Bool). once_allowed m s stmt.Commit (demand test NoCommit)) none

  pub rollback_open : is_open (m.sessions s).tran ≡ true → decide m s (Sql stmt.Rollback) ≡ Ends
  unfolding decide decide_bound binding
  rollback_open waits = ap (λ (test : Bool). once_allowed m s stmt.Rollback (demand test NoRollback)) waits

  pub rollback_closed : is_open (m.sessions s).tran ≡ false → decide m s (Sql stmt.Rollback) ≡ Refuses NoRollback
  unfolding decide
  rollback_closed none = ap (λ (test : Bool). once_allowed m s stmt.Rollback (demand test NoRollback)) none
