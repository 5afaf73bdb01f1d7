use Rattle.std.proofs.Common.{◌≡◌, true, false, List, Option, MatchOption, refl, sym, ap, subst, ◌∙◌}
use Rattle.ct_types.specs.declared.command.Command.TheVariants.{Sql}
use Rattle.ct_types.specs.declared.entry.Act.TheVariants.{Commit}
use Rattle.ct_types.specs.declared.entry.Write.{Write}
use Rattle.ct_types.specs.declared.refusal.Refusal.TheVariants.{NoCommit}
use Rattle.ct_types.specs.declared.reply.Reply.TheVariants.{Done, Refused}
use Rattle.ct_types.specs.declared.stmt.Stmt.TheVariants as stmt
use Rattle.ct_database.specs.Waiting.{AreStoredIn}
use Rattle.ct_model.specs.Apply.{no_db}
use Rattle.ct_session.specs.Sessions.{SessionState, fresh, is_open}
use Rattle.ct_machine.specs.declared.decision.Decision.TheVariants.{Commits, Ends, Refuses}
use Rattle.ct_machine.specs.Decide.{commits}
use Rattle.ct_core.specs.Range.{CommitIsKept}
use Rattle.ct_core.specs.Stands.{CoreState, Stands}
use Rattle.ct_core.proofs.Ending.{commit_closed, commit_open}
use Rattle.ct_core.proofs.Keeping.{commit_kept}
use Rattle.ct_core.proofs.Standing.{committed_if, taken}
use Rattle.ct_core.proofs.core_state.Core.commit_pending.Goals as goal

pub returns-then-not-is_open-clause-ok : goal.returns-then-not-is_open-clause-ok
returns-then-not-is_open-clause-ok g c =
    λ m stands.
    let n = c.args.session in
    let was = subst (λ (core : CoreState g.row.D.Denot). Stands core m) (sym c.self.view_is) stands in
    let none : is_open (m.sessions n).tran ≡ false = sym (c.is_open.ensures ∙ ap is_open (c.tran.ensures.tran ∙ ap (λ (state : SessionState). state.tran) (was.sessions.seats n).state)) ∙ (cc c.if-not-is_open.ensures) in
    taken no_db no_db fresh c.args.self.now m n (Sql stmt.Commit) (Refuses NoCommit) (Refused NoCommit) (sym (commit_closed m n none)) tt (record { reply = refl; stands = stands })

pub commit-requires : goal.commit-requires
commit-requires g c =
    let n = c.args.session in
    let core = c.self.inside in
    let found = subst (λ (it : Option (List Write)). MatchOption it (commits c.pending.result.now ≡ Ends) (λ copies. (copies ≡ c.pending.result.now) × (commits c.pending.result.now ≡ Commits (Commit copies) Done))) c.in-Some.is c.in_ok-waiting.ensures in
    subst (λ (state : CoreState g.row.D.Denot). CommitIsKept state.db (Commit c.in-Some.writes) Done) c.self.view_is
    (commit_kept core.db c.in-Some.writes (subst (AreStoredIn core.db.tables) (sym (found.0 ∙ c.pending.ensures)) (c.self.invariant.0.stored n)))

pub returns-in-None-clause-ok : goal.returns-in-None-clause-ok
returns-in-None-clause-ok g c =
    λ m stands.
    let n = c.args.session in
    let was = subst (λ (core : CoreState g.row.D.Denot). Stands core m) (sym c.self.view_is) stands in
    let waits : is_open (m.sessions n).tran ≡ true = sym (c.is_open.ensures ∙ ap is_open (c.tran.ensures.tran ∙ ap (λ (state : SessionState). state.tran) (was.sessions.seats n).state)) ∙ (cc c.if-not-is_open.ensures) in
    let found = subst (λ (it : Option (List Write)). MatchOption it (commits c.pending.result.now ≡ Ends) (λ copies. (copies ≡ c.pending.result.now) × (commits c.pending.result.now ≡ Commits (Commit copies) Done))) c.in-None.is c.in_ok-waiting.ensures in
    let same = c.pending.ensures ∙ ap (λ (state : SessionState). state.pending) (was.sessions.seats n).state in
    taken no_db no_db fresh c.end.new.self m n (Sql stmt.Commit) Ends Done (sym found ∙ ap commits same ∙ sym (commit_open m n waits)) tt (record { reply = refl; stands = c.end.ensures.ends m (Sql stmt.Commit) stands })

pub returns-in-Some-clause-ok : goal.returns-in-Some-clause-ok
returns-in-Some-clause-ok g c =
    let n = c.args.session in
    let found = subst (λ (it : Option (List Write)). MatchOption it (commits c.pending.result.now ≡ Ends) (λ copies. (copies ≡ c.pending.result.now) × (commits c.pending.result.now ≡ Commits (Commit copies) Done))) c.in-Some.is c.in_ok-waiting.ensures in
    let core = c.self.inside in
    let kept =
    subst (λ (state : CoreState g.row.D.Denot). CommitIsKept state.db (Commit c.in-Some.writes) Done) c.self.view_is
    (commit_kept core.db c.in-Some.writes (subst (AreStoredIn core.db.tables) (sym (found.0 ∙ c.pending.ensures)) (c.self.invariant.0.stored n))) in
    committed_if c.args.self.now c.commit.new.self n (Sql stmt.Commit) (Commit c.in-Some.writes) Done kept c.commit.result
    (λ m stands.
    let was = subst (λ (core : CoreState g.row.D.Denot). Stands core m) (sym c.self.view_is) stands in
    let waits : is_open (m.sessions n).tran ≡ true = sym (c.is_open.ensures ∙ ap is_open (c.tran.ensures.tran ∙ ap (λ (state : SessionState). state.tran) (was.sessions.seats n).state)) ∙ (cc c.if-not-is_open.ensures) in
    sym found.1 ∙ ap commits (c.pending.ensures ∙ ap (λ (state : SessionState). state.pending) (was.sessions.seats n).state) ∙ sym (commit_open m n waits))
    c.commit.ensures.ok
