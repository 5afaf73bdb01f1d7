use Rattle.std.proofs.Common.{sym, subst}
use Rattle.std.specs.Result.{IfOk}
use Rattle.ct_model.specs.declared.db.Db.{Db}
use Rattle.ct_sessions.specs.Owns.{own_or}
use Rattle.ct_sessions.specs.Seats.{own_in, state_in}
use Rattle.ct_core.specs.Range.{DecisionIsKept, HasTables}
use Rattle.ct_core.specs.Stands.{CoreState}
use Rattle.ct_core.proofs.Fronts.{has_seen}
use Rattle.ct_core.proofs.core_state.Core.decide.Goals as goal

pub decide_command-requires-clause-tables : goal.decide_command-requires-clause-tables
decide_command-requires-clause-tables g c =
    let core : CoreState g.row.D.Denot = record { disk = c.self.inside.disk; db = c.self.inside.db; sessions = c.self.inside.sessions; now = c.self.inside.now; next = c.self.inside.next } in
    subst HasTables (sym c.seen-db.ensures.own) (has_seen core c.self.invariant.1.0 c.args.session c.self.invariant.1.1 c.self.invariant.0.tables)

pub returns-clause-kept : goal.returns-clause-kept
returns-clause-kept g c =
    let n = c.args.session in
    subst
    (λ (core : CoreState g.row.D.Denot).
    IfOk c.decide_command.result (DecisionIsKept core.db (own_or core.db (own_in core.sessions.seats n)) (state_in core.sessions.seats n)))
    c.self.view_is
    (subst (λ (db : Db). IfOk c.decide_command.result (DecisionIsKept c.self.inside.db db (state_in c.self.inside.sessions.seats n))) c.seen-db.ensures.own
    (c.decide_command.ensures.kept c.self.inside.db (record { pending = c.self.invariant.0.stored n; alone = c.seen-db.ensures.alone })))
