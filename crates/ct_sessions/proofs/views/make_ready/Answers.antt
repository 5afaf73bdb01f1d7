use Rattle.std.proofs.Common.{◌≡◌, true, List, ◌∙◌, ap}
use Rattle.std.proofs.lemmas.Result.{on_ok_weaker}
use Rattle.ct_types.specs.declared.entry.Write.{Write}
use Rattle.ct_sessions.specs.Seats.{needs_own, reads_at}
use Rattle.ct_sessions.specs.Steps.{own_at}
use Rattle.ct_sessions.proofs.Shares.{caught, prepared}
use Rattle.ct_sessions.proofs.views.make_ready.Goals as goal

pub returns-clause-prepared : goal.returns-clause-prepared
returns-clause-prepared c =
    let newest = c.args.newest.now in
    let state = c.args.seat.now.session.state in
    let had = c.args.seat.now.own in
    let own = c.in_ok-own.own in
    let needs : needs_own c.args.seat.now.session.state ≡ true = cc c.if-not-needs_own.ensures in
    let first : c.in_ok-own.own ≡ own_at c.args.newest.now c.args.entries (reads_at c.args.entries c.args.seat.now.session.state.tran) c.args.seat.now.own =
    c.in_ok-own.ensures.is
    ∙ ap (λ at. own_at newest c.args.entries at c.take-had.result) (c.reads_at-at.ensures ∙ ap (reads_at c.args.entries) c.tran.ensures)
    ∙ ap (own_at newest c.args.entries (reads_at c.args.entries state.tran)) c.take-had.ensures.value in
    prepared newest c.args.entries state had c.catch_up-done.result own c.catch_up-done.new.own c.requires.sound c.requires.stored needs first
    (on_ok_weaker c.catch_up-done.result (λ e. e ∙ ap (λ (pending : List Write). caught pending own) c.pending.ensures) c.catch_up-done.ensures.ok) c.catch_up-done.ensures.err
