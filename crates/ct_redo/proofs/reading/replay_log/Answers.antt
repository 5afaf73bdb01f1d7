use Rattle.std.proofs.Common.{◌≡◌, subst}
use Rattle.std.specs.List.{slice_range}
use Rattle.ct_replay.specs.Replay.{BreaksOff}
use Rattle.ct_replay.specs.Steps.{IsTried}
use Rattle.ct_replay.proofs.Replaying.{replaying_on, replaying_broken, replaying_stuck}
use Rattle.ct_redo.proofs.reading.replay_log.Goals as goal

pub returns-then-not-branch-clause-broken : goal.returns-then-not-branch-clause-broken
returns-then-not-branch-clause-broken c = λ offset e.
    let bytes = c.args.bytes.now in
    let here = c.in-Record.ensures in
    let none = subst (λ was. IsTried c.loop-from.database (slice_range bytes c.in-Record.from c.in-Record.to) was c.add.new.database) c.if-not-branch.true c.in_ok-add-in-Record.ensures.tried in
    let at : c.loop-from.at ≡ offset = cc in
    subst (λ n. BreaksOff c.args.database bytes n) at (replaying_stuck c.args.database c.loop-from.database bytes c.loop-from.records c.loop-from.at c.in-Record.from c.in-Record.to c.loop-from.invariant.0 here none)

pub loop-from-preserved : goal.loop-from-preserved
loop-from-preserved c =
    let bytes = c.args.bytes.now in
    let some = subst (λ was. IsTried c.loop-from.database (slice_range bytes c.in-Record.from c.in-Record.to) was c.add.new.database) c.if-not-branch.false c.in_ok-add-in-Record.ensures.tried in (
      replaying_on c.args.database c.loop-from.database c.add.new.database bytes c.loop-from.records c.loop-from.at c.in-Record.from c.in-Record.to some.0 c.loop-from.invariant.0 c.in-Record.ensures some.1 some.2,
      λ known. c.in_ok-add-in-Record.ensures.numbers c.if-not-branch.false known,
    )

pub returns-in-Broken-clause-broken : goal.returns-in-Broken-clause-broken
returns-in-Broken-clause-broken c = λ offset e.
    let at : c.loop-from.at ≡ offset = cc in
    subst (λ n. BreaksOff c.args.database c.args.bytes.now n) at (replaying_broken c.args.database c.loop-from.database c.args.bytes.now c.loop-from.records c.loop-from.at c.loop-from.invariant.0 c.in-Broken.ensures)
