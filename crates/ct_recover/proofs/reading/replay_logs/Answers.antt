use Rattle.std.proofs.Common.{Err, subst}
use Rattle.std.proofs.lemmas.Result.{err_from_is_err_and}
use Rattle.ct_faults.specs.Disk.{Image}
use Rattle.ct_recover.specs.Reading.{ReplaysArea}
use Rattle.ct_recover.proofs.Replays.{one_log_makes, second_failed}
use Rattle.ct_recover.proofs.reading.replay_logs.Goals as goal

pub returns-then-slot-eq0-clause-reads : goal.returns-then-slot-eq0-clause-reads
returns-then-slot-eq0-clause-reads g c = λ h.
    let first = c.in_ok-first.first in
    one_log_makes c.args.slot (g.D.Disk.content c.args.disk.now) c.args.start first.db first.records first.used (c.requires.begins h) c.if-slot-eq0.true (c.in_ok-first.ensures.reads h)

pub returns-in_err-last-clause-reads : goal.returns-in_err-last-clause-reads
returns-in_err-last-clause-reads g c = λ h.
    let slot = c.args.slot in
    let content = g.D.Disk.content c.args.disk.now in
    let first = c.in_ok-first.first in
    let e = c.in_err-last.field-0.0 in
    let fails = subst (λ (i : Image). ReplaysArea slot.second first.db (i slot.second) (Err e)) (c.replay_area.ensures.content h) (c.in_err-last.ensures.reads (c.replay_area.ensures.honest.0 h)) in
    let p = err_from_is_err_and c.from_residual-in_err-last.result c.from_residual-in_err-last.ensures.1 in
    rw (p.1, p.2) (second_failed slot content c.args.start first.db first.records first.used e (c.requires.begins h) c.if-slot-eq0.false (c.in_ok-first.ensures.reads h) fails)
