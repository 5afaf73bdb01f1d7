use Rattle.std.proofs.Common.{◌≡◌, [], ◌∷◌, ◌++◌, ap, ◌∙◌}
use Rattle.std.specs.List.{slice_range}
use Rattle.ct_log.proofs.Gates.{reads_nothing, reads_record}
use Rattle.ct_log.proofs.reading.records.Goals as goal

pub loop-from-init : goal.loop-from-init
loop-from-init c = rw c.new-payloads.ensures (reads_nothing c.args.bytes.now)

pub loop-from-preserved : goal.loop-from-preserved
loop-from-preserved c =
    let bytes = c.args.bytes.now in
    let pushed : c.push.new.list ≡ c.loop-from.payloads ++ slice_range bytes c.in-Record.from c.in-Record.to ∷ [] =
    (c.in_ok-push-in-Record.ensures ∙ ap (λ made. c.loop-from.payloads ++ made ∷ []) c.in_ok-of-in-Record.ensures) in
    rw pushed (reads_record bytes c.loop-from.payloads c.loop-from.at c.in-Record.from c.in-Record.to c.loop-from.invariant c.in-Record.ensures)
