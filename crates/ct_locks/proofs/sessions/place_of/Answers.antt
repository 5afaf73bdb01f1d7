use Rattle.std.proofs.Common.{◌<◌, subst, arith}
use Rattle.std.proofs.lemmas.List.Elements.{All-more}
use Rattle.ct_locks.specs.Holdings.{Holding}
use Rattle.ct_locks.proofs.sessions.place_of.Goals as goal

pub loop-place-preserved : goal.loop-place-preserved
loop-place-preserved c =
    let lower : c.index-sessions-place.result.session < c.args.session = omega arith in
    All-more (λ (held : Holding). held.session < c.args.session) c.args.sessions.now c.loop-place.place c.index-sessions-place.result (omega arith) c.loop-place.invariant
    (subst (λ (held : Holding). held.session < c.args.session) c.index-sessions-place.is lower)
