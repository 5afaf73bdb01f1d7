use Rattle.std.proofs.Common.{◌∙◌, ap}
use Rattle.std.proofs.lemmas.Result.{on_ok_weaker}
use Rattle.ct_locks.specs.Changes.{with_taken}
use Rattle.ct_locks.specs.Holdings.{all_locks}
use Rattle.ct_locks.proofs.Taking.{keys_taken}
use Rattle.ct_locks.proofs.locks.Locks.take.Goals as goal

pub returns-clause-ok : goal.returns-clause-ok
returns-clause-ok c =
    on_ok_weaker c.take_keys.result
    (λ made.
    made ∙ keys_taken (all_locks c.self.inside.sessions.items) c.args.session c.args.table c.args.keys.now c.in_ok-added.added.items c.in_ok-added.ensures
    ∙ ap (λ locks. with_taken locks c.args.session c.args.table c.args.keys.now) c.self.view_is)
    c.take_keys.ensures.ok
