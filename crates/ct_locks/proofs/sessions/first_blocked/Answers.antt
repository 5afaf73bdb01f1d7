use Rattle.std.proofs.Common.{subst, arith}
use Rattle.std.proofs.lemmas.List.Elements.{All-more}
use Rattle.ct_types.specs.declared.value.Key.{Key}
use Rattle.ct_locks.specs.Holders.{IsFree, IsLeastHolder}
use Rattle.ct_locks.specs.Holdings.{all_locks}
use Rattle.ct_locks.proofs.Waits.{some_at}
use Rattle.ct_locks.proofs.sessions.first_blocked.Goals as goal

pub loop-place-preserved : goal.loop-place-preserved
loop-place-preserved c =
    All-more (IsFree (all_locks c.args.sessions.now) c.args.session c.args.table) c.args.keys.now c.loop-place.place c.index-keys-place.result (omega arith) c.loop-place.invariant
    (subst (IsFree (all_locks c.args.sessions.now) c.args.session c.args.table) c.index-keys-place.is c.in_default.ensures)

pub returns-in-Some-clause-blocked : goal.returns-in-Some-clause-blocked
returns-in-Some-clause-blocked c = record {
  before = c.loop-place.invariant;
  at = some_at (λ (key : Key). IsLeastHolder (all_locks c.args.sessions.now) c.args.session c.args.table key c.in-Some.holder) c.args.keys.now c.loop-place.place c.index-keys-place.result (omega arith) c.index-keys-place.is c.in-Some.ensures;
}
