use Rattle.std.proofs.Common.{◌≡◌, ◌∙◌, sym, arith, ℕ, take, subst}
use Rattle.ct_disk.specs.Mem.{EndsSynced}
use Rattle.ct_disk.proofs.Crashes.{none-synced-end, none-synced-more, ends-synced, ends-synced-none}
use Rattle.ct_disk.proofs.replay.synced_calls.Goals as goal

pub loop-count-init : goal.loop-count-init
loop-count-init c = record { within = omega arith; since = none-synced-end c.args.calls.now }

pub loop-count-preserved : goal.loop-count-preserved
loop-count-preserved c = record {
  within = omega (arith, c.loop-count.invariant.within);
  since = none-synced-more c.args.calls.now c.loop-count.count _ c.loop-count-test.true c.loop-count.invariant.within (sym c.was_synced.ensures ∙ c.if-not-was_synced.true) c.loop-count.invariant.since;
}

pub returns-else-not-was_synced-clause-synced : goal.returns-else-not-was_synced-clause-synced
returns-else-not-was_synced-clause-synced c = ends-synced c.args.calls.now c.loop-count.count _ c.loop-count-test.true c.loop-count.invariant.within (sym c.was_synced.ensures ∙ c.if-not-was_synced.false)

pub returns-after-loop-count-clause-synced : goal.returns-after-loop-count-clause-synced
returns-after-loop-count-clause-synced c =
    let none : 0 ≡ c.loop-count.count = omega (arith, c.loop-count-test.false) in
    subst (λ (n : ℕ). EndsSynced (take n c.args.calls.now)) none (ends-synced-none c.args.calls.now)
