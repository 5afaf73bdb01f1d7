use Rattle.std.proofs.Common.{◌≡◌, ◌-◌, arith, ℕ, List, take, drop, length}
use Rattle.std.proofs.lemmas.Grind.{common_steps}
use Rattle.std.proofs.Math.Seq.{take-add}
use Rattle.std.proofs.KnownBytes.{Appends-trans}
use Rattle.ct_faults.proofs.whole.write_all.Goals as goal

-- what was sent before, and what this write took of the rest
pub loop-sent-preserved : goal.loop-sent-preserved
loop-sent-preserved g c =
    let all : List ℕ = c.args.bytes.now in
    let whole_rest : take (length all - c.loop-sent.sent) (drop c.loop-sent.sent all) ≡ drop c.loop-sent.sent all = grind (arith, common_steps) in
    record {
      within = grind (arith, common_steps);
      appended = rw take-add (Appends-trans _ _ _ _ _ c.loop-sent.invariant.appended (rw whole_rest at c.in_ok-count.ensures.bytes));
      later = omega arith;
    }
