use Rattle.std.proofs.Common.{◌≡◌, ◌+◌, ◌∷◌, length, Ok, Err, ap, sym, subst, ◌∙◌, arith}
use Rattle.std.proofs.lemmas.Grind.{common_steps}
use Rattle.std.specs.Str.Lines.{lines}
use Rattle.ct_script.specs.Reading.{Finds, run}
use Rattle.ct_script.proofs.Steps.{run-next, run-fault, run-end, few-step}
use Rattle.ct_script.proofs.phases.read_phases.Goals as goal

pub returns-in-Err-clause-found : goal.returns-in-Err-clause-found
returns-in-Err-clause-found c =
    let number = c.loop-rest.number + 1 in
    let now = c.loop-rest.reading in
    let fault = run-fault number c.first_line.result.0.now (lines c.first_line.result.1.now) now c.take.new.self c.in-Err.fault c.in-Err.ensures in
    let named = subst (λ e. Finds (Err e) (run number now (c.first_line.result.0.now ∷ lines c.first_line.result.1.now))) (sym c.error_at.ensures) fault in
    let here = subst (λ ls. Finds (Err c.error_at.result) (run number now ls)) (sym c.first_line.ensures.first) named in
    subst (Finds (Err c.error_at.result)) c.loop-rest.invariant.run here

pub loop-rest-preserved : goal.loop-rest-preserved
loop-rest-preserved c = record {
  run = sym (run-next (c.loop-rest.number + 1) _ _ _ _ c.in_default.ensures)
      ∙ sym (ap (run (c.loop-rest.number + 1) c.loop-rest.reading) c.first_line.ensures.first)
      ∙ c.loop-rest.invariant.run;
  count = omega arith;
  few = omega (arith, few-step _ _ _ c.in_default.ensures);
}

pub returns-clause-found : goal.returns-clause-found
returns-clause-found c =
    let none : length c.loop-rest.rest.now ≡ 0 = grind (arith, common_steps) in
    sym c.loop-rest.invariant.run ∙ run-end (c.loop-rest.number + 1) c.loop-rest.reading c.loop-rest.rest.now none ∙ sym (ap (λ p. Ok p) c.in_ok-finish.ensures)
