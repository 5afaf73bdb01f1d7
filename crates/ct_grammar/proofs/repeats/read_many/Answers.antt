use Rattle.std.proofs.Common.{rules, arith}
use Rattle.std.proofs.lemmas.Grind.{common_steps}
use Rattle.ct_grammar.specs.Reading.{repeat_from}
use Rattle.ct_grammar.proofs.Turns.{turn_left, turns_spent}
use Rattle.ct_grammar.proofs.repeats.read_many.Goals as goal

pub loop-turn-init : goal.loop-turn-init
loop-turn-init g c = λ p f. first_of (search rules, grind (arith, common_steps))

pub returns-then-not-sees : goal.returns-then-not-sees
unfolding repeat_from
returns-then-not-sees g c = λ p f.
    let e = turn_left (λ n. repeat_from c.args.set.now p n c.loop-turn.found c.loop-turn.tokens) _ c.loop-turn._turn c.loop-turn-test.true (c.loop-turn.invariant p f) in
    first_of (search rules, grind (arith, common_steps))

pub returns-in_err-read : goal.returns-in_err-read
unfolding repeat_from
returns-in_err-read g c = λ p f.
    let e = turn_left (λ n. repeat_from c.args.set.now p n c.loop-turn.found c.loop-turn.tokens) _ c.loop-turn._turn c.loop-turn-test.true (c.loop-turn.invariant p f) in
    let r = f.reads _ _ _ c.read.ensures in
    first_of (search rules, grind (arith, common_steps))

pub loop-turn-preserved : goal.loop-turn-preserved
unfolding repeat_from
loop-turn-preserved g c = λ p f.
    let e = turn_left (λ n. repeat_from c.args.set.now p n c.loop-turn.found c.loop-turn.tokens) _ c.loop-turn._turn c.loop-turn-test.true (c.loop-turn.invariant p f) in
    let r = f.reads _ _ _ c.read.ensures in
    first_of (search rules, grind (arith, common_steps))

pub returns : goal.returns
unfolding repeat_from
returns g c = λ p f.
    let e = turns_spent (λ n. repeat_from c.args.set.now p n c.loop-turn.found c.loop-turn.tokens) _ c.loop-turn._turn c.loop-turn-test.false (c.loop-turn.invariant p f) in
    first_of (search rules, grind (arith, common_steps))
