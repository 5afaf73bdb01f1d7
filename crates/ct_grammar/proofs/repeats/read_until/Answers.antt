use Rattle.std.proofs.Common.{rules, arith}
use Rattle.std.proofs.lemmas.Grind.{common_steps}
use Rattle.ct_grammar.specs.Reading.{until_from}
use Rattle.ct_grammar.proofs.Turns.{turn_left, turns_spent}
use Rattle.ct_grammar.proofs.repeats.read_until.Goals as goal

pub returns-then-not-sees : goal.returns-then-not-sees
unfolding until_from
returns-then-not-sees g c = λ p f.
    let e = turn_left (λ n. until_from c.args.set.now p n c.loop-turn.found c.loop-turn.tokens) _ c.loop-turn._turn c.loop-turn-test.true (c.loop-turn.invariant p f) in
    first_of (search rules, grind (arith, common_steps))

pub returns-in_err-item : goal.returns-in_err-item
unfolding until_from
returns-in_err-item g c = λ p f.
    let e = turn_left (λ n. until_from c.args.set.now p n c.loop-turn.found c.loop-turn.tokens) _ c.loop-turn._turn c.loop-turn-test.true (c.loop-turn.invariant p f) in
    let r = f.reads _ _ _ c.read.ensures in
    first_of (search rules, grind (arith, common_steps))

pub returns-in-Last : goal.returns-in-Last
unfolding until_from
returns-in-Last g c = λ p f.
    let e = turn_left (λ n. until_from c.args.set.now p n c.loop-turn.found c.loop-turn.tokens) _ c.loop-turn._turn c.loop-turn-test.true (c.loop-turn.invariant p f) in
    let r = f.reads _ _ _ c.read.ensures in
    first_of (search rules, grind (arith, common_steps))

pub loop-turn-preserved : goal.loop-turn-preserved
unfolding until_from
loop-turn-preserved g c = λ p f.
    let e = turn_left (λ n. until_from c.args.set.now p n c.loop-turn.found c.loop-turn.tokens) _ c.loop-turn._turn c.loop-turn-test.true (c.loop-turn.invariant p f) in
    let r = f.reads _ _ _ c.read.ensures in
    first_of (search rules, grind (arith, common_steps))

pub returns : goal.returns
unfolding until_from
returns g c = λ p f.
    let e = turns_spent (λ n. until_from c.args.set.now p n c.loop-turn.found c.loop-turn.tokens) _ c.loop-turn._turn c.loop-turn-test.false (c.loop-turn.invariant p f) in
    first_of (search rules, grind (arith, common_steps))
