use Rattle.std.proofs.Common.{◌+◌, ◌-◌, rules, arith, sym, ap, ◌∙◌}
use Rattle.ct_codec.proofs.Turns.{repeated_after, one_more, no_more, at_last, at_first, reads_ok, reads_err}
use Rattle.ct_codec.proofs.spelled.get_all.Goals as goal

pub loop-turn-init : goal.loop-turn-init
loop-turn-init g c = at_first g.T.Spelled.reader c.args.count _ ∙ ap (λ l. repeated_after g.T.Spelled.reader (c.args.count - 0) l c.args.input.now) (sym c.new-found.ensures)

pub returns-in_err-get : goal.returns-in_err-get
returns-in_err-get g c =
    reads_err _ _ _ _ _ _ c.in_err-get.was (search rules) (λ none. c.loop-turn.invariant ∙ no_more g.T.Spelled.reader c.args.count c.loop-turn._turn c.loop-turn.found _ c.loop-turn-test.true none) c.get.ensures

pub loop-turn-preserved : goal.loop-turn-preserved
loop-turn-preserved g c =
    c.loop-turn.invariant
    ∙ one_more g.T.Spelled.reader c.args.count c.loop-turn._turn c.loop-turn.found _ _ c.in_ok-get.field-0 c.loop-turn-test.true (reads_ok _ _ _ _ c.in_ok-get.was c.get.ensures)
    ∙ ap (λ l. repeated_after g.T.Spelled.reader (c.args.count - (c.loop-turn._turn + 1)) l c.get.new.input) (sym c.in_ok-push.ensures)

pub returns : goal.returns
returns g c = c.loop-turn.invariant ∙ at_last g.T.Spelled.reader c.args.count c.loop-turn._turn c.loop-turn.found _ (omega (arith, c.loop-turn-test.false))
