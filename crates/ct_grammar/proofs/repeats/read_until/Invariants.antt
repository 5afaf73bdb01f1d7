use Rattle.std.proofs.Common.{◌≡◌, ◌-◌}
use Rattle.ct_grammar.specs.declared.repeats.Turn.{Turn}
use Rattle.ct_grammar.specs.Reading.{Reader, Follows, until_last, until_from}
use Rattle.ct_grammar.proofs.repeats.read_until.Given as goal

abbrev pub invariant-loop-turn : goal.invariant-loop-turn
invariant-loop-turn g l = (p : Reader (Turn g.row.A.Denot g.row.B.Denot)) → Follows p (λ old r new. g.P.Fn.post l.read (old, tt) (r, (new, tt))) → until_last l.set p l.fn.tokens ≡ until_from l.set p (l._turn-end - l._turn) l.found l.tokens
