use Rattle.std.proofs.Common.{◌≡◌, ◌-◌}
use Rattle.ct_grammar.specs.Reading.{Reader, Follows, repeat, repeat_from}
use Rattle.ct_grammar.proofs.repeats.read_many.Given as goal

abbrev pub invariant-loop-turn : goal.invariant-loop-turn
invariant-loop-turn g l = (p : Reader g.row.T.Denot) → Follows p (λ old r new. g.P.Fn.post l.read (old, tt) (r, (new, tt))) → repeat l.set p l.fn.tokens ≡ repeat_from l.set p (l._turn-end - l._turn) l.found l.tokens
