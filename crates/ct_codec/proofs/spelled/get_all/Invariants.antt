use Rattle.std.proofs.Common.{◌≡◌, ◌-◌}
use Rattle.ct_codec.specs.Readers.{repeated}
use Rattle.ct_codec.proofs.Turns.{repeated_after}
use Rattle.ct_codec.proofs.spelled.get_all.Given as goal

abbrev pub invariant-loop-turn : goal.invariant-loop-turn
invariant-loop-turn g l = repeated g.T.Spelled.reader l.count l.fn.input ≡ repeated_after g.T.Spelled.reader (l.count - l._turn) l.found l.input
