use Rattle.std.proofs.Common.{◌≡◌, drop}
use Rattle.ct_grammar.specs.Kinds.{kind_in}
use Rattle.ct_grammar.proofs.kind.kind_in.Given as goal

abbrev pub invariant-loop-kind : goal.invariant-loop-kind
invariant-loop-kind l = kind_in l.kinds l.word l.otherwise ≡ kind_in (drop l.kind-index l.kinds) l.word l.otherwise
