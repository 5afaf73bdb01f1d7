use Rattle.std.proofs.Common.{◌≡◌, drop}
use Rattle.ct_grammar.specs.Kinds.{has}
use Rattle.ct_grammar.proofs.cursor.has.Given as goal

abbrev pub invariant-loop-x : goal.invariant-loop-x
invariant-loop-x l = has l.set l.kind ≡ has (drop l.x-index l.set) l.kind
