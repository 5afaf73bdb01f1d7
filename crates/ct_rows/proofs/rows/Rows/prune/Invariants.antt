use Rattle.ct_ptree.specs.Pairs.{Ascends}
use Rattle.ct_rows.proofs.Pruned.{IsPrunedSoFar}
use Rattle.ct_rows.proofs.rows.Rows.prune.Given as goal

abbrev pub invariant-loop-pair : goal.invariant-loop-pair
invariant-loop-pair l = record {
  rising : Ascends l.initial.pair-iterator;
  so_far : IsPrunedSoFar l.initial.pair-iterator l.pair-iterator l.made l.least;
}
