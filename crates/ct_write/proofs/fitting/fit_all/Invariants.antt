use Rattle.std.proofs.Common.{◌≡◌, take, Ok}
use Rattle.std.specs.List.{AllByRecursion}
use Rattle.ct_write.specs.Fitting.{fit_row, IsFit}
use Rattle.ct_write.specs.Steps.{in_turn}
use Rattle.ct_write.proofs.fitting.fit_all.Given as goal

abbrev pub invariant-loop-changed : goal.invariant-loop-changed
invariant-loop-changed l = record {
  passed : in_turn (λ changed. fit_row l.columns changed.row) (take l.changed-index l.changes) ≡ Ok tt;
  fit : AllByRecursion (λ changed. IsFit l.columns changed.row) (take l.changed-index l.changes);
}
