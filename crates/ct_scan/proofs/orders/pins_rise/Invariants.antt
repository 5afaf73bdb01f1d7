use Rattle.std.proofs.Common.{drop, None}
use Rattle.ct_scan.specs.Steps.{PinsRise}
use Rattle.ct_scan.proofs.orders.pins_rise.Given as goal

abbrev pub invariant-loop-right : goal.invariant-loop-right
invariant-loop-right l = PinsRise l.env l.on l.at l.columns l.last (drop l.right-index l.rights) → PinsRise l.env l.on l.at l.columns None l.rights
