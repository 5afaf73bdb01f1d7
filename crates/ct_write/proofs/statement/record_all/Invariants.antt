use Rattle.std.proofs.Common.{◌≡◌, map}
use Rattle.ct_model.specs.Tables.{catalogued}
use Rattle.ct_write.specs.Writes.{recorded}
use Rattle.ct_write.proofs.statement.record_all.Given as goal

abbrev pub invariant-loop-changed : goal.invariant-loop-changed
invariant-loop-changed l = l.made ≡ map (recorded (catalogued l.table) l.op l.mask l.context) l.yielded
