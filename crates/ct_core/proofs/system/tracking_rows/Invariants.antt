use Rattle.std.proofs.Common.{◌≡◌, take}
use Rattle.std.specs.List.{filter_map}
use Rattle.ct_machine.specs.Reads.{shown_tracking}
use Rattle.ct_core.proofs.system.tracking_rows.Given as goal

abbrev pub invariant-loop-table : goal.invariant-loop-table
invariant-loop-table l = l.made ≡ filter_map shown_tracking (take l.table-index l.tables)
