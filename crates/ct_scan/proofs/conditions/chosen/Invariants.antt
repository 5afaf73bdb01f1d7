use Rattle.std.proofs.Common.{◌≡◌, take, Ok}
use Rattle.ct_expr.specs.Conditions.{only}
use Rattle.ct_expr.specs.Meaning.{holds}
use Rattle.ct_source.specs.Rows.{lent}
use Rattle.ct_scan.proofs.conditions.chosen.Given as goal

abbrev pub invariant-loop-row : goal.invariant-loop-row
invariant-loop-row g l = only (holds (record { env = l.env; versions = g.L.Versions.row_of l.versions }) l.condition) (lent (take l.row-index l.rows)) ≡ Ok (lent l.found)
