use Rattle.std.proofs.Common.{◌≡◌, take, Ok}
use Rattle.ct_scan.specs.Lists.{all_of}
use Rattle.ct_source.specs.Rows.{lent}
use Rattle.ct_source.specs.Sources.{source_rows}
use Rattle.ct_query.specs.Steps.{rows_of}
use Rattle.ct_query.proofs.joins.by_rows.Given as goal

abbrev pub invariant-loop-row : goal.invariant-loop-row
invariant-loop-row g l =
    all_of (rows_of (record { env = l.env; versions = g.L.Versions.row_of l.versions }) l.plan l.side l.outer (source_rows l.others)) (lent (take l.row-index l.rows)) ≡ Ok l.all.items
