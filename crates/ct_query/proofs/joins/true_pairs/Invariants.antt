use Rattle.std.proofs.Common.{◌≡◌, take, Ok}
use Rattle.ct_source.specs.Rows.{lent}
use Rattle.ct_query.specs.Steps.{pairs_of}
use Rattle.ct_query.proofs.joins.true_pairs.Given as goal

abbrev pub invariant-loop-other : goal.invariant-loop-other
invariant-loop-other g l = pairs_of (record { env = l.env; versions = g.L.Versions.row_of l.versions }) l.plan l.side (lent (take l.other-index l.others)) l.row ≡ Ok l.found
