use Rattle.std.proofs.Common.{◌≡◌, take, Ok}
use Rattle.ct_query.specs.Answer.{shown}
use Rattle.ct_types.specs.Answers.{each}
use Rattle.ct_source.specs.Rows.{lent}
use Rattle.ct_query.proofs.query.show_all.Given as goal

abbrev pub invariant-loop-row : goal.invariant-loop-row
invariant-loop-row g l = each (shown (record { env = l.env; versions = g.L.Versions.row_of l.versions }) l.plan) (lent (take l.row-index l.rows)) ≡ Ok l.made
