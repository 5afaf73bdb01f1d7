use Rattle.std.proofs.Common.{◌≡◌, take, Ok}
use Rattle.ct_types.specs.Answers.{each}
use Rattle.ct_source.specs.Rows.{lent}
use Rattle.ct_machine.specs.Reads.{version_on}
use Rattle.ct_core.specs.Seeing.{seen_with}
use Rattle.ct_core.proofs.versions.versions_on.Given as goal

abbrev pub invariant-loop-row : goal.invariant-loop-row
invariant-loop-row l = each (version_on (seen_with l.db l.env) l.version) (lent (take l.row-index l.rows)) ≡ Ok l.made
