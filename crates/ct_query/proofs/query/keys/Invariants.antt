use Rattle.std.proofs.Common.{◌≡◌, take, Ok}
use Rattle.ct_query.specs.Answer.{keys_on}
use Rattle.ct_query.proofs.query.keys.Given as goal

abbrev pub invariant-loop-part : goal.invariant-loop-part
invariant-loop-part g l = keys_on (record { env = l.env; versions = g.L.Versions.row_of l.versions }) l.row (take l.part-index l.parts) ≡ Ok l.made
