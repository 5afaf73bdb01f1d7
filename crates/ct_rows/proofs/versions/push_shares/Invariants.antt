use Rattle.std.proofs.Common.{◌≡◌, ◌++◌, take}
use Rattle.ct_rows.specs.Versions.{versions_of}
use Rattle.ct_rows.proofs.versions.push_shares.Given as goal

abbrev pub invariant-loop-version : goal.invariant-loop-version
invariant-loop-version l = versions_of l.made.items ≡ versions_of l.initial.made.items ++ versions_of (take l.version-index l.versions)
