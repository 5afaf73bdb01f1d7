use Rattle.std.proofs.Common.{◌++◌, [], List, take}
use Rattle.ct_types.specs.declared.entry.Kept.{Kept}
use Rattle.ct_database.specs.Steps.{AreNoted, pointed}
use Rattle.ct_database.proofs.noted.note_all.Given as goal

abbrev pub invariant-loop-one : goal.invariant-loop-one
invariant-loop-one l = (older : List Kept) → AreNoted older [] l.initial.lasts → AreNoted (older ++ pointed (take l.one-index l.commits)) [] l.lasts
