use Rattle.std.proofs.Common.{◌≡◌, ◌++◌, [], List}
use Rattle.ct_types.specs.declared.entry.Kept.{Kept}
use Rattle.ct_database.specs.Steps.{AreNoted, commits_of}
use Rattle.ct_database.proofs.noted.notes_of.Given as goal

abbrev pub invariant-loop-pair : goal.invariant-loop-pair
invariant-loop-pair l = (done : List Kept) × (done ++ commits_of l.pair-iterator ≡ commits_of l.initial.pair-iterator) × AreNoted done [] l.made
