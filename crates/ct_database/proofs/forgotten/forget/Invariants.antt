use Rattle.ct_database.specs.Steps.{NotesStay}
use Rattle.ct_database.proofs.forgotten.forget.Given as goal

abbrev pub invariant-loop-change : goal.invariant-loop-change
invariant-loop-change l = NotesStay l.version l.initial.lasts l.lasts
