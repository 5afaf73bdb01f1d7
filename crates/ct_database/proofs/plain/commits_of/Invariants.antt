use Rattle.std.proofs.Common.{◌≡◌, ◌++◌}
use Rattle.std.specs.Vec.Iter.{into_iter_items}
use Rattle.ct_model.specs.Apply.{trim}
use Rattle.ct_database.specs.Steps.{AreBehind}
use Rattle.ct_database.proofs.ValidStored.{StaysWithin}
use Rattle.ct_database.proofs.plain.commits_of.Given as goal

abbrev pub invariant-loop-one : goal.invariant-loop-one
invariant-loop-one l = record {
  counted : trim l.tables l.made.commits ≡ trim l.tables l.yielded;
  within : StaysWithin l.yielded l.made.commits;
  count : AreBehind 0 (into_iter_items l.one-iterator);
  all : l.yielded ++ into_iter_items l.one-iterator ≡ l.fn.kept;
}
