use Rattle.std.proofs.Common.{◌≡◌, ℕ}
use Rattle.ct_model.specs.Apply.{trim}
use Rattle.ct_database.specs.Steps.{AreWithin}
use Rattle.ct_database.proofs.commits.Commits.sweep.Given as goal

abbrev pub invariant-loop : goal.invariant-loop
invariant-loop l = record {
  counted : trim l.tables l.self.commits ≡ trim l.tables l.initial.self.commits;
  within : (version : ℕ) → AreWithin version l.initial.self.commits → AreWithin version l.self.commits;
}
