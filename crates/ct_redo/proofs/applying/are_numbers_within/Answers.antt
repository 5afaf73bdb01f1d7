use Rattle.std.proofs.Common.{◌↔◌, ◌≤◌, IsTrue, rules, subst}
use Rattle.std.specs.List.{AllByRecursion}
use Rattle.ct_types.specs.declared.entry.Kept.{Kept}
use Rattle.ct_database.specs.Commits.{committed}
use Rattle.ct_database.specs.declared.committed.Committed.{Committed}
use Rattle.ct_redo.proofs.Listed.{told_listed}
use Rattle.ct_redo.proofs.applying.are_numbers_within.Goals as goal

pub returns : goal.returns
returns c =
    let db = c.args.database.now in
    subst (λ last. IsTrue c.are_up_to.result ↔ AllByRecursion (λ (one : Kept). one.xdes ≤ last) db.kept) c.last_xdes.ensures
    (told_listed committed (λ (one : Committed). one.xdes ≤ c.last_xdes.result) db.kept c.as_slice.result.now _ (search rules) c.are_up_to.ensures)
