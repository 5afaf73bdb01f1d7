use Rattle.std.proofs.Common.{◌++◌, List, map, filter, ap, ◌∙◌}
use Rattle.std.proofs.lemmas.Result.{on_ok_weaker}
use Rattle.ct_types.specs.declared.entry.Kept.{Kept}
use Rattle.ct_model.specs.Apply.{commit_stays}
use Rattle.ct_database.specs.Commits.{committed}
use Rattle.ct_database.proofs.Trimmed.{told_trimmed}
use Rattle.ct_database.proofs.told.told_recent.Goals as goal

pub returns : goal.returns
returns c =
    on_ok_weaker c.push_all_told.result
    (λ e. e ∙ ap (λ told. c.args.made.now ++ told)
    (ap (λ (kept : List Kept). map committed (filter (commit_stays c.args.tables.now) kept)) c.pointers.ensures ∙ told_trimmed c.args.tables.now c.args.recent.now))
    c.push_all_told.ensures
