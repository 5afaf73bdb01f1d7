use Rattle.std.proofs.Common.{◌≡◌, ap, ◌∙◌}
use Rattle.std.proofs.lemmas.Result.{IfOk-weaker}
use Rattle.ct_model.specs.Apply.{trim}
use Rattle.ct_source.specs.Rows.{lent}
use Rattle.ct_database.proofs.ValidStored.{trim_counted}
use Rattle.ct_database.proofs.plain.plain_commits.Goals as goal

pub returns : goal.returns
returns c =
    let tables = c.args.tables.now in
    let commits = c.args.commits.now.commits in
    IfOk-weaker c.needed_commits.result (λ made. made ≡ trim tables (lent c.as_slice.result.now)) (λ made. made ≡ trim tables commits)
    (λ made same. same ∙ ap (λ rows. trim tables (lent rows)) c.as_slice.ensures ∙ ap (trim tables) c.in_ok-kept.ensures ∙ trim_counted tables commits)
    c.needed_commits.ensures
