use Rattle.std.proofs.Common.{◌≡◌, IfOk, filter, ap, ◌∙◌, subst}
use Rattle.ct_model.specs.Versions.{version_row_of}
use Rattle.ct_source.specs.Rows.{lent}
use Rattle.ct_database.specs.Steps.{is_later, last_in}
use Rattle.ct_database.proofs.OwnCommits.{last_on}
use Rattle.ct_database.proofs.last.older_last.Goals as goal

pub returns-in_ok-since_on-in-None : goal.returns-in_ok-since_on-in-None
returns-in_ok-since_on-in-None c =
    let commits = c.in_ok-since_on-in-None.field-0 in
    subst (λ row. IfOk c.walked_last.result (λ made. made ≡ row))
    (ap version_row_of
    (ap (λ kept. last_in c.args.table c.args.key.now (lent kept)) c.as_slice-in-None.ensures
    ∙ last_on c.args.table c.args.key.now (lent commits) (filter (is_later c.args.floor) c.args.older.now) c.in_ok-since_on-in-None.ensures))
    c.walked_last.ensures
