use Rattle.std.proofs.Common.{ap, ◌∙◌}
use Rattle.ct_model.specs.Net.{changes_above}
use Rattle.ct_source.specs.Rows.{lent}
use Rattle.ct_database.specs.Steps.{newest_of}
use Rattle.ct_database.proofs.OwnCommits.{since_changes}
use Rattle.ct_database.proofs.commits.Commits.since_on.Goals as goal

pub returns : goal.returns
returns c =
    let inside = c.self.inside in
    let newest = newest_of inside.newest in
    let floor = c.args.version in
    ap (changes_above c.args.table floor) c.in_ok-push_since.ensures
    ∙ since_changes c.args.table floor (lent c.in_ok-made.made) inside.older newest c.in_ok-made.ensures
    ∙ ap (λ kept. changes_above c.args.table floor kept.commits) c.self.view_is
