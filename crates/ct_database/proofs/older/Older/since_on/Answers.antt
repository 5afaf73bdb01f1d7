use Rattle.std.proofs.Common.{◌++◌, filter, ap, ◌∙◌}
use Rattle.ct_database.specs.Commits.{commits_on}
use Rattle.ct_database.specs.Steps.{is_later}
use Rattle.ct_database.proofs.ByTable.{stand_on, rises_on, own_later}
use Rattle.ct_database.proofs.older.Older.since_on.Goals as goal

pub later_on-requires-clause-keyed : goal.later_on-requires-clause-keyed
later_on-requires-clause-keyed c = stand_on c.self.inside.sealed c.self.inside.by_table c.args.table c.self.invariant.0 c.self.invariant.1

pub later_on-requires-clause-rising : goal.later_on-requires-clause-rising
later_on-requires-clause-rising c = rises_on c.self.inside.sealed c.self.inside.by_table c.self.inside.recent c.args.table c.self.invariant.2 c.self.invariant.1

pub returns : goal.returns
returns c =
    let inside = c.self.inside in
    let table = c.args.table in
    let later = is_later c.args.version in
    ap (commits_on table) (c.in_ok-push_later.ensures ∙ ap (λ front. front ++ filter later inside.recent) c.in_ok-made.ensures)
    ∙ own_later inside.sealed inside.by_table inside.recent table c.args.version c.self.invariant.1
    ∙ ap (λ kept. commits_on table (filter later kept)) c.self.view_is
