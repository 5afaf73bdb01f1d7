use Rattle.std.proofs.Common.{◌≡◌, IfOk, ap, ◌∙◌, subst}
use Rattle.ct_model.specs.declared.db.Db.{Db}
use Rattle.ct_model.specs.Net.{net, net_of}
use Rattle.ct_database.proofs.Counted.{net_counted}
use Rattle.ct_database.proofs.database.Database.net.Goals as goal

pub returns : goal.returns
unfolding net
returns c =
    let inside = c.self.inside in
    subst (λ rows. IfOk c.net_since.result (λ made. made ≡ rows))
    (ap (λ found. net_of found c.self.inside.kept.commits c.args.since) c.table.ensures
    ∙ net_counted inside.tables c.args.table c.args.since c.are_numbered.ensures inside.kept.commits
    ∙ ap (λ (db : Db). net db c.args.table c.args.since) c.self.view_is)
    c.net_since.ensures
