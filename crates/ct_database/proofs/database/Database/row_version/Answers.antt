use Rattle.std.proofs.Common.{◌≡◌, IfOk, List, ap, sym, ◌∙◌, subst}
use Rattle.ct_model.specs.declared.db.Db.{Db}
use Rattle.ct_model.specs.declared.db.Dated.{Dated}
use Rattle.ct_model.specs.Net.{last_of, window}
use Rattle.ct_model.specs.Versions.{row_version, version_row_of}
use Rattle.ct_database.specs.Steps.{counted_of}
use Rattle.ct_database.proofs.Counted.{all_counted}
use Rattle.ct_database.proofs.database.Database.row_version.Goals as goal

pub returns : goal.returns
returns c =
    let inside = c.self.inside in
    subst (λ row. IfOk c.last_counted.result (λ made. made ≡ row))
    (ap (λ found. version_row_of (last_of (window (counted_of found c.self.inside.kept.commits) c.args.key.now))) c.table.ensures
    ∙ ap (λ (all : List Dated). version_row_of (last_of (window all c.args.key.now))) (sym (all_counted inside.tables c.args.table c.are_numbered.ensures inside.kept.commits))
    ∙ ap (λ (db : Db). row_version db c.args.table c.args.key.now) c.self.view_is)
    c.last_counted.ensures
