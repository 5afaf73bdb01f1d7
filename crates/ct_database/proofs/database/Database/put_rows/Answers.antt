use Rattle.std.proofs.Common.{List, map, fold, ap, ◌∙◌}
use Rattle.std.proofs.lemmas.Result.{on_ok_weaker}
use Rattle.ct_types.specs.declared.entry.Write.{Write}
use Rattle.ct_model.specs.Apply.{written}
use Rattle.ct_database.proofs.RowsPut.{rows_put}
use Rattle.ct_database.proofs.database.Database.put_rows.Goals as goal

pub returns-clause-ok : goal.returns-clause-ok
returns-clause-ok c =
    let inside = c.self.inside in
    on_ok_weaker c.write.result
    (λ wrote. rows_put inside.version inside.time inside.last_xdes inside.keep inside.tables c.write.new.self inside.kept.commits c.args.writes.now c.args.self.now c.self.view_is
    (wrote ∙ ap (λ (writes : List Write). fold (λ before write. map (written write) before) inside.tables writes) c.in_ok-writes.ensures))
    c.write.ensures.ok
