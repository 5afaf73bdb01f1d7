use Rattle.std.proofs.Common.{sym, subst, ap, ◌∙◌}
use Rattle.ct_model.specs.Tables.{table_of}
use Rattle.ct_model.specs.Valid.{AreNumbered}
use Rattle.ct_database.proofs.Numbered.{none_of, table_at}
use Rattle.ct_database.proofs.tables.Tables.table.Goals as goal

pub returns-in-None : goal.returns-in-None
returns-in-None c =
    let tables = c.as_slice-tables.result.now in
    let numbered = subst (AreNumbered 1) (sym c.as_slice-tables.ensures.value) c.self.invariant.numbered in
    sym (none_of tables c.args.id numbered c.in-None.ensures) ∙ ap (λ ts. table_of ts c.args.id) (c.as_slice-tables.ensures.value ∙ c.self.view_is)

pub returns-in-Some : goal.returns-in-Some
returns-in-Some c =
    let tables = c.as_slice-tables.result.now in
    let numbered = subst (AreNumbered 1) (sym c.as_slice-tables.ensures.value) c.self.invariant.numbered in
    sym (table_at tables c.args.id c.in-Some.at c.index-tables-at.result numbered c.in-Some.ensures.0 c.in-Some.ensures.1 c.index-tables-at.is)
    ∙ ap (λ ts. table_of ts c.args.id) (c.as_slice-tables.ensures.value ∙ c.self.view_is)
