use Rattle.std.proofs.Common.{◌++◌, ◌∷◌, [], List, sym, ap, ap₂, ◌∙◌}
use Rattle.ct_model.specs.declared.db.Table.{Table}
use Rattle.ct_found.specs.Gathered.{with_rows}
use Rattle.ct_found.proofs.Gathering.{with_more}
use Rattle.ct_checkpoint.proofs.gathering.rows_to_last.Goals as goal

pub returns : goal.returns
returns c =
    c.in_ok-push.ensures
    ∙ ap₂ (λ (front : List Table) (t : Table). front ++ t ∷ []) c.from_vec-made.ensures c.in_ok-with_more_rows.ensures
    ∙ sym (with_more c.pop.new.self.items c.in-Some.last c.args.rows)
    ∙ ap (λ tables. with_rows tables c.args.rows) (sym c.in-Some.ensures.items ∙ c.into_vec-tables.ensures)
