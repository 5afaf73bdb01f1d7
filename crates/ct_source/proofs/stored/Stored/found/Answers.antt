use Rattle.std.proofs.Common.{◌≡◌, sym, ap, ◌∙◌, filter, option_to_list}
use Rattle.std.specs.Option.{option_copied}
use Rattle.std.proofs.lemmas.Result.{IfOk-weaker}
use Rattle.ct_model.specs.Tables.{row_at}
use Rattle.ct_source.specs.Cells.{has_value}
use Rattle.ct_source.specs.Rows.{lent}
use Rattle.ct_source.proofs.OneColumn.{one_has_value}
use Rattle.ct_source.proofs.stored.Stored.found.Goals as goal

pub returns : goal.returns
returns c =
    let table = c.args.self.now in
    let wanted = filter (has_value c.args.at c.args.value.now) c.args.self.now.rows in
    let known = c.rows_rise.ensures in
    let is : option_to_list (option_copied c.get.result) ≡ filter (has_value c.args.at c.args.value.now) c.args.self.now.rows = ap option_to_list (c.get.ensures ∙ ap (row_at table.schema table.rows) c.in_ok-key.ensures)
    ∙ sym (one_has_value table.schema table.rows c.args.at c.args.value.now known.rising known.whole known.columns c.requires) in
    IfOk-weaker c.lone.result (λ made. lent made ≡ option_to_list (option_copied c.get.result)) (λ made. lent made ≡ wanted) (λ made same. same ∙ is) c.lone.ensures
