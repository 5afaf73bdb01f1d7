use Rattle.ct_expr.proofs.TextNames.{name_told}
use Rattle.ct_expr.proofs.tables.text_name.Goals as goal

pub returns : goal.returns
returns c = name_told c.args.text.now c.text_name.result c.text_name.ensures
