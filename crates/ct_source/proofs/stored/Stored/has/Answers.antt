use Rattle.std.proofs.Common.{◌∙◌, ap, is_some}
use Rattle.ct_model.specs.Tables.{has_that_key}
use Rattle.ct_source.specs.Rows.{rows_of}
use Rattle.ct_source.proofs.PairsByKey.{row_of_key, found_is_any, some_of_copied}
use Rattle.ct_source.proofs.stored.Stored.has.Goals as goal

pub returns : goal.returns
returns c =
    let schema = c.self.inside.schema.value in
    let tree = c.self.inside.tree in
    rw (← c.self.view_is)
    (c.is_some.ensures ∙ some_of_copied c.get.result ∙ ap is_some (c.get.ensures ∙ row_of_key schema c.args.key.now tree c.self.invariant.keys)
    ∙ found_is_any (has_that_key schema c.args.key.now) (rows_of tree))
