use Rattle.std.proofs.Common.{List, ap, ◌∙◌}
use Rattle.std.proofs.lemmas.Result.{on_ok_weaker}
use Rattle.ct_ptree.specs.Pairs.{without}
use Rattle.ct_types.specs.declared.value.Row.{Row}
use Rattle.ct_model.specs.declared.db.Table.{Table}
use Rattle.ct_source.specs.Rows.{AreKeyed, rows_of}
use Rattle.ct_source.proofs.PairsByKey.{after_change, keyed_taken, rows_taken}
use Rattle.ct_source.proofs.stored.Stored.take.Goals as goal

pub invariant_of-self : goal.invariant_of-self
invariant_of-self c =
    let schema = c.self.inside.schema.value in
    let tree = c.self.inside.tree in
    after_change (AreKeyed schema) c.take.result tree (without tree c.args.key.now) c.take.new.self c.self.invariant
    (keyed_taken schema tree c.args.key.now c.self.invariant) c.take.ensures.ok c.take.ensures.err

pub returns-clause-ok : goal.returns-clause-ok
returns-clause-ok c =
    let schema = c.self.inside.schema.value in
    let tree = c.self.inside.tree in
    let with_rows : List Row → Table = (λ rows. record { schema = c.self.inside.schema.value; rows = rows; tracked = c.self.inside.tracked }) in
    rw (← c.self.view_is) (on_ok_weaker c.take.result (λ e. ap with_rows (ap rows_of e ∙ rows_taken schema c.args.key.now tree c.self.invariant.keys)) c.take.ensures.ok)
