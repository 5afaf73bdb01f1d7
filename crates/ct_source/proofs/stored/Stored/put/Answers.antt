use Rattle.std.proofs.Common.{◌≡◌, List, ap, ◌∙◌}
use Rattle.std.proofs.lemmas.Result.{on_ok_weaker}
use Rattle.ct_ptree.specs.Pairs.{set_pair}
use Rattle.ct_model.specs.Tables.{key_of}
use Rattle.ct_types.specs.declared.value.Row.{Row}
use Rattle.ct_model.specs.declared.db.Table.{Table}
use Rattle.ct_source.specs.Rows.{AreKeyed, rows_of, IsWhole}
use Rattle.ct_source.proofs.PairsByKey.{after_change, keyed_put, rows_put}
use Rattle.ct_source.proofs.stored.Stored.put.Goals as goal

pub invariant_of-self : goal.invariant_of-self
invariant_of-self c =
    let schema = c.self.inside.schema.value in
    let tree = c.self.inside.tree in
    let at : key_of c.self.inside.schema.value c.args.row ≡ c.args.key = rw (← c.self.view_is) at c.requires.at in
    let whole : IsWhole c.self.inside.schema.value c.args.row = rw (← c.self.view_is) at c.requires.whole in
    after_change (AreKeyed schema) c.put.result tree (set_pair tree c.args.key c.args.row) c.put.new.self c.self.invariant
    (keyed_put schema tree c.args.key c.args.row c.self.invariant at whole) c.put.ensures.ok c.put.ensures.err

pub returns-clause-ok : goal.returns-clause-ok
returns-clause-ok c =
    let schema = c.self.inside.schema.value in
    let tree = c.self.inside.tree in
    let with_rows : List Row → Table = (λ rows. record { schema = c.self.inside.schema.value; rows = rows; tracked = c.self.inside.tracked }) in
    rw (← c.self.view_is) (on_ok_weaker c.put.result (λ e. ap with_rows (ap rows_of e ∙ rows_put schema c.args.key c.args.row tree c.self.invariant.keys)) c.put.ensures.ok)
