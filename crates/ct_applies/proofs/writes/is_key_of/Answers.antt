use Rattle.ct_model.specs.Tables.{key_of}
use Rattle.ct_applies.proofs.SameKey.{same_key}
use Rattle.ct_applies.proofs.writes.is_key_of.Goals as goal

pub returns : goal.returns
returns c = same_key (key_of c.args.schema.now c.args.row.now) c.args.key.now _ c.has_key.ensures
