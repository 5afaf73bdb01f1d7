use Rattle.std.proofs.Common.{◌∙◌}
use Rattle.ct_session.proofs.Places.{put_item}
use Rattle.ct_session.proofs.variables.put_value.Goals as goal

pub returns : goal.returns
returns c =
    put_item c.args.variables.now c.into_vec-items.result.items c.from_vec.result c.args.place c.index_mut-variable.result.now c.args.name.now c.args.value
    c.requires (c.into_vec-items.ensures ∙ c.replace.ensures.value) c.index_mut-variable.ensures.value c.from_vec.ensures
