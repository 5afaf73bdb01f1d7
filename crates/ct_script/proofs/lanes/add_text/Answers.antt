use Rattle.std.proofs.Common.{rules}
use Rattle.ct_script.proofs.Placements.{with_text_at-set}
use Rattle.ct_script.proofs.lanes.add_text.Goals as goal

pub returns : goal.returns
returns c = with_text_at-set _ _ c.index_mut-lane.result.now _ _ c.index_mut-lane.ensures.value (search rules)
