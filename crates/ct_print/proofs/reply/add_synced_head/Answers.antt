use Rattle.std.proofs.Common.{append_assoc}
use Rattle.ct_print.proofs.reply.add_synced_head.Goals as goal

pub returns : goal.returns
returns c = simp append_assoc c.write.ensures.bytes
