use Rattle.ct_faults.specs.Bytes.{most_bytes}
use Rattle.ct_script.proofs.Sizes.{reads_within}
use Rattle.ct_run.proofs.top.answer.Goals as goal

pub perform-requires : goal.perform-requires
perform-requires g c = reads_within c.args.bytes.now c.in-Ok.script most_bytes c.requires c.in-Ok.ensures
