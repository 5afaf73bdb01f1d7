use Rattle.ct_machine.specs.Reads.{world_of}
use Rattle.ct_core.specs.Seeing.{seen_with}
use Rattle.ct_core.proofs.Storing.{writes_stored}
use Rattle.ct_core.proofs.writing.write_to.Goals as goal

pub returns-in-Ok-clause-kept : goal.returns-in-Ok-clause-kept
returns-in-Ok-clause-kept c =
    λ newest reaches.
    c.fitted.ensures.kept newest c.args.db.now
    (record {
      stored = writes_stored (world_of (seen_with c.args.db.now c.args.env.now)) c.args.db.now c.args.write.now c.args.table.now c.in-Ok.writes c.requires.there c.in-Ok.ensures.gives c.in-Ok.ensures.keyed;
      alone = reaches.alone;
    })
