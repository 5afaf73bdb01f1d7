use Rattle.ct_redo.proofs.Puts.{write_storable}
use Rattle.ct_redo.proofs.writes.put_one.Goals as goal

pub put_rows-requires : goal.put_rows-requires
put_rows-requires c = write_storable c.args.after.now.tables c.args.write.now c.from_ref.result.now c.requires c.from_ref.ensures.value
