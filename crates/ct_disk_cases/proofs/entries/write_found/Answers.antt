use Rattle.std.proofs.Common.{arith}
use Rattle.ct_disk_cases.proofs.Fits.{entry_fits, entry_is_short}
use Rattle.ct_disk_cases.proofs.entries.write_found.Goals as goal

pub entry_size-size-requires-clause-fits : goal.entry_size-size-requires-clause-fits
entry_size-size-requires-clause-fits g c = entry_fits c.args.bytes.now c.args.entry.now c.requires

pub put_entry-requires : goal.put_entry-requires
put_entry-requires g c = entry_fits c.args.bytes.now c.args.entry.now c.requires

pub entry_size-size-requires-clause-short : goal.entry_size-size-requires-clause-short
entry_size-size-requires-clause-short g c = entry_is_short c.args.bytes.now c.args.entry.now c.requires (omega arith)
