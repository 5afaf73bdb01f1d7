use Rattle.std.proofs.Common.{◌<◌, length, arith}
use Rattle.std.proofs.lemmas.List.{take_rest}
use Rattle.ct_log.proofs.Gates.{record_here, broken_here}
use Rattle.ct_log.proofs.reading.next_record.Goals as goal

pub returns-in-Some : goal.returns-in-Some
returns-in-Some c = record_here c.args.bytes.now _ c.args.at c.in-Some.size (take_rest c.args.bytes.now c.args.at) c.requires c.in-Some.ensures

pub returns-in-None : goal.returns-in-None
returns-in-None c =
    let within : c.args.at < length c.args.bytes.now = omega (arith, c.if-at-bytes.false) in
    broken_here c.args.bytes.now _ c.args.at (take_rest c.args.bytes.now c.args.at) within c.if-bytes-at-ne-OPEN.false c.in-None.ensures
