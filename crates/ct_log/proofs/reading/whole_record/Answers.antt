use Rattle.std.proofs.Common.{◌≡◌, take, drop, arith}
use Rattle.std.proofs.lemmas.List.{take_all}
use Rattle.byteorder.specs.Endian.{little_bytes}
use Rattle.ct_log.proofs.Gates.{too_short, too_long, stands_whole}
use Rattle.ct_log.proofs.reading.whole_record.Goals as goal

pub returns-then-size-bytes : goal.returns-then-size-bytes
returns-then-size-bytes c =
    let bytes = c.args.bytes.now in
    let size = c.length_at-size.result in
    let is : take 4 (drop 1 bytes) ≡ little_bytes 4 size = grind (arith, take_all, c.length_at-size.ensures) in
    (omega (arith, c.if-size-bytes.true), stands_whole bytes size c.requires c.length_at-size.type_inv is (omega (arith, c.if-size-bytes.true)))

pub returns-else-size-bytes : goal.returns-else-size-bytes
returns-else-size-bytes c payload begins =
    let bytes = c.args.bytes.now in
    let size = c.length_at-size.result in
    let is : take 4 (drop 1 bytes) ≡ little_bytes 4 size = grind (arith, take_all, c.length_at-size.ensures) in
    too_long payload bytes size c.length_at-size.type_inv is (omega (arith, c.if-size-bytes.false)) begins

pub returns-then-bytes-lt6 : goal.returns-then-bytes-lt6
returns-then-bytes-lt6 c payload begins = too_short payload c.args.bytes.now c.if-bytes-lt6.true begins
