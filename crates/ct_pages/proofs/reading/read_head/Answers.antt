use Rattle.std.proofs.Common.{rules, arith}
use Rattle.std.proofs.lemmas.Grind.{common_steps}
use Rattle.ct_pages.specs.Slots.{IsMarked}
use Rattle.ct_pages.proofs.Decoding.{reads_head}
use Rattle.ct_pages.proofs.reading.read_head.Goals as goal

pub returns-clause-reads : goal.returns-clause-reads
returns-clause-reads c =
    let bytes = c.args.bytes.now in
    let marked : IsMarked bytes = record { long = omega (arith, c.requires); marked = first_of (search rules, grind (arith, common_steps)) } in
    reads_head bytes c.in_ok-zero.zero c.in_ok-one.one marked c.in_ok-zero.ensures c.in_ok-one.ensures c.current.result c.current.ensures
