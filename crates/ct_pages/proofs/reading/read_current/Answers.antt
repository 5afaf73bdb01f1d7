use Rattle.std.proofs.Common.{inl, Ok, Err, Some, None, Option, Result, List, ℕ, IfOk, subst}
use Rattle.std.proofs.lemmas.Option.{same_Some}
use Rattle.std.specs.Option.{ForSome}
use Rattle.ct_log.specs.declared.fault.OpenFault.{OpenFault}
use Rattle.ct_pages.specs.declared.slot.Super.{Super}
use Rattle.ct_pages.specs.Slots.{IsCanonical}
use Rattle.ct_pages.specs.Reading.{Reads}
use Rattle.ct_pages.proofs.Decoding.{read_short, read_whole, named_is_canonical}
use Rattle.ct_pages.proofs.reading.read_current.Goals as goal

pub returns-then-count-lt-HEAD_BYTES-clause-reads : goal.returns-then-count-lt-HEAD_BYTES-clause-reads
returns-then-count-lt-HEAD_BYTES-clause-reads g c = λ h.
    let read = c.in_ok-count.ensures in
    let D = g.D.Disk in
    inl (read_short c.read_front.new.buf (D.content c.args.disk.now 0) c.in_ok-count.count read.bound (read.gives h) c.if-count-lt-HEAD_BYTES.true)

pub returns-clause-reads : goal.returns-clause-reads
returns-clause-reads g c = λ h.
    let read = c.in_ok-count.ensures in
    let D = g.D.Disk in
    read_whole c.read_front.new.buf (D.content c.args.disk.now 0) c.in_ok-count.count c.read_head.result c.read_front.auto.buf read.bound c.if-count-lt-HEAD_BYTES.false (read.gives h) c.read_head.ensures.reads

canonical_said : (bytes : List ℕ) (answer : Result (Option Super) OpenFault) → Reads bytes answer → IfOk answer (λ said. ForSome said IsCanonical)
canonical_said bytes (Ok None) reads = λ slot is. absurd cc
canonical_said bytes (Ok (Some slot)) reads = λ other is. subst IsCanonical (same_Some slot other is) (named_is_canonical bytes slot reads)
canonical_said bytes (Err e) reads = tt

pub returns-clause-canonical : goal.returns-clause-canonical
returns-clause-canonical g c = canonical_said c.read_front.new.buf c.read_head.result c.read_head.ensures.reads
