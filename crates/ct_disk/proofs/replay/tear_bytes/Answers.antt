use Rattle.std.proofs.Common.{◌<◌, length, length-set, ◌∙◌, sym}
use Rattle.ct_disk.proofs.Crashes.{torn-none, place-none, torn-step, place-step, torn-all, place-all, length_none, length_some}
use Rattle.ct_disk.proofs.replay.tear_bytes.Goals as goal

pub returns-then-is_empty-clause-bytes : goal.returns-then-is_empty-clause-bytes
returns-then-is_empty-clause-bytes c = sym (torn-none c.args.torn.now (length_none (length c.args.torn.now) (sym c.is_empty.ensures ∙ c.if-is_empty.true)) c.args.next.now c.args.bytes.now)

pub returns-then-is_empty-clause-next : goal.returns-then-is_empty-clause-next
returns-then-is_empty-clause-next c = sym (place-none c.args.torn.now (length_none (length c.args.torn.now) (sym c.is_empty.ensures ∙ c.if-is_empty.true)) c.args.next.now c.args.bytes.now)

pub loop-i-preserved : goal.loop-i-preserved
loop-i-preserved c =
    let some : 0 < length c.args.torn.now = length_some (length c.args.torn.now) (sym c.is_empty.ensures ∙ c.if-is_empty.false) in
    record {
      torn = torn-step c.args.torn.now c.loop-i.next c.following.result c.loop-i.i c.loop-i.bytes c.args.bytes.now _ some c.loop-i-test.true c.loop-i.invariant.long c.following.ensures.place c.loop-i.invariant.torn;
      next = place-step c.args.torn.now c.loop-i.next c.following.result c.loop-i.i c.args.bytes.now _ some c.loop-i-test.true c.following.ensures.place c.loop-i.invariant.next;
      within = c.following.ensures.within;
      long = length-set _ _ _ ∙ c.loop-i.invariant.long;
    }

pub returns-clause-bytes : goal.returns-clause-bytes
returns-clause-bytes c = torn-all c.args.torn.now c.loop-i.next c.loop-i.i c.loop-i.bytes c.args.bytes.now _ c.loop-i-test.false c.loop-i.invariant.long c.loop-i.invariant.torn

pub returns-clause-next : goal.returns-clause-next
returns-clause-next c = place-all c.args.torn.now c.loop-i.next c.loop-i.i c.args.bytes.now _ c.loop-i-test.false c.loop-i.invariant.next
