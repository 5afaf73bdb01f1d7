use Rattle.std.proofs.Common.{IfSome, sym, subst}
use Rattle.ct_replay.specs.Replay.{Adds}
use Rattle.ct_redo.specs.Numbers.{AreNumbersWithin}
use Rattle.ct_redo.proofs.Numbers.{within_after}
use Rattle.ct_redo.proofs.adding.add.Goals as goal

pub returns-in_ok-apply-in-Some : goal.returns-in_ok-apply-in-Some
returns-in_ok-apply-in-Some c =
    let is = c.in_ok-apply-in-Some.ensures.ok in
    let db = c.args.database.now in
    record {
      tried = (c.in-Some.entry, subst (λ found. IfSome found (Adds db c.args.payload.now)) c.in-Some.is c.in_ok-entry.ensures.some, is);
      numbers = λ was known. subst AreNumbersWithin (sym is) (within_after db c.in-Some.entry (c.requires known));
    }
