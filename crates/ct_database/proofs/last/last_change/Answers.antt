use Rattle.std.proofs.Common.{sym, ◌∙◌}
use Rattle.ct_database.proofs.Backwards.{found_at}
use Rattle.ct_database.proofs.last.last_change.Goals as goal

pub returns-then-is_of : goal.returns-then-is_of
returns-then-is_of c =
    λ version. sym
    (c.loop-at.invariant.same version
    ∙ found_at c.args.table version c.args.key.now c.args.changes.now c.loop-at.at c.index-changes-at.result c.loop-at-test.true c.loop-at.invariant.within c.index-changes-at.is (sym c.is_of.ensures ∙ c.if-is_of.true))
