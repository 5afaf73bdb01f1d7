use Rattle.std.proofs.Common.{◌-◌, length, sym, subst, arith}
use Rattle.ct_types.specs.declared.entry.Kept.{Kept}
use Rattle.ct_database.specs.Steps.{EndsWith, pointed}
use Rattle.ct_database.proofs.Pointers.{ends_at}
use Rattle.ct_database.proofs.chunk.last_of.Goals as goal

pub returns-else-count-eq0 : goal.returns-else-count-eq0
returns-else-count-eq0 c =
    subst (λ (one : Kept). EndsWith one (pointed c.args.commits.now)) (sym c.deref.ensures)
    (ends_at c.args.commits.now (length c.args.commits.now - 1) c.index-commits-count.result (omega arith) c.index-commits-count.is)
