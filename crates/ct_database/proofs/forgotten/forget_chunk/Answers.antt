use Rattle.std.proofs.Common.{◌≡◌, ℕ, ◌<◌, ◌++◌, List, Some, subst}
use Rattle.std.specs.List.{AllByRecursion}
use Rattle.ct_types.specs.declared.entry.Kept.{Kept}
use Rattle.ct_types.specs.declared.value.Key.{Key}
use Rattle.ct_ptree.specs.Pairs.{value_at}
use Rattle.ct_database.specs.Steps.{MayBeNoted}
use Rattle.ct_database.proofs.Lasts.{noted_left}
use Rattle.ct_database.proofs.forgotten.forget_chunk.Goals as goal

pub returns-in-Some : goal.returns-in-Some
returns-in-Some c =
    λ older newest rising noted.
    noted_left c.args.gone.now older newest c.in-Some.lasts c.forget_all.new.lasts rising (subst (MayBeNoted (c.args.gone.now ++ older) newest) c.in-Some.is noted)
    (subst (λ (gone : List Kept). (noted : ℕ) → AllByRecursion (λ (one : Kept). one.version < noted) gone → (key : Key) → value_at c.in-Some.lasts key ≡ Some noted → value_at c.forget_all.new.lasts key ≡ Some noted)
    c.pointers.ensures c.forget_all.ensures)
