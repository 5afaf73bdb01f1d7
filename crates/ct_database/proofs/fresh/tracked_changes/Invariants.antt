use Rattle.std.proofs.Common.{◌≡◌, take, map, filter}
use Rattle.ct_model.specs.Apply.{change_of}
use Rattle.ct_database.proofs.fresh.tracked_changes.Given as goal

abbrev pub invariant-loop-write : goal.invariant-loop-write
invariant-loop-write l = l.made ≡ map change_of (filter (λ write. write.tracked) (take l.write-index l.writes))
