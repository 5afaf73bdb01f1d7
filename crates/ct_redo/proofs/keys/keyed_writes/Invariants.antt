use Rattle.std.proofs.Common.{◌≡◌, map}
use Rattle.ct_replay.specs.Keys.{keyed_write}
use Rattle.ct_redo.proofs.keys.keyed_writes.Given as goal

abbrev pub invariant-loop-write : goal.invariant-loop-write
invariant-loop-write l = l.made ≡ map (keyed_write l.database.tables) l.yielded
