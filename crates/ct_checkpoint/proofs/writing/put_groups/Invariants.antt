use Rattle.std.proofs.Common.{ℕ, List, length}
use Rattle.ct_checkpoint.specs.Writing.{Appends}
use Rattle.ct_checkpoint.proofs.Writes.{rows_pieces}
use Rattle.ct_checkpoint.proofs.writing.put_groups.Given as goal

abbrev pub invariant-loop-rest : goal.invariant-loop-rest
invariant-loop-rest l = (new : List ℕ) → Appends (rows_pieces l.table l.rest) l.out.items new → Appends (rows_pieces l.table l.rows) l.initial.out.items new

abbrev pub decreases-loop-rest : goal.decreases-loop-rest
decreases-loop-rest l = length l.rest
