use Rattle.std.proofs.Common.{map, take}
use Rattle.ct_types.specs.declared.piece.Piece.TheVariants as piece
use Rattle.ct_checkpoint.specs.Writing.{Appends}
use Rattle.ct_checkpoint.proofs.writing.put_all_kept.Given as goal

abbrev pub invariant-loop-one : goal.invariant-loop-one
invariant-loop-one l = Appends (map (λ one. piece.Kept one) (take l.one-index l.kept)) l.initial.out.items l.out.items
