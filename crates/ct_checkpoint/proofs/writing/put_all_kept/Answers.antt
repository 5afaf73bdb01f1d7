use Rattle.std.proofs.Common.{◌≡◌, ◌+◌, ◌∷◌, [], ◌++◌, take, arith}
use Rattle.std.proofs.lemmas.Grind.{common_steps}
use Rattle.ct_types.specs.declared.piece.Piece.TheVariants as piece
use Rattle.ct_checkpoint.proofs.Writes.{appends_map}
use Rattle.ct_checkpoint.proofs.writing.put_all_kept.Goals as goal

pub loop-one-preserved : goal.loop-one-preserved
loop-one-preserved c =
    let kept = c.args.kept.now in
    let before = take c.loop-one.one-index kept in
    let one = c.one-item.result in
    let more : take (c.loop-one.one-index + 1) kept ≡ before ++ one ∷ [] = grind (arith, common_steps) in
    appends_map (λ k. piece.Kept k) before (take (c.loop-one.one-index + 1) kept) one c.args.out.now.items c.loop-one.out.items c.put_kept.new.out.items more c.loop-one.invariant c.in_ok-put_kept.ensures
