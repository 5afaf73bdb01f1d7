use Rattle.std.proofs.Common.{◌≡◌, ◌+◌, ◌∷◌, [], ◌++◌, take, arith}
use Rattle.std.proofs.lemmas.Grind.{common_steps}
use Rattle.ct_model.proofs.Pushed.{filter_map-push}
use Rattle.ct_model.proofs.changes.key_rows.Goals as goal

pub loop-key-preserved : goal.loop-key-preserved
loop-key-preserved c =
    let more : take (c.loop-key.key-index + 1) c.args.keys.now ≡ take c.loop-key.key-index c.args.keys.now ++ c.key-item.result ∷ [] = grind (arith, common_steps) in
    rw (more, filter_map-push) (let e = c.in_ok-key_row.ensures in let i = c.loop-key.invariant in let p = c.in_ok-push_some.ensures in cc)
