use Rattle.std.proofs.Common.{◌≡◌, ◌+◌, ◌∷◌, [], ◌++◌, take, ap, sym, ◌∙◌, arith}
use Rattle.std.specs.List.{flat_map}
use Rattle.std.proofs.lemmas.Grind.{common_steps}
use Rattle.std.proofs.lemmas.List.{flat_map_more}
use Rattle.ct_codec.proofs.spelled.put_all.Goals as goal

pub loop-item-preserved : goal.loop-item-preserved
loop-item-preserved g c =
    let spell = g.T.Spelled.spell in
    let item = c.item-item.result in
    let before = take c.loop-item.item-index c.args.items.now in
    let more : take (c.loop-item.item-index + 1) c.args.items.now ≡ before ++ item ∷ [] = grind (arith, common_steps) in
    c.in_ok-put.ensures ∙ ap (λ l. l ++ spell item) c.loop-item.invariant ∙ flat_map_more spell c.args.out.now.items before item ∙ ap (λ l. c.args.out.now.items ++ flat_map spell l) (sym more)
