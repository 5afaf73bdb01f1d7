use Rattle.std.proofs.Common.{arith, ◌≡◌, ◌∷◌, ◌+◌, ◌∙◌, ap, sym, drop}
use Rattle.std.proofs.lemmas.List.{drop_more}
use Rattle.ct_bind.proofs.Items.{items_next}
use Rattle.ct_bind.proofs.queries.items_of.Goals as goal

-- src/queries.rt:171:5
pub loop-item-preserved : goal.loop-item-preserved
loop-item-preserved c =
    let all = c.args.items.now in
    let at = c.loop-item.item-index in
    let rest : drop at all ≡ c.item-item.result ∷ drop (at + 1) all = drop_more all at _ (omega arith) ∙ ap (λ it. it ∷ drop (at + 1) all) (sym c.item-item.is) in
    items_next _ _ _ all at _ _ _ rest c.in_ok-push_item.ensures c.loop-item.invariant
