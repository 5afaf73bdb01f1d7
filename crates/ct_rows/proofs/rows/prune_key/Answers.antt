use Rattle.std.proofs.Common.{◌≡◌, ◌<◌, ◌++◌, [], length, drop, length-drop, sym, ap, ◌∙◌, arith}
use Rattle.std.proofs.lemmas.Grind.{common_steps}
use Rattle.ct_ptree.specs.Pairs.{without}
use Rattle.ct_rows.specs.Prunes.{kept}
use Rattle.ct_rows.proofs.Pruned.{without_here, put_here, pruned_gone}
use Rattle.ct_rows.proofs.rows.prune_key.Goals as goal

pub returns-in_ok-take : goal.returns-in_ok-take
returns-in_ok-take c = λ front back old low high.
    let pair = c.args.pair.now in
    let over : drop c.outdated-outdated.result c.args.pair.now.value ≡ [] = grind (arith, common_steps) in
    let none : kept c.args.pair.now.value c.args.least ≡ [] = c.outdated-outdated.ensures.rest ∙ over in
    c.in_ok-take.ensures.ok ∙ ap (λ xs. without xs pair.key) old ∙ without_here pair front back low high ∙ sym (ap (λ r. front ++ (r ++ back)) (pruned_gone pair c.args.least none))

pub returns-in_ok-put : goal.returns-in_ok-put
returns-in_ok-put c = λ front back old low high.
    let some : 0 < length c.in_ok-from.field-0 = rw c.in_ok-from.ensures (rw length-drop (omega arith)) in
    c.in_ok-put.ensures.ok
    ∙ put_here c.args.pair.now c.args.made.now front back c.in_ok-copy.field-0 c.in_ok-from.field-0 c.args.least old low high c.in_ok-copy.ensures (c.outdated-outdated.ensures.rest ∙ sym c.in_ok-from.ensures) some
