use Rattle.std.proofs.Common.{refl, ap, ◌∙◌}
use Rattle.std.proofs.lemmas.Result.{on_ok_weaker}
use Rattle.ct_ptree.specs.Pairs.{set_pair}
use Rattle.ct_conflicts.proofs.Placed.{stamped_key}
use Rattle.ct_conflicts.proofs.acts.stamp_key.Goals as goal

pub returns : goal.returns
returns c =
    let first = c.index_mut-stamps.result.now in
    on_ok_weaker c.put.result
    (λ put.
    stamped_key c.args.later.now.items c.place_of.new.later.items c.in_ok-place.place c.args.write.now c.args.stamp first
    (record { table = first.table; altered = first.altered; written = c.put.new.self })
    c.in_ok-place.ensures.written c.in_ok-place.ensures.altered
    (record { within = c.in_ok-place.ensures.within; at = c.in_ok-place.ensures.first; is = c.index_mut-stamps.ensures.value }) refl refl
    (put ∙ ap (λ key. set_pair first.written key c.args.stamp) c.in_ok-key.ensures))
    c.put.ensures.ok
