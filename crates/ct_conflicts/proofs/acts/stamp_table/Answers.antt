use Rattle.std.proofs.Common.{Some, refl}
use Rattle.ct_conflicts.proofs.Placed.{stamped_table}
use Rattle.ct_conflicts.proofs.acts.stamp_table.Goals as goal

pub returns : goal.returns
returns c =
    let first = c.index_mut-stamps.result.now in
    stamped_table c.args.later.now.items c.place_of.new.later.items c.in_ok-place.place c.args.table c.args.stamp first
    (record { table = first.table; altered = Some c.args.stamp; written = first.written })
    c.in_ok-place.ensures.written c.in_ok-place.ensures.altered
    (record { within = c.in_ok-place.ensures.within; at = c.in_ok-place.ensures.first; is = c.index_mut-stamps.ensures.value }) refl refl refl
