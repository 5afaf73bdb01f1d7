use Rattle.std.proofs.Common.{refl}
use Rattle.std.proofs.lemmas.Result.{on_ok_weaker}
use Rattle.ct_locks.proofs.Sets.{key_put}
use Rattle.ct_locks.proofs.key_sets.put_key.Goals as goal

pub returns : goal.returns
returns c =
    let item = c.index_mut-set.result.now in
    on_ok_weaker c.put.result
    (λ put table key.
    key_put c.args.sets.now.items c.place_of.new.sets.items _ c.in_ok-place.place item c.args.taken.now c.in_ok-key.key c.put.new.self tt
    c.in_ok-place.ensures.same c.in_ok-place.ensures.within c.index_mut-set.ensures.value c.in_ok-place.ensures.at c.in_ok-key.ensures put refl table key)
    c.put.ensures.ok
