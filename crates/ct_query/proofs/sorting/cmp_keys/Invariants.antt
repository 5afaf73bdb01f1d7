use Rattle.std.proofs.Common.{◌≡◌, drop}
use Rattle.ct_query.specs.Sorting.{keys_cmp}
use Rattle.ct_query.proofs.sorting.cmp_keys.Given as goal

abbrev pub invariant-loop-part : goal.invariant-loop-part
invariant-loop-part l = keys_cmp (drop l.part-index l.parts) l.a_rest l.b_rest ≡ keys_cmp l.parts l.a l.b
