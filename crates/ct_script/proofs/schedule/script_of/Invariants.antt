use Rattle.std.proofs.Common.{◌≡◌, ◌++◌, ℕ, [], slice_index, count_by, length}
use Rattle.std.specs.List.{flat_map}
use Rattle.std.specs.Vec.Iter.{into_iter_items}
use Rattle.ct_script.specs.Schedule.{is_of, scheduled}
use Rattle.ct_script.proofs.schedule.script_of.Given as goal

-- the phases so far are those of the statements so far, which were counted
abbrev pub invariant-loop-phase : goal.invariant-loop-phase
invariant-loop-phase l = record {
  made : l.made ≡ scheduled [] l.yielded;
  split : l.yielded ++ into_iter_items l.phase-iterator ≡ l.fn.phases;
  len : length l.counts ≡ 256;
  counted : (session : ℕ) → slice_index l.counts session ≡ count_by (is_of session) (flat_map (λ phase. phase) l.yielded);
}
