use Rattle.std.proofs.Common.{◌++◌, ◌∷◌, [], false, length, slice_index, sym, ap, ◌∙◌, append_assoc, arith}
use Rattle.std.specs.Vec.Iter.{into_iter_items}
use Rattle.ct_script.specs.Schedule.{scheduled}
use Rattle.ct_script.proofs.Placements.{flat, room, lanes-counted, scheduled-push, scheduled-none, counted-phase}
use Rattle.ct_script.proofs.schedule.script_of.Goals as goal

pub loop-phase-init : goal.loop-phase-init
loop-phase-init c = record {
  made = scheduled-none _ c.new-made.ensures;
  split = c.into_iter-phase-iterator.ensures.into_iter_gives.0 ∙ c.into_vec-phase-items.ensures;
  len = ap length c.as_mut_slice-counts.ensures.value ∙ c.in_ok-table.ensures.len;
  counted = λ s. ap (λ l. slice_index l s) c.as_mut_slice-counts.ensures.value ∙ c.in_ok-table.ensures.zero s;
}

pub lanes_of-requires-clause-room : goal.lanes_of-requires-clause-room
lanes_of-requires-clause-room c =
    room _ c.loop-phase.yielded (into_iter_items c.next.new.self) c.in-Some.phase _ (ap (λ l. c.loop-phase.yielded ++ l) (sym c.in-Some.ensures.steps.0) ∙ c.loop-phase.invariant.split) c.requires c.loop-phase.invariant.counted

pub loop-phase-preserved : goal.loop-phase-preserved
loop-phase-preserved c = record {
  made = c.in_ok-push.ensures.ok
      ∙ ap (λ m. m ++ record { restart = false; sessions = c.in_ok-sessions.sessions } ∷ []) c.loop-phase.invariant.made
      ∙ ap (λ ss. scheduled [] c.loop-phase.yielded ++ record { restart = false; sessions = ss } ∷ []) (c.in_ok-sessions.ensures.lanes ∙ lanes-counted _ (flat c.loop-phase.yielded) c.in-Some.phase c.loop-phase.invariant.counted)
      ∙ sym (scheduled-push [] c.loop-phase.yielded c.in-Some.phase);
  split = append_assoc c.loop-phase.yielded (c.in-Some.phase ∷ []) _ ∙ ap (λ l. c.loop-phase.yielded ++ l) (sym c.in-Some.ensures.steps.0) ∙ c.loop-phase.invariant.split;
  len = omega arith;
  counted = counted-phase _ _ c.loop-phase.yielded c.in-Some.phase c.loop-phase.invariant.counted c.in_ok-sessions.ensures.counted;
}
