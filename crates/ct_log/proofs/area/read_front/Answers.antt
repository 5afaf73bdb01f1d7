use Rattle.std.proofs.Common.{◌-◌, ◌∙◌, length, take, drop, rules, arith, ap}
use Rattle.std.proofs.lemmas.Grind.{common_steps}
use Rattle.ct_faults.specs.Disk.{Image}
use Rattle.ct_faults.proofs.Moments.{Runs-same}
use Rattle.ct_log.proofs.Filling.{filled_more}
use Rattle.ct_log.proofs.area.read_front.Goals as goal

pub loop-filled-preserved : goal.loop-filled-preserved
loop-filled-preserved g c =
    let D = g.D.Disk in
    let so_far = c.loop-filled.invariant in
    record {
      within = first_of (search rules, grind (arith, common_steps));
      within_area = λ h.
          let gives = c.in_ok-count.ensures.gives (so_far.honest.0 h) in
          omega (arith, gives.within, ap (λ (i : Image). length (i c.args.area)) (so_far.content h));
      bytes = λ h.
          let gives = c.in_ok-count.ensures.gives (so_far.honest.0 h) in
          filled_more c.loop-filled.buf c.read_at.new.buf (D.content c.args.disk.now c.args.area) c.loop-filled.filled (length c.loop-filled.buf - c.loop-filled.filled) c.in_ok-count.count so_far.within (so_far.bytes h) c.in_ok-count.ensures.bound.0
          (gives.bytes ∙ ap (λ (i : Image). take c.in_ok-count.count (drop c.loop-filled.filled (i c.args.area))) (so_far.content h));
      honest = first_of (search rules, grind (arith, common_steps));
      content = λ h. c.read_at.ensures.content (so_far.honest.0 h) ∙ so_far.content h;
      images = λ h. Runs-same _ _ _ _ _ _ (so_far.images h) (c.read_at.ensures.images (so_far.honest.0 h));
      room = first_of (search rules, grind (arith, common_steps));
      later = omega arith;
    }
