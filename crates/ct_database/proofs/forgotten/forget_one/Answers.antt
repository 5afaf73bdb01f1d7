use Rattle.std.proofs.Common.{◌≡◌, true, false, sym, ap, ◌∙◌, subst}
use Rattle.ct_ptree.specs.Pairs.{value_at}
use Rattle.ct_database.specs.Steps.{NotesStay}
use Rattle.ct_database.proofs.Notes.{stay_taken}
use Rattle.ct_database.proofs.forgotten.forget_one.Goals as goal
use Rattle.ct_database.proofs.forgotten.forget_one.Goals.{then-is_stale+in_ok-take, else-is_stale}

pub returns : goal.returns
returns c =
    elim c.if-is_stale.branch [
      | then-is_stale+in_ok-take w ↦
          subst (NotesStay c.args.version c.args.lasts.now) (sym (w.lasts-is ∙ w.in_ok-take.ensures.ok))
          (stay_taken c.args.lasts.now c.in_ok-own.own c.args.version
          (λ noted above has. let bad : true ≡ false = sym w.if-is_stale.true ∙ c.is_stale.ensures noted above has in cc))
      | else-is_stale w ↦ (λ noted above key has. ap (λ notes. value_at notes key) w.lasts-is ∙ has)
    ]
