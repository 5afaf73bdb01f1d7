use Rattle.std.proofs.Common.{◌∷◌, ◌++◌, [], List, take, subst, arith}
use Rattle.std.proofs.lemmas.List.{take_all}
use Rattle.ct_types.specs.declared.entry.Kept.{Kept}
use Rattle.ct_database.specs.Steps.{AreNoted, pointed}
use Rattle.ct_database.proofs.Lasts.{noted_wider}
use Rattle.ct_database.proofs.Pointers.{pointed_more}
use Rattle.ct_database.proofs.noted.note_all.Goals as goal

pub loop-one-preserved : goal.loop-one-preserved
loop-one-preserved c =
    λ older start.
    let done : List Kept = older ++ pointed (take c.loop-one.one-index c.args.commits.now) in
    subst (λ (kept : List Kept). AreNoted kept [] c.note_one.new.lasts)
    (pointed_more older c.args.commits.now c.loop-one.one-index c.one-item.result c.deref.result.now (omega arith) c.one-item.is c.deref.ensures)
    (c.in_ok-note_one.ensures.done done (noted_wider done (c.deref.result.now ∷ []) c.loop-one.lasts (c.loop-one.invariant older start)))

pub returns : goal.returns
returns c =
    λ older start. subst (λ commits. AreNoted (older ++ pointed commits) [] c.loop-one.lasts) (take_all c.loop-one.one-index c.args.commits.now (omega arith)) (c.loop-one.invariant older start)
