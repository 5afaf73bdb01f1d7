use Rattle.std.proofs.Common.{sym, ◌∙◌, subst}
use Rattle.ct_database.specs.Steps.{StoredCommits, AreWithin}
use Rattle.ct_database.proofs.commits.Commits.make_room.Goals as goal
use Rattle.ct_database.proofs.commits.Commits.make_room.Goals.{then-is_full+in_ok-sweep+in_ok-seal, else-is_full}

pub returns-in_err-seal-clause-within : goal.returns-in_err-seal-clause-within
returns-in_err-seal-clause-within c = λ version within. subst (λ (it : StoredCommits). AreWithin version it.commits) (sym c.seal.ensures) (c.sweep.ensures.within version within)

pub returns-clause-within : goal.returns-clause-within
returns-clause-within c =
    λ version within.
    subst (AreWithin version) (sym c.settle.ensures.same)
    (elim c.if-is_full.branch [
      | then-is_full+in_ok-sweep+in_ok-seal w ↦ subst (λ (it : StoredCommits). AreWithin version it.commits) (sym (w.self-is ∙ w.seal.ensures)) (w.sweep.ensures.within version within)
      | else-is_full w ↦ subst (λ (it : StoredCommits). AreWithin version it.commits) (sym w.self-is) within
    ])
