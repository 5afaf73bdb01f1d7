use Rattle.std.proofs.Common.{◌≡◌, ◌∷◌, ◌++◌, List, sym, ap, ◌∙◌, append_assoc}
use Rattle.ct_types.specs.declared.entry.Kept.{Kept}
use Rattle.ct_database.specs.Steps.{commits_of, pointed}
use Rattle.ct_database.proofs.noted.notes_of.Goals as goal

pub loop-pair-preserved : goal.loop-pair-preserved
loop-pair-preserved c =
    let so_far = c.loop-pair.invariant in
    let rest : c.loop-pair.pair-iterator ≡ c.in-Some.pair.now ∷ c.next.new.self = c.in-Some.ensures.steps in (
      c.loop-pair.invariant.0 ++ pointed c.pointers.result.now,
      append_assoc so_far.0 (pointed c.pointers.result.now) (commits_of c.next.new.self)
          ∙ ap (λ (kept : List Kept). so_far.0 ++ kept)
          (ap (λ (chunk : List Kept). chunk ++ commits_of c.next.new.self) (c.pointers.ensures ∙ c.deref.ensures) ∙ sym (ap commits_of rest))
          ∙ so_far.1,
      c.in_ok-note_all.ensures so_far.0 so_far.2,
    )
