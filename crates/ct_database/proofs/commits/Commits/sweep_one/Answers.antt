use Rattle.std.proofs.Common.{◌≡◌, ◌++◌, List, sym, ap, ◌∙◌, subst}
use Rattle.ct_types.specs.declared.entry.Kept.{Kept}
use Rattle.ct_model.specs.Apply.{trim}
use Rattle.ct_database.specs.Steps.{StoredCommits, AreNewest, AreUnneeded, AreWithin, MayBeNoted, Rise, gone_of, newest_of}
use Rattle.ct_database.proofs.Swept.{newest_left, counted_left, within_left}
use Rattle.ct_database.proofs.commits.Commits.sweep_one.Goals as goal

pub invariant_of-self-in-Some : goal.invariant_of-self-in-Some
invariant_of-self-in-Some c =
    let left = c.take_unneeded.new.self in
    let gone = c.deref.result.now in
    let newest = newest_of c.self.inside.newest in
    let parts : c.self.inside.older ≡ c.deref.result.now ++ c.take_unneeded.new.self =
    c.in_ok-take_unneeded.ensures.parts ∙ ap (λ taken. gone_of taken ++ left) c.in-Some.is ∙ ap (λ (kept : List Kept). kept ++ left) (sym c.deref.ensures) in (
      newest_left gone left newest (subst (λ (kept : List Kept). AreNewest kept newest) parts c.self.invariant.0),
      c.forget_chunk.ensures left newest (subst Rise parts c.rise.ensures) (subst (λ (kept : List Kept). MayBeNoted kept newest c.self.inside.lasts) parts c.self.invariant.1),
    )

pub returns-in-Some-clause-counted : goal.returns-in-Some-clause-counted
returns-in-Some-clause-counted c =
    let left = c.take_unneeded.new.self in
    let gone = c.deref.result.now in
    let parts : c.self.inside.older ≡ c.deref.result.now ++ c.take_unneeded.new.self =
    c.in_ok-take_unneeded.ensures.parts ∙ ap (λ taken. gone_of taken ++ left) c.in-Some.is ∙ ap (λ (kept : List Kept). kept ++ left) (sym c.deref.ensures) in
    let unneeded : AreUnneeded c.args.tables.now c.deref.result.now =
    subst (AreUnneeded c.args.tables.now) (sym c.deref.ensures) (subst (λ taken. AreUnneeded c.args.tables.now (gone_of taken)) c.in-Some.is c.in_ok-take_unneeded.ensures.unneeded) in
    counted_left c.args.tables.now c.self.inside.older gone left (newest_of c.self.inside.newest) parts unneeded
    ∙ ap (λ (it : StoredCommits). trim c.args.tables.now it.commits) c.self.view_is

pub returns-in-Some-clause-within : goal.returns-in-Some-clause-within
returns-in-Some-clause-within c =
    let left = c.take_unneeded.new.self in
    let gone = c.deref.result.now in
    let parts : c.self.inside.older ≡ c.deref.result.now ++ c.take_unneeded.new.self =
    c.in_ok-take_unneeded.ensures.parts ∙ ap (λ taken. gone_of taken ++ left) c.in-Some.is ∙ ap (λ (kept : List Kept). kept ++ left) (sym c.deref.ensures) in
    λ version within.
    within_left version c.self.inside.older gone left (newest_of c.self.inside.newest) parts (subst (λ (it : StoredCommits). AreWithin version it.commits) (sym c.self.view_is) within)
