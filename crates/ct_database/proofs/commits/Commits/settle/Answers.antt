use Rattle.std.proofs.Common.{◌≡◌, ◌++◌, ◌∷◌, [], List, sym, ap, ◌∙◌, subst}
use Rattle.ct_types.specs.declared.entry.Kept.{Kept}
use Rattle.ct_database.specs.Steps.{AreNewest, MayBeNoted, newest_of}
use Rattle.ct_database.proofs.commits.Commits.settle.Goals as goal

pub invariant_of-self : goal.invariant_of-self
invariant_of-self c =
    let older = c.self.inside.older in
    let lasts = c.note_newest.new.lasts in
    let newest : newest_of c.self.inside.newest ≡ c.deref.result.now ∷ [] = ap newest_of c.in-Some.is ∙ ap (λ (one : Kept). one ∷ []) (sym c.deref.ensures) in (
      c.self.invariant.0,
      subst (λ (newest : List Kept). MayBeNoted older newest lasts) (sym newest)
          (c.note_newest.ensures.others older (subst (λ (newest : List Kept). MayBeNoted older newest c.self.inside.lasts) newest c.self.invariant.1)),
    )

pub invariant_of-self-in_err-push : goal.invariant_of-self-in_err-push
invariant_of-self-in_err-push c =
    let older = c.self.inside.older in
    let lasts = c.note_newest.new.lasts in
    let newest : newest_of c.self.inside.newest ≡ c.deref.result.now ∷ [] = ap newest_of c.in-Some.is ∙ ap (λ (one : Kept). one ∷ []) (sym c.deref.ensures) in
    let noted : MayBeNoted c.self.inside.older (newest_of c.self.inside.newest) c.note_newest.new.lasts =
    subst (λ (newest : List Kept). MayBeNoted older newest lasts) (sym newest)
    (c.note_newest.ensures.others older (subst (λ (newest : List Kept). MayBeNoted older newest c.self.inside.lasts) newest c.self.invariant.1)) in (
      subst (λ (kept : List Kept). AreNewest kept (newest_of c.self.inside.newest)) (sym c.in_err-push.ensures.err) c.self.invariant.0,
      subst (λ (kept : List Kept). MayBeNoted kept (newest_of c.self.inside.newest) lasts) (sym c.in_err-push.ensures.err) noted,
    )

pub invariant_of-self-in_ok-push : goal.invariant_of-self-in_ok-push
invariant_of-self-in_ok-push c =
    let older = c.self.inside.older in
    let newest : newest_of c.self.inside.newest ≡ c.deref.result.now ∷ [] = ap newest_of c.in-Some.is ∙ ap (λ (one : Kept). one ∷ []) (sym c.deref.ensures) in
    let all : c.push.new.self ≡ c.self.inside.older ++ c.deref.result.now ∷ [] = c.in_ok-push.ensures.ok ∙ ap (λ (one : Kept). older ++ one ∷ []) (sym c.deref.ensures) in (
      tt,
      subst (λ (kept : List Kept). MayBeNoted kept [] c.note_newest.new.lasts) (sym all)
          (c.in_ok-note_newest.ensures.done older (subst (λ (newest : List Kept). MayBeNoted older newest c.self.inside.lasts) newest c.self.invariant.1)),
    )
