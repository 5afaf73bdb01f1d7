use Rattle.std.proofs.Common.{◌≡◌, sym, ◌∙◌, ap, subst}
use Rattle.ct_model.specs.Applies.{Applies}
use Rattle.ct_replay.specs.Keys.{keyed}
use Rattle.ct_replay.proofs.Keyed.{adds_keyed, adds_no_other}
use Rattle.ct_replay.proofs.adding.added.Goals as goal

pub returns-then-branch-clause-some : goal.returns-then-branch-clause-some
returns-then-branch-clause-some c =
    let bare = c.in-Some.bare in
    adds_keyed c.args.db.now c.args.payload.now bare c.in_ok-entry.entry (sym c.in_ok-bare.ensures ∙ c.in-Some.is)
    (c.in_ok-entry.ensures ∙ ap (λ tables. keyed tables bare) c.as_slice.ensures) (c.in_ok-applies.ensures.0 c.if-branch.true)

pub returns-else-branch-clause-none : goal.returns-else-branch-clause-none
returns-else-branch-clause-none c = λ e entry adds.
    let bare = c.in-Some.bare in
    let same : entry ≡ c.in_ok-entry.entry =
    (adds_no_other c.args.db.now c.args.payload.now bare entry (sym c.in_ok-bare.ensures ∙ c.in-Some.is) adds
    ∙ sym (c.in_ok-entry.ensures ∙ ap (λ tables. keyed tables bare) c.as_slice.ensures)) in
    let yes = c.in_ok-applies.ensures.1 (subst (λ one. Applies c.args.db.now one) same adds.applies) in
    absurd (cc (yes, c.if-branch.false))
