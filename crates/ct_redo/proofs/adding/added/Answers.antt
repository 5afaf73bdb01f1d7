use Rattle.std.proofs.Common.{◌≡◌, sym, ◌∙◌, subst}
use Rattle.ct_model.specs.Applies.{Applies}
use Rattle.ct_replay.proofs.Keyed.{adds_keyed, adds_no_other}
use Rattle.ct_redo.proofs.adding.added.Goals as goal

pub returns-then-branch-clause-some : goal.returns-then-branch-clause-some
returns-then-branch-clause-some c =
    adds_keyed c.args.database.now c.args.payload.now c.in-Some.bare c.in_ok-entry.entry (sym c.in_ok-bare.ensures ∙ c.in-Some.is)
    c.in_ok-entry.ensures (c.in_ok-applies_within.ensures.0 c.if-branch.true)

pub returns-else-branch-clause-none : goal.returns-else-branch-clause-none
returns-else-branch-clause-none c = λ e entry adds.
    let bare = c.in-Some.bare in
    let same : entry ≡ c.in_ok-entry.entry =
    (adds_no_other c.args.database.now c.args.payload.now bare entry (sym c.in_ok-bare.ensures ∙ c.in-Some.is) adds ∙ sym c.in_ok-entry.ensures) in
    let yes = c.in_ok-applies_within.ensures.1 (subst (λ one. Applies c.args.database.now one) same adds.applies) in
    absurd (cc (yes, c.if-branch.false))
