use Rattle.std.proofs.Common.{◌≡◌, ◌∙◌, refl, sym, subst}
use Rattle.ct_conflicts.specs.Later.{IsLater}
use Rattle.ct_conflicts.proofs.Noted.{more_later}
use Rattle.ct_conflicts.proofs.later.Later.noted.Goals as goal

pub returns : goal.returns
returns c =
    let shared : c.in_ok-tables.tables.items ≡ c.args.self.now = c.in_ok-tables.ensures ∙ c.as_slice.ensures.value ∙ c.self.view_is in
    λ past from at is.
    more_later past c.args.entry.now (record { at = c.args.at; xdes = c.args.entry.now.xdes }) at refl c.in_ok-tables.tables.items c.stamp_act.new.later.items from c.in_ok-stamp_act.ensures
    (subst (λ later. IsLater later past from) (sym shared) is)
