use Rattle.std.proofs.Common.{◌≡◌, ◌-◌, length, take, drop, ap, ◌∙◌, arith}
use Rattle.std.proofs.lemmas.Grind.{common_steps}
use Rattle.ct_rows.specs.Versions.{versions_of}
use Rattle.ct_rows.proofs.Seen.{versions_drop}
use Rattle.ct_rows.proofs.versions.Versions.from.Goals as goal

pub returns : goal.returns
returns c =
    let tail : take (length c.deref.result.now - c.args.place) (drop c.args.place c.deref.result.now) ≡ drop c.args.place c.deref.result.now = grind (arith, common_steps) in
    let whole : versions_of c.deref.result.now ≡ c.args.self.now = rw c.deref.ensures.value c.self.view_is in
    rw c.new-items.ensures.items at c.in_ok-push_shares.ensures ∙ ap versions_of tail ∙ versions_drop c.deref.result.now c.args.place ∙ ap (drop c.args.place) whole
