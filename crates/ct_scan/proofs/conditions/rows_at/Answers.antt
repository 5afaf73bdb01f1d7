use Rattle.std.proofs.Common.{◌≡◌, Some, sym, ap, ◌∙◌}
use Rattle.std.proofs.lemmas.Result.{IfOk-weaker}
use Rattle.ct_scan.specs.Readings.{pinned}
use Rattle.ct_scan.specs.Seen.{Seen, nothing}
use Rattle.ct_scan.proofs.Candidates.{pinned_are_enough}
use Rattle.ct_scan.proofs.conditions.rows_at.Goals as goal

pub returns-in-Some : goal.returns-in-Some
returns-in-Some c =
    let env = c.args.env.now in let condition = c.args.condition.now in let at = c.args.at in
    let pins : pinned env nothing at condition ≡ Some c.in-Some.value = ap (λ (s : Seen). pinned env s at condition) (sym c.nothing.ensures) ∙ sym c.in_ok-value.ensures ∙ c.in-Some.is in
    IfOk-weaker c.with_value.result _ _ (λ made is. pinned_are_enough env at condition c.in-Some.value c.args.table.now.rows _ pins is) c.with_value.ensures
