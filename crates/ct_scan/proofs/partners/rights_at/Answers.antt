use Rattle.std.proofs.Common.{◌≡◌, ◌+◌, length, Option, ap, ◌∙◌, arith}
use Rattle.std.proofs.lemmas.Result.{IfOk-weaker}
use Rattle.ct_source.specs.Sources.{source_rows}
use Rattle.ct_types.specs.declared.value.Value.{Value}
use Rattle.ct_scan.specs.Readings.{pinned}
use Rattle.ct_scan.specs.Seen.{Seen}
use Rattle.ct_scan.specs.Steps.{with_pinned}
use Rattle.ct_scan.proofs.Candidates.{seen_from, pinned_are_rights}
use Rattle.ct_scan.proofs.partners.rights_at.Goals as goal

pub returns : goal.returns
returns c =
    let env = c.args.env.now in let on = c.args.on.now in let left = c.args.left.now in let place = c.in_ok-joined.joined in let all = source_rows c.args.rights in
    let behind : place ≡ c.args.at + length left.0 = omega (arith, ap length c.as_slice.ensures) in
    let value : c.in_ok-value.value ≡ pinned env (seen_from 0 left) place on = c.in_ok-value.ensures ∙ ap (λ (s : Seen). pinned env s place on) c.row.ensures in
    IfOk-weaker c.with_pinned.result _ _
    (λ made is. pinned_are_rights env c.args.at place on left all _ behind (is ∙ ap (λ (o : Option Value). with_pinned c.args.at o all) value)) c.with_pinned.ensures
