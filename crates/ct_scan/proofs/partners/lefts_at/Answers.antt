use Rattle.std.proofs.Common.{◌≡◌, Option, ap, ◌∙◌, arith}
use Rattle.std.proofs.lemmas.Result.{IfOk-weaker}
use Rattle.ct_source.specs.Sources.{source_rows}
use Rattle.ct_types.specs.declared.value.Value.{Value}
use Rattle.ct_scan.specs.Readings.{pinned}
use Rattle.ct_scan.specs.Seen.{Seen}
use Rattle.ct_scan.specs.Steps.{with_pinned}
use Rattle.ct_scan.proofs.Candidates.{seen_from, pinned_are_lefts}
use Rattle.ct_scan.proofs.partners.lefts_at.Goals as goal

pub returns : goal.returns
returns c =
    let env = c.args.env.now in let on = c.args.on.now in let how = c.args.how in let right = c.args.right.now in let all = source_rows c.args.lefts in
    let width : c.in_ok-columns.columns ≡ how.width = omega arith in
    let seen : c.row.result ≡ seen_from how.width right = c.row.ensures ∙ ap (λ n. seen_from n right) width in
    let value : c.in_ok-value.value ≡ pinned env (seen_from how.width right) how.at on = c.in_ok-value.ensures ∙ ap (λ (s : Seen). pinned env s how.at on) seen in
    IfOk-weaker c.with_pinned.result _ _
    (λ made is. pinned_are_lefts env how.width how.at on right all _ c.requires.within c.requires.wide (is ∙ ap (λ (o : Option Value). with_pinned how.at o all) value)) c.with_pinned.ensures
