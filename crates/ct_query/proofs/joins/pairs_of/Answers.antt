use Rattle.std.proofs.Common.{List, ap, ◌∙◌, subst}
use denote.Ref.{Bor}
use Rattle.ct_types.specs.declared.value.Row.{Row}
use Rattle.ct_types.specs.Answers.{Answer, Gives}
use Rattle.ct_expr.specs.Meaning.{World}
use Rattle.ct_source.specs.Rows.{lent}
use Rattle.ct_source.specs.Sources.{source_rows}
use Rattle.ct_query.specs.Steps as spec
use Rattle.ct_query.proofs.JoinedRows.{partners_suffice}
use Rattle.ct_query.proofs.joins.pairs_of.Goals as goal

pub returns : goal.returns
returns g c =
    let plan = c.args.plan.now in let side = c.args.side in let row = c.args.row.now in
    let world : World = record { env = c.args.env.now; versions = g.L.Versions.row_of c.args.versions.now } in
    let P : Answer (List Row) → Type 0 = λ wanted. Gives wanted c.true_pairs.result in
    subst P (ap (λ (rows : List (Bor Row)). spec.pairs_of world plan side (lent rows) row) c.as_slice.ensures ∙ partners_suffice world plan side row (source_rows c.args.others) (lent c.in_ok-partners.partners) c.in_ok-partners.ensures) c.true_pairs.ensures
