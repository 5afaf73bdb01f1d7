use Rattle.std.proofs.Common.{false, List, refl, sym, ap, ◌∙◌, subst}
use denote.Ref.{Bor}
use Rattle.ct_types.specs.declared.value.Row.{Row}
use Rattle.ct_types.specs.Answers.{Answer, Gives}
use Rattle.ct_expr.specs.Meaning.{World}
use Rattle.ct_scan.specs.Lists.{all_of}
use Rattle.ct_source.specs.Rows.{lent}
use Rattle.ct_source.specs.Sources.{source_rows}
use Rattle.ct_query.specs.declared.side.Side.TheVariants as side
use Rattle.ct_query.specs.Steps.{rows_of}
use Rattle.ct_query.proofs.joins.inner.Goals as goal

pub returns-in_ok-rights : goal.returns-in_ok-rights
returns-in_ok-rights g c =
    let plan = c.args.plan.now in let lefts = source_rows c.args.lefts in
    let world : World = record { env = c.args.env.now; versions = g.L.Versions.row_of c.args.versions.now } in
    let P : Answer (List Row) → Type 0 = λ wanted. Gives wanted c.by_rows.result in
    let of_right : Row → Answer (List Row) = λ right. rows_of world plan side.Right false lefts right in
    subst P (ap (λ (rights : List (Bor Row)). all_of of_right (lent rights)) c.as_slice.ensures ∙ ap (all_of of_right) c.in_ok-rights.ensures ∙ sym (c.in_ok-stand_alike.ensures c.if-branch.true world refl)) c.by_rows.ensures
