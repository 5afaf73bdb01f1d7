use Rattle.std.proofs.Common.{List, refl, ap, ◌∙◌, subst}
use denote.Ref.{Bor}
use Rattle.ct_types.specs.declared.value.Row.{Row}
use Rattle.ct_types.specs.Answers.{Answer}
use Rattle.ct_expr.specs.Conditions.{only}
use Rattle.ct_expr.specs.Meaning.{World, holds}
use Rattle.ct_source.specs.Rows.{lent, GivesLent}
use Rattle.ct_scan.proofs.conditions.rows_where.Goals as goal

pub returns : goal.returns
returns g c =
    let world : World = record { env = c.args.env.now; versions = g.L.Versions.row_of c.args.versions.now } in
    let P : Answer (List Row) → Type 0 = λ wanted. GivesLent wanted c.chosen.result in
    subst P (ap (λ (rows : List (Bor Row)). only (holds world c.args.condition.now) (lent rows)) c.as_slice.ensures ∙ c.in_ok-rows.ensures world refl) c.chosen.ensures
