use Rattle.std.proofs.Common.{ap, sym, subst, ◌∙◌}
use Rattle.ct_script.specs.Forms.{head_text}
use Rattle.ct_script.specs.Reading.{Steps}
use Rattle.ct_script.proofs.Steps.{kind_of-utf8, kind_of-other, step-kind, step-head, step-more}
use Rattle.ct_script.specs.declared.kind.Kind.TheVariants.{Ignored, Mark, Head, More, Fault}
use Rattle.ct_script.proofs.reading.Reading.take.Goals as goal

pub returns-in_default : goal.returns-in_default
returns-in_default c = step-kind _ _ _ (kind_of-other _ c.in_default.ensures.cases.0)

pub returns-in-Ignored : goal.returns-in-Ignored
returns-in-Ignored c = step-kind _ _ Ignored (kind_of-utf8 _ _ Ignored c.in-Ok.ensures.cases (sym c.form_of.ensures ∙ c.in-Ignored.is))

pub returns-in-Mark : goal.returns-in-Mark
returns-in-Mark c = subst (Steps _ _) (sym (step-kind _ _ Mark (kind_of-utf8 _ _ Mark c.in-Ok.ensures.cases (sym c.form_of.ensures ∙ c.in-Mark.is)))) c.end_phase.ensures

pub returns-in-Head : goal.returns-in-Head
returns-in-Head c =
    let kind = kind_of-utf8 _ _ (Head c.in-Head.session) c.in-Ok.ensures.cases (sym c.form_of.ensures ∙ c.in-Head.is) in
    subst (Steps c.push_said.result _) (step-head _ _ c.in-Head.session _ _ kind (c.head_text.ensures ∙ ap head_text c.in-Ok.ensures.cases.0) c.self.view_is) (c.push_said.ensures c.self.inside.ended)

pub returns-in-More : goal.returns-in-More
returns-in-More c =
    let kind = kind_of-utf8 _ _ More c.in-Ok.ensures.cases (sym c.form_of.ensures ∙ c.in-More.is) in
    subst (Steps c.push_more.result _) (step-more _ _ _ _ kind c.in-Ok.ensures.cases.0 c.self-in-More.view_is) (c.push_more.ensures c.self-in-More.inside.ended)

pub returns-in-Fault : goal.returns-in-Fault
returns-in-Fault c = step-kind _ _ (Fault c.in-Fault.rule) (kind_of-utf8 _ _ _ c.in-Ok.ensures.cases (sym c.form_of.ensures ∙ c.in-Fault.is))
