use Rattle.std.proofs.Common.{sym, subst, ap, ◌∙◌}
use Rattle.std.proofs.lemmas.Result.{IfOk-weaker}
use Rattle.ct_checkpoint.specs.Following.{Starts}
use Rattle.ct_checkpoint.specs.Reading.{StepsTo, stepped}
use Rattle.ct_checkpoint.proofs.Stepping.{stops_first, none_stands, other_stands, starts_so, begins_found}
use Rattle.ct_checkpoint.proofs.reading.first_step.Goals as goal

pub returns-in_default : goal.returns-in_default
returns-in_default c = stops_first c.args.bytes.now (none_stands Starts c.args.bytes.now (c.in_ok-piece.ensures.none c.in_default.is))

pub returns-then-not-starts : goal.returns-then-not-starts
returns-then-not-starts c =
    let bytes = c.args.bytes.now in
    let begins = begins_found bytes c.in_ok-piece.field-0 c.in-Some.piece c.in-Some.size c.in_ok-piece.ensures.some c.in-Some.is in
    stops_first bytes (other_stands Starts bytes c.in-Some.piece c.in-Some.size begins (λ starts. let yes = c.starts.ensures.1 starts in cc (yes, c.if-not-starts.true)))

pub returns : goal.returns
returns c =
    let bytes = c.args.bytes.now in
    let begins = begins_found bytes c.in_ok-piece.field-0 c.in-Some.piece c.in-Some.size c.in_ok-piece.ensures.some c.in-Some.is in
    let further = starts_so bytes c.in-Some.piece c.in-Some.size begins (c.starts.ensures.0 c.if-not-starts.false) in
    IfOk-weaker c.step_behind.result _ (StepsTo bytes 0)
    (λ step is. subst (StepsTo bytes 0) (sym (is ∙ ap (λ db. stepped db c.in-Some.piece c.in-Some.size) c.in_ok-empty.ensures)) further) c.step_behind.ensures
