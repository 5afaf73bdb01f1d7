use Rattle.std.proofs.Common.{Err, sym, subst}
use Rattle.std.proofs.lemmas.Result.{err_from_is_err_and}
use Rattle.ct_script.specs.Answer.{Reads}
use Rattle.ct_script.proofs.Runs.{Reads-fault, Reads-script}
use Rattle.ct_script.proofs.read.read_script.Goals as goal

pub returns-in_err-phases : goal.returns-in_err-phases
returns-in_err-phases c =
    let p = err_from_is_err_and c.from_residual.result c.from_residual.ensures.1 in
    subst (Reads c.args.bytes.now) (sym p.1) (subst (λ e. Reads c.args.bytes.now (Err e)) (sym p.2) (Reads-fault c.args.bytes.now c.in_err-phases.field-0.0 c.in_err-phases.ensures.found))

pub returns : goal.returns
returns c = Reads-script c.args.bytes.now _ _ c.in_ok-phases.ensures.found c.in_ok-script_of.ensures
