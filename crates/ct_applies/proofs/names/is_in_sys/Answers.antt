use Rattle.ct_model.proofs.InSys.{in_sys}
use Rattle.ct_applies.proofs.names.is_in_sys.Goals as goal

pub returns-then-name-gt4 : goal.returns-then-name-gt4
returns-then-name-gt4 c = in_sys c.args.name.now _ c.if-name-gt4.true c.eq_ignore_ascii_case.ensures.test
