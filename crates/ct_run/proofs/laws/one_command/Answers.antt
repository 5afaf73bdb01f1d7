use Rattle.ct_run.proofs.Commands.{one_command}
use Rattle.ct_run.proofs.laws.one_command.Goals as goal

pub returns : goal.returns
returns c = one_command
