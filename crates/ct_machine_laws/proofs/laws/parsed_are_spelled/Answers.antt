use Rattle.ct_machine_laws.proofs.Statements
use Rattle.ct_machine_laws.proofs.laws.parsed_are_spelled.Goals as goal

pub returns : goal.returns
returns c = Statements.parsed_are_spelled
