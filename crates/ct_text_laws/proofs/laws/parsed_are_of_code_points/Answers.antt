use Rattle.ct_text_laws.proofs.Statements
use Rattle.ct_text_laws.proofs.laws.parsed_are_of_code_points.Goals as goal

pub returns : goal.returns
returns c = Statements.parsed_are_of_code_points
