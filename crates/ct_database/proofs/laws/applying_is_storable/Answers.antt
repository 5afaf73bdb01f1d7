use Rattle.ct_database.proofs.Storing.{applying_is_storable}
use Rattle.ct_database.proofs.laws.applying_is_storable.Goals as goal

pub returns : goal.returns
returns c = applying_is_storable
