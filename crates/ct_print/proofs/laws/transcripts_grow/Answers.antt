use Rattle.std.proofs.Common.{refl}
use Rattle.ct_print.proofs.Grows.{grown_push}
use Rattle.ct_print.proofs.laws.transcripts_grow.Goals as goal

pub returns : goal.returns
returns c = (refl, grown_push)
