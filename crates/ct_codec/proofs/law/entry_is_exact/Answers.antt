use Rattle.ct_codec.proofs.Combined.{law_exact}
use Rattle.ct_codec.proofs.EntryLaws.{law_entry}
use Rattle.ct_codec.proofs.law.entry_is_exact.Goals as goal

pub returns : goal.returns
returns c = law_exact law_entry
