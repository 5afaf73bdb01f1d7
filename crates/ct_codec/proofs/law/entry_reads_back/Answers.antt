use Rattle.ct_codec.specs.Spellings.{bare}
use Rattle.ct_codec.proofs.Combined.{whole_of}
use Rattle.ct_codec.proofs.EntryLaws.{law_entry}
use Rattle.ct_codec.proofs.law.entry_reads_back.Goals as goal

pub returns : goal.returns
returns c = λ entry fits. whole_of law_entry (bare entry) fits
