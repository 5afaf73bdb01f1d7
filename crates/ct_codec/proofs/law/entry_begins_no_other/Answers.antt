use Rattle.ct_codec.proofs.Combined.{law_begins_no_other}
use Rattle.ct_codec.proofs.EntryLaws.{law_entry}
use Rattle.ct_codec.proofs.law.entry_begins_no_other.Goals as goal

pub returns : goal.returns
returns c = law_begins_no_other law_entry
