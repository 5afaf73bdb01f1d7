use Rattle.std.proofs.Common.{rules, arith, ◌≡◌, ap, ◌∙◌}
use Rattle.std.proofs.lemmas.Grind.{common_steps}
use Rattle.ct_codec.specs.EntryReaders.{entry_of}
use Rattle.ct_codec.specs.Spellings.{spell_entry, bare}
use Rattle.ct_codec.proofs.Combined.{whole_of}
use Rattle.ct_codec.proofs.EntryLaws.{law_entry}
use Rattle.ct_codec.proofs.entry.put_entry.Goals as goal

pub returns-clause-reads_back : goal.returns-clause-reads_back
returns-clause-reads_back c =
    let spelled : c.from_vec.result ≡ spell_entry (bare c.args.entry.now) = first_of (search rules, grind (arith, common_steps)) in
    ap (λ bytes. entry_of bytes) spelled ∙ whole_of law_entry (bare c.args.entry.now) c.requires
