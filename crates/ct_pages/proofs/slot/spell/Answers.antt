use Rattle.std.proofs.Common.{◌∙◌}
use Rattle.std.proofs.lemmas.List.{append-nil}
use Rattle.ct_pages.proofs.Decoding.{spelled_by}
use Rattle.ct_pages.proofs.slot.spell.Goals as goal

pub returns : goal.returns
returns c = spelled_by c.args.slot _ (append-nil c.write_u64.new.buf ∙ c.write_u64.ensures)
