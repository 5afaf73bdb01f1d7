use Rattle.std.proofs.Common.{◌∙◌, arith}
use Rattle.ct_write.proofs.Bits.{mask_is}
use Rattle.ct_write.proofs.masks.mask_of_ids.Goals as goal

pub returns : goal.returns
returns c = c.bits.ensures ∙ mask_is _ _ (omega arith) c.requires c.of.ensures
