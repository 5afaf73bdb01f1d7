use Rattle.std.proofs.Common.{ap, sym, subst, ◌∙◌, length}
use Rattle.ct_faults.specs.Disk.{Image}
use Rattle.ct_disk.specs.Areas.{image_of}
use Rattle.ct_disk.specs.Mem.{images_of, clock_of}
use Rattle.ct_disk.proofs.Crashes.{crashed-may, crashed-lengths, crashed-whole}
use Rattle.ct_disk.proofs.mem_disk.MemDisk.crash.Goals as goal

pub returns-in-Ok-clause-left : goal.returns-in-Ok-clause-left
returns-in-Ok-clause-left c = c.in-Ok.ensures.left

pub returns-in-Ok-clause-image : goal.returns-in-Ok-clause-image
returns-in-Ok-clause-image c = subst (λ (image : Image). images_of c.args.self (clock_of c.args.self) image) (sym c.in-Ok.ensures.left) (crashed-may c.args.torn.now (image_of c.args.self.first) c.args.self.steps)

pub returns-in-Ok-clause-lengths : goal.returns-in-Ok-clause-lengths
returns-in-Ok-clause-lengths c = λ area. ap (λ (image : Image). length (image area)) c.in-Ok.ensures.left ∙ crashed-lengths c.args.torn.now (image_of c.args.self.first) c.args.self.steps area

pub returns-in-Ok-clause-whole : goal.returns-in-Ok-clause-whole
returns-in-Ok-clause-whole c = λ none. c.in-Ok.ensures.left ∙ crashed-whole c.args.torn.now (image_of c.args.self.first) c.args.self.steps none
