use Rattle.std.proofs.Common.{◌≡◌, rules, arith, ◌∙◌, ap}
use Rattle.std.proofs.lemmas.Grind.{common_steps}
use Rattle.ct_log.specs.Append.{frame_of, payload_in}
use Rattle.ct_log.proofs.Frames.{payload_in-frame_of, frame_is}
use Rattle.ct_log.proofs.framing.frame.Goals as goal

pub returns-clause-frame : goal.returns-clause-frame
returns-clause-frame c =
    let is : c.from_vec.result ≡ frame_of c.args.payload.now = first_of (search rules, grind (arith, common_steps)) in
    frame_is c.args.payload.now c.from_vec.result c.requires is

pub returns-clause-payload : goal.returns-clause-payload
returns-clause-payload c =
    let is : c.from_vec.result ≡ frame_of c.args.payload.now = first_of (search rules, grind (arith, common_steps)) in
    ap payload_in is ∙ payload_in-frame_of c.args.payload.now
