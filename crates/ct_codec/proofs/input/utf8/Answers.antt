use Rattle.std.proofs.Common.{rules, ◌≡◌, true, false, arith}
use Rattle.std.proofs.lemmas.Grind.{common_steps}
use Rattle.std.proofs.lemmas.Str.{is_utf8-from_IsUtf8}
use Rattle.std.specs.Str.{is_utf8}
use Rattle.ct_codec.proofs.Lists.{not_utf8}
use Rattle.ct_codec.proofs.input.utf8.Goals as goal

pub returns-in_ok-of-in-Ok : goal.returns-in_ok-of-in-Ok
returns-in_ok-of-in-Ok c =
    let is : is_utf8 c.args.bytes.now ≡ true = is_utf8-from_IsUtf8 _ c.in-Ok.ensures.cases.1 in
    first_of (search rules, grind (arith, common_steps))

pub returns-in-Err : goal.returns-in-Err
returns-in-Err c =
    let is : is_utf8 c.args.bytes.now ≡ false = not_utf8 _ c.in-Err.ensures.cases.0 in
    first_of (search rules, grind (arith, common_steps))
