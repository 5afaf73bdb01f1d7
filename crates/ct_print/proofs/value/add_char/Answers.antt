use Rattle.std.proofs.Common.{◌≡◌, flat_map, encode_utf8, string_bytes, arith}
use Rattle.ct_machine.specs.Transcript.{escaped}
use Rattle.ct_print.proofs.Appends.{appended}
use Rattle.ct_print.proofs.Escapes.{char_stays}
use Rattle.ct_print.proofs.value.add_char.Goals as goal

pub returns-else-is_ascii_control : goal.returns-else-is_ascii_control
returns-else-is_ascii_control c =
    let same : flat_map escaped (encode_utf8 c.args.c) ≡ encode_utf8 c.args.c =
    char_stays c.args.c (omega (arith, c.if-is_ascii_control.ensures.cases)) c.if-c-eq39.false c.if-c-eq92.false (omega (arith, c.if-is_ascii_control.ensures.cases)) in
    rw same (appended c.push.result (string_bytes c.push.new.self) (string_bytes c.args.out.now) (encode_utf8 c.args.c) c.push.ensures.bytes)
