use Rattle.std.proofs.Common.{◌++◌, ap, ◌∙◌, string_bytes, flat_map, encode_utf8}
use Rattle.ct_machine.specs.Transcript.{escaped}
use Rattle.ct_print.proofs.Escapes.{escaped_push}
use Rattle.ct_print.proofs.value.add_escaped.Goals as goal

pub loop-c-preserved : goal.loop-c-preserved
loop-c-preserved c =
    c.in_ok-add_char.ensures ∙ ap (λ text. text ++ flat_map escaped (encode_utf8 c.in-Some.c)) c.loop-c.invariant
    ∙ escaped_push (string_bytes c.args.out.now) c.loop-c.yielded c.in-Some.c
