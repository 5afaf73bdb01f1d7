use Rattle.std.proofs.Common.{sym, ap, ◌∙◌}
use Rattle.ct_script.specs.Schedule.{script_of}
use Rattle.ct_script.proofs.PlainRuns.{reads_back}
use Rattle.ct_script.proofs.PlainBack.{gives_plain}
use Rattle.ct_script.proofs.laws.scripts_have_a_plain_form.Goals as goal

pub returns : goal.returns
returns c = λ bytes script no_return read.
    let plain = gives_plain bytes no_return read.0 in
    let back = reads_back _ plain in
    (plain, (back.0, read.1 ∙ ap script_of (sym back.1)))
