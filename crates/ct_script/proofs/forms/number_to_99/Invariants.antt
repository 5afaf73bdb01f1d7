use Rattle.std.proofs.Common.{◌≡◌, take, min}
use Rattle.ct_script.specs.Forms.{number_of}
use Rattle.ct_script.proofs.forms.number_to_99.Given as goal

abbrev pub invariant-loop-digit : goal.invariant-loop-digit
invariant-loop-digit l = l.number ≡ min 99 (number_of (take l.digit-index l.digits))
