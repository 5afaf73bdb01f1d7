use Rattle.std.proofs.Common.{◌≡◌, ◌++◌, take, flat_map, string_bytes}
use Rattle.ct_machine.specs.Transcript.{touched_text}
use Rattle.ct_print.proofs.reply.add_changes.Given as goal

abbrev pub invariant-loop-touched : goal.invariant-loop-touched
invariant-loop-touched l = string_bytes l.out ≡ string_bytes l.initial.out ++ flat_map touched_text (take l.touched-index l.changes)
