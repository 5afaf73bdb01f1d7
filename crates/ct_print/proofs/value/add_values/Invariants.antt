use Rattle.std.proofs.Common.{◌≡◌, ◌++◌, take, flat_map, string_bytes}
use Rattle.ct_machine.specs.Transcript.{value_text}
use Rattle.ct_print.proofs.value.add_values.Given as goal

abbrev pub invariant-loop-value : goal.invariant-loop-value
invariant-loop-value l = string_bytes l.out ≡ string_bytes l.initial.out ++ flat_map (λ value. l.by ++ value_text value) (take l.value-index l.more)
