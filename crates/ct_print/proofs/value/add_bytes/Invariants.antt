use Rattle.std.proofs.Common.{◌≡◌, ◌++◌, take, flat_map, string_bytes}
use Rattle.ct_machine.specs.Transcript.{upper_hex}
use Rattle.ct_print.proofs.value.add_bytes.Given as goal

abbrev pub invariant-loop-byte : goal.invariant-loop-byte
invariant-loop-byte l = string_bytes l.out ≡ string_bytes l.initial.out ++ flat_map upper_hex (take l.byte-index l.bytes)
