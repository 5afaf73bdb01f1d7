use Rattle.std.proofs.Common.{◌≡◌, ◌++◌, take, flat_map, string_bytes, codes}
use Rattle.ct_print.proofs.reply.add_names.Given as goal

abbrev pub invariant-loop-name : goal.invariant-loop-name
invariant-loop-name l = string_bytes l.out ≡ string_bytes l.initial.out ++ flat_map (λ name. codes " | " ++ name) (take l.name-index l.more)
