-- What replies say of memory. This project's own.
use Rattle.std.specs.Prelude.{Bool, true, false}
use Rattle.ct_types.specs.declared.refusal.Refusal.TheVariants.{Memory}
use Rattle.ct_types.specs.declared.reply.Reply.{Reply}
use Rattle.ct_types.specs.declared.reply.Reply.TheVariants.{Refused}

-- whether a reply says that memory was wanting
abbrev pub is_memory : Reply → Bool
is_memory (Refused Memory) = true
is_memory other = false
