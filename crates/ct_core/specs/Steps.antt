-- The steps in which a core comes to a decision on writes. No promise speaks of them.
use Rattle.std.specs.Prelude.{ℕ, List, Option, None, Some}
use Rattle.std.specs.Option.{option_map, option_or}
use Rattle.ct_types.specs.declared.entry.Write.{Write}
use Rattle.ct_types.specs.declared.schema.Schema.{Schema}
use Rattle.ct_machine.specs.declared.decision.Decision.{Decision}
use Rattle.ct_machine.specs.declared.decision.Decision.TheVariants.{Refuses, Aborts}
use Rattle.ct_state.specs.Conflicts.{conflict}
use Rattle.ct_state.specs.Holding.{blocked_keys}
use Rattle.ct_state.specs.Machine.{Machine}

-- what keeps writes of a session out of a table: a key that another session holds, else a change after the session's view
abbrev pub kept_out : Machine → ℕ → Schema → List Write → Option Decision
kept_out m s schema writes =
    option_or (option_map Refuses (blocked_keys m.sessions s schema.name writes)) (option_map Aborts (conflict m.past (m.sessions s).tran schema.name schema.id writes))

-- that, or else what comes next
abbrev pub decided_or : Option Decision → Decision → Decision
decided_or None next = next
decided_or (Some decision) next = decision
