-- A statement comes in a machine to what it comes to among what its session sees.
use Rattle.std.proofs.Common.{◌≡◌, ℕ, List, Option, None, Some, Ok, refl}
use Rattle.std.specs.Option.{option_map, option_or}
use Rattle.ct_types.specs.declared.entry.Write.{Write}
use Rattle.ct_types.specs.declared.refusal.Refusal.{Refusal}
use Rattle.ct_model.specs.declared.db.Table.{Table}
use Rattle.ct_machine.specs.declared.decision.Decision.{Decision}
use Rattle.ct_machine.specs.declared.decision.Decision.TheVariants.{Refuses, Aborts}
use Rattle.ct_state.specs.Conflicts.{conflict}
use Rattle.ct_machine.specs.Decide.{fitted, unless, without_duplicates}
use Rattle.ct_state.specs.Holding.{blocked_keys}
use Rattle.ct_state.specs.Machine.{Machine}
use Rattle.ct_write.specs.Duplicates.{duplicate}
use Rattle.ct_core.specs.Steps.{decided_or, kept_out}

-- what keeps writes out comes first, then duplicates
out_first : (blocked conflicting : Option Refusal) (next : Decision)
    → unless Refuses blocked (unless Aborts conflicting next) ≡ decided_or (option_or (option_map Refuses blocked) (option_map Aborts conflicting)) next
out_first (Some refusal) conflicting next = refl
out_first None (Some refusal) next = refl
out_first None None next = refl

pub fitted_so : (m : Machine) (s : ℕ) (table : Table) (writes : List Write)
    → fitted m s table (Ok writes) ≡ decided_or (kept_out m s table.schema writes) (without_duplicates (m.sessions s).tran table writes (duplicate table.schema table.rows writes))
fitted_so m s table writes =
    out_first (blocked_keys m.sessions s table.schema.name writes) (conflict m.past (m.sessions s).tran table.schema.name table.schema.id writes)
    (without_duplicates (m.sessions s).tran table writes (duplicate table.schema table.rows writes))
