-- What a SNAPSHOT transaction may not write: a table or a key that another transaction changed after its view. T-SQL: 3960. That a
-- definition, TRUNCATE, ENABLE or DISABLE of the table counts too, and which transaction is named, is this project's own.
use Rattle.std.specs.Prelude.{ℕ, drop, List, Option, None}
use Rattle.std.specs.Option.{option_map}
use Rattle.ct_types.specs.declared.entry.Entry.{Entry}
use Rattle.ct_types.specs.declared.entry.Write.{Write}
use Rattle.ct_types.specs.declared.refusal.Refusal.{Refusal}
use Rattle.ct_types.specs.declared.refusal.Refusal.TheVariants.{Conflict}
use Rattle.ct_conflicts.specs.Conflicts.{conflicting}
use Rattle.ct_session.specs.declared.tran.Tran.{Tran}
use Rattle.ct_session.specs.declared.tran.Tran.TheVariants as tran

-- 3960 for a transaction with a view, where an entry after its view altered the table or wrote one of these keys
abbrev pub conflict : List Entry → Tran → List ℕ → ℕ → List Write → Option Refusal
conflict past (tran.Viewed view) name table writes = option_map (λ xdes. Conflict name xdes) (conflicting (drop view.at past) table writes)
conflict past tran.None name table writes = None
conflict past tran.Committed name table writes = None
conflict past tran.Snapshot name table writes = None
