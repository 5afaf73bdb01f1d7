-- Which keys are locked: a session holds the keys of the writes that wait in its transaction. T-SQL's 1222 answers who asks for a
-- key that another one holds; that it comes at once, and names the least holder, is this project's own.
use Rattle.std.specs.Prelude.{ℕ, zero, suc, ◌+◌, ◌==◌, ◌&&◌, Bool, not, List, [], ◌∷◌, Option, None, Some, is_some, if◌then◌else◌}
use Rattle.std.specs.List.{list_any, find}
use Rattle.std.specs.Option.{option_and_then, option_map, option_or}
use Rattle.ct_types.specs.declared.entry.Write.{Write}
use Rattle.ct_types.specs.declared.refusal.Refusal.{Refusal}
use Rattle.ct_types.specs.declared.refusal.Refusal.TheVariants.{Blocked}
use Rattle.ct_types.specs.declared.value.Key.{Key}
use Rattle.ct_conflicts.specs.Conflicts.{is_on}
use Rattle.ct_session.specs.Sessions.{SessionState}

-- a session's writes that wait name the key
abbrev pub holds_key : ℕ → Key → SessionState → Bool
holds_key table key session = list_any (is_on table key) session.pending

-- the first key of the table that a session's writes name
abbrev pub first_key : ℕ → SessionState → Option Key
first_key table session = option_map (λ write. write.key) (find (λ write. write.table == table) session.pending)

-- the least number of which a test is true, of so many from this one on
abbrev pub least_from : (ℕ → Bool) → ℕ → ℕ → Option ℕ
least_from test number zero = None
least_from test number (suc more) = if test number then Some number else least_from test (number + 1) more

module _ (sessions : ℕ → SessionState) (session : ℕ) where
  -- the least other session of which a test is true; the number of a session is a byte
  unfoldable pub least_other : (SessionState → Bool) → Option ℕ
  least_other test = least_from (λ other. not (other == session) && test (sessions other)) 0 256

  -- 1222 for the first of the keys of these writes that another session holds, with the least one that does
  abbrev pub blocked_keys : List ℕ → List Write → Option Refusal
  blocked_keys name [] = None
  blocked_keys name (write ∷ more) =
      option_or (option_map (λ holder. Blocked name write.key holder) (least_other (holds_key write.table write.key))) (blocked_keys name more)

  -- 1222 for a table of which another session holds a key: the first key of the table that the least such session wrote
  abbrev pub blocked_table : List ℕ → ℕ → Option Refusal
  blocked_table name table =
      option_and_then (λ holder. option_map (λ key. Blocked name key holder) (first_key table (sessions holder)))
      (least_other (λ other. is_some (first_key table other)))
