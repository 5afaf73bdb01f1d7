-- What a change makes of the stamps that are kept. No public clause speaks of this.
use Rattle.std.specs.Prelude.{◌≡◌, ℕ, Bool, List, Some, if◌then◌else◌}
use Rattle.ct_types.specs.declared.value.Key.{Key}
use Rattle.ct_conflicts.specs.Later.{last_alter, last_write}
use Rattle.ct_conflicts.specs.declared.stamps.Stamp.{Stamp}
use Rattle.ct_conflicts.specs.declared.stamps.TableStamps.{TableStamps}

-- keys and tables that pass a test have this stamp, all others have theirs as before
pub record IsStamped (new old : List TableStamps) (stamp : Stamp) (written : ℕ → Key → Bool) (altered : ℕ → Bool) : Type 0 where
  pub keys : (table : ℕ) (key : Key) → last_write new table key ≡ (if written table key then Some stamp else last_write old table key)
  pub tables : (table : ℕ) → last_alter new table ≡ (if altered table then Some stamp else last_alter old table)
