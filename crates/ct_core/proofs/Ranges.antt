-- An entry that has room leaves a core in range.
use Rattle.std.proofs.Common.{◌≡◌, ℕ, ◌+◌, ◌^◌, ◌≤◌, nat_le, Bool, true, false, ◌&&◌, cond, [], Option, None, Some, refl, sym, ap, subst, arith, leb-true, le-leb}
use Rattle.ct_types.specs.declared.entry.Act.{Act}
use Rattle.ct_types.specs.declared.entry.Entry.{Entry}
use Rattle.ct_model.specs.declared.db.Db.{Db}
use Rattle.ct_model.specs.Apply.{apply}
use Rattle.ct_state.specs.Machine.{Machine, next_xdes, xdes_or}
use Rattle.ct_machine.specs.Step.{entry_of, has_number, has_room, most_number}
use Rattle.ct_session.specs.Sessions.{SessionState, fresh}
use Rattle.ct_core.specs.Range.{ActIsKept, HasTables}
use Rattle.ct_core.proofs.Narrow.{tables_apply}

-- a machine without a past, with this database, time and number, and fresh sessions
abbrev pub machine_at : Db → ℕ → ℕ → Machine
machine_at db now next = record { first = db; past = []; now = now; next = next; sessions = λ number. fresh }

-- a session that has drawn this number, or none
abbrev pub session_with : Option ℕ → SessionState
session_with drawn = record fresh { xdes = drawn }

both : (a b : Bool) → a && b ≡ true → (a ≡ true) × (b ≡ true)
both true b e = (refl, e)
both false b e = cc

pub at_most : (a b : ℕ) → nat_le a b ≡ true → a ≤ b
at_most a b e = leb-true a b e

pub at_least : (a b : ℕ) → a ≤ b → nat_le a b ≡ true
at_least a b e = le-leb a b e

-- the next number stays in range where the one that is used has room
pub next_in_range : (drawn : Option ℕ) (next : ℕ) → xdes_or next drawn ≤ 2 ^ 62 → next ≤ 2 ^ 62 + 1 → next_xdes next drawn ≤ 2 ^ 62 + 1
next_in_range None next most in_range = omega arith
next_in_range (Some xdes) next most in_range = in_range

numbered : (b : Bool) (drawn : Option ℕ) (next : ℕ) → cond b (xdes_or next drawn) 0 ≤ 2 ^ 62 → next ≤ 2 ^ 62 + 1 → cond b (next_xdes next drawn) next ≤ 2 ^ 62 + 1
numbered true drawn next most in_range = next_in_range drawn next most in_range
numbered false drawn next most in_range = in_range

version_apply : (db : Db) (entry : Entry) → (apply db entry).version ≡ entry.version
unfolding apply
version_apply db entry = refl

-- what an entry that has room leaves of the numbers and the tables
pub record AreInRange (db : Db) (next : ℕ) : Type 0 where
  pub version : db.version ≤ 2 ^ 62
  pub number : next ≤ 2 ^ 62 + 1
  pub tables : HasTables db

pub in_range : (db : Db) (now next : ℕ) (drawn : Option ℕ) (act : Act) (entry : Entry) → next ≤ 2 ^ 62 + 1 → HasTables db → ActIsKept db act
    → entry ≡ entry_of (machine_at db now next) (session_with drawn) act → has_room entry ≡ true → AreInRange (apply db entry) (cond (has_number act) (next_xdes next drawn) next)
in_range db now next drawn act entry most has kept is room =
    let fits = both (nat_le entry.version most_number) (nat_le entry.xdes most_number) room in
    let xdes : entry.xdes ≡ cond (has_number act) (xdes_or next drawn) 0 = ap (λ e. e.xdes) is in
    let own : entry.act ≡ act = ap (λ e. e.act) is in
    record {
      version = rw (version_apply db entry) (at_most entry.version most_number fits.0);
      number = numbered (has_number act) drawn next (rw (← xdes) (at_most entry.xdes most_number fits.1)) most;
      tables = tables_apply db entry (subst (ActIsKept db) (sym own) kept) has;
    }
