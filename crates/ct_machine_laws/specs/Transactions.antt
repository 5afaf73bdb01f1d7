-- What is sound of the open transactions of a machine: of each session, and of the sessions together. This project's own.
use Rattle.std.specs.Prelude.{◌≡◌, ◌≢◌, ◌≤◌, ◌<◌, ℕ, false, List, [], ◌++◌, IfSome, None}
use Rattle.std.specs.List.{AllByRecursion}
use Rattle.ct_types.specs.declared.entry.Act.{Act}
use Rattle.ct_types.specs.declared.entry.Write.{Write}
use Rattle.ct_model.specs.declared.db.Db.{Db}
use Rattle.ct_model.specs.Applies.{IsNewXdes, WritesApply}
use Rattle.ct_bind_kinds.specs.Kinds.{AreOfTheirTypes}
use Rattle.ct_conflicts.specs.Conflicts.{alters, writes_key}
use Rattle.ct_session.specs.Sessions.{SessionState, fresh}
use Rattle.ct_session.specs.declared.tran.Tran.{Tran}
use Rattle.ct_session.specs.declared.tran.Tran.TheVariants as tran

-- ---- writes and acts that leave each other alone

-- two writes name different keys, or keys of different tables
abbrev pub NamesOther : Write → Write → Type 0
NamesOther write other = ¬ ((write.table ≡ other.table) × (write.key ≡ other.key))

-- no two writes, one of each list, name one key
abbrev pub NameOthers : List Write → List Write → Type 0
NameOthers writes others = AllByRecursion (λ write. AllByRecursion (NamesOther write) others) writes

-- an act neither alters the table of a write nor writes its key
pub record Spares (act : Act) (write : Write) : Type 0 where
  pub table : alters write.table act ≡ false
  pub key : writes_key write.table write.key act ≡ false

-- ---- a transaction

-- a view lies at or before the newest of so many entries
abbrev pub IsViewWithin : ℕ → Tran → Type 0
IsViewWithin count (tran.Viewed view) = view.at ≤ count
IsViewWithin count tran.None = Unit {0}
IsViewWithin count tran.Committed = Unit {0}
IsViewWithin count tran.Snapshot = Unit {0}

-- a number that a transaction has drawn is below the next one, and one that an entry may have
pub record IsDrawn (db : Db) (next xdes : ℕ) : Type 0 where
  pub below : xdes < next
  pub new : IsNewXdes db xdes

-- a session, by the count of entries, the database that they make, and the next transaction's number: without a transaction nothing
-- waits and no number is drawn; what waits applies to the newest database, whatever was committed since; and each variable has a
-- value of its type's kind, or NULL
pub record IsSessionSound (count : ℕ) (db : Db) (next : ℕ) (session : SessionState) : Type 0 where
  pub view : IsViewWithin count session.tran
  pub quiet : session.tran ≡ tran.None → (session.pending ≡ []) × (session.xdes ≡ None)
  pub pending : WritesApply db.tables session.pending
  pub xdes : IfSome session.xdes (IsDrawn db next)
  pub variables : AreOfTheirTypes session.variables

-- ---- the sessions together

-- no key is held by both sessions, and no number was drawn by both
pub record AreApart (session other : SessionState) : Type 0 where
  pub keys : NameOthers session.pending other.pending
  pub numbers : IfSome session.xdes (λ xdes. IfSome other.xdes (λ drawn. xdes ≢ drawn))

-- each session is sound, each two are apart, and none from 256 on has begun, since the number of a session is a byte
pub record AreSessionsSound (count : ℕ) (db : Db) (next : ℕ) (sessions : ℕ → SessionState) : Type 0 where
  pub each : (s : ℕ) → IsSessionSound count db next (sessions s)
  pub apart : (s other : ℕ) → s ≢ other → AreApart (sessions s) (sessions other)
  pub bytes : (s : ℕ) → 256 ≤ s → sessions s ≡ fresh

-- an act of a session spares all that waits in the others
abbrev pub SparesOthers : (ℕ → SessionState) → ℕ → Act → Type 0
SparesOthers sessions s act = (other : ℕ) → other ≢ s → AllByRecursion (Spares act) (sessions other).pending

-- more writes may wait in the transaction of a session: it is open, they apply behind those that wait there, and no other session
-- holds a key of theirs
pub record MayWait (db : Db) (sessions : ℕ → SessionState) (s : ℕ) (session : SessionState) (writes : List Write) : Type 0 where
  pub open_tran : session.tran ≢ tran.None
  pub applies : WritesApply db.tables (session.pending ++ writes)
  pub free : (other : ℕ) → other ≢ s → NameOthers writes (sessions other).pending
