-- What follows of steps and plays. This project's own.
use Rattle.std.specs.Prelude.{◌≡◌, ℕ, ℤ, List, [], ◌∷◌, ◌++◌, map, Option}
use Rattle.ct_types.specs.declared.entry.Entry.{Entry}
use Rattle.ct_types.specs.declared.entry.Write.{Write}
use Rattle.ct_types.specs.declared.value.Key.{Key}
use Rattle.ct_model.specs.declared.db.Db.{Db}
use Rattle.ct_model.specs.Applies.{Applies}
use Rattle.ct_model.specs.Net.{net}
use Rattle.ct_model.specs.Versions.{current, row_version}
use Rattle.ct_types.specs.declared.command.Journaled.{Journaled}
use Rattle.ct_state.specs.Machine.{Machine}
use Rattle.ct_machine.specs.Play.{Follows, after, IsPlay, IsWhole, call_of, end_of}
use Rattle.ct_machine.specs.Reads.{catalogue}
use Rattle.ct_state.specs.Seen.{with_writes}
use Rattle.ct_machine.specs.Step.{act_draws}

-- a play goes on by one statement whose reply follows
abbrev pub PlaysGoOn : Type 0
PlaysGoOn = (m : Machine) (journal : List Journaled) (one : Journaled) → IsPlay m journal → Follows (end_of m journal) one.session one.what one.reply
    → IsPlay m (journal ++ one ∷ []) × (end_of m (journal ++ one ∷ []) ≡ after (end_of m journal) one.session one.what one.reply)

-- two plays of the same statements, in which memory was never wanting, are one
abbrev pub OneWholePlay : Type 0
OneWholePlay = (m : Machine) (journal other : List Journaled) → map call_of journal ≡ map call_of other
    → IsPlay m journal → IsPlay m other → IsWhole journal → IsWhole other → journal ≡ other

-- the writes that wait in a transaction change the rows of tables alone: of tracking, and of the catalogue, a session sees what was
-- committed
pub record SeesCommitted (db : Db) (writes : List Write) : Type 0 where
  pub catalogue : catalogue (with_writes db writes) ≡ catalogue db
  pub current : current (with_writes db writes) ≡ current db
  pub kept : (with_writes db writes).kept ≡ db.kept
  pub changes : (table : ℕ) (since : Option ℤ) → net (with_writes db writes) table since ≡ net db table since
  pub versions : (table : ℕ) (key : Key) → row_version (with_writes db writes) table key ≡ row_version db table key

abbrev pub TrackingIsCommitted : Type 0
TrackingIsCommitted = (db : Db) (writes : List Write) → SeesCommitted db writes

-- an entry that applies draws a version exactly where its act does in the database
abbrev pub EntriesDraw : Type 0
EntriesDraw = (db : Db) (entry : Entry) → Applies db entry → entry.draws ≡ act_draws db entry.act
