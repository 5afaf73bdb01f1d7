-- An earlier database has the first tables of a later one, as they are by their definitions.
use Rattle.std.proofs.Common.{◌≡◌, ℕ, ◌+◌, Bool, List, [], ◌∷◌, ◌++◌, map, fold, take, drop, take-append-drop, Option, None, Some, refl, sym, ap, subst, ◌∙◌}
use Rattle.std.specs.Option.{IfSome}
use Rattle.ct_types.specs.declared.entry.Act.{Act}
use Rattle.ct_types.specs.declared.entry.Act.TheVariants.{Commit, Define, Truncate, Enable, Disable, Database, Raise}
use Rattle.ct_types.specs.declared.entry.Entry.{Entry}
use Rattle.ct_types.specs.declared.entry.Min.{Min}
use Rattle.ct_types.specs.declared.entry.Write.{Write}
use Rattle.ct_bind.specs.Limits.{HaveFewColumns}
use Rattle.ct_model.specs.declared.db.Db.{Db}
use Rattle.ct_model.specs.declared.db.Table.{Table}
use Rattle.ct_model.specs.Apply.{apply, raised, replay, tables_after, tracked_as, truncated, written}
use Rattle.ct_model.specs.Tables.{catalogued}
use Rattle.ct_model.specs.Valid.{AreNumbered}
use Rattle.ct_state.specs.Machine.{Machine, db_at}
use Rattle.ct_sessions.specs.declared.own.Own.{Own}
use Rattle.ct_sessions.specs.Owns.{IsShareOf, own_or}
use Rattle.ct_sessions.specs.Seats.{own_in}
use Rattle.ct_core.specs.Range.{HasTables}
use Rattle.ct_core.specs.Stands.{CoreState, Stands}
use Rattle.ct_core.proofs.Keeping.{replayed}
use Rattle.ct_core.proofs.Narrow.{raised_keeps, tracked_keeps, truncated_keeps, written_keeps}

-- these are the first tables of those, by their definitions
abbrev IsFrontOf : List Table → List Table → Type 0
IsFrontOf [] tables = Unit {0}
IsFrontOf (first ∷ front) [] = ⊥
IsFrontOf (first ∷ front) (table ∷ tables) = (first.schema ≡ table.schema) × IsFrontOf front tables

front_itself : (tables : List Table) → IsFrontOf tables tables
front_itself [] = tt
front_itself (table ∷ tables) = (refl, front_itself tables)

module _ (f : Table → Table) (keeps : (table : Table) → (f table).schema ≡ table.schema) where
  front_mapped : (front tables : List Table) → IsFrontOf front tables → IsFrontOf front (map f tables)
  front_mapped [] tables is = tt
  front_mapped (first ∷ front) [] is = is
  front_mapped (first ∷ front) (table ∷ tables) is = (is.0 ∙ sym (keeps table), front_mapped front tables is.1)

  mapped_front : (front tables : List Table) → IsFrontOf front tables → IsFrontOf (map f front) tables
  mapped_front [] tables is = tt
  mapped_front (first ∷ front) [] is = is
  mapped_front (first ∷ front) (table ∷ tables) is = (keeps first ∙ is.0, mapped_front front tables is.1)

front_more : (front tables more : List Table) → IsFrontOf front tables → IsFrontOf front (tables ++ more)
front_more [] tables more is = tt
front_more (first ∷ front) [] more is = absurd is
front_more (first ∷ front) (table ∷ tables) more is = (is.0, front_more front tables more is.1)

front_written : (writes : List Write) (front tables : List Table) → IsFrontOf front tables → IsFrontOf front (fold (λ before write. map (written write) before) tables writes)
front_written [] front tables is = is
front_written (write ∷ writes) front tables is = front_written writes front (map (written write) tables) (front_mapped (written write) (written_keeps write) front tables is)

written_front : (writes : List Write) (front tables : List Table) → IsFrontOf front tables → IsFrontOf (fold (λ before write. map (written write) before) front writes) tables
written_front [] front tables is = is
written_front (write ∷ writes) front tables is = written_front writes (map (written write) front) tables (mapped_front (written write) (written_keeps write) front tables is)

front_raised : (minima : List Min) (front tables : List Table) → IsFrontOf front tables → IsFrontOf front (fold (λ before listed. map (raised listed) before) tables minima)
front_raised [] front tables is = is
front_raised (listed ∷ minima) front tables is = front_raised minima front (map (raised listed) tables) (front_mapped (raised listed) (raised_keeps listed) front tables is)

front_acted : (act : Act) (version : ℕ) (draws : Bool) (front tables : List Table) → IsFrontOf front tables → IsFrontOf front (tables_after act version draws tables)
front_acted (Commit writes) version draws front tables is = front_written writes front tables is
front_acted (Define schema) version draws front tables is = front_more front tables _ is
front_acted (Truncate id) version draws front tables is = front_mapped (truncated id version draws) (truncated_keeps id version draws) front tables is
front_acted (Enable id masks) version draws front tables is = front_mapped (tracked_as id _) (tracked_keeps id _) front tables is
front_acted (Disable id) version draws front tables is = front_mapped (tracked_as id None) (tracked_keeps id None) front tables is
front_acted (Database keep) version draws front tables is = is
front_acted (Raise minima) version draws front tables is = front_raised minima front tables is

front_after : (db : Db) (entry : Entry) (front : List Table) → IsFrontOf front db.tables → IsFrontOf front (apply db entry).tables
unfolding apply
front_after db entry front is = front_acted entry.act entry.version entry.draws front db.tables is

front_replayed : (db : Db) (entries : List Entry) (front : List Table) → IsFrontOf front db.tables → IsFrontOf front (replay db entries).tables
front_replayed db [] front is = is
front_replayed db (entry ∷ entries) front is = front_replayed (apply db entry) entries front (front_after db entry front is)

-- ---- what the later tables have, the earlier have

narrow_front : (front tables : List Table) → IsFrontOf front tables → HaveFewColumns (map catalogued tables) → HaveFewColumns (map catalogued front)
narrow_front [] tables is few = tt
narrow_front (first ∷ front) [] is few = absurd is
narrow_front (first ∷ front) (table ∷ tables) is few = (rw is.0 few.0, narrow_front front tables is.1 few.1)

numbered_front : (id : ℕ) (front tables : List Table) → IsFrontOf front tables → AreNumbered id tables → AreNumbered id front
numbered_front id [] tables is numbered = tt
numbered_front id (first ∷ front) [] is numbered = absurd is
numbered_front id (first ∷ front) (table ∷ tables) is numbered = (rw is.0 numbered.0, numbered_front (id + 1) front tables is.1 numbered.1)

-- so has the database that a session sees
pub has_seen : {D : Type 0} (core : CoreState D) (m : Machine) (n : ℕ) → Stands core m → HasTables core.db → HasTables (own_or core.db (own_in core.sessions.seats n))
has_seen core m n stands has = by (own_in core.sessions.seats n) (stands.sessions.seats n).own
  where
    earlier : (own : Own) → IsShareOf m (m.sessions n).pending own → IsFrontOf own.db.tables core.db.tables
    earlier own share =
        let at : Db = db_at m own.at in
        subst (λ (db : Db). IsFrontOf db.tables core.db.tables) (sym share.db)
        (written_front (take own.written (m.sessions n).pending) at.tables core.db.tables
        (subst (λ (db : Db). IsFrontOf at.tables db.tables) (sym (replayed m.first (take own.at m.past) (drop own.at m.past)) ∙ ap (replay m.first) (take-append-drop own.at m.past) ∙ sym stands.db)
        (front_replayed at (drop own.at m.past) at.tables (front_itself at.tables))))

    by : (own : Option Own) → IfSome own (IsShareOf m (m.sessions n).pending) → HasTables (own_or core.db own)
    by None share = has
    by (Some own) share = record {
      narrow = narrow_front own.db.tables core.db.tables (earlier own share) has.narrow;
      numbered = numbered_front 1 own.db.tables core.db.tables (earlier own share) has.numbered;
    }
