-- What a session of a sound machine sees is a valid database: the one that it reads, with its own writes that wait. Writes that apply to
-- it, and that do not conflict, apply to the newest one with those writes.
use Rattle.std.proofs.Common.{◌≡◌, ◌≤◌, ℕ, Bool, true, false, cond, if◌then◌else◌, List, [], ◌∷◌, ◌++◌, map, drop, take, Option, None, Some, refl, sym, ap, ◌∙◌, subst, take-append-drop}
use Rattle.std.specs.List.{AllByRecursion}
use Rattle.std.specs.Option.{IsSomeAnd}
use Rattle.ct_types.proofs.Lists.{all_join}
use Rattle.ct_types.specs.declared.entry.Act.{Act}
use Rattle.ct_types.specs.declared.entry.Entry.{Entry}
use Rattle.ct_types.specs.declared.entry.Write.{Write}
use Rattle.ct_model.specs.declared.db.Db.{Db}
use Rattle.ct_model.specs.declared.db.Table.{Table}
use Rattle.ct_model.specs.Applies.{ApplyInTurn, WritesApply}
use Rattle.ct_model.specs.Apply.{apply, replay, written}
use Rattle.ct_model.specs.Tables.{table_of}
use Rattle.ct_model.specs.Valid.{IsValid}
use Rattle.ct_model.proofs.Found.{found_has}
use Rattle.ct_model.proofs.Members.{all_weaken}
use Rattle.ct_model_laws.proofs.Following.{after_writes, after_writes_schema, fold_of_maps}
use Rattle.ct_model_laws.proofs.InTurn.{ApplyInTurn-parts, replay-append, replay-valid, schema_stays}
use Rattle.ct_model_laws.proofs.Moving.{WritesOn, writes_on}
use Rattle.ct_model_laws.proofs.Numbered.{each_itself}
use Rattle.ct_model_laws.proofs.Standing.{StandOn, mapped_valid, stand_on}
use Rattle.ct_conflicts.specs.Conflicts.{alters, conflicting, conflicting_keys, last_number, writes_key}
use Rattle.ct_session.specs.declared.tran.Tran.{Tran}
use Rattle.ct_session.specs.declared.tran.Tran.TheVariants as tran
use Rattle.ct_state.specs.Conflicts.{conflict}
use Rattle.ct_state.specs.Machine.{Machine, db_at, db_of}
use Rattle.ct_state.specs.Seen.{read_by, with_writes}
use Rattle.ct_machine_laws.specs.Laws.{SeenIsValid}
use Rattle.ct_machine_laws.specs.Sound.{IsSound}
use Rattle.ct_machine_laws.specs.Transactions.{Spares}
use Rattle.ct_model_laws.proofs.Alike.{AlikeAt, after_alike, both_mapped, still_apply}
use Rattle.ct_machine_laws.proofs.Holders.{mapped_none, or_none}
use Rattle.ct_machine_laws.proofs.Soundness.{sound_is_valid}
use Rattle.ct_machine_laws.proofs.Sparing.{entries_alike}

-- ---- a valid database with writes that wait

with_writes_valid : (db : Db) (writes : List Write) → IsValid db → AllByRecursion (λ t. StandOn writes t.schema) db.tables → IsValid (with_writes db writes)
with_writes_valid db writes valid stand =
    subst (λ (tables : List Table). IsValid (record db { tables = tables })) (sym (fold_of_maps written writes db.tables)) (mapped_valid db writes valid stand)

-- ---- the database of a view

-- a view's database is valid, and the entries after it apply in turn to it and make the newest one
record SeesPast (m : Machine) (at : ℕ) : Type 0 where
  valid : IsValid (db_at m at)
  later : ApplyInTurn (db_at m at) (drop at m.past)
  newest : db_of m ≡ replay (db_at m at) (drop at m.past)

sees_past : (m : Machine) (at : ℕ) → IsSound m → SeesPast m at
sees_past m at sound =
    let whole : take at m.past ++ drop at m.past ≡ m.past = take-append-drop at m.past in
    let parts = ApplyInTurn-parts m.first (take at m.past) (drop at m.past) (subst (ApplyInTurn m.first) (sym whole) sound.entries) in
    record {
      valid = replay-valid m.first (take at m.past) sound.first parts.0;
      later = parts.1;
      newest = ap (replay m.first) (sym whole) ∙ replay-append m.first (take at m.past) (drop at m.past);
    }

-- ---- what a session sees

found_constant : (C : Type 0) (o : Option Table) → IsSomeAnd o (λ t. C) → C
found_constant C None found = absurd found
found_constant C (Some t) found = found

newest_stand : (m : Machine) (pending : List Write) → IsSound m → WritesApply (db_of m).tables pending → AllByRecursion (λ t. StandOn pending t.schema) (db_of m).tables
newest_stand m pending sound apply = all_weaken (WritesOn pending) (λ t. StandOn pending t.schema) (stand_on pending) (db_of m).tables (writes_on pending (db_of m).tables (sound_is_valid m sound).numbered apply)

past_stand : (m : Machine) (at : ℕ) (pending : List Write) → IsSound m → WritesApply (db_of m).tables pending → AllByRecursion (λ t. StandOn pending t.schema) (db_at m at).tables
past_stand m at pending sound apply =
    let past = sees_past m at sound in
    let db = db_at m at in
    all_weaken (λ t. (1 ≤ t.schema.id) × (table_of db.tables t.schema.id ≡ Some t)) (λ t. StandOn pending t.schema)
    (λ (t : Table) itself.
    let now : IsSomeAnd (table_of (db_of m).tables t.schema.id) (λ u. u.schema ≡ t.schema) =
    subst (λ (d : Db). IsSomeAnd (table_of d.tables t.schema.id) (λ u. u.schema ≡ t.schema)) (sym past.newest)
    (schema_stays t.schema db (drop at m.past) t.schema.id (subst (λ (o : Option Table). IsSomeAnd o (λ u. u.schema ≡ t.schema)) (sym itself.1) refl)) in
    found_constant (StandOn pending t.schema) (table_of (db_of m).tables t.schema.id)
    (found_has (λ u. StandOn pending u.schema) (λ u. u.schema ≡ t.schema) (λ u. StandOn pending t.schema) (λ u stand is. subst (StandOn pending) is stand) (db_of m).tables t.schema.id
    (newest_stand m pending sound apply) now)) db.tables (each_itself 1 db.tables past.valid.numbered)

reads_valid : (m : Machine) (it : Tran) (pending : List Write) → IsSound m → WritesApply (db_of m).tables pending → IsValid (with_writes (read_by m it) pending)
reads_valid m tran.None pending sound apply = with_writes_valid (db_of m) pending (sound_is_valid m sound) (newest_stand m pending sound apply)
reads_valid m tran.Committed pending sound apply = with_writes_valid (db_of m) pending (sound_is_valid m sound) (newest_stand m pending sound apply)
reads_valid m tran.Snapshot pending sound apply = with_writes_valid (db_of m) pending (sound_is_valid m sound) (newest_stand m pending sound apply)
reads_valid m (tran.Viewed view) pending sound apply = with_writes_valid (db_at m view.at) pending (sees_past m view.at sound).valid (past_stand m view.at pending sound apply)

pub seen_is_valid : SeenIsValid
seen_is_valid m s sound = reads_valid m (m.sessions s).tran (m.sessions s).pending sound (sound.sessions.each s).pending

-- ---- entries after a view that conflict with no write

none_after : (test : Act → Bool) (found : Option ℕ) (entries : List Entry) → last_number test found entries ≡ None → (found ≡ None) × AllByRecursion (λ entry. test entry.act ≡ false) entries
none_after test found [] none = (none, tt)
none_after test found (entry ∷ entries) none =
    let rest = none_after test (if test entry.act then Some entry.xdes else found) entries none in
    let step : (b : Bool) → b ≡ test entry.act → cond b (Some entry.xdes) found ≡ None → (found ≡ None) × (test entry.act ≡ false) =
    elim [ true ↦ (λ e n. absurd cc) | false ↦ (λ e n. (n, sym e)) ] in
    let here = step (test entry.act) refl rest.0 in
    (here.0, (here.1, rest.1))

keys_spared : (later : List Entry) (writes : List Write) → conflicting_keys later writes ≡ None
    → AllByRecursion (λ w. AllByRecursion (λ entry. writes_key w.table w.key entry.act ≡ false) later) writes
keys_spared later [] none = tt
keys_spared later (w ∷ writes) none =
    let parts = or_none (last_number (writes_key w.table w.key) None later) (conflicting_keys later writes) none in
    ((none_after (writes_key w.table w.key) None later parts.0).1, keys_spared later writes parts.1)

all_spared : (later : List Entry) (table : ℕ) (writes : List Write) → conflicting later table writes ≡ None → AllByRecursion (λ w. w.table ≡ table) writes
    → AllByRecursion (λ w. AllByRecursion (λ entry. Spares entry.act w) later) writes
all_spared later table [] none of = tt
all_spared later table (w ∷ writes) none of =
    let parts = or_none (last_number (alters table) None later) (conflicting_keys later (w ∷ writes)) none in
    let tables : AllByRecursion (λ entry. alters table entry.act ≡ false) later = (none_after (alters table) None later parts.0).1 in
    all_join (λ w. w.table ≡ table) (λ w. AllByRecursion (λ entry. writes_key w.table w.key entry.act ≡ false) later) _
    (λ (x : Write) is keys. all_join (λ entry. alters table entry.act ≡ false) (λ entry. writes_key x.table x.key entry.act ≡ false) (λ entry. Spares entry.act x)
    (λ (entry : Entry) apart other. record { table = subst (λ (n : ℕ). alters n entry.act ≡ false) (sym is) apart; key = other }) later tables keys)
    (w ∷ writes) of (keys_spared later (w ∷ writes) parts.1)

-- ---- writes on what is seen are writes on the newest database

past_alike : (m : Machine) (at : ℕ) (pending : List Write) (w : Write) → IsSound m → AllByRecursion (λ entry. Spares entry.act w) (drop at m.past)
    → AlikeAt (with_writes (db_at m at) pending).tables (with_writes (db_of m) pending).tables w.table w.key
past_alike m at pending w sound spared =
    let past = sees_past m at sound in
    let old = (db_at m at).tables in
    let new = (db_of m).tables in
    let alike : AlikeAt old new w.table w.key =
    subst (λ (d : Db). AlikeAt old d.tables w.table w.key) (sym past.newest) (entries_alike (db_at m at) (drop at m.past) w past.valid past.later spared) in
    subst (λ (ts : List Table). AlikeAt ts (with_writes (db_of m) pending).tables w.table w.key) (sym (fold_of_maps written pending old))
    (subst (λ (ts : List Table). AlikeAt (map (after_writes pending) old) ts w.table w.key) (sym (fold_of_maps written pending new))
    (both_mapped (after_writes pending) (after_writes_schema pending) w.key (after_alike pending w.key) old new w.table alike))

pub newest_apply : (m : Machine) (it : Tran) (pending writes : List Write) (name : List ℕ) (table : ℕ) → IsSound m → conflict m.past it name table writes ≡ None
    → AllByRecursion (λ w. w.table ≡ table) writes → WritesApply (with_writes (read_by m it) pending).tables writes → WritesApply (with_writes (db_of m) pending).tables writes
newest_apply m tran.None pending writes name table sound free of apply = apply
newest_apply m tran.Committed pending writes name table sound free of apply = apply
newest_apply m tran.Snapshot pending writes name table sound free of apply = apply
newest_apply m (tran.Viewed view) pending writes name table sound free of apply =
    let later = drop view.at m.past in
    let spared = all_spared later table writes (mapped_none _ (conflicting later table writes) free) of in
    still_apply writes (with_writes (db_at m view.at) pending).tables (with_writes (db_of m) pending).tables
    (all_weaken (λ w. AllByRecursion (λ entry. Spares entry.act w) later) _ (λ w spares. past_alike m view.at pending w sound spares) writes spared) apply
