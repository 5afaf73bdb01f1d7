-- INSERT, UPDATE and DELETE commit acts that apply, or writes that may wait, where binding keeps its promise and the rows fit.
use Rattle.std.proofs.Common.{◌≡◌, ◌≢◌, ◌<◌, ◌≤◌, ⊎_elim, ℕ, Bool, true, false, List, [], ◌∷◌, ◌++◌, fold, map, Option, Some, None, MatchBool, Ok, Err, refl, ap, sym, subst, ◌∙◌, arith}
use Rattle.std.specs.List.{AllByRecursion}
use Rattle.ct_types.specs.declared.bound.Bound.{Bound}
use Rattle.ct_types.specs.declared.bound.Bound.TheVariants.{Write as Writes}
use Rattle.ct_types.specs.declared.bound.BoundWrite.{BoundWrite}
use Rattle.ct_types.specs.declared.entry.Write.{Write}
use Rattle.ct_types.specs.declared.stmt.Stmt.{Stmt}
use Rattle.ct_types.specs.declared.stmt.Stmt.TheVariants as stmt
use Rattle.ct_types.specs.Answers.{Answer, ◌>>=◌}
use Rattle.ct_model.specs.declared.db.Table.{Table}
use Rattle.ct_model.specs.Applies.{WritesApply}
use Rattle.ct_model.specs.Apply.{written}
use Rattle.ct_model.specs.Tables.{catalogued, table_of}
use Rattle.ct_model.proofs.Found.{found_id}
use Rattle.ct_model.proofs.Members.{all_map, all_weaken}
use Rattle.ct_types.proofs.Lists.{all_everywhere}
use Rattle.ct_bind.specs.Binding.{binding}
use Rattle.ct_bind.specs.Writes as binds
use Rattle.ct_session.specs.Sessions.{SessionState, is_open}
use Rattle.ct_session.specs.declared.tran.Tran.{Tran}
use Rattle.ct_session.specs.declared.tran.Tran.TheVariants as tran
use Rattle.ct_write.specs.Duplicates.{duplicate}
use Rattle.ct_write.specs.Writes.{write_of, writes_of}
use Rattle.ct_write.proofs.Parts.{parts_of}
use Rattle.ct_write.proofs.Statements.{are_accepted}
use Rattle.ct_state.specs.Conflicts.{conflict}
use Rattle.ct_machine.specs.Decide.{counted, decide_bound, fitted, seen, without_duplicates, written as written_as}
use Rattle.ct_state.specs.Holding.{blocked_keys}
use Rattle.ct_state.specs.Machine.{Machine, db_of}
use Rattle.ct_machine.specs.Reads.{catalogue, world_of}
use Rattle.ct_state.specs.Seen.{with_writes}
use Rattle.ct_machine_laws.specs.Laws.{IsAccepted, WritesCommitWell}
use Rattle.ct_machine_laws.specs.Sound.{IsSound, IsWell}
use Rattle.ct_machine_laws.specs.Transactions.{NameOthers}
use Rattle.ct_machine_laws.proofs.Accepted.{table_valid}
use Rattle.ct_machine_laws.proofs.Committing.{decided_well, unless_aborted_well, unless_well}
use Rattle.ct_machine_laws.proofs.Holders.{IsFreeKey, byte_or_above, commit_spares, keys_free, off_all, others_back}
use Rattle.ct_machine_laws.proofs.Seeing.{newest_apply, seen_is_valid}

-- ---- writes that apply are well

-- no transaction, or one
tran_or_none : (it : Tran) (waits : Bool) → waits ≡ is_open it → MatchBool waits (it ≢ tran.None) (it ≡ tran.None)
tran_or_none tran.None true e = absurd cc
tran_or_none tran.None false e = refl
tran_or_none tran.Committed true e = λ same. cc
tran_or_none tran.Committed false e = absurd cc
tran_or_none tran.Snapshot true e = λ same. cc
tran_or_none tran.Snapshot false e = absurd cc
tran_or_none (tran.Viewed view) true e = λ same. cc
tran_or_none (tran.Viewed view) false e = absurd cc

-- writes that apply behind those that wait, and whose keys nobody else holds, wait in a transaction, and commit at once outside
record GoOn (m : Machine) (s : ℕ) (writes : List Write) : Type 0 where
  apply : WritesApply (with_writes (db_of m) (m.sessions s).pending).tables writes
  free : (other : ℕ) → other ≢ s → NameOthers writes (m.sessions other).pending

apply_behind : (front back : List Write) (tables : List Table) → WritesApply tables front → WritesApply (fold (λ before write. map (written write) before) tables front) back
    → WritesApply tables (front ++ back)
apply_behind [] back tables first later = later
apply_behind (w ∷ front) back tables first later = (first.0, apply_behind front back (map (written w) tables) first.1 later)

counted_well : (m : Machine) (s : ℕ) (waits : Bool) (writes : List Write) → IsSound m → waits ≡ is_open (m.sessions s).tran → GoOn m s writes
    → IsWell m s (m.sessions s) (counted waits writes)
counted_well m s true [] sound waits go = tt
counted_well m s false [] sound waits go = tt
counted_well m s true (write ∷ more) sound waits go = record {
  open_tran = tran_or_none (m.sessions s).tran true waits;
  applies = apply_behind (m.sessions s).pending (write ∷ more) (db_of m).tables (sound.sessions.each s).pending go.apply;
  free = go.free;
}
counted_well m s false (write ∷ more) sound waits go =
    let none : (m.sessions s).pending ≡ [] = ((sound.sessions.each s).quiet (tran_or_none (m.sessions s).tran false waits)).0 in (
      (omega arith, subst (λ (pending : List Write). WritesApply (with_writes (db_of m) pending).tables (write ∷ more)) none go.apply, refl),
      (λ other differs. commit_spares (write ∷ more) (m.sessions other).pending (others_back (write ∷ more) (m.sessions other).pending (go.free other differs))),
    )

new_well : (m : Machine) (s : ℕ) (table : Table) (writes : List Write) (place : Option ℕ) → IsSound m → (place ≡ None → GoOn m s writes)
    → IsWell m s (m.sessions s) (without_duplicates (m.sessions s).tran table writes place)
new_well m s table writes None sound go = counted_well m s (is_open (m.sessions s).tran) writes sound refl (go refl)
new_well m s table writes (Some place) sound go = tt

fitted_well : (m : Machine) (s : ℕ) (table : Table) (answer : Answer (List Write)) → IsSound m
    → ((writes : List Write) → answer ≡ Ok writes → blocked_keys m.sessions s table.schema.name writes ≡ None
    → conflict m.past (m.sessions s).tran table.schema.name table.schema.id writes ≡ None → duplicate table.schema table.rows writes ≡ None → GoOn m s writes)
    → IsWell m s (m.sessions s) (fitted m s table answer)
fitted_well m s table (Err refusal) sound go = tt
fitted_well m s table (Ok writes) sound go =
    let last = without_duplicates (m.sessions s).tran table writes (duplicate table.schema table.rows writes) in
    unless_well m s (m.sessions s) (blocked_keys m.sessions s table.schema.name writes) _
    (λ free. unless_aborted_well m s (m.sessions s) (conflict m.past (m.sessions s).tran table.schema.name table.schema.id writes) last
    (λ same. new_well m s table writes (duplicate table.schema table.rows writes) sound (go writes refl free same)))

-- ---- the writes of a statement apply

-- no other session holds a key of theirs, where none is blocked
free_of_others : (m : Machine) (s : ℕ) (name : List ℕ) (writes : List Write) → IsSound m → blocked_keys m.sessions s name writes ≡ None → (other : ℕ) → other ≢ s
    → NameOthers writes (m.sessions other).pending
free_of_others m s name writes sound free other differs =
    ⊎_elim
    (λ (below : other < 256). all_weaken (IsFreeKey m.sessions s) _ (λ (write : Write) is. off_all write (m.sessions other).pending (is other differs below)) writes (keys_free m.sessions s name writes free))
    (λ (above : 256 ≤ other). subst (λ (session : SessionState). NameOthers writes session.pending) (sym (sound.sessions.bytes other above)) (all_everywhere _ (λ write. tt) writes))
    (byte_or_above other)

-- each is of the statement's table
all_of_table : (m : Machine) (s : ℕ) (write : BoundWrite) (table : Table) (writes : List Write) → writes_of (world_of (seen m s)) (catalogued table) write table.rows ≡ Ok writes
    → AllByRecursion (λ w. w.table ≡ table.schema.id) writes
all_of_table m s write table writes were =
    let parts = parts_of (world_of (seen m s)) (catalogued table) write table.rows writes were in
    subst (AllByRecursion (λ w. w.table ≡ table.schema.id)) parts.writes_are
    (all_map (λ c. Unit {0}) (λ w. w.table ≡ table.schema.id) (write_of (catalogued table) write.change parts.context) (λ c u. refl) parts.changes (all_everywhere _ (λ c. tt) parts.changes))

applies : (m : Machine) (s : ℕ) (write : BoundWrite) (table : Table) (writes : List Write) → IsSound m → table_of (seen m s).db.tables write.table ≡ Some table
    → IsAccepted (seen m s) write table → writes_of (world_of (seen m s)) (catalogued table) write table.rows ≡ Ok writes
    → blocked_keys m.sessions s table.schema.name writes ≡ None → conflict m.past (m.sessions s).tran table.schema.name table.schema.id writes ≡ None
    → duplicate table.schema table.rows writes ≡ None → GoOn m s writes
applies m s write table writes sound is accepted were free same new =
    let db = (seen m s).db in
    let whole = table_valid db write.table table (seen_is_valid m s sound) is in
    let own : table_of db.tables table.schema.id ≡ Some table = ap (λ n. table_of db.tables n) (found_id db.tables write.table table is) ∙ is in
    record {
      apply = newest_apply m (m.sessions s).tran (m.sessions s).pending writes table.schema.name table.schema.id sound same (all_of_table m s write table writes were)
          (are_accepted (world_of (seen m s)) db.tables table write writes own whole.schema whole.rows whole.rising accepted.columns accepted.kinds were (accepted.fit writes were) new);
      free = free_of_others m s table.schema.name writes sound free;
    }

-- ---- the statement

written_well : (m : Machine) (s : ℕ) (write : BoundWrite) (found : Option Table) → IsSound m → table_of (seen m s).db.tables write.table ≡ found
    → ((table : Table) → table_of (seen m s).db.tables write.table ≡ Some table → IsAccepted (seen m s) write table) → IsWell m s (m.sessions s) (written_as m s write found)
written_well m s write None sound is accepted = tt
written_well m s write (Some table) sound is accepted =
    fitted_well m s table (writes_of (world_of (seen m s)) (catalogued table) write table.rows) sound
    (λ writes were free same new. applies m s write table writes sound is (accepted table is) were free same new)

abbrev IsWrite : Bound → Type 0
IsWrite (Writes write) = Unit {0}
IsWrite b = ⊥

is_write : (answer : Answer BoundWrite) (b : Bound) → (answer >>= (λ write. Ok (Writes write))) ≡ Ok b → IsWrite b
is_write (Ok write) b e = let same : Writes write ≡ b = cc in subst IsWrite same tt
is_write (Err refusal) b e = absurd cc

write_well : (m : Machine) (s : ℕ) (it : Stmt) (b : Bound) → IsSound m → IsWrite b
    → ((write : BoundWrite) (table : Table) → b ≡ Writes write → table_of (seen m s).db.tables write.table ≡ Some table → IsAccepted (seen m s) write table)
    → IsWell m s (m.sessions s) (decide_bound m s it b)
unfolding decide_bound
write_well m s it (Writes write) sound is accepted = written_well m s write (table_of (seen m s).db.tables write.table) sound refl (λ table found. accepted write table refl found)
write_well m s it b sound is accepted = absurd is

pub writes_commit_well : WritesCommitWell
unfolding binding
writes_commit_well m s context write sound accepted =
    decided_well m s (stmt.Write context write)
    (λ b passed may came. write_well m s (stmt.Write context write) b sound (is_write (binds.write_of (catalogue (seen m s).db) (seen m s).variables context write) b came)
    (λ bound table same found. accepted bound table (came ∙ ap (λ (b : Bound). Ok b) same) found))
