-- Shares of databases with writes that wait.
use Rattle.std.proofs.Common.{◌≡◌, ℕ, ◌==◌, ◌≤◌, Bool, true, false, cond, List, [], ◌∷◌, ◌++◌, length, take, drop, map, Option, Some, None, Result, Ok, Err, OnOk, OnErr, refl, sym, ap, subst, ◌∙◌, eqb-true, eq-eqb, take-append-drop, le_refl, arith}
use Rattle.std.specs.Option.{IfSome}
use Rattle.std.proofs.lemmas.List.{take_all, take-append-le}
use Rattle.std.proofs.lemmas.List.Sums.{fold-append}
use Rattle.ct_types.specs.declared.entry.Entry.{Entry}
use Rattle.ct_types.specs.declared.entry.Write.{Write}
use Rattle.ct_model.specs.declared.db.Db.{Db}
use Rattle.ct_model.specs.declared.db.Table.{Table}
use Rattle.ct_model.specs.Apply.{replay, written}
use Rattle.ct_database.specs.Waiting.{AreStoredIn}
use Rattle.ct_database.proofs.RowsPut.{stored_after}
use Rattle.ct_session.specs.Sessions.{SessionState}
use Rattle.ct_session.specs.declared.tran.Tran.{Tran}
use Rattle.ct_session.specs.declared.tran.Tran.TheVariants as tran
use Rattle.ct_state.specs.Machine.{Machine, db_at, db_of}
use Rattle.ct_state.specs.Seen.{with_writes}
use Rattle.ct_sessions.specs.declared.own.Own.{Own}
use Rattle.ct_sessions.specs.Owns.{IsOwnOf, IsShareOf}
use Rattle.ct_sessions.specs.Seats.{SeatState, needs_own, reads_at}
use Rattle.ct_sessions.specs.Sound.{HasItsView, IsSound}
use Rattle.ct_sessions.specs.Steps.{IsPrepared, is_at, own_at, share_at}

-- ---- databases of a machine

-- the database of all entries is the newest
newest_at : (m : Machine) (count : ℕ) → count ≡ length m.past → db_at m count ≡ db_of m
newest_at m count all = ap (replay m.first) (take_all count m.past (subst (λ n. length m.past ≤ n) (sym all) (le_refl _)))

-- an entry more changes no database of those before it
pub still_at : (m : Machine) (entry : Entry) (count : ℕ) → count ≤ length m.past → replay m.first (take count (m.past ++ entry ∷ [])) ≡ db_at m count
still_at m entry count within = ap (replay m.first) (take-append-le count m.past (entry ∷ []) within)

-- ---- writes that are put

written_more : (db : Db) (writes more : List Write) → with_writes (with_writes db writes) more ≡ with_writes db (writes ++ more)
written_more db writes more =
    ap (λ (tables : List Table). record db { tables = tables }) (sym (fold-append (λ (before : List Table) (write : Write). map (written write) before) db.tables writes more))

-- with the writes that it has not yet
abbrev pub caught : List Write → Own → Own
caught pending own = record own { db = with_writes own.db (drop own.written pending); written = length pending }

own_caught : (pending : List Write) (own : Own) → IsOwnOf pending own → IsOwnOf pending (caught pending own)
own_caught pending own is = record { written = le_refl _; stored = stored_after (drop own.written pending) own.db.tables pending is.stored }

share_caught : (m : Machine) (pending : List Write) (own : Own) → IsShareOf m pending own → IsShareOf m pending (caught pending own)
share_caught m pending own is = record {
  within = is.within;
  db =
      ap (λ (db : Db). with_writes db (drop own.written pending)) is.db
      ∙ written_more (db_at m own.at) (take own.written pending) (drop own.written pending)
      ∙ ap (with_writes (db_at m own.at)) (take-append-drop own.written pending ∙ sym (take_all (length pending) pending (le_refl _)));
}

-- a share of the newest has none of them
own_shared : (newest : Db) (entries : ℕ) (pending : List Write) → AreStoredIn newest.tables pending → IsOwnOf pending (share_at newest entries)
own_shared newest entries pending stored = record { written = omega arith; stored = stored }

share_shared : (m : Machine) (newest : Db) (entries : ℕ) (pending : List Write) → newest ≡ db_of m → entries ≡ length m.past → IsShareOf m pending (share_at newest entries)
share_shared m newest entries pending is all = record {
  within = subst (λ n. entries ≤ n) all (le_refl entries);
  db = is ∙ sym (newest_at m entries all);
}

-- ---- the one that is chosen

-- it is the one that a session had, where that has the right count of entries, else a share of the newest
chosen : (P : Own → Type 0) (newest : Db) (entries at : ℕ) (had : Option Own) → ((own : Own) → had ≡ Some own → own.at ≡ at → P own)
    → (is_at at had ≡ false → P (share_at newest entries)) → P (own_at newest entries at had)
chosen P newest entries at None kept made = made refl
chosen P newest entries at (Some own) kept made = by (own.at == at) refl
  where
    by : (test : Bool) → test ≡ (own.at == at) → P (cond test own (share_at newest entries))
    by true e = kept own refl (eqb-true own.at at (sym e))
    by false e = made (sym e)

-- a share of the newest is taken only for a session that reads the newest
reads_newest : (entries : ℕ) (it : Tran) (had : Option Own) → HasItsView it had → is_at (reads_at entries it) had ≡ false → entries ≡ reads_at entries it
reads_newest entries (tran.Viewed view) None viewed other = absurd viewed
reads_newest entries (tran.Viewed view) (Some own) viewed other = absurd (let bad : true ≡ false = sym (eq-eqb own.at view.at viewed) ∙ other in cc)
reads_newest entries tran.None had viewed other = refl
reads_newest entries tran.Committed had viewed other = refl
reads_newest entries tran.Snapshot had viewed other = refl

has_view_at : (entries : ℕ) (it : Tran) (own : Own) → own.at ≡ reads_at entries it → HasItsView it (Some own)
has_view_at entries (tran.Viewed view) own at = at
has_view_at entries tran.None own at = tt
has_view_at entries tran.Committed own at = tt
has_view_at entries tran.Snapshot own at = tt

-- the writes that it has not yet are put, or are not for want of memory
put_or_not : {U E : Type 0} (done : Result U E) (P : Own → Type 0) (pending : List Write) (own made : Own) → OnOk done (made ≡ caught pending own) → OnErr done (made ≡ own)
    → P own → P (caught pending own) → P made
put_or_not (Ok u) P pending own made ok err before after = subst P (sym ok) after
put_or_not (Err e) P pending own made ok err before after = subst P (sym err) before

module _ (newest : Db) (entries : ℕ) (state : SessionState) (had : Option Own) where
  abbrev seat : SeatState
  seat = record { state = state; own = had }

  abbrev first : Own
  first = own_at newest entries (reads_at entries state.tran) had

  first_counts : HasItsView state.tran had → first.at ≡ reads_at entries state.tran
  first_counts viewed =
      chosen (λ own. own.at ≡ reads_at entries state.tran) newest entries (reads_at entries state.tran) had (λ own is at. at) (λ other. reads_newest entries state.tran had viewed other)

  first_own : IfSome had (IsOwnOf state.pending) → AreStoredIn newest.tables state.pending → IsOwnOf state.pending first
  first_own own stored =
      chosen (IsOwnOf state.pending) newest entries (reads_at entries state.tran) had
      (λ it is at. subst (λ (found : Option Own). IfSome found (IsOwnOf state.pending)) is own) (λ other. own_shared newest entries state.pending stored)

  first_share : (m : Machine) → newest ≡ db_of m → entries ≡ length m.past → IfSome had (IsShareOf m state.pending) → IsShareOf m state.pending first
  first_share m is all own =
      chosen (IsShareOf m state.pending) newest entries (reads_at entries state.tran) had
      (λ it here at. subst (λ (found : Option Own). IfSome found (IsShareOf m state.pending)) here own) (λ other. share_shared m newest entries state.pending is all)

  pub prepared : {U E : Type 0} (done : Result U E) (own made : Own) → IsSound seat → AreStoredIn newest.tables state.pending → needs_own state ≡ true
      → own ≡ first → OnOk done (made ≡ caught state.pending own) → OnErr done (made ≡ own) → IsPrepared newest entries seat (record { state = state; own = Some made })
  prepared done own made sound stored needs is ok err =
      let owned : IsOwnOf state.pending own = subst (IsOwnOf state.pending) (sym is) (first_own sound.own stored) in
      let counts : own.at ≡ reads_at entries state.tran = ap (λ (it : Own). it.at) is ∙ first_counts sound.viewed in
      record {
        state = refl;
        sound = record {
          idle = sound.idle;
          needed = λ e. absurd (let bad : true ≡ false = sym needs ∙ e in cc);
          viewed = has_view_at entries state.tran made (put_or_not done (λ it. it.at ≡ reads_at entries state.tran) state.pending own made ok err counts counts);
          own = put_or_not done (IsOwnOf state.pending) state.pending own made ok err owned (own_caught state.pending own owned);
        };
        holds = λ m session newest_is all before.
            let shared : IsShareOf m state.pending own =
            subst (IsShareOf m state.pending) (sym is) (first_share m newest_is all (subst (λ (it : SessionState). IfSome had (IsShareOf m it.pending)) (sym before.state) before.own)) in
            record {
              state = before.state;
              own = subst (λ (it : SessionState). IsShareOf m it.pending made) before.state
                  (put_or_not done (IsShareOf m state.pending) state.pending own made ok err shared (share_caught m state.pending own shared));
            };
      }
