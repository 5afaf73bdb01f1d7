-- The replay of a log, record by record.
use Rattle.std.proofs.Common.{◌≡◌, inl, inr, ⊎_elim, ℕ, ◌+◌, ◌*◌, ◌≤◌, List, [], ◌∷◌, ◌++◌, length, drop, refl, sym, ◌∙◌, ap, subst, arith, length-append, length-drop}
use Rattle.std.specs.List.{slice_range}
use Rattle.ct_types.specs.declared.entry.Entry.{Entry}
use Rattle.ct_model.specs.declared.db.Db.{Db}
use Rattle.ct_model.specs.Apply.{apply}
use Rattle.ct_log.specs.Log.{BeginsWith, IsClosed, IsBroken}
use Rattle.ct_log.specs.Reading.{IsRecordAt}
use Rattle.ct_log.proofs.Gates.{ReadsUpTo, reads_nothing, reads_record, reads_log}
use Rattle.ct_log.proofs.Records.{record_of-once}
use Rattle.ct_replay.specs.Replay.{Adds, Plays, Replays, IsStuck, BreaksOff}

-- an entry goes last
pub plays_push : (before after : Db) (payloads : List (List ℕ)) (payload : List ℕ) (entry : Entry) → Plays before payloads after → Adds after payload entry → Plays before (payloads ++ payload ∷ []) (apply after entry)
plays_push before after [] payload entry plays adds = (entry, subst (λ db. Adds db payload entry) plays adds, ap (λ db. apply db entry) plays)
plays_push before after (first ∷ payloads) payload entry plays adds = (plays.0, plays.1, plays_push (apply before plays.0) after payloads payload entry plays.2 adds)

-- so far records were read whose entries make this database, and at this offset the next gate is expected
pub record Replaying (before : Db) (bytes : List ℕ) (db : Db) (records at : ℕ) : Type 0 where
  pub payloads : List (List ℕ)
  pub so_far : ReadsUpTo bytes payloads at
  pub plays : Plays before payloads db
  pub records_is : records ≡ length payloads
  pub few : records * 5 ≤ at

pub replaying_begins : (before : Db) (bytes : List ℕ) → Replaying before bytes before 0 0
replaying_begins before bytes = record { payloads = []; so_far = reads_nothing bytes; plays = refl; records_is = refl; few = omega arith }

pub replaying_on : (before db after : Db) (bytes : List ℕ) (records at from to : ℕ) (entry : Entry) → Replaying before bytes db records at → IsRecordAt at from to bytes
    → Adds db (slice_range bytes from to) entry → after ≡ apply db entry → Replaying before bytes after (records + 1) to
replaying_on before db after bytes records at from to entry replaying here adds is = record {
  payloads = replaying.payloads ++ slice_range bytes from to ∷ [];
  so_far = reads_record bytes replaying.payloads at from to replaying.so_far here;
  plays = subst (λ made. Plays before (replaying.payloads ++ slice_range bytes from to ∷ []) made) (sym is) (plays_push before db replaying.payloads (slice_range bytes from to) entry replaying.plays adds);
  records_is = omega (arith, replaying.records_is, length-append replaying.payloads (slice_range bytes from to ∷ []));
  few = omega (arith, replaying.few, here.from_is, here.forward);
}

pub replaying_ends : (before db : Db) (bytes : List ℕ) (records at : ℕ) → Replaying before bytes db records at → IsClosed (drop at bytes) → Replays before bytes db records (at + 1)
replaying_ends before db bytes records at replaying here = record {
  payloads = replaying.payloads;
  log = reads_log bytes replaying.payloads at replaying.so_far here;
  plays = replaying.plays;
  records_is = replaying.records_is;
}

stops : (before db : Db) (bytes : List ℕ) (records at : ℕ) → Replaying before bytes db records at → IsStuck db (drop at bytes) → BreaksOff before bytes at
stops before db bytes records at replaying stuck = record {
  payloads = replaying.payloads;
  rest = drop at bytes;
  split = replaying.so_far.split;
  gate = ⊎_elim (λ none. inl none) (λ some. inr (omega (arith, some, length-drop at bytes))) replaying.so_far.gate;
  fit = replaying.so_far.fit;
  between = db;
  plays = replaying.plays;
  stuck = stuck;
  offset_is = replaying.so_far.at_is;
}

-- where no whole record stands, it breaks off
pub replaying_broken : (before db : Db) (bytes : List ℕ) (records at : ℕ) → Replaying before bytes db records at → IsBroken (drop at bytes) → BreaksOff before bytes at
replaying_broken before db bytes records at replaying broken =
    stops before db bytes records at replaying (record { not_closed = broken.not_closed; no_entry = λ payload entry begins adds. broken.no_record payload begins })

-- a whole record is no closed gate, and is one record alone
pub no_gate : (payload bytes : List ℕ) → BeginsWith payload bytes → IsClosed bytes → ⊥
no_gate payload bytes begins closed = closed.closed (cc (closed.split, begins.split))

pub one_record : (payload other bytes : List ℕ) → BeginsWith payload bytes → BeginsWith other bytes → payload ≡ other
one_record payload other bytes a b = (record_of-once payload other a.behind b.behind a.fits b.fits (sym a.split ∙ b.split)).0

-- and where its payload adds no entry
pub replaying_stuck : (before db : Db) (bytes : List ℕ) (records at from to : ℕ) → Replaying before bytes db records at → IsRecordAt at from to bytes
    → ((entry : Entry) → Adds db (slice_range bytes from to) entry → ⊥) → BreaksOff before bytes at
replaying_stuck before db bytes records at from to replaying here none =
    stops before db bytes records at replaying (record {
      not_closed = no_gate (slice_range bytes from to) (drop at bytes) here.begins;
      no_entry = λ payload entry begins adds. none entry (subst (λ p. Adds db p entry) (one_record payload (slice_range bytes from to) (drop at bytes) begins here.begins) adds);
    })
