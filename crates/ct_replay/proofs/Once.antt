-- Bytes make one database of another, or break off at one place.
use Rattle.std.proofs.Common.{◌≡◌, ◌⊎◌, inr, ⊎_elim, ℕ, suc, ◌<◌, List, [], ◌∷◌, ◌++◌, length, refl, sym, ◌∙◌, ap, subst, arith, append_assoc, length-append}
use Rattle.std.specs.List.{AllByRecursion}
use Rattle.ct_types.specs.declared.entry.Entry.{Entry}
use Rattle.ct_model.specs.declared.db.Db.{Db}
use Rattle.ct_model.specs.Applies.{ApplyInTurn}
use Rattle.ct_model.specs.Apply.{apply, replay}
use Rattle.ct_codec.specs.Spellings.{bare}
use Rattle.ct_log.specs.Log.{record_of, records_of, HasRecord, BeginsWith, IsClosed}
use Rattle.ct_log.proofs.OneReading.{one_log}
use Rattle.ct_log.proofs.Records.{record_of-once}
use Rattle.ct_replay.specs.Replay.{Adds, Plays, Replays}
use Rattle.ct_replay.specs.Laws as laws
use Rattle.ct_replay.proofs.Keyed.{adds_no_other}
use Rattle.ct_replay.proofs.Replaying.{plays_push, no_gate}

pub one_entry : laws.OneEntry
one_entry db payload entry other adds adds_too =
    adds_no_other db payload (bare entry) entry adds.spells adds ∙ sym (adds_no_other db payload (bare entry) other adds.spells adds_too)

plays_once : (before a b : Db) (payloads : List (List ℕ)) → Plays before payloads a → Plays before payloads b → a ≡ b
plays_once before a b [] x y = x ∙ sym y
plays_once before a b (payload ∷ payloads) x y =
    let same : x.0 ≡ y.0 = one_entry before payload x.0 y.0 x.1 y.1 in
    plays_once (apply before x.0) a b payloads x.2 (subst (λ e. Plays (apply before e) payloads b) (sym same) y.2)

database : (before after other : Db) (bytes : List ℕ) (records count used end : ℕ) → Replays before bytes after records used → Replays before bytes other count end → after ≡ other
database before after other bytes records count used end x y =
    let same = one_log x.payloads y.payloads used end bytes x.log y.log in
    plays_once before after other x.payloads x.plays (subst (λ l. Plays before l other) (sym same.0) y.plays)

records_once : (before after other : Db) (bytes : List ℕ) (records count used end : ℕ) → Replays before bytes after records used → Replays before bytes other count end → records ≡ count
records_once before after other bytes records count used end x y =
    let same = one_log x.payloads y.payloads used end bytes x.log y.log in
    x.records_is ∙ ap length same.0 ∙ sym y.records_is

used_once : (before after other : Db) (bytes : List ℕ) (records count used end : ℕ) → Replays before bytes after records used → Replays before bytes other count end → used ≡ end
used_once before after other bytes records count used end x y = (one_log x.payloads y.payloads used end bytes x.log y.log).1

pub one_replay : laws.OneReplay
one_replay = record { database = database; records = records_once; used = used_once }

pub same_records : laws.SameRecords
same_records before after old new payloads records used x was is =
    let same = one_log x.payloads payloads used used old x.log was in
    record {
      payloads = payloads;
      log = is;
      plays = subst (λ l. Plays before l after) same.0 x.plays;
      records_is = x.records_is ∙ ap length same.0;
    }

pub one_more : laws.OneMore
one_more before after old new payload payloads records used end entry x was is adds =
    let same = one_log x.payloads payloads used used old x.log was in
    record {
      payloads = payloads ++ payload ∷ [];
      log = is;
      plays = plays_push before after payloads payload entry (subst (λ l. Plays before l after) same.0 x.plays) adds;
      records_is = omega (arith, x.records_is, ap length same.0, length-append payloads (payload ∷ []));
    }

plays_entries : (before after : Db) (payloads : List (List ℕ)) → Plays before payloads after → (entries : List Entry) × ApplyInTurn before entries × (after ≡ replay before entries) × (length payloads ≡ length entries)
plays_entries before after [] plays = ([], tt, plays, refl)
plays_entries before after (payload ∷ payloads) plays =
    let more = plays_entries (apply before plays.0) after payloads plays.2 in
    (plays.0 ∷ more.0, (plays.1.applies, more.1), more.2, ap (λ n. suc n) more.3)

pub is_replay : laws.IsReplay
is_replay before after bytes records used x =
    let entries = plays_entries before after x.payloads x.plays in
    (entries.0, entries.1, entries.2, x.records_is ∙ entries.3)

-- ---- where a replay breaks off

-- no record stands first whose entry applies
abbrev Ends : Db → List ℕ → Type 0
Ends db rest = (payload : List ℕ) (entry : Entry) → BeginsWith payload rest → Adds db payload entry → ⊥

-- behind records there is a gate
abbrev HasGate : List (List ℕ) → List ℕ → Type 0
HasGate payloads rest = (payloads ≡ []) ⊎ (0 < length rest)

gate_behind : (payload : List ℕ) (payloads : List (List ℕ)) (rest : List ℕ) → HasGate (payload ∷ payloads) rest → 0 < length rest
gate_behind payload payloads rest has = ⊎_elim (λ none. absurd (cc)) (λ some. some) has

begins_here : (payload : List ℕ) (payloads : List (List ℕ)) (rest bytes : List ℕ) → HasRecord payload → HasGate (payload ∷ payloads) rest → bytes ≡ records_of (payload ∷ payloads) ++ rest → BeginsWith payload bytes
begins_here payload payloads rest bytes fits has e = record {
  behind = records_of payloads ++ rest;
  split = e ∙ append_assoc (record_of payload) (records_of payloads) rest;
  fits = fits;
  gate = omega (arith, gate_behind payload payloads rest has, length-append (records_of payloads) rest);
}

-- of two readings that both end so, the records are the same
meet : (before a b : Db) (payloads others : List (List ℕ)) (rest end : List ℕ) → Plays before payloads a → Plays before others b → AllByRecursion HasRecord payloads → AllByRecursion HasRecord others
    → HasGate payloads rest → HasGate others end → Ends a rest → Ends b end → records_of payloads ++ rest ≡ records_of others ++ end → (payloads ≡ others) × (rest ≡ end)
meet before a b [] [] rest end x y fit fit_too gate gate_too ends ends_too e = (refl, e)
meet before a b [] (other ∷ others) rest end x y fit fit_too gate gate_too ends ends_too e =
    absurd (ends other y.0 (begins_here other others end rest fit_too.0 gate_too e) (subst (λ db. Adds db other y.0) (sym x) y.1))
meet before a b (payload ∷ payloads) [] rest end x y fit fit_too gate gate_too ends ends_too e =
    absurd (ends_too payload x.0 (begins_here payload payloads rest end fit.0 gate (sym e)) (subst (λ db. Adds db payload x.0) (sym y) x.1))
meet before a b (payload ∷ payloads) (other ∷ others) rest end x y fit fit_too gate gate_too ends ends_too e =
    let first = record_of-once payload other (records_of payloads ++ rest) (records_of others ++ end) fit.0 fit_too.0
    (sym (append_assoc (record_of payload) (records_of payloads) rest) ∙ e ∙ append_assoc (record_of other) (records_of others) end) in
    let same : x.0 ≡ y.0 = one_entry before payload x.0 y.0 x.1 (subst (λ p. Adds before p y.0) (sym first.0) y.1) in
    let more = meet (apply before x.0) a b payloads others rest end x.2 (subst (λ entry. Plays (apply before entry) others b) (sym same) y.2) fit.1 fit_too.1
    (inr (gate_behind payload payloads rest gate)) (inr (gate_behind other others end gate_too)) ends ends_too first.1 in
    ((λ i. first.0 i ∷ more.0 i), more.1)

pub one_break : laws.OneBreak
one_break before bytes offset other x y =
    let one = meet before x.between y.between x.payloads y.payloads x.rest y.rest x.plays y.plays x.fit y.fit x.gate y.gate x.stuck.no_entry y.stuck.no_entry (sym x.split ∙ y.split) in
    x.offset_is ∙ ap (λ ps. length (records_of ps)) one.0 ∙ sym y.offset_is

pub replays_do_not_break : laws.ReplaysDoNotBreak
replays_do_not_break before after bytes records used offset x y =
    let closed : IsClosed (x.log.gate ∷ x.log.ignored) = record { gate = x.log.gate; ignored = x.log.ignored; split = refl; closed = x.log.closed } in
    let one = meet before after y.between x.payloads y.payloads (x.log.gate ∷ x.log.ignored) y.rest x.plays y.plays x.log.fit y.fit (inr (omega arith)) y.gate
    (λ payload entry begins adds. no_gate payload (x.log.gate ∷ x.log.ignored) begins closed) y.stuck.no_entry (sym x.log.split ∙ y.split) in
    y.stuck.not_closed (subst IsClosed one.1 closed)
