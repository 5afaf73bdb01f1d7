-- Bytes have one reading.
use Rattle.std.proofs.Common.{ℕ, ◌+◌, List, ◌∷◌, length, inr, sym, ◌∙◌, ap, arith}
use Rattle.ct_log.specs.Log.{records_of, IsLog}
use Rattle.ct_log.specs.Laws.{OneLog, OneBreak, LogsDoNotBreak}
use Rattle.ct_log.proofs.Records.{Ends, read_once}

-- no record stands at a closed gate
ends_closed : (payloads : List (List ℕ)) (used : ℕ) (bytes : List ℕ) (log : IsLog payloads used bytes) → Ends (log.gate ∷ log.ignored)
ends_closed payloads used bytes log payload begins = log.closed (cc begins.split)

pub one_log : OneLog
one_log payloads others used end bytes log other =
    let one = read_once payloads others (log.gate ∷ log.ignored) (other.gate ∷ other.ignored) log.fit other.fit (inr (omega arith)) (inr (omega arith))
    (ends_closed payloads used bytes log) (ends_closed others end bytes other) (sym log.split ∙ other.split) in
    (one.0, log.used_is ∙ ap (λ ps. length (records_of ps) + 1) one.0 ∙ sym other.used_is)

pub one_break : OneBreak
one_break payloads others offset end bytes stop other =
    let one = read_once payloads others stop.rest other.rest stop.fit other.fit stop.gate other.gate stop.broken.no_record other.broken.no_record (sym stop.split ∙ other.split) in
    (one.0, stop.offset_is ∙ ap (λ ps. length (records_of ps)) one.0 ∙ sym other.offset_is)

pub logs_do_not_break : LogsDoNotBreak
logs_do_not_break payloads others used offset bytes log stop =
    let one = read_once payloads others (log.gate ∷ log.ignored) stop.rest log.fit stop.fit (inr (omega arith)) stop.gate
    (ends_closed payloads used bytes log) stop.broken.no_record (sym log.split ∙ stop.split) in
    stop.broken.not_closed (record { gate = log.gate; ignored = log.ignored; split = sym one.1; closed = log.closed })
