-- Frames and their payloads.
use Rattle.std.proofs.Common.{◌≡◌, ◌-◌, List, [], ◌∷◌, ℕ, length, sym, ◌∙◌, ap, arith, length-append}
use Rattle.std.proofs.lemmas.List.{take_at}
use Rattle.ct_log.specs.Log.{HasRecord}
use Rattle.ct_log.specs.Append.{frame_of, payload_in, IsFrame}

pub payload_in-frame_of : (payload : List ℕ) → payload_in (frame_of payload) ≡ payload
unfolding payload_in
payload_in-frame_of payload = take_at payload (0 ∷ []) (length (frame_of payload) - 5) (omega (arith, length-append payload (0 ∷ [])))

pub frame_is : (payload body : List ℕ) → HasRecord payload → body ≡ frame_of payload → IsFrame body
frame_is payload body fits is =
    let same : payload_in body ≡ payload = ap payload_in is ∙ payload_in-frame_of payload in
    record {
      framed = is ∙ ap frame_of (sym same);
      fits = omega (arith, fits, ap length same);
    }
