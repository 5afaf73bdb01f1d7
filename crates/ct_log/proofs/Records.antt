-- Records, one after the other.
use Rattle.std.proofs.Common.{◌≡◌, ◌⊎◌, inr, ⊎_elim, ℕ, ◌+◌, ◌<◌, List, [], ◌∷◌, ◌++◌, length, take, drop, refl, sym, ◌∙◌, ap, arith, append_assoc, length-append}
use Rattle.std.specs.List.{flat_map, AllByRecursion}
use Rattle.std.proofs.lemmas.List.{append-nil, take_at, drop_at}
use Rattle.byteorder.specs.Endian.{little_number}
use Rattle.byteorder.specs.Numbers.{little_number-reads_back}
use Rattle.ct_log.specs.Log.{record_of, records_of, HasRecord, BeginsWith}

pub length-record_of : (payload : List ℕ) → length (record_of payload) ≡ length payload + 5
length-record_of payload = omega arith

flat_map-push : (f : List ℕ → List ℕ) (xs : List (List ℕ)) (x : List ℕ) (tail : List ℕ) → flat_map f (xs ++ x ∷ []) ++ tail ≡ flat_map f xs ++ (f x ++ tail)
flat_map-push f [] x tail = ap (λ l. l ++ tail) (append-nil (f x))
flat_map-push f (y ∷ ys) x tail =
    append_assoc (f y) (flat_map f (ys ++ x ∷ [])) tail
    ∙ ap (λ l. f y ++ l) (flat_map-push f ys x tail)
    ∙ sym (append_assoc (f y) (flat_map f ys) (f x ++ tail))

-- one record more
pub records_of-push : (payloads : List (List ℕ)) (payload tail : List ℕ) → records_of (payloads ++ payload ∷ []) ++ tail ≡ records_of payloads ++ (record_of payload ++ tail)
records_of-push payloads payload tail = flat_map-push record_of payloads payload tail

pub length-records_of-push : (payloads : List (List ℕ)) (payload : List ℕ) → length (records_of (payloads ++ payload ∷ [])) ≡ length (records_of payloads) + (length payload + 5)
length-records_of-push payloads payload =
    ap length (sym (append-nil (records_of (payloads ++ payload ∷ []))) ∙ records_of-push payloads payload [] ∙ ap (λ l. records_of payloads ++ l) (append-nil (record_of payload)))
    ∙ length-append (records_of payloads) (record_of payload)
    ∙ ap (λ n. length (records_of payloads) + n) (length-record_of payload)

-- a record begins the bytes of no other
pub record_of-once : (payload other more rest : List ℕ) → HasRecord payload → HasRecord other → record_of payload ++ more ≡ record_of other ++ rest → (payload ≡ other) × (more ≡ rest)
record_of-once payload other more rest fits fits_too e =
    let same_length : length payload ≡ length other =
    (sym (little_number-reads_back 4 (length payload) (payload ++ more) fits)
    ∙ ap (λ l. little_number 4 (drop 1 l)) e
    ∙ little_number-reads_back 4 (length other) (other ++ rest) fits_too) in
    let behind : payload ++ more ≡ other ++ rest = ap (λ l. drop 5 l) e in (
      sym (take_at payload more (length payload) refl) ∙ ap (λ l. take (length payload) l) behind ∙ take_at other rest (length payload) (sym same_length),
      sym (drop_at payload more (length payload) refl) ∙ ap (λ l. drop (length payload) l) behind ∙ drop_at other rest (length payload) (sym same_length),
    )

-- behind records there is a gate
abbrev pub HasGate : List (List ℕ) → List ℕ → Type 0
HasGate payloads rest = (payloads ≡ []) ⊎ (0 < length rest)

gate_behind : (payload : List ℕ) (payloads : List (List ℕ)) (rest : List ℕ) → HasGate (payload ∷ payloads) rest → 0 < length rest
gate_behind payload payloads rest has = ⊎_elim (λ none. absurd (cc)) (λ some. some) has

-- no whole record stands first
abbrev pub Ends : List ℕ → Type 0
Ends rest = (payload : List ℕ) → BeginsWith payload rest → ⊥

begins : (payload : List ℕ) (payloads : List (List ℕ)) (rest bytes : List ℕ) → HasRecord payload → 0 < length rest → bytes ≡ records_of (payload ∷ payloads) ++ rest → BeginsWith payload bytes
begins payload payloads rest bytes fits some e = record {
  behind = records_of payloads ++ rest;
  split = e ∙ append_assoc (record_of payload) (records_of payloads) rest;
  fits = fits;
  gate = omega (arith, length-append (records_of payloads) rest);
}

-- records up to where no more stands are those of one reading
pub read_once : (payloads others : List (List ℕ)) (rest end : List ℕ) → AllByRecursion HasRecord payloads → AllByRecursion HasRecord others → HasGate payloads rest → HasGate others end → Ends rest → Ends end
    → records_of payloads ++ rest ≡ records_of others ++ end → (payloads ≡ others) × (rest ≡ end)
read_once [] [] rest end fit fit_too gate gate_too ends ends_too e = (refl, e)
read_once [] (other ∷ others) rest end fit fit_too gate gate_too ends ends_too e =
    absurd (ends other (begins other others end rest fit_too.0 (gate_behind other others end gate_too) e))
read_once (payload ∷ payloads) [] rest end fit fit_too gate gate_too ends ends_too e =
    absurd (ends_too payload (begins payload payloads rest end fit.0 (gate_behind payload payloads rest gate) (sym e)))
read_once (payload ∷ payloads) (other ∷ others) rest end fit fit_too gate gate_too ends ends_too e =
    let first = record_of-once payload other (records_of payloads ++ rest) (records_of others ++ end) fit.0 fit_too.0
    (sym (append_assoc (record_of payload) (records_of payloads) rest) ∙ e ∙ append_assoc (record_of other) (records_of others) end) in
    let more = read_once payloads others rest end fit.1 fit_too.1 (inr (gate_behind payload payloads rest gate)) (inr (gate_behind other others end gate_too)) ends ends_too first.1 in
    ((λ i. first.0 i ∷ more.0 i), more.1)
