-- The turns of the loops over lists.
use Rattle.std.proofs.Common.{◌≡◌, ℕ, zero, suc, ◌+◌, ◌-◌, ◌<◌, ◌≤◌, List, [], ◌∷◌, ◌++◌, length, take, get_or, Some, None, Result, Ok, Err, OnOk, refl, sym, ap, subst, ◌∙◌, arith, append_assoc, length-append}
use Rattle.std.specs.List.{flat_map}
use Rattle.std.proofs.lemmas.List.{append-nil}
use Rattle.ct_codec.specs.declared.fault.CodecError.{CodecError}
use Rattle.ct_codec.specs.declared.fault.CodecError.TheVariants.{NotCanonical, Memory}
use Rattle.ct_codec.specs.Readers.{Outcome, Reader, Reads, and_then, pure, making, repeated}

-- behind what was found so far, so many more
unfoldable pub repeated_after : {A : Type 0} → Reader A → ℕ → List A → Reader (List A)
repeated_after reader count found = λ bytes. and_then (repeated reader count bytes) (λ more. pure (found ++ more))

joined : {A : Type 0} (outcome : Outcome (List A)) (found : List A) (a : A) → and_then (and_then outcome (λ more. pure (a ∷ more))) (λ more. pure (found ++ more)) ≡ and_then outcome (λ more. pure ((found ++ a ∷ []) ++ more))
joined None found a = refl
joined (Some more) found a = ap (λ l. Some (l, more.1)) (sym (append_assoc found (a ∷ []) more.0))

pub one_more : {A : Type 0} (reader : Reader A) (count turn : ℕ) (found : List A) (bytes rest : List ℕ) (a : A) → turn < count → reader bytes ≡ Some (a, rest)
    → repeated_after reader (count - turn) found bytes ≡ repeated_after reader (count - (turn + 1)) (found ++ a ∷ []) rest
unfolding repeated repeated_after
one_more reader count turn found bytes rest a before e =
    let one : count - turn ≡ suc (count - (turn + 1)) = omega arith in
    ap (λ n. repeated_after reader n found bytes) one
    ∙ ap (λ o. and_then (and_then o (λ a. making (λ more. a ∷ more) (repeated reader (count - (turn + 1))))) (λ more. pure (found ++ more))) e
    ∙ joined (repeated reader (count - (turn + 1)) rest) found a

pub no_more : {A : Type 0} (reader : Reader A) (count turn : ℕ) (found : List A) (bytes : List ℕ) → turn < count → reader bytes ≡ None → repeated_after reader (count - turn) found bytes ≡ None
unfolding repeated repeated_after
no_more reader count turn found bytes before e =
    let one : count - turn ≡ suc (count - (turn + 1)) = omega arith in
    ap (λ n. repeated_after reader n found bytes) one
    ∙ ap (λ o. and_then (and_then o (λ a. making (λ more. a ∷ more) (repeated reader (count - (turn + 1))))) (λ more. pure (found ++ more))) e

pub at_last : {A : Type 0} (reader : Reader A) (count turn : ℕ) (found : List A) (bytes : List ℕ) → count ≤ turn → repeated_after reader (count - turn) found bytes ≡ Some (found, bytes)
unfolding repeated repeated_after
at_last reader count turn found bytes behind =
    let none : count - turn ≡ 0 = omega arith in
    ap (λ n. repeated_after reader n found bytes) none ∙ ap (λ l. Some (l, bytes)) (append-nil found)

pub at_first : {A : Type 0} (reader : Reader A) (count : ℕ) (bytes : List ℕ) → repeated reader count bytes ≡ repeated_after reader (count - 0) [] bytes
unfolding repeated repeated_after
at_first reader count bytes =
    let same : count - 0 ≡ count = omega arith in
    none_before (repeated reader count bytes) ∙ ap (λ k. repeated_after reader k [] bytes) (sym same)
  where
    none_before : {A : Type 0} (outcome : Outcome (List A)) → outcome ≡ and_then outcome (λ more. pure ([] ++ more))
    none_before None = refl
    none_before (Some more) = refl

-- one more is as much longer as its own spelling
pub size_more : {A : Type 0} (spell : A → List ℕ) (items : List A) (place : ℕ) (other : A) → place < length items
    → length (flat_map spell (take (place + 1) items)) ≡ length (flat_map spell (take place items)) + length (spell (get_or items place other))
size_more spell [] place other within = absurd (omega (arith, within))
size_more spell (a ∷ items) zero other within = length-append (spell a) [] ∙ omega arith
size_more spell (a ∷ items) (suc place) other within =
    let more = size_more spell items place other (omega (arith, within)) in
    let next : suc place + 1 ≡ suc (place + 1) = omega arith in
    let longer : length (flat_map spell (take (suc place + 1) (a ∷ items))) ≡ length (spell a) + length (flat_map spell (take (place + 1) items)) =
    ap (λ n. length (flat_map spell (take n (a ∷ items)))) next ∙ length-append (spell a) (flat_map spell (take (place + 1) items)) in
    let before : length (flat_map spell (take (suc place) (a ∷ items))) ≡ length (spell a) + length (flat_map spell (take place items)) = length-append (spell a) (flat_map spell (take place items)) in
    let here : length (spell (get_or (a ∷ items) (suc place) other)) ≡ length (spell (get_or items place other)) = refl in
    omega (arith, more, longer, before, here)

-- a front part is no longer than the whole
pub front_is_short : {A : Type 0} (spell : A → List ℕ) (count : ℕ) (items : List A) → length (flat_map spell (take count items)) ≤ length (flat_map spell items)
front_is_short spell zero items = omega arith
front_is_short spell (suc count) [] = omega arith
front_is_short spell (suc count) (a ∷ items) =
    let more = front_is_short spell count items in
    omega (arith, more, length-append (spell a) (flat_map spell (take count items)), length-append (spell a) (flat_map spell items))

pub reads_ok : {A : Type 0} (outcome : Outcome A) (result : Result A CodecError) (a : A) (rest : List ℕ) → result ≡ Ok a → Reads outcome result rest → outcome ≡ Some (a, rest)
reads_ok outcome result a rest is reads = subst (λ r. Reads outcome r rest) is reads

same_fault : {A B : Type 0} (outcome : Outcome A) (other : Outcome B) (e : CodecError) (rest : List ℕ) → (outcome ≡ None → other ≡ None) → Reads outcome (Err e) rest → Reads other (Err e) rest
same_fault outcome other NotCanonical rest none reads = none reads
same_fault outcome other Memory rest none reads = tt

pub reads_err : {A B : Type 0} (outcome : Outcome A) (other : Outcome B) (result : Result A CodecError) (given : Result B CodecError) (e : CodecError) (rest : List ℕ) → result ≡ Err e → given ≡ Err e
    → (outcome ≡ None → other ≡ None) → Reads outcome result rest → Reads other given rest
reads_err outcome other result given e rest is was none reads = subst (λ r. Reads other r rest) (sym was) (same_fault outcome other e rest none (subst (λ r. Reads outcome r rest) is reads))

-- what holds on Ok, in other words
pub on_ok : {A E : Type 0} {P Q : Type 0} (result : Result A E) → (P → Q) → OnOk result P → OnOk result Q
on_ok (Ok a) to p = to p
on_ok (Err e) to p = tt
