-- The loop that looks for the first insert that repeats a key.
use Rattle.std.proofs.Common.{◌≡◌, ℕ, ◌+◌, ◌<◌, List, [], ◌∷◌, ◌++◌, length, take, drop, get_or, true, false, Some, sym, ap, ◌∙◌, arith}
use Rattle.std.proofs.lemmas.List.{drop_more, take_more, length-take-le}
use Rattle.ct_types.specs.declared.entry.Write.{Write}
use Rattle.ct_types.specs.declared.schema.Schema.{Schema}
use Rattle.ct_types.specs.declared.value.Row.{Row}
use Rattle.ct_write.specs.Duplicates.{repeats, duplicate_from}

rest_of : (writes : List Write) (i : ℕ) (w : Write) → i < length writes → w ≡ get_or writes i w → drop i writes ≡ w ∷ drop (i + 1) writes
rest_of writes i w lt is = drop_more writes i w lt ∙ ap (λ x. x ∷ drop (i + 1) writes) (sym is)

pub duplicate_goes_on : (schema : Schema) (rows : List Row) (writes : List Write) (i : ℕ) (w : Write)
    → i < length writes → w ≡ get_or writes i w → repeats schema rows (take i writes) w ≡ false
    → duplicate_from schema rows (take i writes) (drop i writes) ≡ duplicate_from schema rows (take (i + 1) writes) (drop (i + 1) writes)
duplicate_goes_on schema rows writes i w lt is not_here =
    rw (rest_of writes i w lt is) (rw not_here (ap (λ front. duplicate_from schema rows front (drop (i + 1) writes)) (ap (λ x. take i writes ++ x ∷ []) is ∙ sym (take_more writes i w lt))))

pub duplicate_stops : (schema : Schema) (rows : List Row) (writes : List Write) (i : ℕ) (w : Write)
    → i < length writes → w ≡ get_or writes i w → repeats schema rows (take i writes) w ≡ true
    → duplicate_from schema rows (take i writes) (drop i writes) ≡ Some i
duplicate_stops schema rows writes i w lt is here =
    rw (rest_of writes i w lt is) (rw here (ap Some (length-take-le i writes (omega arith))))
