-- What a call has appended, where it answers Ok.
use Rattle.std.proofs.Common.{◌≡◌, ℕ, List, ◌++◌, Result, Ok, Err, OnOk, is_ok, if◌then◌else◌, ap, ◌∙◌, append_assoc}

-- from the form in which std's `String` says it
pub appended : {T E : Type 0} (r : Result T E) (new old text : List ℕ) → new ≡ (if is_ok r then old ++ text else old) → OnOk r (new ≡ old ++ text)
appended (Ok done) new old text e = e
appended (Err want) new old text e = tt

-- two pieces, one after the other
pub appended_twice : {T E : Type 0} (r : Result T E) (new middle old first second : List ℕ) → middle ≡ old ++ first → OnOk r (new ≡ middle ++ second) → OnOk r (new ≡ old ++ (first ++ second))
appended_twice (Ok done) new middle old first second m n = n ∙ ap (λ text. text ++ second) m ∙ append_assoc old first second
appended_twice (Err want) new middle old first second m n = tt
