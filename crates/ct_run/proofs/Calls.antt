-- Two journals of the same statements ask for the same.
use Rattle.std.proofs.Common.{◌≡◌, List, [], ◌∷◌, ◌++◌, length, map, refl, sym, ap, ◌∙◌, arith}
use Rattle.std.proofs.lemmas.List.{map-append}
use Rattle.ct_script.specs.declared.script.Phase.{Phase}
use Rattle.ct_types.specs.declared.command.Journaled.{Journaled}
use Rattle.ct_machine.specs.Play.{call_of}
use Rattle.ct_run.specs.Schedule.{Numbered, numbered_in, IsOf, IsInOrder, AreInOrder}
use Rattle.ct_run.specs.Top.{all_of}
use Rattle.ct_run.proofs.Commands.{one_command}
use Rattle.ct_run.proofs.Goes.{length-in_order}

same_call : (statement : Numbered) (one other : Journaled) → IsOf statement one → IsOf statement other → call_of one ≡ call_of other
same_call statement one other is also =
    let what = one_command statement.text one.what other.what is.means also.means in
    ap (λ n. record { session = n; number = one.number; what = one.what }) (is.session ∙ sym also.session)
    ∙ ap (λ n. record { session = other.session; number = n; what = one.what }) (is.number ∙ sym also.number)
    ∙ ap (λ c. record { session = other.session; number = other.number; what = c }) what

same_calls : (statements : List Numbered) (journal other : List Journaled) → IsInOrder statements journal → IsInOrder statements other → map call_of journal ≡ map call_of other
same_calls [] [] [] here there = refl
same_calls [] [] (two ∷ other) here there = absurd there
same_calls [] (one ∷ journal) other here there = absurd here
same_calls (statement ∷ statements) [] other here there = absurd here
same_calls (statement ∷ statements) (one ∷ journal) [] here there = absurd there
same_calls (statement ∷ statements) (one ∷ journal) (two ∷ other) here there =
    ap (λ c. c ∷ map call_of journal) (same_call statement one two here.0 there.0) ∙ ap (λ l. call_of two ∷ l) (same_calls statements journal other here.1 there.1)

pub all_calls : (phases : List Phase) (journals others : List (List Journaled)) → AreInOrder phases journals → AreInOrder phases others → map call_of (all_of journals) ≡ map call_of (all_of others)
all_calls [] [] [] here there = refl
all_calls [] [] (other ∷ others) here there = absurd there
all_calls [] (journal ∷ journals) others here there = absurd here
all_calls (phase ∷ phases) [] others here there = absurd here
all_calls (phase ∷ phases) (journal ∷ journals) [] here there = absurd there
all_calls (phase ∷ phases) (journal ∷ journals) (other ∷ others) here there =
    map-append call_of journal (all_of journals)
    ∙ ap (λ l. l ++ map call_of (all_of journals)) (same_calls (numbered_in phase) journal other here.0 there.0)
    ∙ ap (λ l. map call_of other ++ l) (all_calls phases journals others here.1 there.1)
    ∙ sym (map-append call_of other (all_of others))

-- fronts of one length in one list are one
same_fronts : {X : Type 0} (xs ys us vs : List X) → length xs ≡ length ys → xs ++ us ≡ ys ++ vs → (xs ≡ ys) × (us ≡ vs)
same_fronts [] [] us vs size e = (refl, e)
same_fronts [] (y ∷ ys) us vs size e = absurd (omega arith)
same_fronts (x ∷ xs) [] us vs size e = absurd (omega arith)
same_fronts (x ∷ xs) (y ∷ ys) us vs size e =
    let whole : x ∷ (xs ++ us) ≡ y ∷ (ys ++ vs) = e in
    let head : x ≡ y = cc in
    let tail : xs ++ us ≡ ys ++ vs = cc in
    let rest = same_fronts xs ys us vs (omega arith) tail in
    (ap (λ z. z ∷ xs) head ∙ ap (λ l. y ∷ l) rest.0, rest.1)

-- journals of the same phases are one where their entries are, one behind the other
pub same_journals : (phases : List Phase) (journals others : List (List Journaled)) → AreInOrder phases journals → AreInOrder phases others → all_of journals ≡ all_of others → journals ≡ others
same_journals [] [] [] here there e = refl
same_journals [] [] (other ∷ others) here there e = absurd there
same_journals [] (journal ∷ journals) others here there e = absurd here
same_journals (phase ∷ phases) [] others here there e = absurd here
same_journals (phase ∷ phases) (journal ∷ journals) [] here there e = absurd there
same_journals (phase ∷ phases) (journal ∷ journals) (other ∷ others) here there e =
    let size : length journal ≡ length other = length-in_order (numbered_in phase) journal here.0 ∙ sym (length-in_order (numbered_in phase) other there.0) in
    let same = same_fronts journal other (all_of journals) (all_of others) size e in
    ap (λ j. j ∷ journals) same.0 ∙ ap (λ js. other ∷ js) (same_journals phases journals others here.1 there.1 same.1)
