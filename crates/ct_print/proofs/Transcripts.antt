-- A transcript goes on by one block, and a run by one phase.
use Rattle.std.proofs.Common.{◌≡◌, ℕ, suc, ◌+◌, codes, List, [], ◌∷◌, ◌++◌, length, sum_by, sym, ap, ◌∙◌, arith, append_assoc, append-nil}
use Rattle.std.proofs.lemmas.List.Sums.{sum_by-cons}
use Rattle.ct_types.specs.declared.command.Journaled.{Journaled}
use Rattle.ct_machine.specs.Transcript.{text_from, block_text, transcript, further_from}

-- the last place is as many past the first as there are entries before the last
pub text_from-push : (place : ℕ) (journal : List Journaled) (one : Journaled) → text_from place (journal ++ one ∷ []) ≡ text_from place journal ++ block_text (place + length journal) one
text_from-push place [] one = let same : place + 0 ≡ place = omega arith in rw same (append-nil (block_text place one))
text_from-push place (first ∷ journal) one =
    let last : place + 1 + length journal ≡ place + suc (length journal) = omega arith in
    let rest = text_from-push (place + 1) journal one ∙ ap (λ n. text_from (place + 1) journal ++ block_text n one) last in
    ap (λ text. block_text place first ++ text) rest ∙ sym (append_assoc (block_text place first) (text_from (place + 1) journal) _)

pub transcript-push : (journal : List Journaled) (one : Journaled) → transcript (journal ++ one ∷ []) ≡ transcript journal ++ block_text (length journal + 1) one
transcript-push journal one =
    let next : 1 + length journal ≡ length journal + 1 = omega arith in
    text_from-push 1 journal one ∙ ap (λ n. text_from 1 journal ++ block_text n one) next

regrouped : (a b c d : List ℕ) → a ++ (b ++ (c ++ d)) ≡ (a ++ (b ++ c)) ++ d
regrouped a b c d = ap (λ text. a ++ text) (sym (append_assoc b c d)) ∙ sym (append_assoc a (b ++ c) d)

pub further_from-push : (place : ℕ) (taken : List (List Journaled)) (journal : List Journaled)
    → further_from place (taken ++ journal ∷ []) ≡ further_from place taken ++ (codes "#phase\n" ++ text_from (place + sum_by length taken) journal)
further_from-push place [] journal =
    let same : place + 0 ≡ place = omega arith in
    rw same (ap (λ text. codes "#phase\n" ++ text) (append-nil (text_from place journal)))
further_from-push place (first ∷ taken) journal =
    let total = sum_by-cons length first taken in
    let last : place + length first + sum_by length taken ≡ place + sum_by length (first ∷ taken) = rw total (omega arith) in
    let rest = further_from-push (place + length first) taken journal ∙ ap (λ n. further_from (place + length first) taken ++ (codes "#phase\n" ++ text_from n journal)) last in
    ap (λ text. codes "#phase\n" ++ (text_from place first ++ text)) rest
    ∙ regrouped (codes "#phase\n") (text_from place first) (further_from (place + length first) taken) (codes "#phase\n" ++ text_from (place + sum_by length (first ∷ taken)) journal)
