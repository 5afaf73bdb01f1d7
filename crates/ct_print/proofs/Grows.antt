-- A transcript that grew block by block and phase by phase is that of the run.
use Rattle.std.proofs.Common.{◌≡◌, ℕ, ◌+◌, ◌||◌, Bool, true, false, codes, List, [], ◌∷◌, ◌++◌, flat_map, length, sum_by, refl, sym, ap, ◌∙◌, append_assoc, append-nil, arith}
use Rattle.std.specs.List.{list_any}
use Rattle.std.proofs.lemmas.Grind.{flat_map-append}
use Rattle.std.proofs.lemmas.List.Folds.{list_any-append}
use Rattle.std.proofs.lemmas.List.Sums.{sum_by-cons, sum_by_push}
use Rattle.ct_types.specs.declared.command.Journaled.{Journaled}
use Rattle.ct_state.specs.Replies.{is_memory}
use Rattle.ct_machine.specs.Transcript.{block_text, text_from, further_from, run_text}
use Rattle.ct_print.specs.Growing.{Growing, with_block, with_journal, with_phase, grown}
use Rattle.ct_print.proofs.Transcripts.{further_from-push}

-- the part of a record that is told
abbrev grows : List ℕ → Bool → ℕ → Bool → Growing
grows text begun next wanted = record { text = text; begun = begun; next = next; wanted = wanted }

same_grows : (text text' : List ℕ) (begun : Bool) (next next' : ℕ) (wanted wanted' : Bool) → text ≡ text' → next ≡ next' → wanted ≡ wanted' → grows text begun next wanted ≡ grows text' begun next' wanted'
same_grows text text' begun next next' wanted wanted' t n w = ap (λ x. grows x begun next wanted) t ∙ ap (λ x. grows text' begun x wanted) n ∙ ap (λ x. grows text' begun next' x) w

abbrev wants : Journaled → Bool
wants one = is_memory one.reply

or_assoc : (a b c : Bool) → ((a || b) || c) ≡ (a || (b || c))
or_assoc true b c = refl
or_assoc false b c = refl

or_none : (a : Bool) → (a || false) ≡ a
or_none true = refl
or_none false = refl

-- the blocks of a journal stand behind what there was
journal_grows : (it : Growing) (journal : List Journaled)
    → with_journal it journal ≡ grows (it.text ++ text_from it.next journal) it.begun (it.next + length journal) (it.wanted || list_any wants journal)
journal_grows it [] = let n : it.next ≡ it.next + 0 = omega arith in same_grows it.text (it.text ++ []) it.begun it.next (it.next + 0) it.wanted (it.wanted || false) (sym (append-nil it.text)) n (sym (or_none it.wanted))
journal_grows it (one ∷ journal) =
    let n : (it.next + 1) + length journal ≡ it.next + length (one ∷ journal) = omega arith in
    journal_grows (with_block it one) journal
    ∙ same_grows _ _ it.begun _ _ _ _ (append_assoc it.text (block_text it.next one) (text_from (it.next + 1) journal)) n (or_assoc it.wanted (wants one) (list_any wants journal))

-- the text of a run and one phase more
run_push : (first : List Journaled) (journals : List (List Journaled)) (journal : List Journaled)
    → run_text ((first ∷ journals) ++ journal ∷ []) ≡ (run_text (first ∷ journals) ++ codes "#phase\n") ++ text_from (sum_by length (first ∷ journals) + 1) journal
run_push first journals journal =
    let total = sum_by-cons length first journals in
    let place : (length first + 1) + sum_by length journals ≡ sum_by length (first ∷ journals) + 1 = omega (arith, total) in
    let line = codes "#phase\n" in
    ap (λ text. text_from 1 first ++ text) (further_from-push (length first + 1) journals journal)
    ∙ ap (λ n. text_from 1 first ++ (further_from (length first + 1) journals ++ (line ++ text_from n journal))) place
    ∙ sym (append_assoc (text_from 1 first) (further_from (length first + 1) journals) (line ++ text_from (sum_by length (first ∷ journals) + 1) journal))
    ∙ sym (append_assoc (run_text (first ∷ journals)) line (text_from (sum_by length (first ∷ journals) + 1) journal))

any_push : (journals : List (List Journaled)) (journal : List Journaled)
    → (list_any wants (flat_map (λ j. j) journals) || list_any wants journal) ≡ list_any wants (flat_map (λ j. j) (journals ++ journal ∷ []))
any_push journals journal =
    sym (list_any-append wants (flat_map (λ j. j) journals) journal)
    ∙ ap (λ all. list_any wants (flat_map (λ j. j) journals ++ all)) (sym (append-nil journal))
    ∙ ap (list_any wants) (sym (flat_map-append (λ j. j) journals (journal ∷ [])))

-- one phase more
pub grown_push : (journals : List (List Journaled)) (journal : List Journaled) → with_journal (with_phase (grown journals)) journal ≡ grown (journals ++ journal ∷ [])
grown_push [] journal =
    let n : 1 + length journal ≡ length journal + 0 + 1 = omega arith in
    journal_grows (with_phase (grown [])) journal
    ∙ same_grows (text_from 1 journal) (text_from 1 journal ++ []) true _ (sum_by length (journal ∷ []) + 1) (list_any wants journal) (list_any wants (journal ++ []))
    (sym (append-nil (text_from 1 journal))) (omega arith) (ap (list_any wants) (sym (append-nil journal)))
grown_push (first ∷ journals) journal =
    let size = sum_by_push length (first ∷ journals) journal in
    journal_grows (with_phase (grown (first ∷ journals))) journal
    ∙ same_grows _ _ true _ _ _ _ (sym (run_push first journals journal)) (omega (arith, size)) (any_push (first ∷ journals) journal)
