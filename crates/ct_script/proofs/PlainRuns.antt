-- The run of the steps over the lines of a plain script.
use Rattle.std.proofs.Common.{◌≡◌, ℕ, ◌+◌, ◌^◌, ◌<◌, ◌≤◌, false, cond, eqb, nat_lt, List, [], ◌∷◌, ◌++◌, length, map, None, Ok, Err, refl, sym, ap, subst, ◌∙◌, append_assoc, arith}
use Rattle.std.specs.Prelude.{codes}
use Rattle.std.specs.List.{flat_map, AllByRecursion}
use Rattle.std.specs.Str.{IsUtf8}
use Rattle.std.specs.Str.Lines.{lines, strip_carriage_return}
use Rattle.std.specs.Fmt.{decimal}
use Rattle.std.proofs.lemmas.Grind.{common_steps}
use Rattle.std.proofs.lemmas.List.{append-nil}
use Rattle.std.proofs.lemmas.Bool.Decides.{nat_tests}
use Rattle.ct_script.specs.Statements.{Statement, phases_of}
use Rattle.ct_script.specs.Faults.{first_fault, most_text}
use Rattle.ct_script.specs.Reading.{Progress, start, with_text, step, run}
use Rattle.ct_script.specs.Plain.{IsFirstLine, IsFurtherLine, ArePlainLines, text_lines, IsPlain, ArePlain, written_statement, written}
use Rattle.ct_script.specs.declared.kind.Kind.TheVariants.{Mark, Head, More}
use Rattle.ct_script.proofs.Parts.{HasFirst, slice_split-some, slice_split-front, text-lines, IsUtf8-parts, lines-append, strip_carriage_return-other}
use Rattle.ct_script.proofs.PlainLines.{none_is, decimal_digits, head_line, head_text-head_line, kind_of-head_line, head_line-no_return, kind_of-further, kind_of-mark}
use Rattle.ct_script.proofs.Steps.{step-kind, with_more-last, run-next}
use Rattle.ct_script.proofs.Runs.{run-start, none_of}
use Rattle.std.specs.Char.{is_ascii_digit}

-- lines lead from what was read to what is read after them
Leads : List (List ℕ) → Progress → Progress → Type 0
Leads lines now after = (number : ℕ) (rest : List (List ℕ)) → run number now (lines ++ rest) ≡ run (number + length lines) after rest

Leads-none : (now : Progress) → Leads [] now now
unfolding Leads
Leads-none now number rest = ap (λ n. run n now rest) (omega arith)

Leads-cons : (line : List ℕ) (more : List (List ℕ)) (now then after : Progress) → step line now ≡ Ok then → Leads more then after → Leads (line ∷ more) now after
unfolding Leads
Leads-cons line more now then after taken leads number rest =
    run-next number line (more ++ rest) now then taken ∙ leads (number + 1) rest ∙ ap (λ n. run n after rest) (omega arith)

Leads-append : (xs ys : List (List ℕ)) (now then after : Progress) → Leads xs now then → Leads ys then after → Leads (xs ++ ys) now after
unfolding Leads
Leads-append xs ys now then after first second number rest =
    let count : number + length xs + length ys ≡ number + length (xs ++ ys) = grind (arith, common_steps) in
    ap (run number now) (append_assoc xs ys rest) ∙ first number (ys ++ rest) ∙ second (number + length xs) rest
    ∙ ap (λ n. run n after rest) count

-- the further lines of a text go into the last statement
Leads-further : (further : List (List ℕ)) (ended : List (List Statement)) (front : List Statement) (session : ℕ) (text : List ℕ)
    → AllByRecursion IsFurtherLine further → AllByRecursion IsUtf8 further → length (text ++ flat_map (λ l. 10 ∷ l) further) ≤ 65536
    → Leads further (record { ended = ended; running = front ++ record { session = session; text = text } ∷ [] })
    (record { ended = ended; running = front ++ record { session = session; text = text ++ flat_map (λ l. 10 ∷ l) further } ∷ [] })
Leads-further [] ended front session text plain utf8 short =
    subst (λ t. Leads [] (record { ended = ended; running = front ++ record { session = session; text = text } ∷ [] }) (record { ended = ended; running = front ++ record { session = session; text = t } ∷ [] }))
    (sym (append-nil text)) (Leads-none _)
Leads-further (line ∷ more) ended front session text plain utf8 short =
    let now : Progress = record { ended = ended; running = front ++ record { session = session; text = text } ∷ [] } in
    let whole : (text ++ 10 ∷ line) ++ flat_map (λ l. 10 ∷ l) more ≡ text ++ flat_map (λ l. 10 ∷ l) (line ∷ more) = append_assoc text (10 ∷ line) (flat_map (λ l. 10 ∷ l) more) in
    let long : length ((text ++ 10 ∷ line) ++ flat_map (λ l. 10 ∷ l) more) ≤ 65536 = subst (λ t. length t ≤ 65536) (sym whole) short in
    let fits : length text + 1 + length line ≤ 65536 = grind (arith, common_steps) in
    let taken = step-kind line now More (kind_of-further line utf8.0 plain.0)
    ∙ with_more-last line ended (front ++ record { session = session; text = text } ∷ []) front (record { session = session; text = text }) (record { session = session; text = text ++ 10 ∷ line }) refl fits refl in
    subst (λ t. Leads (line ∷ more) now (record { ended = ended; running = front ++ record { session = session; text = t } ∷ [] })) whole
    (Leads-cons line more now _ _ taken (Leads-further more ended front session (text ++ 10 ∷ line) plain.1 utf8.1 long))

-- the lines of a statement, by those of its text
said_lines : ℕ → List (List ℕ) → List (List ℕ)
said_lines session [] = []
said_lines session (first ∷ further) = head_line session first ∷ further

abbrev statement_lines : Statement → List (List ℕ)
statement_lines s = said_lines s.session (text_lines s.text)

Leads-head : (now : Progress) (session : ℕ) (first : List ℕ) → 1 ≤ session → session ≤ 32 → IsFirstLine first → IsUtf8 first → length first ≤ 65536
    → step (head_line session first) now ≡ Ok (record now { running = now.running ++ record { session = session; text = first } ∷ [] })
Leads-head now session first low high plain utf8 short =
    let test : nat_lt most_text (length first) ≡ false = grind (arith, nat_tests) in
    step-kind (head_line session first) now (Head session) (kind_of-head_line session first low high plain utf8)
    ∙ ap (λ t. with_text session t now) (head_text-head_line session first low high plain)
    ∙ ap (λ b. cond b (Err 9) (Ok (record now { running = now.running ++ record { session = session; text = first } ∷ [] }))) test

Leads-statement : (s : Statement) (now : Progress) → IsPlain s → Leads (statement_lines s) now (record now { running = now.running ++ s ∷ [] })
unfolding said_lines
Leads-statement s now plain = by (slice_split-some (λ b. eqb b 10) s.text)
  where
    by : HasFirst (text_lines s.text) → Leads (statement_lines s) now (record now { running = now.running ++ s ∷ [] })
    by (first, further, e) =
        let text = text-lines s.text first further e in
        let lines = subst ArePlainLines e plain.text.lines in
        let utf8 = IsUtf8-parts first further (subst IsUtf8 text plain.text.utf8) in
        let short : length (first ++ flat_map (λ l. 10 ∷ l) further) ≤ 65536 = subst (λ t. length t ≤ 65536) text plain.text.short in
        let front : length first ≤ 65536 = grind (arith, common_steps) in
        subst (λ ls. Leads (said_lines s.session ls) now (record now { running = now.running ++ s ∷ [] })) (sym e)
        (subst (λ t. Leads (head_line s.session first ∷ further) now (record now { running = now.running ++ record s { text = t } ∷ [] })) (sym text)
        (Leads-cons (head_line s.session first) further now _ _ (Leads-head now s.session first plain.from_1 plain.to_32 lines.0 utf8.0 front)
        (Leads-further further now.ended now.running s.session first lines.1 utf8.1 short)))

Leads-phase : (phase : List Statement) (now : Progress) → AllByRecursion IsPlain phase → Leads (flat_map statement_lines phase) now (record now { running = now.running ++ phase })
Leads-phase [] now plain = subst (λ l. Leads [] now (record now { running = l })) (sym (append-nil now.running)) (Leads-none now)
Leads-phase (s ∷ phase) now plain =
    subst (λ l. Leads (flat_map statement_lines (s ∷ phase)) now (record now { running = l })) (append_assoc now.running (s ∷ []) phase)
    (Leads-append (statement_lines s) (flat_map statement_lines phase) now (record now { running = now.running ++ s ∷ [] }) _ (Leads-statement s now plain.0) (Leads-phase phase _ plain.1))

-- the lines of the phases after the first
abbrev later_lines : List (List Statement) → List (List ℕ)
later_lines phases = flat_map (λ phase. codes "#phase" ∷ flat_map statement_lines phase) phases

run-later : (phases : List (List Statement)) (number : ℕ) (ended : List (List Statement)) (phase : List Statement) → AllByRecursion (AllByRecursion IsPlain) phases
    → run number (record { ended = ended; running = phase }) (later_lines phases) ≡ Ok (ended ++ phase ∷ phases)
unfolding run Leads
run-later [] number ended phase plain = refl
run-later (later ∷ phases) number ended phase plain =
    let now : Progress = record { ended = ended; running = phase } in
    let begun : Progress = record { ended = ended ++ phase ∷ []; running = [] } in
    run-next number (codes "#phase") (flat_map statement_lines later ++ later_lines phases) now begun (step-kind (codes "#phase") now Mark kind_of-mark)
    ∙ Leads-phase later begun plain.0 (number + 1) (later_lines phases)
    ∙ run-later phases (number + 1 + length (flat_map statement_lines later)) (ended ++ phase ∷ []) later plain.1
    ∙ ap (λ l. Ok l) (append_assoc ended (phase ∷ []) (later ∷ phases))

-- the lines of a statement that is written out
strip-further : (further : List (List ℕ)) → AllByRecursion IsFurtherLine further → map strip_carriage_return further ≡ further
strip-further [] plain = refl
strip-further (line ∷ more) plain =
    ap (λ l. l ∷ map strip_carriage_return more) (strip_carriage_return-other line plain.0.no_return) ∙ ap (λ l. line ∷ l) (strip-further more plain.1)

lines-statement : (s : Statement) (rest : List ℕ) → IsPlain s → lines (written_statement s ++ rest) ≡ statement_lines s ++ lines rest
unfolding said_lines
lines-statement s rest plain = by (slice_split-some (λ b. eqb b 10) s.text)
  where
    by : HasFirst (text_lines s.text) → lines (written_statement s ++ rest) ≡ statement_lines s ++ lines rest
    by (first, further, e) =
        let small : s.session < 2 ^ 64 = omega (arith, plain.to_32) in
        let digits = none_is is_ascii_digit 10 refl (decimal s.session) (decimal_digits s.session small) in
        let front : List ℕ = decimal s.session ++ codes ": " in
        let cut : text_lines (front ++ s.text) ≡ head_line s.session first ∷ further =
        ap text_lines (append_assoc (decimal s.session) (codes ": ") s.text)
        ∙ slice_split-front (λ b. eqb b 10) (decimal s.session) (codes ": " ++ s.text) (codes ": " ++ first) further digits
        (slice_split-front (λ b. eqb b 10) (codes ": ") s.text first further (refl, (refl, tt)) e)
        ∙ ap (λ l. l ∷ further) (sym (append_assoc (decimal s.session) (codes ": ") first)) in
        let lines' = subst ArePlainLines e plain.text.lines in
        ap lines (append_assoc (front ++ s.text) (codes "\n") rest)
        ∙ lines-append (front ++ s.text) rest
        ∙ ap (λ ls. map strip_carriage_return ls ++ lines rest) cut
        ∙ ap (λ l. (l ∷ map strip_carriage_return further) ++ lines rest) (strip_carriage_return-other (head_line s.session first) (head_line-no_return s.session first lines'.0.no_return))
        ∙ ap (λ l. (head_line s.session first ∷ l) ++ lines rest) (strip-further further lines'.1)
        ∙ sym (ap (λ ls. said_lines s.session ls ++ lines rest) e)

lines-phase : (phase : List Statement) (rest : List ℕ) → AllByRecursion IsPlain phase → lines (flat_map written_statement phase ++ rest) ≡ flat_map statement_lines phase ++ lines rest
lines-phase [] rest plain = refl
lines-phase (s ∷ phase) rest plain =
    ap lines (append_assoc (written_statement s) (flat_map written_statement phase) rest)
    ∙ lines-statement s (flat_map written_statement phase ++ rest) plain.0
    ∙ ap (λ l. statement_lines s ++ l) (lines-phase phase rest plain.1)
    ∙ sym (append_assoc (statement_lines s) (flat_map statement_lines phase) (lines rest))

lines-later : (phases : List (List Statement)) → AllByRecursion (AllByRecursion IsPlain) phases
    → lines (flat_map (λ phase. codes "#phase\n" ++ flat_map written_statement phase) phases) ≡ later_lines phases
lines-later [] plain = refl
lines-later (phase ∷ phases) plain =
    let rest : List ℕ = flat_map (λ phase. codes "#phase\n" ++ flat_map written_statement phase) phases in
    lines-append (codes "#phase") (flat_map written_statement phase ++ rest)
    ∙ ap (λ l. codes "#phase" ∷ l) (lines-phase phase rest plain.0 ∙ ap (λ l. flat_map statement_lines phase ++ l) (lines-later phases plain.1))

-- the run over a plain script that is written out gives its phases
run-written : (phases : List (List Statement)) → ArePlain phases → run 1 start (lines (written phases)) ≡ Ok phases
unfolding Leads
run-written [] plain = absurd (omega (arith, plain.some))
run-written (phase ∷ phases) plain =
    ap (run 1 start) (lines-phase phase (flat_map (λ p. codes "#phase\n" ++ flat_map written_statement p) phases) plain.each.0 ∙ ap (λ l. flat_map statement_lines phase ++ l) (lines-later phases plain.each.1))
    ∙ Leads-phase phase start plain.each.0 1 (later_lines phases)
    ∙ run-later phases (1 + length (flat_map statement_lines phase)) [] phase plain.each.1

pub reads_back : (phases : List (List Statement)) → ArePlain phases → (first_fault [] (lines (written phases)) ≡ None) × (phases_of (lines (written phases)) ≡ phases)
reads_back phases plain = none_of _ _ _ (sym (run-start (lines (written phases))) ∙ run-written phases plain)
