-- What the steps of the code answer.
use Rattle.std.proofs.Common.{◌≡◌, ℕ, ◌+◌, ◌-◌, ◌<◌, ◌≤◌, Bool, true, false, cond, nat_lt, List, [], ◌∷◌, ◌++◌, length, take, Option, None, Some, Result, Ok, Err, MatchResult, refl, sym, ap, subst, ◌∙◌, arith}
use Rattle.std.specs.List.{last_or}
use Rattle.std.specs.Str.{IsUtf8, is_utf8}
use Rattle.std.specs.Str.Lines.{lines}
use Rattle.std.proofs.lemmas.Grind.{common_steps}
use Rattle.std.proofs.lemmas.Str.{IsUtf8-from_is_utf8, is_utf8-from_IsUtf8}
use Rattle.std.proofs.lemmas.Bool.Decides.{nat_tests}
use Rattle.ct_script.proofs.Lasts.{last_or-push, take-front}
use Rattle.ct_script.specs.Forms.{form_of, kind_of, head_text}
use Rattle.ct_script.specs.Statements.{Statement}
use Rattle.ct_script.specs.Faults.{most_text}
use Rattle.ct_script.specs.Reading.{Progress, with_text, with_more, statements_in, stepped, step, next, run, Steps, Finds, error_at}
use Rattle.ct_script.specs.declared.reading.LineFault.{LineFault}
use Rattle.ct_script.specs.declared.reading.LineFault.TheVariants.{Broken, Memory}
use Rattle.ct_script.specs.declared.kind.Kind.{Kind}
use Rattle.ct_script.specs.declared.kind.Kind.TheVariants.{Ignored, Mark, Head, More, Fault}

-- the kind of a line that is UTF-8
pub kind_of-utf8 : (line text : List ℕ) (kind : Kind) → (text ≡ line) × IsUtf8 line → form_of text ≡ kind → kind_of line ≡ kind
unfolding kind_of
kind_of-utf8 line text kind told formed =
    ap (λ b. cond b (form_of line) (Fault 1)) (is_utf8-from_IsUtf8 line told.1) ∙ ap form_of (sym told.0) ∙ formed

-- and of one that is not
pub kind_of-other : (line : List ℕ) → (IsUtf8 line → ⊥) → kind_of line ≡ Fault 1
unfolding kind_of
kind_of-other line told = by (is_utf8 line) refl
  where
    by : (b : Bool) → is_utf8 line ≡ b → cond (is_utf8 line) (form_of line) (Fault 1) ≡ Fault 1
    by true e = absurd (told (IsUtf8-from_is_utf8 line e))
    by false e = ap (λ b. cond b (form_of line) (Fault 1)) e

pub step-kind : (line : List ℕ) (now : Progress) (kind : Kind) → kind_of line ≡ kind → step line now ≡ stepped kind line now
unfolding step
step-kind line now kind e = ap (λ k. stepped k line now) e

pub step-head : (line text : List ℕ) (session : ℕ) (inside now : Progress) → kind_of line ≡ Head session → text ≡ head_text line → inside ≡ now → with_text session text inside ≡ step line now
step-head line text session inside now kind same is =
    ap (λ t. with_text session t inside) same ∙ ap (with_text session (head_text line)) is ∙ sym (step-kind line now (Head session) kind)

pub step-more : (line text : List ℕ) (inside now : Progress) → kind_of line ≡ More → text ≡ line → inside ≡ now → with_more text inside (last_or None inside.running) ≡ step line now
step-more line text inside now kind same is =
    ap (λ t. with_more t inside (last_or None inside.running)) same ∙ ap (λ p. with_more line p (last_or None p.running)) is ∙ sym (step-kind line now More kind)

-- a text that is too long, and one that is not
pub with_more-long : (line : List ℕ) (now : Progress) (o : Option Statement) (last : Statement) → o ≡ Some last → 65536 < length last.text + 1 + length line → with_more line now o ≡ Err 9
with_more-long line now o last is long =
    let test : nat_lt most_text (length last.text + 1 + length line) ≡ true = grind (arith, nat_tests) in
    ap (with_more line now) is ∙ ap (λ b. cond b (Err 9) (Ok (record now {
      running = take (length now.running - 1) now.running ++ record last { text = last.text ++ 10 ∷ line } ∷ [];
    }))) test

pub with_more-fits : (line : List ℕ) (now : Progress) (o : Option Statement) (last : Statement) → o ≡ Some last → length last.text + 1 + length line ≤ 65536 → with_more line now o ≡ Ok (record now {
  running = take (length now.running - 1) now.running ++ record last { text = last.text ++ 10 ∷ line } ∷ [];
})
with_more-fits line now o last is fits =
    let test : nat_lt most_text (length last.text + 1 + length line) ≡ false = grind (arith, nat_tests) in
    ap (with_more line now) is ∙ ap (λ b. cond b (Err 9) (Ok (record now {
      running = take (length now.running - 1) now.running ++ record last { text = last.text ++ 10 ∷ line } ∷ [];
    }))) test

pub with_more-last : (line : List ℕ) (ended : List (List Statement)) (old front : List Statement) (last more : Statement) → old ≡ front ++ last ∷ [] → length last.text + 1 + length line ≤ 65536 → more ≡ record last { text = last.text ++ 10 ∷ line }
    → with_more line (record { ended = ended; running = old }) (last_or None old) ≡ Ok (record { ended = ended; running = front ++ more ∷ [] })
with_more-last line ended old front last more whole fits is =
    with_more-fits line (record { ended = ended; running = old }) (last_or None old) last (ap (last_or None) whole ∙ last_or-push None front last) fits
    ∙ ap (λ l. Ok (record { ended = ended; running = l ++ record last { text = last.text ++ 10 ∷ line } ∷ [] })) (ap (λ l. take (length l - 1) l) whole ∙ take-front front last)
    ∙ ap (λ s. Ok (record { ended = ended; running = front ++ s ∷ [] })) (sym is)

-- a statement was added, or memory ran out
pub Steps-pushed : (r : Result (Unit {0}) LineFault) (ended : List (List Statement)) (old new : List Statement) (said : Statement) (given : Result Progress ℕ)
    → MatchResult r (λ _. new ≡ old ++ said ∷ []) (λ e. e ≡ Memory) → given ≡ Ok (record { ended = ended; running = old ++ said ∷ [] }) → Steps r (record { ended = ended; running = new }) given
Steps-pushed (Ok done) ended old new said given told is = is ∙ ap (λ l. Ok (record { ended = ended; running = l })) (sym told)
Steps-pushed (Err (Broken rule)) ended old new said given told is = cc
Steps-pushed (Err Memory) ended old new said given told is = tt

-- a run that goes on after a line, one that ends there, and one that has no line left
pub run-next : (number : ℕ) (line : List ℕ) (more : List (List ℕ)) (now after : Progress) → step line now ≡ Ok after → run number now (line ∷ more) ≡ run (number + 1) after more
unfolding run
run-next number line more now after e = ap (λ r. next number r (λ p. run (number + 1) p more)) e

pub run-fault : (number : ℕ) (line : List ℕ) (more : List (List ℕ)) (now after : Progress) (fault : LineFault) → Steps (Err fault) after (step line now) → Finds (Err (error_at number fault)) (run number now (line ∷ more))
unfolding run
run-fault number line more now after (Broken rule) e = ap (λ r. next number r (λ p. run (number + 1) p more)) e
run-fault number line more now after Memory e = tt

pub run-end : (number : ℕ) (now : Progress) (bytes : List ℕ) → length bytes ≡ 0 → run number now (lines bytes) ≡ Ok (now.ended ++ now.running ∷ [])
unfolding run
run-end number now [] none = refl
run-end number now (b ∷ bytes) none = absurd (omega arith)

-- a step reads at most one statement
few-cond : (b : Bool) (now one after : Progress) → statements_in one ≤ statements_in now + 1 → cond {A = Result Progress ℕ} b (Err 9) (Ok one) ≡ Ok after → statements_in after ≤ statements_in now + 1
few-cond true now one after few e = cc
few-cond false now one after few e = let same : one ≡ after = cc in subst (λ p. statements_in p ≤ statements_in now + 1) same few

few-more : (line : List ℕ) (now after : Progress) (o : Option Statement) → with_more line now o ≡ Ok after → statements_in after ≤ statements_in now + 1
few-more line now after None e = cc
few-more line now after (Some last) e =
    few-cond (nat_lt most_text (length last.text + 1 + length line)) now _ after (grind (arith, common_steps)) e

few-stepped : (kind : Kind) (line : List ℕ) (now after : Progress) → stepped kind line now ≡ Ok after → statements_in after ≤ statements_in now + 1
few-stepped Ignored line now after e = let same : now ≡ after = cc in subst (λ p. statements_in p ≤ statements_in now + 1) same (omega arith)
few-stepped Mark line now after e =
    let same : record { ended = now.ended ++ now.running ∷ []; running = [] } ≡ after = cc in
    subst (λ p. statements_in p ≤ statements_in now + 1) same (grind (arith, common_steps))
few-stepped (Head session) line now after e =
    few-cond (nat_lt most_text (length (head_text line))) now _ after (grind (arith, common_steps)) e
few-stepped More line now after e = few-more line now after (last_or None now.running) e
few-stepped (Fault rule) line now after e = cc

pub few-step : (line : List ℕ) (now after : Progress) → step line now ≡ Ok after → statements_in after ≤ statements_in now + 1
unfolding step
few-step line now after e = few-stepped (kind_of line) line now after e
