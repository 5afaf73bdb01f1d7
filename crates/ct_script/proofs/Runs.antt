-- The run of the steps over lines answers the first fault, and where there is none the phases.
use Rattle.std.proofs.Common.{◌≡◌, ℕ, ◌+◌, ◌-◌, ◌⊎◌, inl, inr, Bool, true, false, cond, nat_lt, List, [], ◌∷◌, ◌++◌, length, take, Option, None, Some, Result, Ok, Err, refl, sym, ap, subst, ◌∙◌, append_assoc, arith}
use Rattle.std.specs.Prelude.{option_and_then}
use Rattle.std.specs.List.{last_or, onto_first}
use Rattle.std.proofs.lemmas.Grind.{common_steps}
use Rattle.std.proofs.lemmas.List.{append-nil}
use Rattle.ct_script.specs.Forms.{kind_of, head_text}
use Rattle.ct_script.specs.Statements.{Statement, added, continued, begun, phases_of}
use Rattle.ct_script.specs.Faults.{last_statement, broken_by, broken_after, or_later, first_fault, most_text}
use Rattle.ct_script.specs.Reading.{Progress, start, with_text, with_more, stepped, step, next, run, Finds}
use Rattle.ct_script.specs.Answer.{Reads}
use Rattle.ct_script.specs.Schedule.{script_of}
use Rattle.ct_script.specs.declared.script.Script.{Script}
use Rattle.ct_script.specs.declared.error.ScriptError.{ScriptError}
use Rattle.ct_script.specs.declared.error.ScriptError.TheVariants as errors
use Rattle.ct_script.specs.declared.error.ScriptError.TheVariants.{BadScript}
use Rattle.std.specs.Str.Lines.{lines}
use Rattle.ct_script.specs.declared.kind.Kind.{Kind}
use Rattle.ct_script.specs.declared.kind.Kind.TheVariants.{Ignored, Mark, Head, More, Fault}
use Rattle.ct_script.proofs.Lasts.{last_or-push, take-front, has_last}

-- statements, with more text in the last
abbrev extended : List Statement → List ℕ → List Statement
extended [] more = []
extended (s ∷ []) more = record s { text = s.text ++ more } ∷ []
extended (s ∷ t ∷ rest) more = s ∷ extended (t ∷ rest) more

-- phases, with statements before those of the first
abbrev joined : List Statement → List (List Statement) → List (List Statement)
joined [] phases = phases
joined (s ∷ rest) phases = onto_first s (joined rest phases)

extended-nil : (xs : List Statement) → extended xs [] ≡ xs
extended-nil [] = refl
extended-nil (s ∷ []) = ap (λ t. record s { text = t } ∷ []) (append-nil s.text)
extended-nil (s ∷ t ∷ rest) = ap (λ l. s ∷ l) (extended-nil (t ∷ rest))

extended-push : (xs : List Statement) (s : Statement) (more : List ℕ) → extended (xs ++ s ∷ []) more ≡ xs ++ record s { text = s.text ++ more } ∷ []
extended-push [] s more = refl
extended-push (x ∷ []) s more = refl
extended-push (x ∷ y ∷ rest) s more = ap (λ l. x ∷ l) (extended-push (y ∷ rest) s more)

joined-push : (xs : List Statement) (s : Statement) (phases : List (List Statement)) → joined (xs ++ s ∷ []) phases ≡ joined xs (onto_first s phases)
joined-push [] s phases = refl
joined-push (x ∷ xs) s phases = ap (onto_first x) (joined-push xs s phases)

joined-empty : (xs : List Statement) (phases : List (List Statement)) → joined xs ([] ∷ phases) ≡ xs ∷ phases
joined-empty [] phases = refl
joined-empty (x ∷ xs) phases = ap (onto_first x) (joined-empty xs phases)

-- the phases of what was read with the lines that are left
abbrev resumed : Progress → List (List ℕ) → List (List Statement)
resumed now lines = now.ended ++ joined (extended now.running (continued lines)) (phases_of lines)

resumed-nil : (now : Progress) → resumed now [] ≡ now.ended ++ now.running ∷ []
unfolding continued phases_of
resumed-nil now = ap (λ l. now.ended ++ l) (ap (λ l. joined l ([] ∷ [])) (extended-nil now.running) ∙ joined-empty now.running [])

-- an answer by a test, which is Ok
ok_by : {X : Type 0} (b : Bool) (r : ℕ) (x y : X) → cond b (Err r) (Ok x) ≡ Ok y → x ≡ y
ok_by true r x y h = cc
ok_by false r x y h = cc

module _ (line : List ℕ) (more : List (List ℕ)) where
  resumed_by : Kind → Progress → List (List Statement)
  resumed_by kind now = now.ended ++ joined (extended now.running (added kind line (continued more))) (begun kind line more (phases_of more))

  by_head : (session : ℕ) (now after : Progress) → with_text session (head_text line) now ≡ Ok after → resumed_by (Head session) now ≡ resumed after more
  unfolding resumed_by
  by_head session now after h =
      let s : Statement = record { session = session; text = head_text line } in
      let e = ok_by (nat_lt most_text (length (head_text line))) 9 (record now { running = now.running ++ s ∷ [] }) after h in
      ap (λ l. now.ended ++ joined l (onto_first (record s { text = head_text line ++ continued more }) (phases_of more))) (extended-nil now.running)
      ∙ sym (ap (λ l. now.ended ++ l) (ap (λ l. joined l (phases_of more)) (extended-push now.running s (continued more)) ∙ joined-push now.running _ (phases_of more)))
      ∙ ap (λ a. resumed a more) e

  by_more : (now after : Progress) → with_more line now (last_or None now.running) ≡ Ok after → resumed_by More now ≡ resumed after more
  unfolding resumed_by
  by_more now after h = cases (has_last now.running)
    where
      cases : (now.running ≡ []) ⊎ ((front : List Statement) × (x : Statement) × (now.running ≡ front ++ x ∷ [])) → resumed_by More now ≡ resumed after more
      cases (inl e) =
          let none : with_more line now None ≡ Ok after = subst (λ l. with_more line now (last_or None l) ≡ Ok after) e h in
          cc
      cases (inr (front, x, e)) =
          let last : last_or None now.running ≡ Some x = ap (last_or None) e ∙ last_or-push None front x in
          let some = subst (λ o. with_more line now o ≡ Ok after) last h in
          let a = ok_by (nat_lt most_text (length x.text + 1 + length line)) 9 _ after some in
          let y : Statement = record x { text = x.text ++ 10 ∷ line } in
          let before : take (length now.running - 1) now.running ≡ front = ap (λ l. take (length l - 1) l) e ∙ take-front front x in
          let left : extended now.running (10 ∷ line ++ continued more) ≡ front ++ record x { text = x.text ++ (10 ∷ line ++ continued more) } ∷ [] =
          ap (λ l. extended l (10 ∷ line ++ continued more)) e ∙ extended-push front x _ in
          let right : extended (front ++ y ∷ []) (continued more) ≡ front ++ record x { text = (x.text ++ 10 ∷ line) ++ continued more } ∷ [] = extended-push front y (continued more) in
          let text : x.text ++ (10 ∷ line ++ continued more) ≡ (x.text ++ 10 ∷ line) ++ continued more = sym (append_assoc x.text (10 ∷ line) (continued more)) in
          ap (λ l. now.ended ++ joined l (phases_of more)) (left ∙ ap (λ t. front ++ record x { text = t } ∷ []) text ∙ sym right ∙ ap (λ f. extended (f ++ y ∷ []) (continued more)) (sym before))
          ∙ ap (λ n. resumed n more) a

  by_kind : (kind : Kind) (now after : Progress) → stepped kind line now ≡ Ok after → resumed_by kind now ≡ resumed after more
  unfolding resumed_by
  by_kind Ignored now after h = let e : now ≡ after = cc in ap (λ n. resumed n more) e
  by_kind Mark now after h =
      let e : record { ended = now.ended ++ now.running ∷ []; running = [] } ≡ after = cc in
      ap (λ l. now.ended ++ l) (ap (λ l. joined l ([] ∷ phases_of more)) (extended-nil now.running) ∙ joined-empty now.running (phases_of more))
      ∙ sym (append_assoc now.ended (now.running ∷ []) (phases_of more))
      ∙ ap (λ n. resumed n more) e
  by_kind (Head session) now after h = by_head session now after h
  by_kind More now after h = by_more now after h
  by_kind (Fault rule) now after h = cc

-- a step takes the first of the lines that are left
resumed-step : (line : List ℕ) (now after : Progress) → step line now ≡ Ok after → (more : List (List ℕ)) → resumed now (line ∷ more) ≡ resumed after more
unfolding step continued phases_of resumed_by
resumed-step line now after h more = by_kind line more (kind_of line) now after h

-- the rule of a fault
abbrev fault_of : Result Progress ℕ → Option ℕ
fault_of (Ok now) = None
fault_of (Err rule) = Some rule

fault_of-cond : (b : Bool) (now : Progress) → fault_of (cond b (Err 9) (Ok now)) ≡ cond b (Some 9) None
fault_of-cond true now = refl
fault_of-cond false now = refl

fault_of-more : (line : List ℕ) (now : Progress) (o : Option Statement) → fault_of (with_more line now o) ≡ broken_by More line o
fault_of-more line now None = refl
fault_of-more line now (Some s) = fault_of-cond (nat_lt most_text (length s.text + 1 + length line)) _

fault_of-stepped : (kind : Kind) (line : List ℕ) (now : Progress) → fault_of (stepped kind line now) ≡ broken_by kind line (last_or None now.running)
fault_of-stepped Ignored line now = refl
fault_of-stepped Mark line now = refl
fault_of-stepped (Head session) line now = fault_of-cond (nat_lt most_text (length (head_text line))) _
fault_of-stepped More line now = fault_of-more line now (last_or None now.running)
fault_of-stepped (Fault rule) line now = refl

-- what was read stands for the lines before
abbrev StandsFor : Progress → List (List ℕ) → Type 0
StandsFor now before = (more : List (List ℕ)) → resumed now more ≡ phases_of (before ++ more)

fault_of-step : (line : List ℕ) (before : List (List ℕ)) (now : Progress) → StandsFor now before → fault_of (step line now) ≡ broken_after before line
unfolding step broken_after
fault_of-step line before now stands =
    let whole : now.ended ++ now.running ∷ [] ≡ phases_of before = sym (resumed-nil now) ∙ stands [] ∙ ap phases_of (append-nil before) in
    let last : last_statement (phases_of before) ≡ last_or None now.running =
    ap last_statement (sym whole) ∙ ap (option_and_then (λ phase. last_or None phase)) (last_or-push None now.ended now.running) in
    fault_of-stepped (kind_of line) line now ∙ sym (ap (broken_by (kind_of line) line) last)

-- the answer by the first fault
abbrev pub answer_of : Option (ℕ × ℕ) → List (List Statement) → Result (List (List Statement)) (ℕ × ℕ)
answer_of None phases = Ok phases
answer_of (Some fault) phases = Err fault

run_by : (lines before : List (List ℕ)) (now : Progress) → StandsFor now before → run (length before + 1) now lines ≡ answer_of (first_fault before lines) (phases_of (before ++ lines))
unfolding run first_fault
run_by [] before now stands = ap (λ p. Ok p) (sym (resumed-nil now) ∙ stands [])
run_by (line ∷ more) before now stands = by (step line now) refl (λ after stood. run_by more (before ++ line ∷ []) after stood)
  where
    by : (r : Result Progress ℕ) → step line now ≡ r
        → ((after : Progress) → StandsFor after (before ++ line ∷ []) → run (length (before ++ line ∷ []) + 1) after more ≡ answer_of (first_fault (before ++ line ∷ []) more) (phases_of ((before ++ line ∷ []) ++ more)))
        → next (length before + 1) (step line now) (λ after. run (length before + 1 + 1) after more)
        ≡ answer_of (or_later (broken_after before line) (length before + 1) (first_fault (before ++ line ∷ []) more)) (phases_of (before ++ line ∷ more))
    by (Ok after) e further =
        let sound : broken_after before line ≡ None = sym (fault_of-step line before now stands) ∙ ap fault_of e in
        let regroup : (m : List (List ℕ)) → before ++ line ∷ m ≡ (before ++ line ∷ []) ++ m = λ m. sym (append_assoc before (line ∷ []) m) in
        let later = further after (λ m. sym (resumed-step line now after e m) ∙ stands (line ∷ m) ∙ ap phases_of (regroup m)) in
        let count : length (before ++ line ∷ []) ≡ length before + 1 = grind (arith, common_steps) in
        ap (λ r. next (length before + 1) r (λ after. run (length before + 1 + 1) after more)) e
        ∙ sym (ap (λ n. run (n + 1) after more) count)
        ∙ later
        ∙ sym (ap (λ o. answer_of (or_later o (length before + 1) (first_fault (before ++ line ∷ []) more)) (phases_of (before ++ line ∷ more))) sound
        ∙ ap (λ l. answer_of (first_fault (before ++ line ∷ []) more) (phases_of l)) (regroup more))
    by (Err rule) e further =
        let broken : broken_after before line ≡ Some rule = sym (fault_of-step line before now stands) ∙ ap fault_of e in
        ap (λ r. next (length before + 1) r (λ after. run (length before + 1 + 1) after more)) e
        ∙ sym (ap (λ o. answer_of (or_later o (length before + 1) (first_fault (before ++ line ∷ []) more)) (phases_of (before ++ line ∷ more))) broken)

-- the run from the start
pub run-start : (lines : List (List ℕ)) → run 1 start lines ≡ answer_of (first_fault [] lines) (phases_of lines)
run-start lines = run_by lines [] start (λ more. refl)

-- what an error says of the first fault
abbrev ErrorFor : Option (ℕ × ℕ) → ScriptError → Type 0
ErrorFor f (BadScript line rule) = f ≡ Some (line, rule)
ErrorFor f errors.Memory = Unit {0}

-- what was found is what is to be answered
by_fault : (f : Option (ℕ × ℕ)) (phases : List (List Statement)) (e : ScriptError) → Finds (Err e) (answer_of f phases) → ErrorFor f e
by_fault f phases errors.Memory found = tt
by_fault None phases (BadScript line rule) found = cc
by_fault (Some fault) phases (BadScript line rule) found = let same : fault ≡ (line, rule) = cc in ap (λ x. Some x) same

pub Reads-fault : (bytes : List ℕ) (e : ScriptError) → Finds (Err e) (run 1 start (lines bytes)) → Reads bytes (Err e)
Reads-fault bytes errors.Memory found = tt
Reads-fault bytes (BadScript line rule) found =
    by_fault (first_fault [] (lines bytes)) (phases_of (lines bytes)) (BadScript line rule) (sym (run-start (lines bytes)) ∙ found)

pub none_of : (f : Option (ℕ × ℕ)) (phases read : List (List Statement)) → answer_of f phases ≡ Ok read → (f ≡ None) × (phases ≡ read)
none_of None phases read e = (refl, cc)
none_of (Some fault) phases read e = cc

pub Reads-script : (bytes : List ℕ) (phases : List (List Statement)) (script : Script) → run 1 start (lines bytes) ≡ Ok phases → script ≡ script_of phases → Reads bytes (Ok script)
Reads-script bytes phases script found is =
    let told = none_of _ _ _ (sym (run-start (lines bytes)) ∙ found) in
    (told.0, is ∙ sym (ap script_of told.1))
