-- The step of the reading from one line to the next, which the code takes. That its run answers what the definitions say is proved
-- of them alone, so no promise speaks of it.
use Rattle.std.specs.Prelude.{◌≡◌, ℕ, ◌+◌, ◌-◌, nat_lt, List, [], ◌∷◌, ◌++◌, length, sum_by, take, Option, None, Some, Result, Ok, Err, if◌then◌else◌}
use Rattle.std.specs.List.{last_or}
use Rattle.ct_script.specs.Forms.{kind_of, head_text}
use Rattle.ct_script.specs.Statements.{Statement}
use Rattle.ct_script.specs.Faults.{most_text}
use Rattle.ct_script.specs.declared.reading.LineFault.{LineFault}
use Rattle.ct_script.specs.declared.reading.LineFault.TheVariants.{Broken, Memory}
use Rattle.ct_script.specs.declared.error.ScriptError.{ScriptError}
use Rattle.ct_script.specs.declared.error.ScriptError.TheVariants as errors
use Rattle.ct_script.specs.declared.error.ScriptError.TheVariants.{BadScript}
use Rattle.ct_script.specs.declared.kind.Kind.{Kind}
use Rattle.ct_script.specs.declared.kind.Kind.TheVariants.{Ignored, Mark, Head, More, Fault}

-- the phases that have ended, and the statements of the one that runs
pub record Progress : Type 0 where
  pub ended : List (List Statement)
  pub running : List Statement

abbrev pub start : Progress
start = record { ended = []; running = [] }

-- how many statements were read
abbrev pub statements_in : Progress → ℕ
statements_in now = sum_by length now.ended + length now.running

abbrev pub with_text : ℕ → List ℕ → Progress → Result Progress ℕ
with_text session text now =
    if nat_lt most_text (length text) then Err 9
    else Ok (record now { running = now.running ++ record { session = session; text = text } ∷ [] })

abbrev pub with_more : List ℕ → Progress → Option Statement → Result Progress ℕ
with_more line now None = Err 5
with_more line now (Some last) =
    if nat_lt most_text (length last.text + 1 + length line) then Err 9
    else Ok (record now {
      running = take (length now.running - 1) now.running ++ record last { text = last.text ++ 10 ∷ line } ∷ [];
    })

abbrev pub stepped : Kind → List ℕ → Progress → Result Progress ℕ
stepped Ignored line now = Ok now
stepped Mark line now = Ok (record { ended = now.ended ++ now.running ∷ []; running = [] })
stepped (Head session) line now = with_text session (head_text line) now
stepped More line now = with_more line now (last_or None now.running)
stepped (Fault rule) line now = Err rule

unfoldable pub step : List ℕ → Progress → Result Progress ℕ
step line now = stepped (kind_of line) line now

-- what a step of the code answers, where want of memory leaves anything
abbrev pub Steps : Result (Unit {0}) LineFault → Progress → Result Progress ℕ → Type 0
Steps (Ok done) new given = given ≡ Ok new
Steps (Err (Broken rule)) new given = given ≡ Err rule
Steps (Err Memory) new given = Unit {0}

-- the steps over lines, of which the first has this number: the phases, or the number of the first line at fault with its rule
abbrev pub next : ℕ → Result Progress ℕ → (Progress → Result (List (List Statement)) (ℕ × ℕ)) → Result (List (List Statement)) (ℕ × ℕ)
next number (Ok now) later = later now
next number (Err rule) later = Err (number, rule)

unfoldable pub run : ℕ → Progress → List (List ℕ) → Result (List (List Statement)) (ℕ × ℕ)
run number now [] = Ok (now.ended ++ now.running ∷ [])
run number now (line ∷ more) = next number (step line now) (λ after. run (number + 1) after more)

-- what the code answers for a run
abbrev pub Finds : Result (List (List Statement)) ScriptError → Result (List (List Statement)) (ℕ × ℕ) → Type 0
Finds (Ok phases) given = given ≡ Ok phases
Finds (Err (BadScript line rule)) given = given ≡ Err (line, rule)
Finds (Err errors.Memory) given = Unit {0}

-- the error of a line with this number
abbrev pub error_at : ℕ → LineFault → ScriptError
error_at number (Broken rule) = BadScript number rule
error_at number Memory = errors.Memory
