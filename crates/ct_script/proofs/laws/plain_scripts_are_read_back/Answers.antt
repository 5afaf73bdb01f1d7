use Rattle.std.proofs.Common.{◌≡◌, ◌⊎◌, inl, inr, List, Result, Ok, Err, refl, sym, ap, subst, ◌∙◌}
use Rattle.std.specs.Str.Lines.{lines}
use Rattle.ct_script.specs.Statements.{Statement, phases_of}
use Rattle.ct_script.specs.Schedule.{script_of}
use Rattle.ct_script.specs.Answer.{Reads}
use Rattle.ct_script.specs.Plain.{ArePlain, written}
use Rattle.ct_script.specs.declared.script.Script.{Script}
use Rattle.ct_script.specs.declared.error.ScriptError.{ScriptError}
use Rattle.ct_script.specs.declared.error.ScriptError.TheVariants.{BadScript, Memory}
use Rattle.ct_script.proofs.PlainRuns.{reads_back}
use Rattle.ct_script.proofs.laws.plain_scripts_are_read_back.Goals as goal

pub returns-clause-phases : goal.returns-clause-phases
returns-clause-phases c = reads_back

-- of the answers to a plain script none is a fault
one_of : (phases : List (List Statement)) → ArePlain phases → (answer : Result Script ScriptError)
    → Reads (written phases) answer → (answer ≡ Ok (script_of phases)) ⊎ (answer ≡ Err Memory)
one_of phases plain (Ok script) read = inl (ap (λ s. Ok s) (read.1 ∙ ap script_of (reads_back phases plain).1))
one_of phases plain (Err (BadScript line rule)) read = let none = (reads_back phases plain).0 in cc
one_of phases plain (Err Memory) read = inr refl

each_of : (phases : List (List Statement)) → ArePlain phases → (answer : Result Script ScriptError)
    → (answer ≡ Ok (script_of phases)) ⊎ (answer ≡ Err Memory) → Reads (written phases) answer
each_of phases plain answer (inl e) =
    let back = reads_back phases plain in
    subst (Reads (written phases)) (sym e) (back.0, ap script_of (sym back.1))
each_of phases plain answer (inr e) = subst (Reads (written phases)) (sym e) tt

pub returns-clause-answer : goal.returns-clause-answer
returns-clause-answer c = λ phases plain answer. (one_of phases plain answer, each_of phases plain answer)

pub returns-clause-apart : goal.returns-clause-apart
returns-clause-apart c = λ phases other plain also differ e.
    differ (sym (reads_back phases plain).1 ∙ ap (λ bytes. phases_of (lines bytes)) e ∙ (reads_back other also).1)
