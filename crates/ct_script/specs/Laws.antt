-- What follows of the reading of scripts.
use Rattle.std.specs.Prelude.{◌≡◌, ◌≢◌, ◌↔◌, ◌⊎◌, ◌≤◌, ℕ, List, [], None, length, Result, Ok, Err}
use Rattle.std.specs.List.{AllByRecursion}
use Rattle.std.specs.Str.Lines.{lines}
use Rattle.ct_script.specs.Statements.{Statement, phases_of}
use Rattle.ct_script.specs.Faults.{first_fault}
use Rattle.ct_script.specs.Schedule.{script_of}
use Rattle.ct_script.specs.Answer.{Reads}
use Rattle.ct_script.specs.Plain.{ArePlain, written}
use Rattle.ct_script.specs.Size.{IsWithin}
use Rattle.ct_script.specs.declared.script.Script.{Script}
use Rattle.ct_script.specs.declared.error.ScriptError.{ScriptError}
use Rattle.ct_script.specs.declared.error.ScriptError.TheVariants.{Memory}

-- of plain phases that are written out, no line is at fault, and the lines have these phases
abbrev pub AreReadBack : Type 0
AreReadBack = (phases : List (List Statement)) → ArePlain phases
    → (first_fault [] (lines (written phases)) ≡ None) × (phases_of (lines (written phases)) ≡ phases)

-- so to read them answers their script, or that memory was wanting, and nothing else
abbrev pub AreAnswered : Type 0
AreAnswered = (phases : List (List Statement)) → ArePlain phases → (answer : Result Script ScriptError)
    → Reads (written phases) answer ↔ (answer ≡ Ok (script_of phases)) ⊎ (answer ≡ Err Memory)

-- and phases that differ are written differently
abbrev pub AreWrittenApart : Type 0
AreWrittenApart = (phases other : List (List Statement)) → ArePlain phases → ArePlain other → phases ≢ other → written phases ≢ written other

-- where no line is at fault, and none has a CR but the one before its LF, a script has the plain form of its phases, which reads the same
abbrev pub HasPlainForm : Type 0
HasPlainForm = (bytes : List ℕ) (script : Script) → AllByRecursion (AllByRecursion (λ byte. byte ≢ 13)) (lines bytes) → Reads bytes (Ok script)
    → ArePlain (phases_of (lines bytes)) × Reads (written (phases_of (lines bytes))) (Ok script)

-- two answers to the same bytes, in which memory was not wanting, are one
abbrev pub OneAnswer : Type 0
OneAnswer = (bytes : List ℕ) (answer other : Result Script ScriptError) → answer ≢ Err Memory → other ≢ Err Memory
    → Reads bytes answer → Reads bytes other → answer ≡ other

-- the script of so many bytes at most has at most so many statements, numbered up to that, with no text that is too long
abbrev pub AreWithin : Type 0
AreWithin = (bytes : List ℕ) (script : Script) (most : ℕ) → length bytes ≤ most → Reads bytes (Ok script) → IsWithin most script
