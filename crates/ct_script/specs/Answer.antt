-- What reading the bytes of a script answers.
use Rattle.std.specs.Prelude.{◌≡◌, ℕ, List, [], None, Some, Result, Ok, Err}
use Rattle.std.specs.Str.Lines.{lines}
use Rattle.ct_script.specs.Statements.{phases_of}
use Rattle.ct_script.specs.Faults.{first_fault}
use Rattle.ct_script.specs.Schedule.{script_of}
use Rattle.ct_script.specs.declared.script.Script.{Script}
use Rattle.ct_script.specs.declared.error.ScriptError.{ScriptError}
use Rattle.ct_script.specs.declared.error.ScriptError.TheVariants.{BadScript, Memory}

-- The lines end at each LF; the last one may lack it, and a CR just before an LF is dropped. Where no line is at fault the script is
-- that of the lines, else the answer is the first fault.
abbrev pub Reads : List ℕ → Result Script ScriptError → Type 0
Reads bytes (Ok script) = (first_fault [] (lines bytes) ≡ None) × (script ≡ script_of (phases_of (lines bytes)))
Reads bytes (Err (BadScript line rule)) = first_fault [] (lines bytes) ≡ Some (line, rule)
Reads bytes (Err Memory) = Unit {0}
