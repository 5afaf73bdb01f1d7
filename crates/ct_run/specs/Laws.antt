-- What follows of the clause of `run_top`. This project's own.
use Rattle.std.specs.Prelude.{◌≡◌, ◌≤◌, ◌⊎◌, ℕ, List, length, String, Ok, Some}
use Rattle.std.specs.Io.KnownBytes.{Appends}
use Rattle.std.specs.declared.alloc.Global.{Global}
use Rattle.ct_faults.specs.Bytes.{most_bytes}
use Rattle.ct_types.specs.declared.command.Command.{Command}
use Rattle.ct_types.specs.declared.command.Journaled.{Journaled}
use Rattle.ct_machine.specs.Play.{IsWhole}
use Rattle.ct_script.specs.Answer.{Reads}
use Rattle.ct_script.specs.declared.script.Script.{Script}
use Rattle.ct_run.specs.Schedule.{Means}
use Rattle.ct_run.specs.Top.{IsRun, IsRunOf, SourceChange, SinkChange, DiskChange, SourceFailed, SinkFailed, Ends, all_of}
use Rattle.ct_run.specs.declared.status.Status.{Status}
use Rattle.ct_run.specs.declared.status.Status.TheVariants.{Done, Memory}

-- the word `run`, a source that has left a script of at most 16,777,216 bytes, and no fault of source or sink come to
-- status 0, or to want of memory
abbrev pub Completes : Type 0
Completes = (status : Status) (words : List (String Global)) (source : SourceChange) (sink : SinkChange) (disk : DiskChange)
    (bytes : List ℕ) (script : Script)
    → Ends status words source sink disk → IsRun words → source.before ≡ Some bytes → Reads bytes (Ok script) → length bytes ≤ most_bytes
    → ¬ SourceFailed source → ¬ SinkFailed sink → (status ≡ Done) ⊎ (status ≡ Memory)

-- a text is at most one command
abbrev pub OneCommand : Type 0
OneCommand = (text : List ℕ) (what other : Command) → Means text what → Means text other → what ≡ other

-- bytes have at most one run in which memory was never wanting
abbrev pub OneRun : Type 0
OneRun = (bytes : List ℕ) (script other : Script) (journals again : List (List Journaled))
    → Reads bytes (Ok script) → Reads bytes (Ok other) → IsRunOf script journals → IsRunOf other again
    → IsWhole (all_of journals) → IsWhole (all_of again) → journals ≡ again

-- two calls of status 0 whose sources had left the same bytes have added the same transcript to their sinks
abbrev pub OneTranscript : Type 0
OneTranscript = (words others : List (String Global)) (source source' : SourceChange) (sink sink' : SinkChange) (disk disk' : DiskChange) (bytes : List ℕ)
    → Ends Done words source sink disk → Ends Done others source' sink' disk' → source.before ≡ Some bytes → source'.before ≡ Some bytes
    → (text : List ℕ) × Appends sink.before sink.now text × Appends sink'.before sink'.now text
