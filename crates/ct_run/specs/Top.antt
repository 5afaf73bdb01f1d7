-- What a call of `run_top` is, by its status. This project's own.
use Rattle.std.specs.Prelude.{◌≡◌, ◌≤◌, ◌⊎◌, ℕ, codes, List, [], ◌∷◌, ◌++◌, flat_map, length, map, Option, Ok, Err, String, string_bytes}
use Rattle.std.specs.Fmt.{decimal}
use Rattle.std.specs.declared.alloc.Global.{Global}
use Rattle.std.specs.Io.KnownBytes.{Appends, Consumes, IsAtEnd, Keeps}
use Rattle.ct_types.specs.declared.command.Journaled.{Journaled}
use Rattle.ct_faults.specs.Bytes.{most_bytes, AppendsFront, TakesAtMost, TakesTooMany}
use Rattle.ct_faults.specs.Causes.{Rose}
use Rattle.ct_model.specs.Apply.{no_db}
use Rattle.ct_state.specs.Machine.{opening}
use Rattle.ct_machine.specs.Play.{IsPlay, IsWhole}
use Rattle.ct_machine.specs.Transcript.{run_text}
use Rattle.ct_machine_laws.specs.Sound.{StaySound}
use Rattle.ct_script.specs.Answer.{Reads}
use Rattle.ct_script.specs.declared.error.ScriptError.TheVariants as script
use Rattle.ct_script.specs.declared.script.Script.{Script}
use Rattle.ct_run.specs.Schedule.{AreInOrder}
use Rattle.ct_run.specs.declared.status.Status.{Status}
use Rattle.ct_run.specs.declared.status.Status.TheVariants.{Done, Usage, BadScript, ReadFault, WriteFault, DiskFault, Foreign, Memory, TooLarge}

-- the number of a status
abbrev pub code_of : Status → ℕ
code_of Done = 0
code_of Usage = 1
code_of BadScript = 2
code_of ReadFault = 3
code_of WriteFault = 4
code_of DiskFault = 5
code_of Foreign = 6
code_of Memory = 7
code_of TooLarge = 8

-- the words are `run` alone
abbrev pub IsRun : List (String Global) → Type 0
IsRun words = map string_bytes words ≡ codes "run" ∷ []

-- what a source had left, where it tells it, and how often it had failed, before a call and after it
pub record SourceChange : Type 0 where
  pub before : Option (List ℕ)
  pub now : Option (List ℕ)
  pub faults_before : ℕ
  pub faults_now : ℕ

-- what a sink held, where it tells it, and how often it had failed, before a call and after it
pub record SinkChange : Type 0 where
  pub before : Option (List ℕ)
  pub now : Option (List ℕ)
  pub faults_before : ℕ
  pub faults_now : ℕ

-- how often a disk had failed, before a call and after it
pub record DiskChange : Type 0 where
  pub faults_before : ℕ
  pub faults_now : ℕ

-- what changed of a source in a call, by what it has left and the count of its faults; and of a sink, by what it holds; and of a disk
abbrev pub source_change : {S : Type 0} → (S → Option (List ℕ)) → (S → ℕ) → S → S → SourceChange
source_change left faults old new = record { before = left old; now = left new; faults_before = faults old; faults_now = faults new }

abbrev pub sink_change : {K : Type 0} → (K → Option (List ℕ)) → (K → ℕ) → K → K → SinkChange
sink_change held faults old new = record { before = held old; now = held new; faults_before = faults old; faults_now = faults new }

abbrev pub disk_change : {D : Type 0} → (D → ℕ) → D → D → DiskChange
disk_change faults old new = record { faults_before = faults old; faults_now = faults new }

-- the source failed in this call
abbrev pub SourceFailed : SourceChange → Type 0
SourceFailed source = Rose source.faults_before source.faults_now

-- the sink failed in this call
abbrev pub SinkFailed : SinkChange → Type 0
SinkFailed sink = Rose sink.faults_before sink.faults_now

-- the source was read to its end, and gave these bytes
pub record ReadsWhole (source : SourceChange) (bytes : List ℕ) : Type 0 where
  pub taken : Consumes source.before source.now bytes
  pub ended : IsAtEnd source.now
  pub few : length bytes ≤ most_bytes

-- the sink got this text, or a front part of it where a write failed
abbrev pub Says : SinkChange → List ℕ → Type 0
Says sink text = Appends sink.before sink.now text ⊎ (AppendsFront sink.before sink.now text × SinkFailed sink)

-- all entries of a run, from the first phase to the last
abbrev pub all_of : List (List Journaled) → List Journaled
all_of journals = flat_map (λ journal. journal) journals

-- the journals of the phases are a play of the script, from the empty database
pub record IsRunOf (script : Script) (journals : List (List Journaled)) : Type 0 where
  pub in_order : AreInOrder script.phases journals
  pub is_play : IsPlay (opening no_db) (all_of journals)

-- each machine that a run passes is sound: its database is valid, its entries apply in turn to the empty one, and what waits in the
-- transactions of its sessions applies to it
abbrev pub IsSoundThroughout : List (List Journaled) → Type 0
IsSoundThroughout journals = StaySound (opening no_db) (all_of journals)

-- what the sink got of the transcript, by the status: at status 0 all of it, and no reply says that memory was wanting; at
-- 4 a front part, since a write failed, and no reply says so either; at 7 a front part, which may be none or all of it;
-- no other status comes of a play
abbrev pub Writes : Status → SinkChange → List (List Journaled) → Type 0
Writes Done sink journals = IsWhole (all_of journals) × Appends sink.before sink.now (run_text journals)
Writes WriteFault sink journals = IsWhole (all_of journals) × SinkFailed sink × AppendsFront sink.before sink.now (run_text journals)
Writes Memory sink journals = AppendsFront sink.before sink.now (run_text journals)
Writes other sink journals = ⊥

-- a run of the script, which is sound throughout, was written
abbrev pub PlaysScript : Status → SinkChange → Script → Type 0
PlaysScript status sink script = (journals : List (List Journaled)) × IsRunOf script journals × IsSoundThroughout journals × Writes status sink journals

-- the bytes are a script, and a run of it was written
abbrev pub PlaysBytes : Status → SinkChange → List ℕ → Type 0
PlaysBytes status sink bytes = (script : Script) × Reads bytes (Ok script) × PlaysScript status sink script

-- the line that tells the first line at fault and the least rule that it breaks
abbrev pub fault_text : ℕ → ℕ → List ℕ
fault_text line rule = codes "BadScript line " ++ decimal line ++ codes " rule " ++ decimal rule ++ codes "\n"

-- the bytes are no script, and their first fault was written
abbrev pub TellsFault : SinkChange → List ℕ → Type 0
TellsFault sink bytes = (line : ℕ) × (rule : ℕ) × Reads bytes (Err (script.BadScript line rule)) × Says sink (fault_text line rule)

-- what comes of the bytes that were read
abbrev pub Answers : Status → SinkChange → List ℕ → Type 0
Answers Done sink bytes = PlaysBytes Done sink bytes
Answers WriteFault sink bytes = PlaysBytes WriteFault sink bytes
Answers Memory sink bytes = Keeps sink.before sink.now ⊎ PlaysBytes Memory sink bytes
Answers BadScript sink bytes = TellsFault sink bytes
Answers other sink bytes = ⊥

-- the source was read to its end, and its bytes were answered
abbrev pub AnswersAll : Status → SourceChange → SinkChange → Type 0
AnswersAll status source sink = (bytes : List ℕ) × ReadsWhole source bytes × Answers status sink bytes

-- what a run of the word `run` is, by its status; there is no disk yet, so it neither fails nor is foreign
abbrev pub Runs : Status → SourceChange → SinkChange → DiskChange → Type 0
Runs Done source sink disk = AnswersAll Done source sink
Runs WriteFault source sink disk = AnswersAll WriteFault source sink
Runs BadScript source sink disk = AnswersAll BadScript source sink
Runs ReadFault source sink disk = SourceFailed source × TakesAtMost source.before source.now × Says sink (codes "ReadFault\n")
Runs TooLarge source sink disk = TakesTooMany source.before source.now × Says sink (codes "TooLarge\n")
Runs Memory source sink disk = (TakesAtMost source.before source.now × Keeps sink.before sink.now) ⊎ AnswersAll Memory source sink
Runs DiskFault source sink disk = ⊥
Runs Foreign source sink disk = ⊥
Runs Usage source sink disk = ⊥

-- what a call is, by its status and its words
abbrev pub Ends : Status → List (String Global) → SourceChange → SinkChange → DiskChange → Type 0
Ends Usage words source sink disk = (¬ IsRun words) × Keeps source.before source.now × Says sink (codes "Usage\n")
Ends status words source sink disk = IsRun words × Runs status source sink disk
