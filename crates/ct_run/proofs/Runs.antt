-- Bytes have one run and one transcript, and a call without faults completes.
use Rattle.std.proofs.Common.{◌≡◌, ◌≤◌, ◌⊎◌, ℕ, inl, inr, Bool, ◌||◌, List, [], ◌∷◌, ◌++◌, length, Option, None, Some, Ok, String, Global, refl, sym, ap, subst, ◌∙◌, append-nil, length-append, arith}
use Rattle.std.specs.Io.KnownBytes.{Appends, Consumes, IsAtEnd}
use Rattle.std.specs.List.{list_any}
use Rattle.std.proofs.lemmas.List.Folds.{list_any-append}
use Rattle.ct_faults.specs.Bytes.{most_bytes, TakesTooMany}
use Rattle.ct_types.specs.declared.command.Journaled.{Journaled}
use Rattle.ct_model.specs.Apply.{no_db}
use Rattle.ct_state.specs.Machine.{opening}
use Rattle.ct_machine.specs.Play.{IsWhole}
use Rattle.ct_machine.specs.Transcript.{run_text}
use Rattle.ct_machine.proofs.Plays.{whole_plays}
use Rattle.ct_script.specs.Answer.{Reads}
use Rattle.ct_script.specs.declared.script.Script.{Script}
use Rattle.ct_run.specs.declared.status.Status.{Status}
use Rattle.ct_run.specs.declared.status.Status.TheVariants.{Done, Usage, BadScript, ReadFault, WriteFault, DiskFault, Foreign, Memory, TooLarge}
use Rattle.ct_run.specs.Schedule.{AreInOrder}
use Rattle.ct_run.specs.Top.{IsRun, IsRunOf, SourceChange, SinkChange, DiskChange, SourceFailed, SinkFailed, TellsFault, Ends, all_of}
use Rattle.ct_run.proofs.Calls.{all_calls, same_journals}

-- ---- one run

pub one_run : (bytes : List ℕ) (script other : Script) (journals again : List (List Journaled)) → Reads bytes (Ok script) → Reads bytes (Ok other)
    → IsRunOf script journals → IsRunOf other again → IsWhole (all_of journals) → IsWhole (all_of again) → journals ≡ again
one_run bytes script other journals again here there run rerun whole also =
    let same : script ≡ other = here.1 ∙ sym there.1 in
    let in_order : AreInOrder other.phases journals = subst (λ (s : Script). AreInOrder s.phases journals) same run.in_order in
    same_journals other.phases journals again in_order rerun.in_order
    (whole_plays (opening no_db) (all_of journals) (all_of again) (all_calls other.phases journals again in_order rerun.in_order) run.is_play rerun.is_play whole also)

-- ---- one transcript

-- what a source gave up to its end is what it had left
read_whole : (before now : Option (List ℕ)) (taken bytes : List ℕ) → Consumes before now taken → IsAtEnd now → before ≡ Some bytes → taken ≡ bytes
read_whole None now taken bytes consumes ended e = cc
read_whole (Some xs) None taken bytes consumes ended e = absurd consumes
read_whole (Some xs) (Some ys) taken bytes consumes ended e =
    let all : taken ++ ys ≡ taken = ap (λ rest. taken ++ rest) ended ∙ append-nil taken in
    cc

-- a call of status 0 added the transcript of a whole run of what its source had left
record Ran (sink : SinkChange) (bytes : List ℕ) : Type 0 where
  script : Script
  journals : List (List Journaled)
  reads : Reads bytes (Ok script)
  is_run : IsRunOf script journals
  is_whole : IsWhole (all_of journals)
  appends : Appends sink.before sink.now (run_text journals)

ran : (words : List (String Global)) (source : SourceChange) (sink : SinkChange) (disk : DiskChange) (bytes : List ℕ) → Ends Done words source sink disk
    → source.before ≡ Some bytes → Ran sink bytes
ran words source sink disk bytes ends left =
    let answers = ends.1 in
    let same : answers.0 ≡ bytes = read_whole source.before source.now answers.0 bytes answers.1.taken answers.1.ended left in
    let plays = answers.2 in
    record {
      script = plays.0;
      journals = plays.2.0;
      reads = subst (λ b. Reads b (Ok plays.0)) same plays.1;
      is_run = plays.2.1;
      is_whole = plays.2.3.0;
      appends = plays.2.3.1;
    }

pub one_transcript : (words others : List (String Global)) (source source' : SourceChange) (sink sink' : SinkChange) (disk disk' : DiskChange) (bytes : List ℕ)
    → Ends Done words source sink disk → Ends Done others source' sink' disk' → source.before ≡ Some bytes → source'.before ≡ Some bytes
    → (text : List ℕ) × Appends sink.before sink.now text × Appends sink'.before sink'.now text
one_transcript words others source source' sink sink' disk disk' bytes ends also left same =
    let here = ran words source sink disk bytes ends left in
    let there = ran others source' sink' disk' bytes also same in
    let one : there.journals ≡ here.journals = one_run bytes there.script here.script there.journals here.journals there.reads here.reads there.is_run here.is_run there.is_whole here.is_whole in
    (run_text here.journals, here.appends, subst (λ journals. Appends sink'.before sink'.now (run_text journals)) one there.appends)

-- ---- want of memory

-- a reply of a run says so where one of a phase does
pub any_of_all : (p : Journaled → Bool) (journals : List (List Journaled)) → list_any p (all_of journals) ≡ list_any (λ journal. list_any p journal) journals
any_of_all p [] = refl
any_of_all p (journal ∷ journals) = list_any-append p journal (all_of journals) ∙ ap (λ b. list_any p journal || b) (any_of_all p journals)

-- ---- completeness

-- a source that has left so many bytes at most gives no more
few_taken : (before now : Option (List ℕ)) (bytes : List ℕ) → before ≡ Some bytes → length bytes ≤ most_bytes → TakesTooMany before now → ⊥
few_taken None now bytes e few taken = cc
few_taken (Some xs) None bytes e few (taken, consumes, many) = consumes
few_taken (Some xs) (Some ys) bytes e few (taken, consumes, many) =
    let same : bytes ≡ taken ++ ys = cc in
    omega (arith, ap length same, length-append taken ys)

-- bytes that are a script have no line at fault
no_fault : (bytes read : List ℕ) (script : Script) (sink : SinkChange) → read ≡ bytes → Reads bytes (Ok script) → TellsFault sink read → ⊥
no_fault bytes read script sink same reads (line, rule, fault, said) =
    let whole : Reads read (Ok script) = subst (λ b. Reads b (Ok script)) (sym same) reads in
    different _ _ fault whole.0
  where
    different : (f : Option (ℕ × ℕ)) (told : ℕ × ℕ) → f ≡ Some told → f ≡ None → ⊥
    different f told some none = cc

pub completes : (status : Status) (words : List (String Global)) (source : SourceChange) (sink : SinkChange) (disk : DiskChange) (bytes : List ℕ) (script : Script)
    → Ends status words source sink disk → IsRun words → source.before ≡ Some bytes → Reads bytes (Ok script) → length bytes ≤ most_bytes
    → (SourceFailed source → ⊥) → (SinkFailed sink → ⊥) → (status ≡ Done) ⊎ (status ≡ Memory)
completes Done words source sink disk bytes script ends is left reads few read written = inl refl
completes Memory words source sink disk bytes script ends is left reads few read written = inr refl
completes Usage words source sink disk bytes script ends is left reads few read written = absurd (ends.0 is)
completes BadScript words source sink disk bytes script ends is left reads few read written =
    let answers = ends.1 in
    absurd (no_fault bytes answers.0 script sink (read_whole source.before source.now answers.0 bytes answers.1.taken answers.1.ended left) reads answers.2)
completes ReadFault words source sink disk bytes script ends is left reads few read written = absurd (read ends.1.0)
completes WriteFault words source sink disk bytes script ends is left reads few read written = absurd (written ends.1.2.2.3.1)
completes DiskFault words source sink disk bytes script ends is left reads few read written = absurd ends.1
completes Foreign words source sink disk bytes script ends is left reads few read written = absurd ends.1
completes TooLarge words source sink disk bytes script ends is left reads few read written = absurd (few_taken source.before source.now bytes left few ends.1.0)
