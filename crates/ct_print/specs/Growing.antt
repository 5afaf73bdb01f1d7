-- A transcript while it grows: by a line before each phase but the first, and by a block for each entry. This project's own.
use Rattle.std.specs.Prelude.{ℕ, ◌+◌, ◌||◌, Bool, true, false, codes, List, [], ◌∷◌, ◌++◌, fold, flat_map, sum_by, length, if◌then◌else◌}
use Rattle.std.specs.List.{list_any}
use Rattle.ct_types.specs.declared.command.Journaled.{Journaled}
use Rattle.ct_state.specs.Replies.{is_memory}
use Rattle.ct_machine.specs.Transcript.{block_text, run_text}

-- its text, whether a phase has begun, the place of the next block, and whether a reply said that memory was wanting
pub record Growing : Type 0 where
  pub text : List ℕ
  pub begun : Bool
  pub next : ℕ
  pub wanted : Bool

-- nothing is written yet
abbrev pub nothing : Growing
nothing = record { text = []; begun = false; next = 1; wanted = false }

-- a phase begins: with its line, but for the first
abbrev pub with_phase : Growing → Growing
with_phase it = record { text = if it.begun then it.text ++ codes "#phase\n" else it.text; begun = true; next = it.next; wanted = it.wanted }

-- a block more
abbrev pub with_block : Growing → Journaled → Growing
with_block it one = record { text = it.text ++ block_text it.next one; begun = it.begun; next = it.next + 1; wanted = it.wanted || is_memory one.reply }

-- a block for each entry of a journal
abbrev pub with_journal : Growing → List Journaled → Growing
with_journal it journal = fold with_block it journal

abbrev pub has_begun : List (List Journaled) → Bool
has_begun [] = false
has_begun (journal ∷ more) = true

-- the transcript of a run, by the journals of its phases
abbrev pub grown : List (List Journaled) → Growing
grown journals = record {
  text = run_text journals;
  begun = has_begun journals;
  next = sum_by length journals + 1;
  wanted = list_any (λ one. is_memory one.reply) (flat_map (λ journal. journal) journals);
}
