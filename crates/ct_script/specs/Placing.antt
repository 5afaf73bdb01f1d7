-- How a statement is put into the lanes of its phase, step by step, as the code does it. That the lanes are then those that the
-- definition of a script gives is proved of these alone, so no promise speaks of them.
use Rattle.std.specs.Prelude.{◌≡◌, ℕ, ◌+◌, count_by, nat_eq, zero, suc, List, [], ◌∷◌, ◌++◌, slice_index, if◌then◌else◌}
use Rattle.std.specs.List.{list_any, position_or_len}
use Rattle.ct_script.specs.Statements.{Statement}
use Rattle.ct_script.specs.Schedule.{is_of, texts_of}
use Rattle.ct_script.specs.declared.script.Lane.{Lane}

-- lanes, with a text added to the one at an index
abbrev pub with_text_at : ℕ → List ℕ → List Lane → List Lane
with_text_at n text [] = []
with_text_at zero text (lane ∷ lanes) = record lane { statements = lane.statements ++ text ∷ [] } ∷ lanes
with_text_at (suc n) text (lane ∷ lanes) = lane ∷ with_text_at n text lanes

-- lanes of these sessions, with a statement in that of its session, which is the last where there was none
abbrev pub placed : List ℕ → List Lane → ℕ → Statement → List Lane
placed sessions lanes first statement =
    with_text_at (position_or_len (nat_eq statement.session) sessions) statement.text
    (if list_any (nat_eq statement.session) sessions then lanes
    else lanes ++ record { session = statement.session; first = first; statements = [] } ∷ [])

-- a session's lane of a phase, by how many statements each session had before
abbrev pub lane_from : List ℕ → List Statement → ℕ → Lane
lane_from counts phase session = record {
  session = session;
  first = slice_index counts session + 1;
  statements = texts_of session phase;
}

-- the counts of statements by session, after those of a phase
abbrev pub Counted : List ℕ → List Statement → List ℕ → Type 0
Counted old phase new = (session : ℕ) → slice_index new session ≡ slice_index old session + count_by (is_of session) phase
