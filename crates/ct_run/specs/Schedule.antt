-- What a script is played as: its statements in their order, and the command that each text is. This project's own.
use Rattle.std.specs.Prelude.{◌≡◌, ℕ, ◌+◌, List, [], ◌∷◌, flat_map, ◌⊎◌, Result, Ok, Err}
use Rattle.ct_types.specs.declared.refusal.Refusal.{Refusal}
use Rattle.ct_types.specs.declared.refusal.Refusal.TheVariants.{Syntax, Memory}
use Rattle.ct_types.specs.declared.stmt.Stmt.{Stmt}
use Rattle.ct_lexer.specs.declared.token.Token.{Token}
use Rattle.ct_lexer.specs.Cutting.{IsCut, IsStuck}
use Rattle.ct_parser.specs.Exact.{Parsed}
use Rattle.ct_script.specs.declared.script.Lane.{Lane}
use Rattle.ct_script.specs.declared.script.Phase.{Phase}
use Rattle.ct_types.specs.declared.command.Command.{Command}
use Rattle.ct_types.specs.declared.command.Command.TheVariants.{Sql, Wrong}
use Rattle.ct_types.specs.declared.command.Journaled.{Journaled}

-- ---- the command of a text

-- the text is cut into tokens, and the parser has this answer to them
abbrev pub IsAnswered : List ℕ → Result Stmt Refusal → Type 0
IsAnswered text answer = (tokens : List Token) × IsCut text tokens × Parsed text tokens answer

-- A text is the one tree that its tokens spell, or it is wrong: at the place where no token begins, or as the parser refuses its
-- tokens. Want of memory is never a command, and no text is a command of a script yet.
abbrev pub Means : List ℕ → Command → Type 0
Means text (Sql tree) = IsAnswered text (Ok tree)
Means text (Wrong Memory) = ⊥
Means text (Wrong (Syntax at)) = IsStuck text at ⊎ IsAnswered text (Err (Syntax at))
Means text (Wrong refusal) = IsAnswered text (Err refusal)
Means text other = ⊥

-- ---- the statements of a phase

-- a statement of a session, by its number there, with its text
pub record Numbered : Type 0 where
  pub session : ℕ
  pub number : ℕ
  pub text : List ℕ

-- each text of a session is a statement, and its number is one more than that of the one before
abbrev pub numbered_from : ℕ → ℕ → List (List ℕ) → List Numbered
numbered_from session number [] = []
numbered_from session number (text ∷ texts) = record { session = session; number = number; text = text } ∷ numbered_from session (number + 1) texts

-- a lane has the statements of one session, in order, the first with the lane's first number
abbrev pub numbered_in_lane : Lane → List Numbered
numbered_in_lane lane = numbered_from lane.session lane.first lane.statements

-- a phase has the statements of its lanes: one session runs after the other, in the order in which the phase names them
abbrev pub numbered_in : Phase → List Numbered
numbered_in phase = flat_map numbered_in_lane phase.sessions

-- ---- journals of them

-- an entry is of a statement where both have one session and number, and the entry's command is what the text means
pub record IsOf (statement : Numbered) (one : Journaled) : Type 0 where
  pub session : one.session ≡ statement.session
  pub number : one.number ≡ statement.number
  pub means : Means statement.text one.what

-- the journal has an entry for each of the statements, in their order, and no other
abbrev pub IsInOrder : List Numbered → List Journaled → Type 0
IsInOrder [] [] = Unit {0}
IsInOrder (statement ∷ others) (one ∷ more) = IsOf statement one × IsInOrder others more
IsInOrder [] (one ∷ more) = ⊥
IsInOrder (statement ∷ others) [] = ⊥

-- each phase has a journal, which has the phase's statements
abbrev pub AreInOrder : List Phase → List (List Journaled) → Type 0
AreInOrder [] [] = Unit {0}
AreInOrder (phase ∷ phases) (journal ∷ journals) = IsInOrder (numbered_in phase) journal × AreInOrder phases journals
AreInOrder [] (journal ∷ journals) = ⊥
AreInOrder (phase ∷ phases) [] = ⊥
