-- The first line at fault, and the least rule that it breaks.
use Rattle.std.specs.Prelude.{ℕ, ◌+◌, nat_lt, List, [], ◌∷◌, ◌++◌, length, Option, None, Some, option_and_then, if◌then◌else◌}
use Rattle.std.specs.List.{last_or}
use Rattle.ct_script.specs.Forms.{kind_of, head_text}
use Rattle.ct_script.specs.Statements.{Statement, phases_of}
use Rattle.ct_script.specs.declared.kind.Kind.{Kind}
use Rattle.ct_script.specs.declared.kind.Kind.TheVariants.{Ignored, Mark, Head, More, Fault}

-- the most bytes of a statement's text
abbrev pub most_text : ℕ
most_text = 65536

-- the last statement of the last phase, which a continuation continues
abbrev pub last_statement : List (List Statement) → Option Statement
last_statement phases = option_and_then (λ phase. last_or None phase) (last_or None phases)

-- rule 9, where a text has this many bytes
abbrev pub too_long : ℕ → Option ℕ
too_long bytes = if nat_lt most_text bytes then Some 9 else None

-- the least rule that a line of a kind breaks, after the statement before it in its phase, if there is one
abbrev pub broken_by : Kind → List ℕ → Option Statement → Option ℕ
broken_by Ignored line before = None
broken_by Mark line before = None
broken_by (Head session) line before = too_long (length (head_text line))
broken_by More line None = Some 5
broken_by More line (Some statement) = too_long (length statement.text + 1 + length line)
broken_by (Fault rule) line before = Some rule

-- the least rule that a line breaks, after the lines before it
unfoldable pub broken_after : List (List ℕ) → List ℕ → Option ℕ
broken_after before line = broken_by (kind_of line) line (last_statement (phases_of before))

-- a line's number with the rule that it breaks, or else what a later line gives
abbrev pub or_later : Option ℕ → ℕ → Option (ℕ × ℕ) → Option (ℕ × ℕ)
or_later None number later = later
or_later (Some rule) number later = Some (number, rule)

-- the number of the first line at fault with the least rule that it breaks; lines are counted from 1, those before included
unfoldable pub first_fault : List (List ℕ) → List (List ℕ) → Option (ℕ × ℕ)
first_fault before [] = None
first_fault before (line ∷ more) =
    or_later (broken_after before line) (length before + 1) (first_fault (before ++ line ∷ []) more)
