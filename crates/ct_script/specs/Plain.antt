-- Scripts that are written out plainly: a statement begins a line with its session and its text, each line ends in an LF, and nothing
-- else stands there but a line `#phase` between two phases: no comment, no blank line, no CR before an LF. The form is this project's own.
use Rattle.std.specs.Prelude.{◌≡◌, ◌≢◌, ℕ, ◌-◌, ◌<◌, ◌≤◌, ◌==◌, true, false, codes, List, [], ◌∷◌, ◌++◌, length, slice_index}
use Rattle.std.specs.List.{list_all, flat_map, join_by, slice_split, AllByRecursion}
use Rattle.std.specs.Str.{IsUtf8}
use Rattle.std.specs.Fmt.{decimal}
use Rattle.ct_script.specs.Forms.{is_blank}
use Rattle.ct_script.specs.Faults.{most_text}
use Rattle.ct_script.specs.Statements.{Statement}

-- the first and the last byte of a line, or 0 where it has none
abbrev pub first_byte : List ℕ → ℕ
first_byte line = slice_index line 0

abbrev pub last_byte : List ℕ → ℕ
last_byte line = slice_index line (length line - 1)

-- the first line of a plain text: it has no blank at either end, does not begin with `@`, and has no CR at its end, which would be
-- dropped; it may be empty
pub record IsFirstLine (line : List ℕ) : Type 0 where
  pub no_blank_before : is_blank (first_byte line) ≡ false
  pub no_command : first_byte line ≢ 64
  pub no_blank_behind : is_blank (last_byte line) ≡ false
  pub no_return : last_byte line ≢ 13

-- each further line: it begins with a blank, has more than blanks, and has no CR at its end
pub record IsFurtherLine (line : List ℕ) : Type 0 where
  pub indented : is_blank (first_byte line) ≡ true
  pub not_blank : list_all is_blank line ≡ false
  pub no_return : last_byte line ≢ 13

abbrev pub ArePlainLines : List (List ℕ) → Type 0
ArePlainLines [] = Unit {0}
ArePlainLines (first ∷ further) = IsFirstLine first × AllByRecursion IsFurtherLine further

-- the lines of a text, between its LFs; there is one more than there are LFs
abbrev pub text_lines : List ℕ → List (List ℕ)
text_lines text = slice_split (λ byte. byte == 10) text

pub record IsPlainText (text : List ℕ) : Type 0 where
  pub utf8 : IsUtf8 text
  pub short : length text ≤ most_text
  pub lines : ArePlainLines (text_lines text)

pub record IsPlain (statement : Statement) : Type 0 where
  pub from_1 : 1 ≤ statement.session
  pub to_32 : statement.session ≤ 32
  pub text : IsPlainText statement.text

-- phases of plain statements, at least one; a phase may have none
pub record ArePlain (phases : List (List Statement)) : Type 0 where
  pub some : 0 < length phases
  pub each : AllByRecursion (AllByRecursion IsPlain) phases

abbrev pub written_statement : Statement → List ℕ
written_statement statement = decimal statement.session ++ codes ": " ++ statement.text ++ codes "\n"

-- the bytes of phases that are written out
abbrev pub written : List (List Statement) → List ℕ
written phases = join_by (flat_map written_statement) (codes "#phase\n") phases
