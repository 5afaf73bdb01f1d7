-- The statements of a script's lines, in phases. A line of the kind `Mark` ends a phase and begins another.
use Rattle.std.specs.Prelude.{ℕ, List, [], ◌∷◌, ◌++◌}
use Rattle.std.specs.List.{onto_first}
use Rattle.ct_script.specs.Forms.{kind_of, head_text}
use Rattle.ct_script.specs.declared.kind.Kind.{Kind}
use Rattle.ct_script.specs.declared.kind.Kind.TheVariants.{Ignored, Mark, Head, More, Fault}

pub record Statement : Type 0 where
  pub session : ℕ
  pub text : List ℕ

-- what a line after a statement's first line adds to its text, before what the later lines add
abbrev pub added : Kind → List ℕ → List ℕ → List ℕ
added More line later = 10 ∷ line ++ later
added Ignored line later = later
added (Fault rule) line later = later
added Mark line later = []
added (Head session) line later = []

-- what the lines after a statement's first line add to its text: each continuation whole, behind an LF, up to the next
-- statement or the end of the phase; ignored lines may stand between
unfoldable pub continued : List (List ℕ) → List ℕ
continued [] = []
continued (line ∷ more) = added (kind_of line) line (continued more)

-- the phases that a line begins, before those of the later lines: a statement goes before those of its phase
abbrev pub begun : Kind → List ℕ → List (List ℕ) → List (List Statement) → List (List Statement)
begun Mark line more phases = [] ∷ phases
begun (Head session) line more phases =
    onto_first (record { session = session; text = head_text line ++ continued more }) phases
begun Ignored line more phases = phases
begun More line more phases = phases
begun (Fault rule) line more phases = phases

-- the phases of lines, each the list of its statements; there is one more than there are marks
unfoldable pub phases_of : List (List ℕ) → List (List Statement)
phases_of [] = [] ∷ []
phases_of (line ∷ more) = begun (kind_of line) line more (phases_of more)
