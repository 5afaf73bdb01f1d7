-- The command of a text.
use Rattle.std.proofs.Common.{◌≡◌, ◌≢◌, ◌⊎◌, ℕ, inl, inr, List, Result, Ok, Err, refl, sym, ap, subst, ◌∙◌}
use Rattle.std.specs.Str.{IsUtf8}
use Rattle.ct_types.specs.declared.refusal.Refusal.{Refusal}
use Rattle.ct_types.specs.declared.refusal.Refusal.TheVariants.{Syntax, Memory}
use Rattle.ct_types.specs.declared.stmt.Stmt.{Stmt}
use Rattle.ct_lexer.specs.Cutting.{IsStuck}
use Rattle.ct_lexer.proofs.Cutting.{one_tokens, cut_or_stuck, one_place}
use Rattle.ct_parser.specs.Exact.{Parsed}
use Rattle.ct_parser.proofs.OneAnswer.{answers_once}
use Rattle.ct_types.specs.declared.command.Command.{Command}
use Rattle.ct_types.specs.declared.command.Command.TheVariants.{Sql, Wrong}
use Rattle.ct_run.specs.Meant.{IsMeant}
use Rattle.ct_run.specs.Schedule.{IsAnswered, Means}

-- the parser's refusal, where it is not want of memory
pub means_refused : (text : List ℕ) (refusal : Refusal) → refusal ≢ Memory → IsAnswered text (Err refusal) → Means text (Wrong refusal)
means_refused text Memory other told = absurd (other refl)
means_refused text (Syntax at) other told = inr told
means_refused text refusal other told = told

-- what a text of code points is, is meant by one
pub means_meant : (text : List ℕ) (what : Command) → IsUtf8 text → Means text what → IsMeant what
means_meant text (Sql tree) utf8 (tokens, cut, parsed) = record { text = text; tokens = tokens; code_points = utf8; cut = cut; parsed = parsed }
means_meant text other utf8 means = tt

-- the parser's answer that a command stands for, and the command of an answer
answer_of : Command → Result Stmt Refusal
answer_of (Sql tree) = Ok tree
answer_of (Wrong refusal) = Err refusal
answer_of other = Err Memory

of_answer : Result Stmt Refusal → Command
of_answer (Ok tree) = Sql tree
of_answer (Err refusal) = Wrong refusal

of_answer_of : (text : List ℕ) (what : Command) → Means text what → of_answer (answer_of what) ≡ what
unfolding of_answer answer_of
of_answer_of text (Sql tree) means = refl
of_answer_of text (Wrong refusal) means = refl
of_answer_of text other means = absurd means

-- a text is stuck, or the parser answers it
abbrev IsRead : List ℕ → Command → Type 0
IsRead text what = ((at : ℕ) × (what ≡ Wrong (Syntax at)) × IsStuck text at) ⊎ ((answer_of what ≢ Err Memory) × IsAnswered text (answer_of what))

read : (text : List ℕ) (what : Command) → Means text what → IsRead text what
unfolding answer_of
read text (Sql tree) means = inr (λ e. cc, means)
read text (Wrong Memory) means = absurd means
read text (Wrong (Syntax at)) means = elim means [ inl stuck ↦ inl (at, refl, stuck) | inr told ↦ inr (λ e. cc, told) ]
read text (Wrong refusal) means = inr (λ e. cc, means)
read text other means = absurd means

pub one_command : (text : List ℕ) (what other : Command) → Means text what → Means text other → what ≡ other
one_command text what other means also = by (read text what means) (read text other also)
  where
    by : IsRead text what → IsRead text other → what ≡ other
    by (inl (at, is, stuck)) (inl (place, same, again)) = is ∙ ap (λ n. Wrong (Syntax n)) (one_place text at place stuck again) ∙ sym same
    by (inl (at, is, stuck)) (inr (some, (tokens, cut, parsed))) = absurd (cut_or_stuck text tokens at cut stuck)
    by (inr (some, (tokens, cut, parsed))) (inl (at, is, stuck)) = absurd (cut_or_stuck text tokens at cut stuck)
    by (inr (some, (tokens, cut, parsed))) (inr (more, (others, again, reparsed))) =
        let same : others ≡ tokens = one_tokens text others tokens again cut in
        let answer = answers_once text tokens (answer_of what) (answer_of other) some more parsed (subst (λ found. Parsed text found (answer_of other)) same reparsed) in
        sym (of_answer_of text what means) ∙ ap of_answer answer ∙ of_answer_of text other also
