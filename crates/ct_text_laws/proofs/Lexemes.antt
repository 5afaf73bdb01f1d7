-- The words of the lexemes of a text of code points are of code points, and so is what a text literal among them stands for.
use Rattle.std.proofs.Common.{◌≡◌, ℕ, ◌&&◌, Bool, true, false, List, [], ◌∷◌, refl, ap, arith}
use Rattle.std.specs.List.{AllByRecursion}
use Rattle.std.specs.Str.{IsUtf8, chars, all_scalars}
use Rattle.std.proofs.lemmas.Bool.{and_parts}
use Rattle.std.proofs.lemmas.Str.{IsUtf8-append, IsUtf8-between, IsUtf8-nil, scalars-chars}
use Rattle.ct_lexer.specs.declared.token.Token.{Token}
use Rattle.ct_lexer.specs.Cutting.{IsCut}
use Rattle.ct_lexer.specs.Spans.{AllFit}
use Rattle.ct_lexer.proofs.Spans.{tokens_fit}
use Rattle.ct_grammar.specs.Lexemes.{Lexeme, lexemes}
use Rattle.ct_grammar.specs.Words.{step, added, text_from, text_in}
use Rattle.ct_grammar.proofs.Spans.{from_boundary, to_boundary}

-- the word is of code points
abbrev pub HasCodePoints : Lexeme → Type 0
HasCodePoints x = IsUtf8 x.word

added_utf8 : (belongs : Bool) (c : ℕ) → all_scalars (c ∷ []) ≡ true → IsUtf8 (added belongs c)
added_utf8 true c is = (c ∷ [], (is, refl))
added_utf8 false c is = IsUtf8-nil

text_utf8 : (place : _) (cs : List ℕ) → AllByRecursion (λ c. all_scalars (c ∷ []) ≡ true) cs → IsUtf8 (text_from place cs)
unfolding text_from
text_utf8 place [] are = IsUtf8-nil
text_utf8 place (c ∷ more) are =
    IsUtf8-append (added (step place c).1 c) (text_from (step place c).0 more) (added_utf8 (step place c).1 c are.0) (text_utf8 (step place c).0 more are.1)

each_scalar : (cs : List ℕ) → all_scalars cs ≡ true → AllByRecursion (λ c. all_scalars (c ∷ []) ≡ true) cs
each_scalar [] e = tt
each_scalar (c ∷ cs) e = let parts = and_parts _ (all_scalars cs) e in (ap (λ b. b && true) parts.0, each_scalar cs parts.1)

-- what a text literal stands for is of code points
pub text_in_utf8 : (word : List ℕ) → IsUtf8 word → IsUtf8 (text_in word)
text_in_utf8 word utf8 = text_utf8 _ (chars word) (each_scalar (chars word) (scalars-chars word utf8))

all_have : (text : List ℕ) (tokens : List Token) → IsUtf8 text → AllFit text tokens → AllByRecursion HasCodePoints (lexemes text tokens)
all_have text [] utf8 fit = tt
all_have text (token ∷ tokens) utf8 fit =
    (IsUtf8-between text token.from token.to utf8 (omega (arith, fit.0.rises)) (from_boundary text token fit.0) (to_boundary text token utf8 fit.0), all_have text tokens utf8 fit.1)

pub lexemes_have : (text : List ℕ) (tokens : List Token) → IsUtf8 text → IsCut text tokens → AllByRecursion HasCodePoints (lexemes text tokens)
lexemes_have text tokens utf8 cut = all_have text tokens utf8 (tokens_fit text tokens cut)
