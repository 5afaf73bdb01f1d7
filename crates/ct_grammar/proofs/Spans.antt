-- Where a text may be cut by its tokens.
use Rattle.std.proofs.Common.{◌≡◌, ℕ, suc, ◌+◌, ◌-◌, ◌<◌, List, [], ◌∷◌, length, false, refl, ap, subst, arith}
use Rattle.std.specs.Str.{IsUtf8, IsCharBoundary}
use Rattle.std.proofs.lemmas.Str.{IsCharBoundary-before_ascii, IsCharBoundary-after_ascii}
use Rattle.ct_lexer.specs.declared.token.Token.{Token}
use Rattle.ct_lexer.specs.Spans.{Fits}
use Rattle.std.proofs.Math.Bool.{and-false}
use Rattle.ct_grammar.specs.Kinds.{Set, has}
use Rattle.ct_grammar.specs.Lexemes.{Lexeme, lexemes, Ends, matches}

pub length_lexemes : (text : List ℕ) (tokens : List Token) → length (lexemes text tokens) ≡ length tokens
length_lexemes text [] = refl
length_lexemes text (token ∷ tokens) = ap suc (length_lexemes text tokens)

pub from_boundary : (text : List ℕ) (token : Token) → Fits text token → IsCharBoundary text token.from
from_boundary text token fits = IsCharBoundary-before_ascii text token.from (omega (arith, fits.rises, fits.ends)) fits.first

pub to_boundary : (text : List ℕ) (token : Token) → IsUtf8 text → Fits text token → IsCharBoundary text token.to
to_boundary text token utf8 fits =
    let next : token.to - 1 + 1 ≡ token.to = omega (arith, fits.rises) in
    subst (IsCharBoundary text) next (IsCharBoundary-after_ascii text (token.to - 1) utf8 (omega (arith, fits.rises, fits.ends)) fits.last)

pub second_boundary : (word : List ℕ) → IsUtf8 word → Ends word → IsCharBoundary word 1
second_boundary word utf8 ends = IsCharBoundary-after_ascii word 0 utf8 ends.some ends.first

pub last_boundary : (word : List ℕ) → Ends word → IsCharBoundary word (length word - 1)
last_boundary word ends = IsCharBoundary-before_ascii word (length word - 1) (omega (arith, ends.some)) ends.last

-- there are too few
pub matches_short : (ss : List Set) (xs : List Lexeme) → length xs < length ss → matches ss xs ≡ false
unfolding matches
matches_short [] xs h = absurd (omega arith)
matches_short (s ∷ ss) [] h = refl
matches_short (s ∷ ss) (x ∷ xs) h = rw (matches_short ss xs (omega arith)) (and-false (has s x.kind))
